-- What calculations run by.
use Rattle.gl_order.specs.Rule.{rule_of}
use Rattle.gl_calc.specs.declared.engine.Engine.{Engine}

-- the rule by which keys are picked
abbrev pub rule_in : {F : Type 0} → Engine F → F
rule_in e = rule_of e.order.now
