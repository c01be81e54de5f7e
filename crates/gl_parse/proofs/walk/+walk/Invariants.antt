use Rattle.std.proofs.Common.{◌≡◌, drop}
use Rattle.gl_language.specs.Reading.Grammar.{some_operand, some_argument}
use Rattle.gl_parse.specs.Raws.{links, raws_of, pairs, plains}
use Rattle.gl_parse.specs.Faults.{shows}
use Rattle.gl_parse.proofs.walk.+walk.Given as goal

abbrev pub invariant-some_operand-loop-operand : goal.invariant-some_operand-loop-operand
invariant-some_operand-loop-operand l = some_operand (shows l.fault) (links (pairs l.text (drop l.operand-index l.rest))) ≡ some_operand (shows l.fault) (links (pairs l.text l.rest))

abbrev pub invariant-some_argument-loop-raw : goal.invariant-some_argument-loop-raw
invariant-some_argument-loop-raw l = some_argument (shows l.fault) (raws_of (plains l.text (drop l.raw-index l.xs))) ≡ some_argument (shows l.fault) (raws_of (plains l.text l.xs))
