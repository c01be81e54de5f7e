use Rattle.std.proofs.Common.{Option, IfSome, sym, subst, ◌∙◌}
use Rattle.gl_core.specs.Graph.{IsGraphOf}
use Rattle.gl_core.specs.declared.graph.Graph.{Graph}
use Rattle.gl_core.proofs.Places.{if_ok}
use Rattle.gl_core.proofs.Graphed.{graph_of_none}
use Rattle.gl_core.proofs.graph.taken.Goals as goal

pub returns-in-Some-clause-first : goal.returns-in-Some-clause-first
returns-in-Some-clause-first c = λ rows h. subst (λ (g : Option Graph). IfSome g (IsGraphOf rows)) (sym c.take.ensures.value ∙ c.in-Some.is) h

pub returns-in-None-clause-first : goal.returns-in-None-clause-first
returns-in-None-clause-first c = if_ok c.new.result c.new.ensures (λ g h rows o. graph_of_none rows g h.0 h.1)
