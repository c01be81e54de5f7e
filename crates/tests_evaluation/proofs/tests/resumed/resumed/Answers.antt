use Rattle.std.proofs.Common.{map, refl, sym, ap, subst, ◌∙◌}
use Rattle.gl_calculus.specs.Computation.Lists.{Member}
use Rattle.gl_demand.specs.View.{key_tree}
use Rattle.tests_evaluation.proofs.tests.resumed.resumed.Goals as goal

pub resume-requires-clause-proper : goal.resume-requires-clause-proper
resume-requires-clause-proper c k m = c.if-not-are_seeds.ensures.proper refl k (subst (Member k) (sym c.in_ok-keys.ensures ∙ ap (map key_tree) (sym c.deref.ensures.value)) m)
