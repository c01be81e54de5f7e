use Rattle.std.proofs.Common.{◌≡◌}
use Rattle.gl_calculus.specs.Values.Functions as F
use Rattle.gl_funs.specs.Elements.{elements_of, elements_left}
use Rattle.gl_funs.specs.Rules.{joins, rule_of, verdict_from}
use Rattle.gl_funs.proofs.truths.verdict.Given as goal

abbrev pub invariant-loop-x : goal.invariant-loop-x
invariant-loop-x l =
    (goal.iterator-loop-x).can_next l.x-iterator
    × (goal.iterator-loop-x).is_finite l.x-iterator
    × (F.verdict (rule_of l.quantity) (elements_of l.values) ≡ verdict_from (joins l.quantity) (rule_of l.quantity) l.verdict (elements_left l.x-iterator.items.now l.x-iterator.values.now))
