use Rattle.std.proofs.Common.{◌≡◌, ◌+◌, ◌*◌, ◌^◌, ◌≤◌, length, unsigned_abs}
use Rattle.gl_calculus.specs.Values.Functions as F
use Rattle.gl_funs.specs.Elements.{elements_of, elements_left}
use Rattle.gl_funs.specs.Rules.{total_from}
use Rattle.gl_funs.proofs.numbers.sum.Given as goal

abbrev pub invariant-loop-x : goal.invariant-loop-x
invariant-loop-x l =
    (goal.iterator-loop-x).can_next l.x-iterator
    × (goal.iterator-loop-x).is_finite l.x-iterator
    × (F.total (elements_of l.values) ≡ total_from l.total (elements_left l.x-iterator.items.now l.x-iterator.values.now))
    × (unsigned_abs l.total + 2 ^ 63 * length (elements_left l.x-iterator.items.now l.x-iterator.values.now) ≤ 2 ^ 63 * 160000)
