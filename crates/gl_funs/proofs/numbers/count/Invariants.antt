use Rattle.std.proofs.Common.{◌≡◌, ◌+◌, length, filter_map}
use Rattle.gl_calculus.specs.Values.Functions as F
use Rattle.gl_funs.specs.Elements.{elements_of, elements_left}
use Rattle.gl_funs.proofs.numbers.count.Given as goal

abbrev pub invariant-loop-x : goal.invariant-loop-x
invariant-loop-x l =
    (goal.iterator-loop-x).can_next l.x-iterator
    × (goal.iterator-loop-x).is_finite l.x-iterator
    × (l.numbers + length (filter_map F.whole_number (elements_left l.x-iterator.items.now l.x-iterator.values.now)) ≡ length (filter_map F.whole_number (elements_of l.values)))
