use Rattle.std.proofs.Common.{◌≡◌, ℕ, ◌-◌, ◌≤◌, length}
use Rattle.gl_support.specs.Rests.{rest_of, IsSound}
use Rattle.gl_core.proofs.graph.lengthen.Given as goal

abbrev pub invariant-loop-alloc : goal.invariant-loop-alloc
invariant-loop-alloc l = record {
  sound : IsSound l.rests;
  longer : length l.fn.rests.reads.items ≤ length l.rests.reads.items;
  same : (n : ℕ) → rest_of l.rests n ≡ rest_of l.fn.rests n;
}

abbrev pub decreases-loop-alloc : goal.decreases-loop-alloc
decreases-loop-alloc l = l.numbers - length l.rests.reads.items
