use Rattle.std.proofs.Common.{◌≡◌, length}
use Rattle.gl_core.proofs.carry.clear_lists.Given as goal

abbrev pub invariant-loop-wait : goal.invariant-loop-wait
invariant-loop-wait l = record {
  size : length l.waiting.items ≡ length l.fn.waiting.items;
}
