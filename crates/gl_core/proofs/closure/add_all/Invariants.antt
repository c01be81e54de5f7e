use Rattle.std.proofs.Common.{◌≡◌, take, vec_len}
use Rattle.gl_core.specs.Resuming.{IsQueue, Gets}
use Rattle.gl_core.proofs.closure.add_all.Given as goal

abbrev pub invariant-loop-n : goal.invariant-loop-n
invariant-loop-n l = record {
  queue : IsQueue (vec_len l.fn.marks) l.marks.items l.all.items;
  size : vec_len l.marks ≡ vec_len l.fn.marks;
  gets : Gets (take l.n-index l.numbers) l.fn.all.items l.all.items;
}
