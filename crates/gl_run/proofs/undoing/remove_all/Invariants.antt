use Rattle.std.proofs.Common.{drop}
use Rattle.gl_run.proofs.Stepping.{Clearing}
use Rattle.gl_run.proofs.undoing.remove_all.Given as goal

abbrev pub invariant-loop-a : goal.invariant-loop-a
invariant-loop-a l = Clearing l.places (drop l.a-index l.places) l.fn.calc l.calc
