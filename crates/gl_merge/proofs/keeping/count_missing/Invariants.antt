use Rattle.std.proofs.Common.{◌≡◌, take}
use Rattle.gl_calculus.specs.Edits.Replicas.{missing}
use Rattle.gl_merge.specs.Index.{registers}
use Rattle.gl_merge.proofs.keeping.count_missing.Given as goal

abbrev pub invariant-loop-a : goal.invariant-loop-a
invariant-loop-a l = l.count ≡ missing (registers l.edits l.index) (take l.a-index l.places)
