use Rattle.std.proofs.Common.{◌≡◌, ◌++◌, drop}
use Rattle.gl_flow.specs.Shapes.{bindings_of}
use Rattle.gl_flow.proofs.bindings.share_onto.Given as goal

abbrev pub invariant-loop-x : goal.invariant-loop-x
invariant-loop-x l = bindings_of l.list.items ++ bindings_of (drop l.x-index l.more) ≡ bindings_of l.initial.list.items ++ bindings_of l.more
