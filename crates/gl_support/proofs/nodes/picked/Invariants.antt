use Rattle.std.proofs.Common.{◌≡◌, true, take}
use Rattle.std.specs.List.{AllZip}
use Rattle.gl_support.specs.Nodes.{marked_keys}
use Rattle.gl_support.proofs.nodes.picked.Given as goal

abbrev pub invariant-loop-i : goal.invariant-loop-i
invariant-loop-i g l = AllZip (λ x y. g.K.PartialEq.eq x y ≡ true) (marked_keys (take l.i l.marks) (take l.i l.keys)) l.found.items
