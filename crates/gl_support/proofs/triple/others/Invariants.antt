use Rattle.std.proofs.Common.{◌≡◌, true, take}
use Rattle.std.specs.List.{AllZip}
use Rattle.gl_support.proofs.triple.others.Given as goal

abbrev pub invariant-loop-k : goal.invariant-loop-k
invariant-loop-k g l = AllZip (λ x y. g.K.PartialEq.eq x y ≡ true) (take l.k-index l.keys) l.all.items
