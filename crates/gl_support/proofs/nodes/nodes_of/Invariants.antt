use Rattle.std.proofs.Common.{◌≡◌, true, [], map, take}
use Rattle.std.specs.List.{AllZip}
use Rattle.indexmap.specs.IndexSet.{insert_all, IsUnique}
use Rattle.gl_support.proofs.nodes.nodes_of.Given as goal

abbrev pub invariant-loop-t : goal.invariant-loop-t
invariant-loop-t g l = record {
  keys : AllZip (λ x y. g.K.PartialEq.eq x y ≡ true) (insert_all g.K.PartialEq.eq [] (map (λ t. t.by) (take l.t-index l.triples))) l.nodes.keys;
  unique : IsUnique g.K.PartialEq.eq l.nodes;
}
