use Rattle.std.proofs.Common.{◌≡◌, ℕ, ◌&&◌, take, vec_len}
use Rattle.std.specs.List.{list_any}
use Rattle.indexmap.specs.IndexSet.{index_set_len}
use Rattle.gl_support.specs.Affected.{is_touched}
use Rattle.gl_support.specs.Nodes.{stands_at}
use Rattle.gl_support.specs.Reach.{is_marked}
use Rattle.gl_support.proofs.seeds.seeds_of.Given as goal

abbrev pub invariant-loop-t : goal.invariant-loop-t
invariant-loop-t g l = record {
  seeds : (c : ℕ) → is_marked l.seeds.items c ≡ list_any (λ t. is_touched g.A.Site.touches t.looked.items l.changed && stands_at g.K.PartialEq.eq l.nodes.keys t.by c) (take l.t-index l.triples);
  size : vec_len l.seeds ≡ index_set_len l.nodes;
}
