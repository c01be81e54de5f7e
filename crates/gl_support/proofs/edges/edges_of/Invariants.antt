use Rattle.std.proofs.Common.{◌≡◌, ℕ, ◌&&◌, take, vec_len}
use Rattle.std.specs.List.{list_any}
use Rattle.indexmap.specs.IndexSet.{index_set_len}
use Rattle.gl_support.specs.Nodes.{reads_at, stands_at}
use Rattle.gl_support.specs.Reach.{has, row_of, IsGraph}
use Rattle.gl_support.proofs.edges.edges_of.Given as goal

abbrev pub invariant-loop-t : goal.invariant-loop-t
invariant-loop-t g l = record {
  edges : (i c : ℕ) → has (row_of l.edges.items i) c ≡ list_any (λ t. reads_at g.K.PartialEq.eq l.nodes.keys t.reads.items i && stands_at g.K.PartialEq.eq l.nodes.keys t.by c) (take l.t-index l.triples);
  graph : IsGraph l.edges.items;
  size : vec_len l.edges ≡ index_set_len l.nodes;
}
