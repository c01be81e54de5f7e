use Rattle.std.proofs.Common.{◌≡◌, ℕ, ◌||◌, ◌&&◌, nat_eq, take, vec_len}
use Rattle.gl_support.specs.Nodes.{reads_at}
use Rattle.gl_support.specs.Reach.{has, row_of, IsGraph}
use Rattle.gl_support.proofs.edges.add_reads.Given as goal

abbrev pub invariant-loop-k : goal.invariant-loop-k
invariant-loop-k g l = record {
  edges : (i c : ℕ) → has (row_of l.edges.items i) c ≡ (has (row_of l.fn.edges.items i) c || (reads_at g.K.PartialEq.eq l.nodes.keys (take l.k-index l.reads) i && nat_eq c l.b));
  graph : IsGraph l.edges.items;
  size : vec_len l.edges ≡ vec_len l.fn.edges;
}
