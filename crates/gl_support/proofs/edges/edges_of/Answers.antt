use Rattle.std.proofs.Common.{◌≡◌, ◌∙◌, ◌<◌, ◌&&◌, length, sym, ap, subst, arith}
use Rattle.std.specs.List.{list_any}
use Rattle.std.proofs.lemmas.List.{take_all}
use Rattle.gl_support.specs.Nodes.{stands_at, reads_at}
use Rattle.gl_support.specs.Reach.{has, row_of}
use Rattle.gl_support.proofs.Graph.{any_step, no_graph}
use Rattle.gl_support.proofs.edges.edges_of.Goals as goal

pub loop-t-init : goal.loop-t-init
loop-t-init g c = record {
  edges = λ i n. ap (λ r. has r n) (c.in_ok-edges.ensures.none i);
  graph = no_graph c.in_ok-edges.edges.items c.in_ok-edges.ensures.none;
  size = omega (arith, c.in_ok-edges.ensures.size, c.len.ensures);
}

pub loop-t-preserved : goal.loop-t-preserved
loop-t-preserved g c =
    let same = g.K.PartialEq.eq in
    let ks = c.args.nodes.now.keys in
    let ts = c.args.triples.now in
    let inside : c.loop-t.t-index < length ts = omega arith in
    record {
      edges = λ i n. any_step (λ t. reads_at same ks t.reads.items i && stands_at same ks t.by n) ts c.loop-t.t-index c.t-item.result _ _ inside c.t-item.is (c.loop-t.invariant.edges i n) (c.in_ok-add_triple.ensures.edges i n);
      graph = c.add_triple.ensures.graph;
      size = c.add_triple.ensures.size ∙ c.loop-t.invariant.size;
    }

pub returns-clause-edges : goal.returns-clause-edges
returns-clause-edges g c =
    let same = g.K.PartialEq.eq in
    let ks = c.args.nodes.now.keys in
    let all = take_all c.loop-t.t-index c.args.triples.now (omega arith) in
    λ i n. subst (λ ts. has (row_of c.loop-t.edges.items i) n ≡ list_any (λ t. reads_at same ks t.reads.items i && stands_at same ks t.by n) ts) all (c.loop-t.invariant.edges i n)

pub add_triple-requires-clause-nodes : goal.add_triple-requires-clause-nodes
add_triple-requires-clause-nodes g c = sym c.loop-t.invariant.size

pub add_triple-requires-clause-graph : goal.add_triple-requires-clause-graph
add_triple-requires-clause-graph g c = c.loop-t.invariant.graph

pub returns-clause-graph : goal.returns-clause-graph
returns-clause-graph g c = c.loop-t.invariant.graph

pub returns-clause-size : goal.returns-clause-size
returns-clause-size g c = c.loop-t.invariant.size
