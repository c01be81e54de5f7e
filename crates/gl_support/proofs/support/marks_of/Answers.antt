use Rattle.std.proofs.Common.{◌∙◌, ◌&&◌, sym, subst, arith}
use Rattle.gl_support.specs.Affected.{is_touched}
use Rattle.gl_support.specs.Nodes.{stands_at, reads_at}
use Rattle.gl_support.specs.Reach.{IsGraph, IsLeast}
use Rattle.gl_support.proofs.Views.{any_plain}
use Rattle.gl_support.proofs.support.marks_of.Goals as goal

pub returns-clause-least : goal.returns-clause-least
returns-clause-least g c =
    let same = g.K.PartialEq.eq in
    let ks = c.args.nodes.now.keys in
    let ts = c.args.triples.now in
    let edges = c.in_ok-edges.edges.items in
    let marks = c.in_ok-reached.field-0.items in
    record {
      graph = edges;
      seeds = c.in_ok-seeds.seeds.items;
      edges = λ a n. c.in_ok-edges.ensures.edges a n ∙ any_plain (λ t. reads_at same ks t.reads a && stands_at same ks t.by n) ts;
      seeded = λ n. c.in_ok-seeds.ensures.seeds n ∙ any_plain (λ t. is_touched g.A.Site.touches t.looked c.args.changed.now && stands_at same ks t.by n) ts;
      least = subst (λ (e : _). IsLeast e c.in_ok-seeds.seeds.items marks) c.deref.ensures.value c.in_ok-reached.ensures.least;
    }

pub reached-requires-clause-size : goal.reached-requires-clause-size
reached-requires-clause-size g c = omega (arith, c.in_ok-seeds.ensures.size, c.in_ok-edges.ensures.size, c.deref.ensures.len)

pub reached-requires-clause-graph : goal.reached-requires-clause-graph
reached-requires-clause-graph g c = subst (λ (e : _). IsGraph e) (sym c.deref.ensures.value) c.in_ok-edges.ensures.graph

pub returns-clause-size : goal.returns-clause-size
returns-clause-size g c = omega (arith, c.in_ok-reached.ensures.size, c.in_ok-edges.ensures.size, c.deref.ensures.len)
