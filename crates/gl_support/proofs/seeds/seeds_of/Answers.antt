use Rattle.std.proofs.Common.{◌≡◌, ◌∙◌, ◌<◌, ◌&&◌, length, subst, arith}
use Rattle.std.specs.List.{list_any}
use Rattle.std.proofs.lemmas.List.{take_all}
use Rattle.gl_support.specs.Affected.{is_touched}
use Rattle.gl_support.specs.Nodes.{stands_at}
use Rattle.gl_support.specs.Reach.{is_marked}
use Rattle.gl_support.proofs.Graph.{any_step}
use Rattle.gl_support.proofs.Places.{none_marked}
use Rattle.gl_support.proofs.seeds.seeds_of.Goals as goal

pub loop-t-init : goal.loop-t-init
loop-t-init g c = record {
  seeds = none_marked c.in_ok-seeds.seeds.items _ (c.in_ok-seeds.ensures.items_if_clones_equal (λ b e. e));
  size = omega (arith, c.in_ok-seeds.ensures.len, c.len.ensures);
}

pub loop-t-preserved : goal.loop-t-preserved
loop-t-preserved g c =
    let same = g.K.PartialEq.eq in
    let touches = g.A.Site.touches in
    let ks = c.args.nodes.now.keys in
    let ts = c.args.triples.now in
    let inside : c.loop-t.t-index < length ts = omega arith in
    record {
      seeds = λ n. any_step (λ t. is_touched touches t.looked.items c.args.changed.now && stands_at same ks t.by n) ts c.loop-t.t-index c.t-item.result _ _ inside c.t-item.is (c.loop-t.invariant.seeds n) (c.add_seed.ensures.seeds n);
      size = c.add_seed.ensures.size ∙ c.loop-t.invariant.size;
    }

pub returns-clause-seeds : goal.returns-clause-seeds
returns-clause-seeds g c =
    let same = g.K.PartialEq.eq in
    let touches = g.A.Site.touches in
    let ks = c.args.nodes.now.keys in
    let all = take_all c.loop-t.t-index c.args.triples.now (omega arith) in
    λ n. subst (λ ts. is_marked c.loop-t.seeds.items n ≡ list_any (λ t. is_touched touches t.looked.items c.args.changed.now && stands_at same ks t.by n) ts) all (c.loop-t.invariant.seeds n)
