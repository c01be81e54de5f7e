use Rattle.std.proofs.Common.{◌≡◌, ◌∙◌, ◌∷◌, [], ◌++◌, ◌+◌, ◌<◌, take, map, length, true, sym, ap, subst, arith}
use Rattle.std.specs.List.{AllZip}
use Rattle.indexmap.specs.IndexSet.{insert_all}
use Rattle.std.proofs.lemmas.List.{take_all, take_more, map-append}
use Rattle.gl_support.proofs.Keys.{insert_all-push}
use Rattle.gl_support.proofs.nodes.nodes_of.Goals as goal

pub loop-t-preserved : goal.loop-t-preserved
loop-t-preserved g c =
    let ts = c.args.triples.now in
    let i = c.loop-t.t-index in
    let inside : i < length ts = omega arith in
    let more : map (λ t. t.by) (take (i + 1) ts) ≡ map (λ t. t.by) (take i ts) ++ c.t-item.result.by ∷ [] = ap (map (λ t. t.by)) (take_more ts i c.t-item.result inside ∙ ap (λ x. take i ts ++ x ∷ []) (sym c.t-item.is)) ∙ map-append (λ t. t.by) (take i ts) (c.t-item.result ∷ []) in
    let added = c.in_ok-add_node.ensures.keys in
    record {
      keys = rw (more, added.2) (insert_all-push g.met.K.Eq.laws (map (λ t. t.by) (take i ts)) c.loop-t.nodes.keys _ added.0 c.loop-t.invariant.keys added.1);
      unique = c.in_ok-add_node.ensures.unique;
    }

pub returns-clause-keys : goal.returns-clause-keys
returns-clause-keys g c =
    let same = g.K.PartialEq.eq in
    let all = take_all c.loop-t.t-index c.args.triples.now (omega arith) in
    subst (λ ts. AllZip (λ x y. same x y ≡ true) (insert_all same [] (map (λ t. t.by) ts)) c.loop-t.nodes.keys) all c.loop-t.invariant.keys
