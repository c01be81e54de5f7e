use Rattle.std.proofs.Common.{◌≡◌, ◌∙◌, ◌∷◌, [], ◌++◌, ◌+◌, ◌<◌, take, length, true, sym, ap, subst, arith}
use Rattle.std.specs.List.{AllZip}
use Rattle.std.proofs.lemmas.List.{take_all, take_more}
use Rattle.std.proofs.lemmas.List.Elements.{AllZip-push}
use Rattle.gl_support.proofs.triple.others.Goals as goal

pub loop-k-preserved : goal.loop-k-preserved
loop-k-preserved g c =
    let inside : c.loop-k.k-index < length c.args.keys.now = omega arith in
    let more : take (c.loop-k.k-index + 1) c.args.keys.now ≡ take c.loop-k.k-index c.args.keys.now ++ c.k-item.result ∷ [] = take_more c.args.keys.now c.loop-k.k-index c.k-item.result inside ∙ ap (λ x. take c.loop-k.k-index c.args.keys.now ++ x ∷ []) (sym c.k-item.is) in
    let added = c.in_ok-push_another.ensures in
    rw (more, added.2) (AllZip-push _ _ _ _ _ c.loop-k.invariant added.1)

pub returns : goal.returns
returns g c = subst (λ ks. AllZip (λ x y. g.K.PartialEq.eq x y ≡ true) ks c.loop-k.all.items) (take_all c.loop-k.k-index c.args.keys.now (omega arith)) c.loop-k.invariant
