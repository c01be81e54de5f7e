use Rattle.std.proofs.Common.{◌≡◌, true, [], map, length, subst, arith}
use Rattle.std.specs.List.{AllZip}
use Rattle.indexmap.specs.IndexSet.{insert_all}
use Rattle.gl_support.specs.Nodes.{marked_keys}
use Rattle.gl_support.specs.Triples.{plain_triple}
use Rattle.gl_support.proofs.Closure.{are_affected}
use Rattle.gl_support.proofs.Views.{keys_plain, if_ok}
use Rattle.gl_support.proofs.support.affected_by.Goals as goal

pub returns : goal.returns
returns g c =
    let same = g.K.PartialEq.eq in
    let ts = map plain_triple c.args.triples.now in
    let ks = c.in_ok-nodes.nodes.keys in
    let marks = c.in_ok-marks.marks.items in
    let keys = subst (λ xs. AllZip (λ x y. same x y ≡ true) (insert_all same [] xs) ks) (keys_plain c.args.triples.now) c.in_ok-nodes.ensures.keys in
    let size : length marks ≡ length ks = omega (arith, c.in_ok-marks.ensures.size) in
    let set = c.in_ok-marks.ensures.least in
    if_ok c.picked.result (λ v is. are_affected g.met.K.Eq.laws g.A.Site.touches ts c.args.changed.now ks keys c.in_ok-nodes.ensures.unique
    set.graph set.edges set.seeds set.seeded
    marks set.least size v.items (subst (λ us. AllZip (λ x y. same x y ≡ true) (marked_keys marks us) v.items) c.as_slice.ensures.keys (subst (λ ms. AllZip (λ x y. same x y ≡ true) (marked_keys ms c.as_slice.result.now) v.items) c.deref.ensures.value is))) c.picked.ensures
