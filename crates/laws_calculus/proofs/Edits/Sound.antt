-- Sound edits have a join.
use Rattle.std.proofs.Common.{◌≡◌, ◌∙◌, inl, inr, Bool, true, false, cond, List, [], ◌∷◌, ◌++◌, Option, Some, None, refl, sym, ap, subst, arith, append-nil, append_assoc}
use Rattle.std.proofs.lemmas.Grind.{common_steps}
use Rattle.gl_calculus.specs.Computation.Lists.{Member}
use Rattle.gl_calculus.specs.Grid.Grid.{Addr, same_addr}
use Rattle.gl_calculus.proofs.Tests.{addr_exact}
use Rattle.gl_calculus.specs.Edits.Replicas.{Stamp, Edit, Replica, new_replica, Wins, Loses, Same, IsTakeable, is_earlier, register_at, taking}
use Rattle.gl_calculus.specs.Edits.Joins.{IsJoin, IsSound, HasTaken}
use Rattle.laws_calculus.specs.Edits.{SoundJoin}
use Rattle.laws_calculus.proofs.Edits.Joins.{none_taken}
use Rattle.laws_calculus.proofs.Edits.Taking.{one_more_taken, member_last}

record Found (rs : List Edit) (a : Addr) (q : Edit) : Type 0 where
  pub member : Member q rs
  pub place : q.place ≡ a

some_same : (p q : Edit) → Some p ≡ Some q → p ≡ q
some_same p q h = cc h

found : (rs : List Edit) (a : Addr) (q : Edit) → register_at rs a ≡ Some q → Found rs a q
found [] a q h = cc h
found (r ∷ rs) a q h = by (same_addr a r.place) refl h (found rs a q)
  where
    by : (t : Bool) → same_addr a r.place ≡ t → cond t (Some r) (register_at rs a) ≡ Some q → (register_at rs a ≡ Some q → Found rs a q) → Found (r ∷ rs) a q
    by true e k ih = let s : r ≡ q = some_same r q k in record { member = inl (sym s); place = ap (λ (z : Edit). z.place) (sym s) ∙ sym (addr_exact a r.place e) }
    by false e k ih = let f = ih k in record { member = inr f.member; place = f.place }

stamp_same : (s t : Stamp) → is_earlier s t ≡ false → is_earlier t s ≡ false → s ≡ t
stamp_same s t h k =
    let a : s.time ≡ t.time = grind (arith, common_steps) in
    let b : s.site ≡ t.site = grind (arith, common_steps) in
    λ i. record { time = a i; site = b i }

takeable : (o : Option Edit) (e : Edit) → ((q : Edit) → o ≡ Some q → q.stamp ≡ e.stamp → q ≡ e) → IsTakeable o e
takeable None e h = (Wins, tt, λ k. cc k)
takeable (Some q) e h = by (is_earlier q.stamp e.stamp) (is_earlier e.stamp q.stamp) refl refl
  where
    by : (b c : Bool) → is_earlier q.stamp e.stamp ≡ b → is_earlier e.stamp q.stamp ≡ c → IsTakeable (Some q) e
    by true c f g = (Wins, f, λ k. cc k)
    by false true f g = (Loses, g, λ k. cc k)
    by false false f g =
        let s : q.stamp ≡ e.stamp = stamp_same q.stamp e.stamp f g in
        (Same, (s, ap (λ (z : Edit). z.content) (h q refl s)), λ k. cc k)

in_all : (ds es : List Edit) (d : Edit) → Member d ds → Member d (ds ++ es)
in_all [] es d m = absurd m
in_all (x ∷ ds) es d (inl h) = inl h
in_all (x ∷ ds) es d (inr h) = inr (in_all ds es d h)

from_here : (ds es : List Edit) (r : Replica) → HasTaken ds r → IsSound (ds ++ es) → (rs : List Edit) × IsJoin (ds ++ es) rs
from_here ds [] r h s = (r.registers, subst (λ (zs : List Edit). IsJoin zs r.registers) (sym (append-nil ds)) h.join)
from_here ds (e ∷ es) r h s =
    let same : ds ++ e ∷ es ≡ (ds ++ e ∷ []) ++ es = sym (append_assoc ds (e ∷ []) es) in
    let t : IsTakeable (register_at r.registers e.place) e = takeable (register_at r.registers e.place) e (λ q k l.
    let f = found r.registers e.place q k in
    s q e (in_all ds (e ∷ es) q (h.join.among q f.member)) (subst (λ (zs : List Edit). Member e zs) (sym same) (in_all (ds ++ e ∷ []) es e (member_last ds e))) f.place l) in
    subst (λ (zs : List Edit). (rs : List Edit) × IsJoin zs rs) (sym same) (from_here (ds ++ e ∷ []) es (taking r e) (one_more_taken ds r e h t) (subst IsSound same s))

pub sound_join : SoundJoin
sound_join es s = from_here [] es (new_replica 0) (none_taken 0) s
