-- Registers with one edit more, by the place of its address.
use Rattle.std.proofs.Common.{◌≡◌, ◌∙◌, ℕ, zero, suc, Bool, true, false, cond, List, [], ◌∷◌, ◌++◌, map, set, take, drop, Some, None, slice_get, refl, sym, ap, subst, arith}
use Rattle.gl_calculus.specs.Grid.Grid.{Addr, same_addr}
use Rattle.gl_calculus.proofs.Tests.{addr_same}
use Rattle.gl_calculus.specs.Edits.Replicas.{Edit, is_earlier, register_at, with_edit}
use Rattle.gl_merge.specs.Spot.{IsFoundAt, IsGapAt}
use Rattle.gl_merge.proofs.Spots.{behind_apart, behind_not, ahead_apart, found_tail, gap_tail}

abbrev pub places_of : List Edit → List Addr
places_of rs = map (λ (r : Edit). r.place) rs

same : (a b : Addr) → b ≡ a → same_addr a b ≡ true
same a b e = subst (λ (z : Addr). same_addr a z ≡ true) (sym e) (addr_same a)

pub register_found : (rs : List Edit) (a : Addr) (i : ℕ) → IsFoundAt (places_of rs) a i → register_at rs a ≡ slice_get rs i
register_found [] a i f = absurd (let w = f.within in omega arith)
register_found (r ∷ rs) a zero f = rw (same a r.place f.here) refl
register_found (r ∷ rs) a (suc i) f = rw (behind_apart a r.place (f.before 0 (omega arith))) (register_found rs a i (found_tail r.place (places_of rs) a i f))

pub register_gap : (rs : List Edit) (a : Addr) (i : ℕ) → IsGapAt (places_of rs) a i → register_at rs a ≡ None
register_gap [] a i g = refl
register_gap (r ∷ rs) a zero g = rw (ahead_apart a r.place (g.after 0 (omega arith) (omega arith))) (register_gap rs a zero (record { within = omega arith; before = λ k h. absurd (omega arith); after = λ k h l. g.after (suc k) (omega arith) (omega arith) }))
register_gap (r ∷ rs) a (suc i) g = rw (behind_apart a r.place (g.before 0 (omega arith))) (register_gap rs a i (gap_tail r.place (places_of rs) a i g))

-- the first of a list by a test
first_by : (b : Bool) (x y : Edit) (zs : List Edit) → (cond b x y) ∷ zs ≡ cond b (x ∷ zs) (y ∷ zs)
first_by true x y zs = refl
first_by false x y zs = refl

rest_by : (b : Bool) (x : Edit) (ys zs : List Edit) → x ∷ cond b ys zs ≡ cond b (x ∷ ys) (x ∷ zs)
rest_by true x ys zs = refl
rest_by false x ys zs = refl

pub with_found : (rs : List Edit) (e r : Edit) (i : ℕ) → IsFoundAt (places_of rs) e.place i → slice_get rs i ≡ Some r → with_edit rs e ≡ cond (is_earlier r.stamp e.stamp) (set rs i e) rs
with_found [] e r i f g = cc g
with_found (x ∷ rs) e r zero f g =
    let s : x ≡ r = cc g in
    subst (λ (z : Edit). with_edit (x ∷ rs) e ≡ cond (is_earlier z.stamp e.stamp) (e ∷ rs) (x ∷ rs)) s (rw (same e.place x.place f.here) (first_by (is_earlier x.stamp e.stamp) e x rs))
with_found (x ∷ rs) e r (suc i) f g =
    let b = f.before 0 (omega arith) in
    rw (behind_apart e.place x.place b, behind_not e.place x.place b)
    (ap (λ (ys : List Edit). x ∷ ys) (with_found rs e r i (found_tail x.place (places_of rs) e.place i f) g) ∙ rest_by (is_earlier r.stamp e.stamp) x (set rs i e) rs)

pub with_gap : (rs : List Edit) (e : Edit) (i : ℕ) → IsGapAt (places_of rs) e.place i → with_edit rs e ≡ take i rs ++ e ∷ drop i rs
with_gap [] e zero g = refl
with_gap [] e (suc i) g = refl
with_gap (x ∷ rs) e zero g =
    let b = g.after 0 (omega arith) (omega arith) in
    rw (ahead_apart e.place x.place b, b) refl
with_gap (x ∷ rs) e (suc i) g =
    let b = g.before 0 (omega arith) in
    rw (behind_apart e.place x.place b, behind_not e.place x.place b) (ap (λ (ys : List Edit). x ∷ ys) (with_gap rs e i (gap_tail x.place (places_of rs) e.place i g)))
