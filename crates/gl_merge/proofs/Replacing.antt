-- The registers where the edit of a slot is replaced by a later one.
use Rattle.std.proofs.Common.{◌≡◌, ◌∙◌, ◌⊎◌, inl, inr, ℕ, ◌≤◌, zero, suc, Bool, true, false, cond, List, [], ◌∷◌, set, Option, Some, option_map, is_some, slice_get, refl, sym, ap, subst}
use Rattle.std.specs.List.{AllByRecursion}
use Rattle.std.proofs.lemmas.Bool.{cases_eq}
use Rattle.std.proofs.lemmas.List.{length-set, map-set}
use Rattle.std.proofs.lemmas.Option.{slice_get-map}
use Rattle.gl_calculus.specs.Computation.Lists.{Member, AreDistinct}
use Rattle.gl_calculus.specs.Grid.Grid.{Addr}
use Rattle.gl_calculus.specs.Edits.Replicas.{is_earlier, register_at, with_edit}
use Rattle.gl_merge.specs.Edit.{EditValue, edit_tree}
use Rattle.gl_merge.specs.Index.{Index, places, slots, and_edit, listed, trees, registers, StandsAt, IsIndex}
use Rattle.gl_merge.specs.Spot.{IsFoundAt}
use Rattle.gl_merge.proofs.Lists.{all_at, all_then, all_set, get_set_same, get_set_other}
use Rattle.gl_merge.proofs.Listed.{listed_cons, listed_get, found_in, found_register}
use Rattle.gl_merge.proofs.Registers.{with_found}

member_slot : (ix : Index) (i : ℕ) (x : Addr × ℕ) → slice_get ix i ≡ Some x → Member x.1 (slots ix)
member_slot [] i x e = cc e
member_slot (p ∷ ix) zero x e = let s : p ≡ x = cc e in inl (ap (λ (z : Addr × ℕ). z.1) (sym s))
member_slot (p ∷ ix) (suc i) x e = inr (member_slot ix i x e)

-- a slot that the index doesn't name
listed_other : (es : List EditValue) (ix : Index) (s : ℕ) (e : EditValue) → (Member s (slots ix) → ⊥) → listed (set es s e) ix ≡ listed es ix
listed_other es [] s e n = refl
listed_other es (p ∷ ix) s e n =
    ap (λ (o : Option EditValue). and_edit o (listed (set es s e) ix)) (get_set_other es s p.1 e (λ h. n (inl (sym h))))
    ∙ ap (λ (xs : List EditValue). and_edit (slice_get es p.1) xs) (listed_other es ix s e (λ m. n (inr m)))

listed_set : (es : List EditValue) (ix : Index) (i : ℕ) (x : Addr × ℕ) (e : EditValue) → AllByRecursion (StandsAt es) ix → AreDistinct (slots ix) → slice_get ix i ≡ Some x → listed (set es x.1 e) ix ≡ set (listed es ix) i e
listed_set es [] i x e h d k = cc k
listed_set es (p ∷ ix) zero x e h d k =
    let s : p ≡ x = cc k in
    let at_slot : slice_get (set es x.1 e) p.1 ≡ Some e = subst (λ (z : Addr × ℕ). slice_get (set es z.1 e) p.1 ≡ Some e) s (get_set_same es p.1 h.0.0 e h.0.1) in
    let others : listed (set es x.1 e) ix ≡ listed es ix = listed_other es ix x.1 e (subst (λ (z : Addr × ℕ). Member z.1 (slots ix) → ⊥) s d.0) in
    listed_cons (set es x.1 e) p ix e at_slot ∙ ap (λ (xs : List EditValue). e ∷ xs) others ∙ sym (ap (λ (xs : List EditValue). set xs 0 e) (listed_cons es p ix h.0.0 h.0.1))
listed_set es (p ∷ ix) (suc i) x e h d k =
    let apart : p.1 ≡ x.1 → ⊥ = λ s. d.0 (subst (λ (n : ℕ). Member n (slots ix)) (sym s) (member_slot ix i x k)) in
    listed_cons (set es x.1 e) p ix h.0.0 (get_set_other es x.1 p.1 e apart ∙ h.0.1)
    ∙ ap (λ (xs : List EditValue). h.0.0 ∷ xs) (listed_set es ix i x e h.1 d.1 k)
    ∙ sym (ap (λ (xs : List EditValue). set xs (suc i) e) (listed_cons es p ix h.0.0 h.0.1))

stands_set : (es : List EditValue) (x : Addr × ℕ) (e : EditValue) → StandsAt es x → e.place ≡ x.0 → (q : Addr × ℕ) → StandsAt es q → StandsAt (set es x.1 e) q
stands_set es x e s p q t = by (cases_eq q.1 x.1)
  where
    by : (q.1 ≡ x.1) ⊎ (q.1 ≡ x.1 → ⊥) → StandsAt (set es x.1 e) q
    by (inl h) =
        let one : s.0 ≡ t.0 = cc (sym s.1 ∙ ap (slice_get es) (sym h) ∙ t.1) in
        (e, ap (slice_get (set es x.1 e)) h ∙ get_set_same es x.1 s.0 e s.1, p ∙ sym s.2 ∙ ap (λ (d : EditValue). d.place) one ∙ t.2)
    by (inr n) = (t.0, get_set_other es x.1 q.1 e n ∙ t.1, t.2)

-- what the later of two at one address leaves
pub record Replaces (es : List EditValue) (ix : Index) (e : EditValue) (es' : List EditValue) : Type 0 where
  pub index : IsIndex es' ix
  pub kept : registers es' ix ≡ with_edit (registers es ix) (edit_tree e)
  pub past : (n : ℕ) → AllByRecursion (λ (d : EditValue). d.stamp.time ≤ n) es → e.stamp.time ≤ n → AllByRecursion (λ (d : EditValue). d.stamp.time ≤ n) es'

module _ (es : List EditValue) (ix : Index) (h : IsIndex es ix) (e : EditValue) (i : ℕ) (x : Addr × ℕ) (f : IsFoundAt (places ix) e.place i) (k : slice_get ix i ≡ Some x) (p : e.place ≡ x.0) where
  stands : StandsAt es x
  stands = all_at (StandsAt es) ix i x h.stands k

  pub is_there : is_some (register_at (registers es ix) e.place) ≡ true
  is_there = ap is_some (found_register es ix h e.place i f ∙ ap (option_map edit_tree) (listed_get es ix i x h.stands k ∙ stands.1))

  goal_is : with_edit (registers es ix) (edit_tree e) ≡ cond (is_earlier stands.0.stamp e.stamp) (set (registers es ix) i (edit_tree e)) (registers es ix)
  goal_is = with_found (registers es ix) (edit_tree e) (edit_tree stands.0) i (found_in es ix h e.place i f) (slice_get-map edit_tree (listed es ix) i ∙ ap (option_map edit_tree) (listed_get es ix i x h.stands k ∙ stands.1))

  pub replaced : (es' : List EditValue) → ((d : EditValue) → slice_get es x.1 ≡ Some d → es' ≡ cond (is_earlier d.stamp e.stamp) (set es x.1 e) es) → Replaces es ix e es'
  replaced es' r = subst (Replaces es ix e) (sym (r stands.0 stands.1)) (by (is_earlier stands.0.stamp e.stamp) goal_is)
    where
      by : (b : Bool) → with_edit (registers es ix) (edit_tree e) ≡ cond b (set (registers es ix) i (edit_tree e)) (registers es ix) → Replaces es ix e (cond b (set es x.1 e) es)
      by true g = record {
        index = record { ordered = h.ordered; apart = h.apart; stands = all_then (StandsAt es) (StandsAt (set es x.1 e)) ix (stands_set es x e stands p) h.stands; count = h.count ∙ sym (length-set es x.1 e) };
        kept = ap trees (listed_set es ix i x e h.stands h.apart k) ∙ map-set edit_tree (listed es ix) i e ∙ sym g;
        past = λ n l m. all_set (λ (d : EditValue). d.stamp.time ≤ n) es x.1 e l m;
      }
      by false g = record { index = h; kept = sym g; past = λ n l m. l }
