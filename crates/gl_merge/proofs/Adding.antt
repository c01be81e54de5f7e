-- The registers with an edit of a new address.
use Rattle.std.proofs.Common.{◌≡◌, ◌∙◌, ◌⊎◌, inl, inr, ℕ, ◌+◌, ◌<◌, ◌≤◌, zero, suc, false, List, [], ◌∷◌, ◌++◌, length, take, drop, Some, is_some, IsSome, slice_get, refl, sym, ap, subst, arith, length-append}
use Rattle.std.specs.List.{AllByRecursion, insert}
use Rattle.std.proofs.lemmas.List.Edits.{length-insert}
use Rattle.std.proofs.lemmas.Option.{slice_get_within}
use Rattle.gl_calculus.specs.Computation.Lists.{Member, AreDistinct}
use Rattle.gl_calculus.specs.Grid.Grid.{Addr, AreInOrder}
use Rattle.gl_calculus.specs.Edits.Replicas.{register_at, with_edit}
use Rattle.gl_merge.specs.Edit.{EditValue, edit_tree}
use Rattle.gl_merge.specs.Index.{Index, places, slots, listed, trees, registers, StandsAt, IsIndex}
use Rattle.gl_merge.specs.Spot.{IsGapAt}
use Rattle.gl_merge.proofs.Lists.{all_then, all_push, all_insert, get_push_before, get_push_last, map_insert}
use Rattle.gl_merge.proofs.Listed.{listed_cons, gap_in, gap_register}
use Rattle.gl_merge.proofs.Registers.{with_gap}
use Rattle.gl_merge.proofs.Spots.{tail, gap_tail}

ordered_insert : (ix : Index) (i : ℕ) (p : Addr × ℕ) → AreInOrder (places ix) → IsGapAt (places ix) p.0 i → AreInOrder (places (take i ix ++ p ∷ drop i ix))
ordered_insert [] zero p o g = tt
ordered_insert (q ∷ ix) zero p o g = (g.after 0 (omega arith) (omega arith), o)
ordered_insert [] (suc i) p o g = tt
ordered_insert (q ∷ ix) (suc zero) p o g = (g.before 0 (omega arith), ordered_insert ix zero p (tail q.0 (places ix) o) (gap_tail q.0 (places ix) p.0 zero g))
ordered_insert (q ∷ []) (suc (suc i)) p o g = absurd (let w = g.within in omega arith)
ordered_insert (q ∷ r ∷ ix) (suc (suc i)) p o g = (o.0, ordered_insert (r ∷ ix) (suc i) p o.1 (gap_tail q.0 (places (r ∷ ix)) p.0 (suc i) g))

member_insert : (ix : Index) (i : ℕ) (p : Addr × ℕ) (s : ℕ) → Member s (slots (take i ix ++ p ∷ drop i ix)) → (s ≡ p.1) ⊎ Member s (slots ix)
member_insert ix zero p s m = m
member_insert [] (suc i) p s m = m
member_insert (q ∷ ix) (suc i) p s (inl e) = inr (inl e)
member_insert (q ∷ ix) (suc i) p s (inr m) = elim (member_insert ix i p s m) as (λ _. (s ≡ p.1) ⊎ Member s (slots (q ∷ ix))) [ inl e ↦ inl e | inr e ↦ inr (inr e) ]

apart_insert : (ix : Index) (i : ℕ) (p : Addr × ℕ) → AreDistinct (slots ix) → (Member p.1 (slots ix) → ⊥) → AreDistinct (slots (take i ix ++ p ∷ drop i ix))
apart_insert ix zero p d n = (n, d)
apart_insert [] (suc i) p d n = (n, d)
apart_insert (q ∷ ix) (suc i) p d n =
    (λ m. elim (member_insert ix i p q.1 m) as (λ _. ⊥) [ inl e ↦ n (inl (sym e)) | inr e ↦ d.0 e ], apart_insert ix i p d.1 (λ m. n (inr m)))

-- the slots are those of edits that are there
slot_below : (es : List EditValue) (ix : Index) (s : ℕ) → AllByRecursion (StandsAt es) ix → Member s (slots ix) → s < length es
slot_below es [] s h m = absurd m
slot_below es (p ∷ ix) s h (inl e) = subst (λ (n : ℕ). n < length es) (sym e) (slice_get_within es p.1 h.0.0 h.0.1)
slot_below es (p ∷ ix) s h (inr m) = slot_below es ix s h.1 m

listed_push : (es : List EditValue) (ix : Index) (e : EditValue) → AllByRecursion (StandsAt es) ix → listed (es ++ e ∷ []) ix ≡ listed es ix
listed_push es [] e h = refl
listed_push es (p ∷ ix) e h =
    listed_cons (es ++ e ∷ []) p ix h.0.0 (get_push_before es e h.0.0 p.1 h.0.1)
    ∙ ap (λ (xs : List EditValue). h.0.0 ∷ xs) (listed_push es ix e h.1)
    ∙ sym (listed_cons es p ix h.0.0 h.0.1)

listed_insert : (es : List EditValue) (ix : Index) (i : ℕ) (p : Addr × ℕ) (e : EditValue) → AllByRecursion (StandsAt es) ix → slice_get (es ++ e ∷ []) p.1 ≡ Some e → listed (es ++ e ∷ []) (take i ix ++ p ∷ drop i ix) ≡ take i (listed es ix) ++ e ∷ drop i (listed es ix)
listed_insert es ix zero p e h k = listed_cons (es ++ e ∷ []) p ix e k ∙ ap (λ (xs : List EditValue). e ∷ xs) (listed_push es ix e h)
listed_insert es [] (suc i) p e h k = listed_cons (es ++ e ∷ []) p [] e k
listed_insert es (q ∷ ix) (suc i) p e h k =
    listed_cons (es ++ e ∷ []) q (take i ix ++ p ∷ drop i ix) h.0.0 (get_push_before es e h.0.0 q.1 h.0.1)
    ∙ ap (λ (xs : List EditValue). h.0.0 ∷ xs) (listed_insert es ix i p e h.1 k)
    ∙ sym (ap (λ (xs : List EditValue). take (suc i) xs ++ e ∷ drop (suc i) xs) (listed_cons es q ix h.0.0 h.0.1))

pub record Adds (es : List EditValue) (ix : Index) (e : EditValue) (es' : List EditValue) (ix' : Index) : Type 0 where
  pub index : IsIndex es' ix'
  pub kept : registers es' ix' ≡ with_edit (registers es ix) (edit_tree e)
  pub past : (n : ℕ) → AllByRecursion (λ (d : EditValue). d.stamp.time ≤ n) es → e.stamp.time ≤ n → AllByRecursion (λ (d : EditValue). d.stamp.time ≤ n) es'

module _ (es : List EditValue) (ix : Index) (h : IsIndex es ix) (e : EditValue) (i : ℕ) (g : IsGapAt (places ix) e.place i) (w : i ≤ length ix) where
  p : Addr × ℕ
  p = (e.place, length es)

  pub is_new : is_some (register_at (registers es ix) e.place) ≡ false
  is_new = ap is_some (gap_register es ix h e.place i g)

  pub gap_room : {R : Type 0} → IsSome (register_at (registers es ix) e.place) ⊎ R → R
  gap_room (inl s) = absurd (cc (subst IsSome (gap_register es ix h e.place i g) s))
  gap_room (inr r) = r

  stands_push : (q : Addr × ℕ) → StandsAt es q → StandsAt (es ++ e ∷ []) q
  stands_push q s = (s.0, get_push_before es e s.0 q.1 s.1, s.2)

  pub added : Adds es ix e (es ++ e ∷ []) (insert ix i (e.place, length es))
  added = record {
    index = record {
      ordered = ordered_insert ix i (e.place, length es) h.ordered g;
      apart = apart_insert ix i (e.place, length es) h.apart (λ m. let l = slot_below es ix (length es) h.stands m in omega arith);
      stands = all_insert (StandsAt (es ++ e ∷ [])) ix i (e.place, length es) (all_then (StandsAt es) (StandsAt (es ++ e ∷ [])) ix stands_push h.stands) (e, get_push_last es e, refl);
      count = length-insert ix i (e.place, length es) w ∙ ap (λ (n : ℕ). n + 1) h.count ∙ sym (length-append es (e ∷ []));
    };
    kept =
        ap trees (listed_insert es ix i (e.place, length es) e h.stands (get_push_last es e)) ∙ map_insert edit_tree (listed es ix) i e
        ∙ sym (with_gap (registers es ix) (edit_tree e) i (gap_in es ix h e.place i g));
    past = λ n l m. all_push (λ (d : EditValue). d.stamp.time ≤ n) es e l m;
  }

  pub added_as : (es' : List EditValue) (ix' : Index) (n : ℕ) → es' ≡ es ++ e ∷ [] → ix' ≡ insert ix i (e.place, n) → n ≡ length es → Adds es ix e es' ix'
  added_as es' ix' n a b l =
      subst (λ (zs : List EditValue). Adds es ix e zs ix') (sym a)
      (subst (λ (zs : Index). Adds es ix e (es ++ e ∷ []) zs) (sym (b ∙ ap (λ (m : ℕ). insert ix i (e.place, m)) l)) added)
