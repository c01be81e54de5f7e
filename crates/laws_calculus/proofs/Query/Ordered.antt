-- One pass over notes in order.
use Rattle.std.proofs.Common.{◌≡◌, ◌⊎◌, inl, inr, List, [], ◌∷◌, Bool, true, false, cond, refl, sym, ap, ◌∙◌, subst}
use Rattle.std.specs.List.{list_any}
use Rattle.gl_calculus.specs.Computation.Lists.{Member, AreDistinct, IsEquality, has_member}
use Rattle.gl_calculus.specs.Computation.Notes.{Note}
use Rattle.gl_machine.specs.Remembered.{IsDropped, Touched, Reads}
use Rattle.laws_calculus.proofs.Query.Quiet.{seen_member}
use Rattle.gl_machine.specs.InOrder.{AreOrdered, must_go, kept_after}
use Rattle.gl_calculus.specs.Computation.Notes.{note_keys}
use Rattle.laws_calculus.specs.Query.{DropsInOrder}
use Rattle.gl_calculus.proofs.Members.{any_member, member_any, member_has, either, left, right}

pub key_of : {K O A : Type 0} (notes : List (Note K O A)) (n : Note K O A) → Member n notes → Member n.key (note_keys notes)
key_of [] n m = absurd m
key_of (x ∷ notes) n (inl e) = inl (ap (λ u. u.key) e)
key_of (x ∷ notes) n (inr m) = inr (key_of notes n m)

-- a key has one note
pub single : {K O A : Type 0} (notes : List (Note K O A)) → AreDistinct (note_keys notes) → (n m : Note K O A) → Member n notes → Member m notes → n.key ≡ m.key → n ≡ m
single [] d n m a b e = absurd a
single (x ∷ notes) d n m (inl a) (inl b) e = a ∙ sym b
single (x ∷ notes) d n m (inl a) (inr b) e = absurd (d.0 (subst (λ k. Member k (note_keys notes)) (sym e ∙ ap (λ u. u.key) a) (key_of notes m b)))
single (x ∷ notes) d n m (inr a) (inl b) e = absurd (d.0 (subst (λ k. Member k (note_keys notes)) (e ∙ ap (λ u. u.key) b) (key_of notes n a)))
single (x ∷ notes) d n m (inr a) (inr b) e = single notes d.1 n m a b e

module _ {K O A : Type 0} (same : K → K → Bool) (eq : IsEquality same) (touched : A → Bool) (all : List (Note K O A)) (apart : AreDistinct (note_keys all)) where
  -- of the keys before, exactly those are gone that are dropped
  abbrev Right : List K → List K → Type 0
  Right before gone = (k : K) → Member k before → (Member k gone → IsDropped touched all k) × (IsDropped touched all k → Member k gone)

  goes : (before gone : List K) (n : Note K O A) → Member n all → ((j : K) → Member j n.reads → Member j before) → Right before gone → must_go same touched gone n ≡ true → IsDropped touched all n.key
  goes before gone n m r h e = by (either (list_any touched n.looked) (list_any (λ j. has_member same j gone) n.reads) e)
    where
      by : (list_any touched n.looked ≡ true) ⊎ (list_any (λ j. has_member same j gone) n.reads ≡ true) → IsDropped touched all n.key
      by (inl t) = let (a, i, u) = any_member touched n.looked t in Touched n a m refl i u
      by (inr t) = let (j, i, u) = any_member (λ j. has_member same j gone) n.reads t in Reads n j m refl i ((h j (r j i)).0 (seen_member same eq gone j u))

  dropped_goes : (before gone : List K) (n : Note K O A) → Member n all → ((j : K) → Member j n.reads → Member j before) → Right before gone → IsDropped touched all n.key → must_go same touched gone n ≡ true
  dropped_goes before gone n m r h (Touched l a i e p t) =
      let s : n ≡ l = single all apart n l m i e in
      left (list_any touched n.looked) (list_any (λ j. has_member same j gone) n.reads) (member_any touched n.looked a (subst (λ u. Member a u.looked) (sym s) p) t)
  dropped_goes before gone n m r h (Reads l j i e p d) =
      let s : n ≡ l = single all apart n l m i e in
      let q = subst (λ u. Member j u.reads) (sym s) p in
      right (list_any touched n.looked) (list_any (λ j. has_member same j gone) n.reads) (member_any (λ j. has_member same j gone) n.reads j q (member_has same eq gone j ((h j (r j q)).1 d)))

  abbrev Kept : Note K O A → List (Note K O A) → Type 0
  Kept n notes = Member n notes × (IsDropped touched all n.key → ⊥)

  -- what is kept of the rest
  pass : (before gone : List K) (notes : List (Note K O A)) → ((n : Note K O A) → Member n notes → Member n all) → AreOrdered before notes → ((k : K) → Member k gone → Member k before) → AreDistinct (note_keys notes) → ((k : K) → Member k before → Member k (note_keys notes) → ⊥) → Right before gone →
      ((n : Note K O A) → Member n (kept_after same touched gone notes) → Kept n notes) × ((n : Note K O A) → Member n notes → (IsDropped touched all n.key → ⊥) → Member n (kept_after same touched gone notes))
  pass before gone [] sub o in_before d fresh h = (λ n m. absurd m, λ n m f. absurd m)
  pass before gone (x ∷ notes) sub o in_before d fresh h =
      by (must_go same touched gone x) refl
      (λ t. pass (x.key ∷ before) (x.key ∷ gone) notes (λ n m. sub n (inr m)) o.1 more d.1 later (right_gone t))
      (λ t. pass (x.key ∷ before) gone notes (λ n m. sub n (inr m)) o.1 (λ k m. inr (in_before k m)) d.1 later (right_kept t))
    where
      Rest : List K → Type 0
      Rest g = ((n : Note K O A) → Member n (kept_after same touched g notes) → Kept n notes) × ((n : Note K O A) → Member n notes → (IsDropped touched all n.key → ⊥) → Member n (kept_after same touched g notes))

      later : (k : K) → (k ≡ x.key) ⊎ Member k before → Member k (note_keys notes) → ⊥
      later k (inl e) m = d.0 (subst (λ u. Member u (note_keys notes)) e m)
      later k (inr b) m = fresh k b (inr m)

      right_gone : must_go same touched gone x ≡ true → Right (x.key ∷ before) (x.key ∷ gone)
      right_gone t k (inl e) = (λ m. subst (IsDropped touched all) (sym e) (goes before gone x (sub x (inl refl)) o.0 h t), λ g. inl e)
      right_gone t k (inr b) = (by_gone, λ g. inr ((h k b).1 g))
        where
          by_gone : (k ≡ x.key) ⊎ Member k gone → IsDropped touched all k
          by_gone (inl e) = subst (IsDropped touched all) (sym e) (goes before gone x (sub x (inl refl)) o.0 h t)
          by_gone (inr m) = (h k b).0 m

      right_kept : must_go same touched gone x ≡ false → Right (x.key ∷ before) gone
      right_kept t k (inl e) = (λ m. absurd (fresh x.key (in_before x.key (subst (λ u. Member u gone) e m)) (inl refl)), λ g. absurd (no (sym t ∙ dropped_goes before gone x (sub x (inl refl)) o.0 h (subst (IsDropped touched all) e g))))
        where
          no : false ≡ true → ⊥
          no q = cc q
      right_kept t k (inr b) = h k b

      more : (k : K) → (k ≡ x.key) ⊎ Member k gone → (k ≡ x.key) ⊎ Member k before
      more k (inl e) = inl e
      more k (inr m) = inr (in_before k m)

      by : (b : Bool) → must_go same touched gone x ≡ b → (must_go same touched gone x ≡ true → Rest (x.key ∷ gone)) → (must_go same touched gone x ≡ false → Rest gone) →
          ((n : Note K O A) → Member n (cond b (kept_after same touched (x.key ∷ gone) notes) (x ∷ kept_after same touched gone notes)) → Kept n (x ∷ notes)) × ((n : Note K O A) → Member n (x ∷ notes) → (IsDropped touched all n.key → ⊥) → Member n (cond b (kept_after same touched (x.key ∷ gone) notes) (x ∷ kept_after same touched gone notes)))
      by true t p q =
          let (a, b) = p t in
          (λ n m. (let (u, v) = a n m in (inr u, v)), back b)
        where
          back : ((n : Note K O A) → Member n notes → (IsDropped touched all n.key → ⊥) → Member n (kept_after same touched (x.key ∷ gone) notes)) → (n : Note K O A) → (n ≡ x) ⊎ Member n notes → (IsDropped touched all n.key → ⊥) → Member n (kept_after same touched (x.key ∷ gone) notes)
          back b n (inl e) f = absurd (f (subst (λ u. IsDropped touched all u.key) (sym e) (goes before gone x (sub x (inl refl)) o.0 h t)))
          back b n (inr m) f = b n m f
      by false t p q =
          let (a, b) = q t in
          (forth a, back b)
        where
          no : false ≡ true → ⊥
          no q = cc q

          forth : ((n : Note K O A) → Member n (kept_after same touched gone notes) → Kept n notes) → (n : Note K O A) → (n ≡ x) ⊎ Member n (kept_after same touched gone notes) → Kept n (x ∷ notes)
          forth a n (inl e) = (inl e, λ g. no (sym t ∙ dropped_goes before gone x (sub x (inl refl)) o.0 h (subst (λ u. IsDropped touched all u.key) e g)))
          forth a n (inr m) = let (u, v) = a n m in (inr u, v)

          back : ((n : Note K O A) → Member n notes → (IsDropped touched all n.key → ⊥) → Member n (kept_after same touched gone notes)) → (n : Note K O A) → (n ≡ x) ⊎ Member n notes → (IsDropped touched all n.key → ⊥) → (n ≡ x) ⊎ Member n (kept_after same touched gone notes)
          back b n (inl e) f = inl e
          back b n (inr m) f = inr (b n m f)

pub drops : (K O A : Type 0) → DropsInOrder K O A
drops K O A same touched notes eq apart ordered = pass same eq touched notes apart [] [] notes (λ n m. m) ordered (λ k m. absurd m) apart (λ k m n. absurd m) (λ k m. absurd m)
