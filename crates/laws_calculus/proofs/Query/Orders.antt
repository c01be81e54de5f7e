-- Notes in order: what of them stays in order, and what one pass leaves.
use Rattle.std.proofs.Common.{◌≡◌, ◌⊎◌, inl, inr, List, [], ◌∷◌, ◌++◌, Bool, true, false, ◌||◌, not, cond, if◌then◌else◌, filter, refl, sym, ap, ◌∙◌, subst}
use Rattle.std.specs.List.{list_any}
use Rattle.gl_calculus.specs.Computation.Lists.{Member, AreDistinct, IsEquality, has_member}
use Rattle.gl_calculus.specs.Computation.Notes.{Note}
use Rattle.gl_machine.specs.InOrder.{AreOrdered, must_go, gone_after, kept_after}
use Rattle.gl_calculus.specs.Computation.Notes.{note_keys}
use Rattle.laws_calculus.specs.Query.{KeptByGone, OrderedAreClosed, KeptStayOrdered}
use Rattle.gl_calculus.proofs.Members.{member_any, member_has}
use Rattle.laws_calculus.proofs.Query.Quiet.{seen_member}

pub note_of_key : {K O A : Type 0} (notes : List (Note K O A)) (k : K) → Member k (note_keys notes) → (n : Note K O A) × Member n notes × (n.key ≡ k)
note_of_key [] k m = absurd m
note_of_key (n ∷ notes) k (inl e) = (n, inl refl, sym e)
note_of_key (n ∷ notes) k (inr m) = let (l, i, e) = note_of_key notes k m in (l, inr i, e)

-- ---- members, as a test

pub not_member : {K : Type 0} (same : K → K → Bool) → IsEquality same → (ks : List K) (k : K) → (Member k ks → ⊥) → has_member same k ks ≡ false
not_member same eq ks k f = by (has_member same k ks) refl
  where
    by : (b : Bool) → has_member same k ks ≡ b → b ≡ false
    by true t = absurd (f (seen_member same eq ks k t))
    by false t = refl

-- ---- each read has a note

reads_noted : {K O A : Type 0} (before : List K) (notes : List (Note K O A)) → AreOrdered before notes → (n : Note K O A) → Member n notes → (j : K) → Member j n.reads → Member j before ⊎ Member j (note_keys notes)
reads_noted before [] o n m j r = absurd m
reads_noted before (x ∷ notes) o n (inl e) j r = inl (o.0 j (subst (λ u. Member j u.reads) e r))
reads_noted before (x ∷ notes) o n (inr m) j r = elim (reads_noted (x.key ∷ before) notes o.1 n m j r) [
  | inl b ↦ either b
  | inr k ↦ inr (inr k)
]
  where
    either : (j ≡ x.key) ⊎ Member j before → Member j before ⊎ Member j (note_keys (x ∷ notes))
    either (inl e) = inr (inl e)
    either (inr b) = inl b

pub ordered_closed : (K O A : Type 0) → OrderedAreClosed K O A
ordered_closed K O A notes o n m j r = elim (reads_noted [] notes o n m j r) [
  | inl b ↦ absurd b
  | inr k ↦ note_of_key notes j k
]

-- ---- what stays in order

-- a note whose reads stand before it may go last
pub ordered_last : {K O A : Type 0} (before : List K) (notes : List (Note K O A)) (n : Note K O A) → AreOrdered before notes → ((j : K) → Member j n.reads → Member j before ⊎ Member j (note_keys notes)) → AreOrdered before (notes ++ n ∷ [])
ordered_last {K} before [] n o h = (λ j m. first j (h j m), tt)
  where
    first : (j : K) → Member j before ⊎ ⊥ → Member j before
    first j (inl b) = b
    first j (inr e) = absurd e
ordered_last {K} before (x ∷ notes) n o h = (o.0, ordered_last (x.key ∷ before) notes n o.1 (λ j m. moved j (h j m)))
  where
    moved : (j : K) → Member j before ⊎ ((j ≡ x.key) ⊎ Member j (note_keys notes)) → ((j ≡ x.key) ⊎ Member j before) ⊎ Member j (note_keys notes)
    moved j (inl b) = inl (inr b)
    moved j (inr (inl e)) = inl (inl e)
    moved j (inr (inr m)) = inr m

-- the notes of some keys, where each note read only such keys
pub ordered_some : {K O A : Type 0} (some : K → Bool) (before kept : List K) (notes : List (Note K O A)) → AreOrdered before notes → ((k : K) → Member k before → some k ≡ true → Member k kept) →
    ((n : Note K O A) → Member n notes → some n.key ≡ true → (j : K) → Member j n.reads → some j ≡ true) → AreOrdered kept (filter (λ n. some n.key) notes)
ordered_some some before kept [] o h r = tt
ordered_some {K} {O} {A} some before kept (x ∷ notes) o h r =
    by (some x.key) refl
    (λ t. ordered_some some (x.key ∷ before) (x.key ∷ kept) notes o.1 (more t) (λ n m. r n (inr m)))
    (λ t. ordered_some some (x.key ∷ before) kept notes o.1 (fewer t) (λ n m. r n (inr m)))
  where
    more : some x.key ≡ true → (k : K) → (k ≡ x.key) ⊎ Member k before → some k ≡ true → (k ≡ x.key) ⊎ Member k kept
    more t k (inl e) s = inl e
    more t k (inr m) s = inr (h k m s)

    fewer : some x.key ≡ false → (k : K) → (k ≡ x.key) ⊎ Member k before → some k ≡ true → Member k kept
    fewer t k (inl e) s = let no : true ≡ false = sym s ∙ ap some e ∙ t in absurd (cc no)
    fewer t k (inr m) s = h k m s

    by : (b : Bool) → some x.key ≡ b → (some x.key ≡ true → AreOrdered (x.key ∷ kept) (filter (λ n. some n.key) notes)) → (some x.key ≡ false → AreOrdered kept (filter (λ n. some n.key) notes)) →
        AreOrdered kept (if b then x ∷ filter (λ n. some n.key) notes else filter (λ n. some n.key) notes)
    by true t p q = (λ j m. h j (o.0 j m) (r x (inl refl) t j m), p t)
    by false t p q = q t

no_such : {K : Type 0} (p : K → Bool) (ks : List K) → list_any p ks ≡ false → (j : K) → Member j ks → p j ≡ false
no_such p ks e j m = by (p j) refl
  where
    by : (b : Bool) → p j ≡ b → b ≡ false
    by true t = sym (member_any p ks j m t) ∙ e
    by false t = refl

later : (a b : Bool) → (a || b) ≡ false → b ≡ false
later true b e = absurd (cc e)
later false b e = e

module _ {K O A : Type 0} (same : K → K → Bool) (eq : IsEquality same) (touched : A → Bool) where
  kept_order : (before gone kept : List K) (notes : List (Note K O A)) → AreOrdered before notes → ((k : K) → Member k before → has_member same k gone ≡ false → Member k kept) → AreOrdered kept (kept_after same touched gone notes)
  kept_order before gone kept [] o h = tt
  kept_order before gone kept (x ∷ notes) o h =
      by (must_go same touched gone x) refl
      (kept_order (x.key ∷ before) (x.key ∷ gone) kept notes o.1 fewer)
      (kept_order (x.key ∷ before) gone (x.key ∷ kept) notes o.1 more)
    where
      stays : must_go same touched gone x ≡ false → (j : K) → Member j x.reads → Member j kept
      stays t j m = h j (o.0 j m) (no_such (λ i. has_member same i gone) x.reads (later (list_any touched x.looked) (list_any (λ i. has_member same i gone) x.reads) t) j m)

      more : (k : K) → (k ≡ x.key) ⊎ Member k before → has_member same k gone ≡ false → (k ≡ x.key) ⊎ Member k kept
      more k (inl e) f = inl e
      more k (inr m) f = inr (h k m f)

      behind : (k : K) (b : Bool) → same k x.key ≡ b → cond b true (has_member same k gone) ≡ false → has_member same k gone ≡ false
      behind k true t f = absurd (cc f)
      behind k false t f = f

      fewer : (k : K) → (k ≡ x.key) ⊎ Member k before → has_member same k (x.key ∷ gone) ≡ false → Member k kept
      fewer k (inl e) f =
          let s : same k x.key ≡ true = ap (λ u. same u x.key) e ∙ eq.1 x.key in
          let no : true ≡ false = sym (ap (λ b. cond b true (has_member same k gone)) s) ∙ f in
          absurd (cc no)
      fewer k (inr m) f = h k m (behind k (same k x.key) refl f)

      by : (b : Bool) → must_go same touched gone x ≡ b → AreOrdered kept (kept_after same touched (x.key ∷ gone) notes) → AreOrdered (x.key ∷ kept) (kept_after same touched gone notes) →
          AreOrdered kept (cond b (kept_after same touched (x.key ∷ gone) notes) (x ∷ kept_after same touched gone notes))
      by true t p q = p
      by false t p q = (stays t, q)

  -- ---- what one pass leaves, by what it gathered

  gone_stays : (gone : List K) (notes : List (Note K O A)) (k : K) → Member k gone → Member k (gone_after same touched gone notes)
  gone_stays gone [] k m = m
  gone_stays gone (x ∷ notes) k m = gone_stays (cond (must_go same touched gone x) (x.key ∷ gone) gone) notes k (by (must_go same touched gone x))
    where
      by : (b : Bool) → Member k (cond b (x.key ∷ gone) gone)
      by true = inr m
      by false = m

  gone_from : (gone : List K) (notes : List (Note K O A)) (k : K) → Member k (gone_after same touched gone notes) → Member k gone ⊎ Member k (note_keys notes)
  gone_from gone [] k m = inl m
  gone_from gone (x ∷ notes) k m = by (must_go same touched gone x) (gone_from (cond (must_go same touched gone x) (x.key ∷ gone) gone) notes k m)
    where
      by : (b : Bool) → Member k (cond b (x.key ∷ gone) gone) ⊎ Member k (note_keys notes) → Member k gone ⊎ Member k (note_keys (x ∷ notes))
      by true (inl (inl e)) = inr (inl e)
      by true (inl (inr g)) = inl g
      by true (inr j) = inr (inr j)
      by false (inl g) = inl g
      by false (inr j) = inr (inr j)

  abbrev stays_by : List K → Note K O A → Bool
  stays_by gone n = not (has_member same n.key gone)

  abbrev Left : List K → List (Note K O A) → Type 0
  Left gone notes = kept_after same touched gone notes ≡ filter (stays_by (gone_after same touched gone notes)) notes

  left_by : (gone : List K) (notes : List (Note K O A)) → AreDistinct (note_keys notes) → ((k : K) → Member k gone → Member k (note_keys notes) → ⊥) → Left gone notes
  left_by gone [] d f = refl
  left_by gone (x ∷ notes) d f =
      by (must_go same touched gone x) (left_by (x.key ∷ gone) notes d.1 fresh) (left_by gone notes d.1 (λ k g m. f k g (inr m)))
    where
      fresh : (k : K) → (k ≡ x.key) ⊎ Member k gone → Member k (note_keys notes) → ⊥
      fresh k (inl e) m = d.0 (subst (λ u. Member u (note_keys notes)) e m)
      fresh k (inr g) m = f k g (inr m)

      out : Member x.key gone ⊎ Member x.key (note_keys notes) → ⊥
      out (inl g) = f x.key g (inl refl)
      out (inr m) = d.0 m

      by : (b : Bool) → Left (x.key ∷ gone) notes → Left gone notes →
          cond b (kept_after same touched (x.key ∷ gone) notes) (x ∷ kept_after same touched gone notes) ≡ filter (stays_by (gone_after same touched (cond b (x.key ∷ gone) gone) notes)) (x ∷ notes)
      by true p q =
          let all = gone_after same touched (x.key ∷ gone) notes in
          let e = member_has same eq all x.key (gone_stays (x.key ∷ gone) notes x.key (inl refl)) in
          p ∙ sym (ap (λ b. if not b then x ∷ filter (stays_by all) notes else filter (stays_by all) notes) e)
      by false p q =
          let all = gone_after same touched gone notes in
          let e = not_member same eq all x.key (λ m. out (gone_from gone notes x.key m)) in
          ap (λ t. x ∷ t) q ∙ sym (ap (λ b. if not b then x ∷ filter (stays_by all) notes else filter (stays_by all) notes) e)

pub kept_by_gone : (K O A : Type 0) → KeptByGone K O A
kept_by_gone K O A same touched notes eq d = left_by same eq touched [] notes d (λ k m. absurd m)

pub kept_stay_ordered : (K O A : Type 0) → KeptStayOrdered K O A
kept_stay_ordered K O A same touched notes eq o = kept_order same eq touched [] [] [] notes o (λ k m. absurd m)
