-- The outcome of a key by its row.
use Rattle.std.proofs.Common.{◌≡◌, ℕ, zero, suc, ◌<◌, Bool, true, false, if◌then◌else◌, List, [], ◌∷◌, length, slice_get, Option, Some, None, Bor, IfSome, refl, sym, ap, ◌∙◌, subst, inl, inr, IsTrue}
use Rattle.std.specs.Prelude.{option_map}
use Rattle.std.specs.Option.{option_copied}
use Rattle.gl_calculus.specs.Computation.Lists.{Member, AreDistinct}
use Rattle.gl_calculus.specs.Computation.Query.{Ready}
use Rattle.gl_calculus.specs.Grid.Grid.{Range}
use Rattle.gl_calculus.specs.Evaluation.Key as K
use Rattle.gl_calculus.specs.Evaluation.Key.{same_key}
use Rattle.gl_calculus.specs.Evaluation.Sound.{is_outcome_of}
use Rattle.gl_calculus.specs.Calculation.Memory.{Notes}
use Rattle.gl_calculus.proofs.Tests.{key_equality}
use Rattle.gl_support.specs.declared.row.Row.{Row}
use Rattle.gl_demand.specs.View.{outcome_tree}
use Rattle.gl_demand.specs.Sound.{IsSoundFound}
use Rattle.gl_demand.specs.declared.outcome.Outcome.{Outcome}
use Rattle.gl_core.specs.State.{AreSoundNotes}
use Rattle.gl_core.specs.Numbers.{Each, key_at, row_notes, numbers_of, outcome_at, IsBelow, IsRowOf}
use Rattle.gl_core.specs.Results.{outcome_in}
use Rattle.gl_core.proofs.Wakes.{get_within}
use Rattle.gl_core.proofs.Places.{member_at}
use Rattle.gl_core.proofs.Numbered.{one_number, get_key}

module _ (ks : List K.Key) (apart : AreDistinct ks) where
  none_in : (rs : List (Row Outcome Range)) → Each (IsBelow (length ks)) rs → (n : ℕ) → n < length ks → (Member n (numbers_of rs) → ⊥) → outcome_in (row_notes ks rs) (key_at ks n) ≡ None
  none_in [] a n h non = refl
  none_in (r ∷ rs) a n h non = by (same_key (key_at ks n) (key_at ks r.by)) refl (none_in rs a.1 n h (λ m. non (inr m)))
    where
      by : (b : Bool) → same_key (key_at ks n) (key_at ks r.by) ≡ b → outcome_in (row_notes ks rs) (key_at ks n) ≡ None → (if b then Some (outcome_tree r.outcome) else outcome_in (row_notes ks rs) (key_at ks n)) ≡ None
      by true t e = absurd (non (inl (one_number ks apart n r.by h a.0.0 (key_equality.0 _ _ t))))
      by false t e = e

  row_in : (rs : List (Row Outcome Range)) → Each (IsBelow (length ks)) rs → AreDistinct (numbers_of rs) → (i : ℕ) (x : Row Outcome Range) → slice_get rs i ≡ Some x → outcome_in (row_notes ks rs) (key_at ks x.by) ≡ Some (outcome_at rs i)
  row_in [] a d i x e = absurd (cc e)
  row_in (r ∷ rs) a d zero x e =
      let is : r ≡ x = cc in
      ap (λ (t : Row Outcome Range). if same_key (key_at ks t.by) (key_at ks r.by) then Some (outcome_tree r.outcome) else outcome_in (row_notes ks rs) (key_at ks t.by)) (sym is) ∙ ap (λ b. if b then Some (outcome_tree r.outcome) else outcome_in (row_notes ks rs) (key_at ks r.by)) (key_equality.1 (key_at ks r.by))
  row_in (r ∷ rs) a d (suc i) x e = by (same_key (key_at ks x.by) (key_at ks r.by)) refl (row_in rs a.1 d.1 i x e)
    where
      number : (rs : List (Row Outcome Range)) (i : ℕ) → slice_get rs i ≡ Some x → Member x.by (numbers_of rs)
      number [] i f = absurd (cc f)
      number (y ∷ ys) zero f = let is : y ≡ x = cc in inl (ap (λ (t : Row Outcome Range). t.by) (sym is))
      number (y ∷ ys) (suc i) f = inr (number ys i f)

      below : (rs : List (Row Outcome Range)) (i : ℕ) → Each (IsBelow (length ks)) rs → slice_get rs i ≡ Some x → x.by < length ks
      below [] i b f = absurd (cc f)
      below (y ∷ ys) zero b f = let is : y ≡ x = cc in subst (λ (t : Row Outcome Range). t.by < length ks) is b.0.0
      below (y ∷ ys) (suc i) b f = below ys i b.1 f

      by : (b : Bool) → same_key (key_at ks x.by) (key_at ks r.by) ≡ b → outcome_in (row_notes ks rs) (key_at ks x.by) ≡ Some (outcome_at rs i) → (if b then Some (outcome_tree r.outcome) else outcome_in (row_notes ks rs) (key_at ks x.by)) ≡ Some (outcome_at rs i)
      by true t f = absurd (d.0 (subst (λ n. Member n (numbers_of rs)) (one_number ks apart x.by r.by (below rs i a.1 e) a.0.0 (key_equality.0 _ _ t)) (number rs i e)))
      by false t f = f

  -- the outcome of the row of a number is that of its key
  pub by_row : (rs : List (Row Outcome Range)) → Each (IsBelow (length ks)) rs → AreDistinct (numbers_of rs) → (n : ℕ) (v : Option ℕ) → n < length ks → IsRowOf rs n v → option_map (outcome_at rs) v ≡ outcome_in (row_notes ks rs) (key_at ks n)
  by_row rs a d n None h non = sym (none_in rs a n h non)
  by_row rs a d n (Some i) h (x, e, b) = sym (ap (λ m. outcome_in (row_notes ks rs) (key_at ks m)) (sym b) ∙ row_in rs a d i x e)

-- a key that is not in the book has none
pub none_by : (ks : List K.Key) (rs : List (Row Outcome Range)) → Each (IsBelow (length ks)) rs → (k : K.Key) → (Member k ks → ⊥) → outcome_in (row_notes ks rs) k ≡ None
none_by ks [] a k non = refl
none_by ks (r ∷ rs) a k non = by (same_key k (key_at ks r.by)) refl (none_by ks rs a.1 k non)
  where
    by : (b : Bool) → same_key k (key_at ks r.by) ≡ b → outcome_in (row_notes ks rs) k ≡ None → (if b then Some (outcome_tree r.outcome) else outcome_in (row_notes ks rs) k) ≡ None
    by true t e = absurd (non (member_at ks r.by k (get_key ks r.by a.0.0 ∙ ap Some (sym (key_equality.0 _ _ t)))))
    by false t e = e

sound_in : (ns : Notes) (k : K.Key) (o : K.Outcome) → AreSoundNotes ns → outcome_in ns k ≡ Some o → IsSoundFound k (Ready o)
sound_in [] k o h e = absurd (cc e)
sound_in (n ∷ ns) k o h e = by (same_key k n.key) refl e (sound_in ns k o (λ m i. h m (inr i)))
  where
    by : (b : Bool) → same_key k n.key ≡ b → (if b then Some n.outcome else outcome_in ns k) ≡ Some o → (outcome_in ns k ≡ Some o → IsSoundFound k (Ready o)) → IsSoundFound k (Ready o)
    by true t f g =
        let is : n.outcome ≡ o = cc in
        let s = h n (inl refl) in
        subst (λ u. IsSoundFound k (Ready u)) is (s.outcome, subst (λ j. IsTrue (is_outcome_of j n.outcome)) (sym (key_equality.0 _ _ t)) s.kind)
    by false t f g = g f

-- what is found is sound
pub found_sound : (ns : Notes) (k : K.Key) (r : Option (Bor Outcome)) → AreSoundNotes ns → option_map outcome_tree (option_copied r) ≡ outcome_in ns k → IfSome r (λ o. IsSoundFound k (Ready (outcome_tree o.now)))
found_sound ns k None h e = tt
found_sound ns k (Some x) h e = sound_in ns k (outcome_tree x.now) h (sym e)

-- and its row is there
pub has_row : (rs : List (Row Outcome Range)) (n : ℕ) (v : Option ℕ) → IsRowOf rs n v → IfSome v (λ r. r < length rs)
has_row rs n None h = tt
has_row rs n (Some r) (x, e, b) = get_within rs r x e
