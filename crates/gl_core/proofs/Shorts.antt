-- Short forms tell keys apart, and stay while numbers are given.
use Rattle.std.proofs.Common.{◌≡◌, ℕ, zero, suc, eqb, ◌<◌, ◌^◌, Bool, true, false, cond, List, [], ◌∷◌, ◌++◌, length, slice_get, position, Option, Some, None, option_map, Result, Ok, Err, OnOk, OnErr, IsTrue, ◌⊎◌, inl, inr, refl, sym, ap, subst, ◌∙◌}
use Rattle.std.specs.List.{list_any}
use Rattle.std.proofs.lemmas.Bool.{eqb-true, eq-eqb}
use Rattle.gl_calculus.specs.Computation.Lists.{IsEquality, Member, AreDistinct}
use Rattle.gl_calculus.specs.Grid.Grid.{Addr, same_addr}
use Rattle.gl_calculus.specs.Values.Value as V
use Rattle.gl_calculus.specs.Evaluation.Key as K
use Rattle.gl_calculus.specs.Evaluation.Key.{same_key}
use Rattle.gl_calculus.specs.Values.Same.{same_sheet, same_frame}
use Rattle.gl_calculus.specs.Evaluation.Sound.{is_sound_key}
use Rattle.gl_calculus.proofs.Tests.{both, and_true, addr_exact, addr_same, sheet_equality, frame_equality, key_equality}
use Rattle.gl_intern.specs.Growth.{IsLonger}
use Rattle.gl_intern.specs.Numbered.{Numbered, insert_key, firsts, seconds, put_pair}
use Rattle.gl_intern.proofs.Options.{Stays, map_some, map_stays, some_exact}
use Rattle.gl_intern.proofs.Positions.{position_here, position_later, position_stays, same_place, inserted_longer}
use Rattle.gl_intern.proofs.Numbers.{absent, distinct_inserted, are_at_stay, number_at, number_none, put_is, are_at_put, number_is}
use Rattle.gl_intern.proofs.Pushing.{none_any}
use Rattle.gl_demand.specs.declared.key.Key.{Key}
use Rattle.gl_core.specs.Numbers.{Grows, IsNumber}
use Rattle.gl_core.specs.Shorts.{cell_in, short_in, IsGrown, key_pairs, IsShort}
use Rattle.gl_core.specs.declared.short.Short.{Short}
use Rattle.gl_core.specs.declared.short.Short.TheVariants.{Top, In, Settle}
use Rattle.gl_core.specs.contracts.short.ShortPartialEq.TheImpl.{ghosts as form}
use Rattle.gl_core.proofs.Places.{member_at}
use Rattle.gl_core.proofs.Grown.{grows_not}

-- ---- the test of short forms

form_exact : (x y : Short) → form.eq x y ≡ true → x ≡ y
form_exact (Top a) (Top b) e = ap Top (addr_exact a b e)
form_exact (In m a) (In n b) e =
    let (p, q) = both (eqb m n) (same_addr a b) e in
    ap (λ t. In t a) (eqb-true m n p) ∙ ap (In n) (addr_exact a b q)
form_exact (Settle m) (Settle n) e = ap Settle (eqb-true m n e)
form_exact _ _ e = absurd (cc e)

form_same : (x : Short) → form.eq x x ≡ true
form_same (Top a) = addr_same a
form_same (In n a) = and_true (eqb n n) (same_addr a a) (eq-eqb n n refl) (addr_same a)
form_same (Settle n) = eq-eqb n n refl

pub form_equality : IsEquality form.eq
form_equality = (form_exact, form_same)

-- ---- equal short forms are of equal keys

top_exact : (a b : Addr) → Some (Top a) ≡ Some (Top b) → a ≡ b
top_exact a b e = cc e

in_exact : (m n : ℕ) (a b : Addr) → In m a ≡ In n b → (m ≡ n) × (a ≡ b)
in_exact m n a b e = (cc e, cc e)

settle_exact : (m n : ℕ) → Settle m ≡ Settle n → m ≡ n
settle_exact m n e = cc e

module _ (l : Numbered) where
  copies_exact : (e f : V.Frame) (a b : Addr) (s : Short) → option_map (λ n. In n a) (position (same_frame e) l.frames) ≡ Some s → option_map (λ n. In n b) (position (same_frame f) l.frames) ≡ Some s → K.Key.Cell e a ≡ K.Key.Cell f b
  copies_exact e f a b s p q =
      let (m, g, h) = map_some (λ n. In n a) (position (same_frame e) l.frames) s p in
      let (n, i, j) = map_some (λ n. In n b) (position (same_frame f) l.frames) s q in
      let (u, v) = in_exact m n a b (sym h ∙ j) in
      ap (λ t. K.Key.Cell t a) (same_place same_frame frame_equality e f l.frames m g (i ∙ ap Some (sym u))) ∙ ap (K.Key.Cell f) v

  not_top : (o : Option ℕ) (a b : Addr) (s : Short) → option_map (λ n. In n a) o ≡ Some s → Some (Top b) ≡ Some s → ⊥
  not_top o a b s p q =
      let (n, g, h) = map_some (λ n. In n a) o s p in
      let d : Top b ≡ In n a = some_exact (Top b) s q ∙ h in
      cc d

  not_settled : (o : Option ℕ) (s : Short) → option_map Settle o ≡ Some s → (n : ℕ) × (s ≡ Settle n)
  not_settled o s p = let (n, g, h) = map_some Settle o s p in (n, h)

  cells_exact : (e f : V.Frame) (a b : Addr) (s : Short) → cell_in l e a ≡ Some s → cell_in l f b ≡ Some s → K.Key.Cell e a ≡ K.Key.Cell f b
  cells_exact V.Frame.Top V.Frame.Top a b s p q = ap (K.Key.Cell V.Frame.Top) (top_exact a b (p ∙ sym q))
  cells_exact V.Frame.Top (V.Frame.In t o) a b s p q = absurd (not_top (position (same_frame (V.Frame.In t o)) l.frames) b a s q p)
  cells_exact (V.Frame.In t o) V.Frame.Top a b s p q = absurd (not_top (position (same_frame (V.Frame.In t o)) l.frames) a b s p q)
  cells_exact (V.Frame.In t o) (V.Frame.In u w) a b s p q = copies_exact (V.Frame.In t o) (V.Frame.In u w) a b s p q

  cell_is_not : (e : V.Frame) (a : Addr) (n : ℕ) (s : Short) → cell_in l e a ≡ Some s → s ≡ Settle n → ⊥
  cell_is_not V.Frame.Top a n s p q = let d : Top a ≡ Settle n = some_exact (Top a) s p ∙ q in cc d
  cell_is_not (V.Frame.In t o) a n s p q =
      let (m, g, h) = map_some (λ m. In m a) (position (same_frame (V.Frame.In t o)) l.frames) s p in
      let d : In m a ≡ Settle n = sym h ∙ q in
      cc d

  pub short_exact : (j k : K.Key) (s : Short) → short_in l j ≡ Some s → short_in l k ≡ Some s → j ≡ k
  short_exact (K.Key.Cell e a) (K.Key.Cell f b) s p q = cells_exact e f a b s p q
  short_exact (K.Key.Cell e a) (K.Key.Settle t) s p q = let (n, d) = not_settled (position (same_sheet t) l.sheets) s q in absurd (cell_is_not e a n s p d)
  short_exact (K.Key.Settle t) (K.Key.Cell e a) s p q = let (n, d) = not_settled (position (same_sheet t) l.sheets) s p in absurd (cell_is_not e a n s q d)
  short_exact (K.Key.Settle t) (K.Key.Settle u) s p q =
      let (m, g, h) = map_some Settle (position (same_sheet t) l.sheets) s p in
      let (n, i, j) = map_some Settle (position (same_sheet u) l.sheets) s q in
      ap K.Key.Settle (same_place same_sheet sheet_equality t u l.sheets m g (i ∙ ap Some (sym (settle_exact m n (sym h ∙ j)))))

-- ---- what has a short form keeps it

longer_place : {X : Type 0} (p : X → Bool) (xs ys : List X) → IsLonger xs ys → Stays (position p xs) (position p ys)
longer_place p xs ys l i h = subst (λ zs. position p zs ≡ Some i) (sym l.1) (position_stays p xs l.0 i h)

module _ (l m : Numbered) (g : IsGrown l m) where
  cell_stays : (e : V.Frame) (a : Addr) → Stays (cell_in l e a) (cell_in m e a)
  cell_stays V.Frame.Top a = λ s h. h
  cell_stays (V.Frame.In t o) a = map_stays (λ n. In n a) (position (same_frame (V.Frame.In t o)) l.frames) (position (same_frame (V.Frame.In t o)) m.frames) (longer_place (same_frame (V.Frame.In t o)) l.frames m.frames g.frames)

  pub short_stays : (k : K.Key) → Stays (short_in l k) (short_in m k)
  short_stays (K.Key.Cell e a) = cell_stays e a
  short_stays (K.Key.Settle t) = map_stays Settle (position (same_sheet t) l.sheets) (position (same_sheet t) m.sheets) (longer_place (same_sheet t) l.sheets m.sheets g.sheets)

  pub short_grown : (ps : List (Short × K.Key)) → IsShort l ps → IsShort m ps
  short_grown ps h = record {
    forms = are_at_stay (short_in l) (short_in m) short_stays ps h.forms;
    booked = h.booked;
  }

-- ---- keys by their short forms

no_member : (k : K.Key) (ks : List K.Key) → position (same_key k) ks ≡ None → Member k ks → ⊥
no_member k ks h = absent same_key key_equality k ks (none_any (same_key k) ks h)

sound_last : (ks : List K.Key) (k : K.Key) → ((j : K.Key) → Member j ks → IsTrue (is_sound_key j)) → IsTrue (is_sound_key k) → (j : K.Key) → Member j (ks ++ k ∷ []) → IsTrue (is_sound_key j)
sound_last [] k h s j (inl e) = subst (λ t. IsTrue (is_sound_key t)) (sym e) s
sound_last [] k h s j (inr m) = absurd m
sound_last (x ∷ ks) k h s j (inl e) = h j (inl e)
sound_last (x ∷ ks) k h s j (inr m) = sound_last ks k (λ i n. h i (inr n)) s j m

sound_by : (ks : List K.Key) (k : K.Key) (b : Bool) → ((j : K.Key) → Member j ks → IsTrue (is_sound_key j)) → IsTrue (is_sound_key k) → (j : K.Key) → Member j (cond b ks (ks ++ k ∷ [])) → IsTrue (is_sound_key j)
sound_by ks k true h s = h
sound_by ks k false h s = sound_last ks k h s

member_last : (ks : List K.Key) (k j : K.Key) → Member j (ks ++ k ∷ []) → Member j ks ⊎ (j ≡ k)
member_last [] k j (inl e) = inr e
member_last [] k j (inr m) = absurd m
member_last (x ∷ ks) k j (inl e) = inl (inl e)
member_last (x ∷ ks) k j (inr m) = deeper (member_last ks k j m)
  where
    deeper : Member j ks ⊎ (j ≡ k) → Member j (x ∷ ks) ⊎ (j ≡ k)
    deeper (inl n) = inl (inr n)
    deeper (inr e) = inr e

member_by : (ks : List K.Key) (k j : K.Key) (b : Bool) → Member j (cond b ks (ks ++ k ∷ [])) → Member j ks ⊎ (j ≡ k)
member_by ks k j true m = inl m
member_by ks k j false m = member_last ks k j m

module _ (l : Numbered) (ps : List (Short × K.Key)) (h : IsShort l ps) (k : K.Key) where
  pub unseen : short_in l k ≡ None → Member k (seconds ps) → ⊥
  unseen e = no_member k (seconds ps) (number_none form.eq form_equality same_key key_equality (short_in l) (short_exact l) k ps e h.forms)

  module _ (s : Short) (at : short_in l k ≡ Some s) where
    pub key_there : (n : ℕ) → position (form.eq s) (firsts ps) ≡ Some n → slice_get (seconds ps) n ≡ Some k
    key_there n e = number_is form.eq form_equality same_key key_equality (short_in l) (short_exact l) k s ps n at h.forms e

    pub key_absent : position (form.eq s) (firsts ps) ≡ None → Member k (seconds ps) → ⊥
    key_absent e = no_member k (seconds ps) (number_at form.eq form_equality same_key key_equality (short_in l) (short_exact l) k s ps at h.forms ∙ e)

    put : seconds (put_pair form.eq ps s k) ≡ insert_key same_key (seconds ps) k
    put = put_is form.eq form_equality same_key key_equality (short_in l) (short_exact l) k s ps at h.forms

    pub short_put : IsTrue (is_sound_key k) → length (seconds (put_pair form.eq ps s k)) < 2 ^ 32 → IsShort l (put_pair form.eq ps s k)
    short_put sound few = record {
      forms = are_at_put form.eq form_equality same_key key_equality (short_in l) (short_exact l) k s ps at h.forms;
      booked = record {
        apart = subst AreDistinct (sym put) (distinct_inserted same_key key_equality (seconds ps) k h.booked.apart);
        sound = subst (λ ks. (j : K.Key) → Member j ks → IsTrue (is_sound_key j)) (sym put) (sound_by (seconds ps) k (list_any (same_key k) (seconds ps)) h.booked.sound sound);
        few = few;
      };
    }

    pub keys_put : Grows (seconds ps) (seconds (put_pair form.eq ps s k))
    keys_put = subst (Grows (seconds ps)) (sym put) (inserted_longer same_key k (key_equality.1 k) (seconds ps))

    members_put : (j : K.Key) → Member j (seconds (put_pair form.eq ps s k)) → Member j (seconds ps) ⊎ (j ≡ k)
    members_put j m = member_by (seconds ps) k j (list_any (same_key k) (seconds ps)) (subst (Member j) put m)

    -- what is found is the key's number
    pub is_number : (r : Option ℕ) → r ≡ position (form.eq s) (firsts ps) → IsNumber (seconds ps) k r
    is_number None e = key_absent (sym e)
    is_number (Some n) e = key_there n (sym e)

    module _ {T E : Type 0} (r : Result T E) (qs : List (Short × K.Key)) (ok : OnOk r (qs ≡ put_pair form.eq ps s k)) (err : OnErr r (qs ≡ ps)) where
      after_by : {P : Type 0} → (qs ≡ put_pair form.eq ps s k → P) → (qs ≡ ps → P) → (t : Result T E) → OnOk t (qs ≡ put_pair form.eq ps s k) → OnErr t (qs ≡ ps) → P
      after_by f g (Ok x) e d = f e
      after_by f g (Err x) e d = g d

      pub short_after : IsTrue (is_sound_key k) → length (seconds qs) < 2 ^ 32 → IsShort l qs
      short_after sound few = after_by (λ e. subst (IsShort l) (sym e) (short_put sound (subst (λ x. length (seconds x) < 2 ^ 32) e few))) (λ e. subst (IsShort l) (sym e) h) r ok err

      pub members_after : (j : K.Key) → Member j (seconds qs) → Member j (seconds ps) ⊎ (j ≡ k)
      members_after j m = after_by (λ e. members_put j (subst (λ x. Member j (seconds x)) e m)) (λ e. inl (subst (λ x. Member j (seconds x)) e m)) r ok err

      pub keys_after : Grows (seconds ps) (seconds qs)
      keys_after = after_by (λ e. subst (λ x. Grows (seconds ps) (seconds x)) (sym e) keys_put) (λ e. subst (λ x. Grows (seconds ps) (seconds x)) (sym e) (grows_not (seconds ps))) r ok err

-- ---- the numbers that an interner gives

module _ {X : Type 0} (same : X → X → Bool) (exact : IsEquality same) where
  number_step : (y : X) (ys : List X) (n : ℕ) (x : X) (b : Bool) → same x y ≡ b → (Member y ys → ⊥) → slice_get ys n ≡ Some x → position (same x) ys ≡ Some n → position (same x) (y ∷ ys) ≡ Some (suc n)
  number_step y ys n x true e apart at rest = absurd (apart (subst (λ t. Member t ys) (exact.0 x y e) (member_at ys n x at)))
  number_step y ys n x false e apart at rest = position_later (same x) y ys e ∙ ap (option_map suc) rest

  -- in a list of distinct ones each is found at its own place
  pub place_is : (xs : List X) (n : ℕ) (x : X) → AreDistinct xs → slice_get xs n ≡ Some x → position (same x) xs ≡ Some n
  place_is [] n x d at = absurd (cc at)
  place_is (y ∷ ys) zero x d at = let e : y ≡ x = cc at in position_here (same x) y ys (ap (same x) e ∙ exact.1 x)
  place_is (y ∷ ys) (suc n) x d at = number_step y ys n x (same x y) refl d.0 at (place_is ys n x d.1 at)

pub copy_numbered : (l : Numbered) (e : V.Frame) (t : V.SheetValue) (o : V.Oracle) (a : Addr) (n : ℕ) → e ≡ V.Frame.In t o → AreDistinct l.frames → slice_get l.frames n ≡ Some e → cell_in l e a ≡ Some (In n a)
copy_numbered l e t o a n is d at =
    let there : slice_get l.frames n ≡ Some (V.Frame.In t o) = at ∙ ap Some is in
    ap (λ f. cell_in l f a) is ∙ ap (option_map (λ m. In m a)) (place_is same_frame frame_equality l.frames n (V.Frame.In t o) d there)

pub settle_numbered : (l : Numbered) (t : V.SheetValue) (n : ℕ) → AreDistinct l.sheets → slice_get l.sheets n ≡ Some t → short_in l (K.Key.Settle t) ≡ Some (Settle n)
settle_numbered l t n d at = ap (option_map Settle) (place_is same_sheet sheet_equality l.sheets n t d at)

-- ---- the entries of a book

pub entry_count : (es : List (Short × Key)) → length (seconds (key_pairs es)) ≡ length es
entry_count [] = refl
entry_count (e ∷ es) = ap suc (entry_count es)
