-- A list of entries that grows to what its sizes are granted.
use Rattle.std.proofs.Common.{◌≡◌, ◌↔◌, ℕ, zero, suc, ◌+◌, ◌<◌, ◌≤◌, Bool, true, false, cond, nat_eq, List, [], ◌∷◌, ◌++◌, length, take, drop, map, Some, None, slice_get, IsTrue, Result, Ok, Err, OnOk, refl, ap, arith, sym, ◌∙◌, subst, append_assoc, length-append, eq-eqb, eqb-true}
use Rattle.std.specs.List.{list_all}
use Rattle.std.specs.Result.{is_err}
use Rattle.std.proofs.lemmas.List.{take_more, drop_more, length-take-le}
use Rattle.std.proofs.lemmas.List.Folds.{list_all-append}
use Rattle.std.proofs.lemmas.Option.{slice_get_within, get_or_from_slice_get}
use Rattle.std.proofs.Math.Seq.{take-length}
use Rattle.std.proofs.lemmas.List.{append-nil}
use Rattle.gl_calculus.specs.Grid.Grid.{Addr, Size, Range, area, AreInOrder}
use Rattle.gl_calculus.specs.Values.Value.{Permitted, Refused, Entry, Oracle}
use Rattle.gl_calculus.specs.Values.Same.{is_permitted}
use Rattle.gl_calculus.specs.Evaluation.Oracle.{IsInOrder, Sizes, AreSizes, sizes_of, area_of, is_free, grant_beside, grant, ArePermits}
use Rattle.laws_calculus.proofs.Calculus.Proved.{grant_gives_permits, only_grant_gives}
use Rattle.gl_grant.specs.Granted.{taken_beside, taken_by, entry_behind, fits_grid}

-- what holds after a call that is no error
pub on_ok : {T E : Type 0} (r : Result T E) (P : Type 0) → is_err r ≡ false → OnOk r P → P
on_ok (Ok x) P e h = h
on_ok (Err y) P e h = absurd (cc e)

-- ---- one entry more

taken_more : (rs : List Range) (w : Oracle) (e : Entry) → taken_beside rs (w ++ e ∷ []) ≡ cond (is_permitted e.permit) (area_of e ∷ taken_beside rs w) (taken_beside rs w)
taken_more rs [] e = last (is_permitted e.permit)
  where
    last : (b : Bool) → cond b (area_of e ∷ rs) rs ≡ cond b (area_of e ∷ rs) rs
    last b = refl
taken_more rs (x ∷ xs) e = taken_more (cond (is_permitted x.permit) (area_of x ∷ rs) rs) xs e

permit_by : (b : Bool) → is_permitted (cond b Permitted Refused) ≡ b
permit_by true = refl
permit_by false = refl

-- a list from a place on
taken_off : (xs : Sizes) (i : ℕ) (x : Addr × Size) → slice_get xs i ≡ Some x → drop i xs ≡ x ∷ drop (i + 1) xs
taken_off xs i x at = drop_more xs i x (slice_get_within xs i x at) ∙ ap (λ y. y ∷ drop (i + 1) xs) (get_or_from_slice_get xs i x x at)

-- a list of entries in order keeps it up to a place
front_in_order : (w : Oracle) (e : Entry) (rest : Oracle) → IsInOrder (w ++ e ∷ rest) → IsInOrder (w ++ e ∷ [])
front_in_order [] e rest o = tt
front_in_order (x ∷ []) e rest o = (o.0, tt)
front_in_order (x ∷ y ∷ ys) e rest o = (o.0, front_in_order (y ∷ ys) e rest o.1)

roots_of : (w : Oracle) → map (λ x. x.0) (sizes_of w) ≡ map (λ x. x.root) w
roots_of [] = refl
roots_of (x ∷ xs) = ap (λ rs. x.root ∷ rs) (roots_of xs)

-- granted entries are in order
pub granted_in_order : (bound : Range) (held : Addr → Bool) (xs : Sizes) → AreSizes xs → IsInOrder (grant bound held xs)
granted_in_order bound held xs o =
    let given = grant_gives_permits bound held xs o in
    subst AreInOrder (sym (ap (map (λ x. x.0)) given.0) ∙ roots_of (grant bound held xs)) o

entry_there : (ls : Oracle) (e : Entry) (rest : Oracle) → slice_get (ls ++ e ∷ rest) (length ls) ≡ Some e
entry_there [] e rest = refl
entry_there (x ∷ xs) e rest = entry_there xs e rest

pub fits_more : (w : Oracle) (e : Entry) → list_all fits_grid w ≡ true → fits_grid e ≡ true → list_all fits_grid (w ++ e ∷ []) ≡ true
fits_more w e h f = list_all-append fits_grid w (e ∷ []) ∙ rw (h, f) refl

module _ (bound : Range) (held : Addr → Bool) where
  -- the entries so far, with those of the arrays that are left
  abbrev pub reached : Oracle → Sizes → Oracle
  reached w rest = w ++ grant_beside bound held (taken_by w) rest

  pub one_more : (w : Oracle) (x : Addr × Size) (rest : Sizes) → reached w (x ∷ rest) ≡ reached (w ++ entry_behind bound held w x ∷ []) rest
  one_more w x rest =
      let e = entry_behind bound held w x in
      let free = is_free bound held (taken_by w) x.0 (area x.0 x.1) in
      let taken : cond free (area_of e ∷ taken_by w) (taken_by w) ≡ taken_by (w ++ e ∷ []) =
      ap (λ b. cond b (area_of e ∷ taken_by w) (taken_by w)) (sym (permit_by free)) ∙ sym (taken_more [] w e) in
      ap (λ ts. w ++ e ∷ grant_beside bound held ts rest) taken ∙ sym (append_assoc w (e ∷ []) (grant_beside bound held (taken_by (w ++ e ∷ [])) rest))

  -- where nothing is left, it is all
  pub all_reached : (w : Oracle) (xs : Sizes) (i : ℕ) → slice_get xs i ≡ None → reached w (drop i xs) ≡ grant bound held xs → w ≡ grant bound held xs
  all_reached w xs i none h =
      let ended : drop i xs ≡ [] = nothing_left xs i none in
      sym (append-nil w) ∙ ap (reached w) (sym ended) ∙ h
    where
      nothing_left : (xs : Sizes) (i : ℕ) → slice_get xs i ≡ None → drop i xs ≡ []
      nothing_left [] zero e = refl
      nothing_left [] (suc i) e = refl
      nothing_left (x ∷ xs) zero e = absurd (cc e)
      nothing_left (x ∷ xs) (suc i) e = nothing_left xs i e

  -- the array at this place is the next
  pub next_reached : (w : Oracle) (xs : Sizes) (i j : ℕ) (x : Addr × Size) → slice_get xs i ≡ Some x → j ≡ i + 1 → reached w (drop i xs) ≡ grant bound held xs →
      reached (w ++ entry_behind bound held w x ∷ []) (drop j xs) ≡ grant bound held xs
  next_reached w xs i j x at e h = ap (λ k. reached (w ++ entry_behind bound held w x ∷ []) (drop k xs)) e ∙ sym (one_more w x (drop (i + 1) xs)) ∙ ap (reached w) (sym (taken_off xs i x at)) ∙ h

  -- so its entry may be appended
  pub next_in_order : (w : Oracle) (xs : Sizes) (i : ℕ) (x : Addr × Size) → AreSizes xs → slice_get xs i ≡ Some x → reached w (drop i xs) ≡ grant bound held xs → IsInOrder (w ++ entry_behind bound held w x ∷ [])
  next_in_order w xs i x o at h =
      let parts = ap (reached w) (sym (taken_off xs i x at)) ∙ h in
      front_in_order w (entry_behind bound held w x) _ (subst IsInOrder (sym parts) (granted_in_order bound held xs o))

  -- what a list of entries keeps while it grows by this entry
  pub record Grows (w : Oracle) (xs : Sizes) (e : Entry) : Type 0 where
    pub order : IsInOrder (w ++ e ∷ [])
    pub same : reached (w ++ e ∷ []) (drop (length (w ++ e ∷ [])) xs) ≡ grant bound held xs
    pub fits : list_all fits_grid (w ++ e ∷ []) ≡ true
    pub within : length w < length xs

  pub grows : (w : Oracle) (xs : Sizes) (n : ℕ) (x : Addr × Size) (e : Entry) → AreSizes xs → slice_get xs n ≡ Some x → n ≡ length w → e ≡ entry_behind bound held w x → fits_grid e ≡ true →
      list_all fits_grid w ≡ true → reached w (drop (length w) xs) ≡ grant bound held xs → Grows w xs e
  grows w xs n x e o at long is f h same =
      let at_end : slice_get xs (length w) ≡ Some x = sym (ap (slice_get xs) long) ∙ at in
      let longer : length (w ++ e ∷ []) ≡ length w + 1 = length-append w (e ∷ []) in
      record {
        order = subst (λ y. IsInOrder (w ++ y ∷ [])) (sym is) (next_in_order w xs (length w) x o at_end same);
        same = subst (λ y. reached (w ++ y ∷ []) (drop (length (w ++ e ∷ [])) xs) ≡ grant bound held xs) (sym is) (next_reached w xs (length w) (length (w ++ e ∷ [])) x at_end longer same);
        fits = fits_more w e h f;
        within = slice_get_within xs (length w) x at_end;
      }

  -- ---- entries that are compared with what is granted

  compared_more : (w : Oracle) (i : ℕ) (e : Entry) → slice_get w i ≡ Some e → take (i + 1) w ≡ take i w ++ e ∷ []
  compared_more w i e at = take_more w i e (slice_get_within w i e at) ∙ ap (λ y. take i w ++ y ∷ []) (get_or_from_slice_get w i e e at)

  -- one entry more is as granted
  pub same_more : (w : Oracle) (xs : Sizes) (i : ℕ) (x : Addr × Size) (e : Entry) → slice_get xs i ≡ Some x → e ≡ entry_behind bound held (take i w) x → fits_grid e ≡ true →
      list_all fits_grid (take i w) ≡ true → reached (take i w) (drop i xs) ≡ grant bound held xs → slice_get w i ≡ Some e →
      (i + 1 ≤ length w) × (reached (take (i + 1) w) (drop (i + 1) xs) ≡ grant bound held xs) × (list_all fits_grid (take (i + 1) w) ≡ true)
  same_more w xs i x e at is f h same found =
      let more = compared_more w i e found in
      let within : i < length w = slice_get_within w i e found in
      let next = subst (λ y. reached (take i w ++ y ∷ []) (drop (i + 1) xs) ≡ grant bound held xs) (sym is) (next_reached (take i w) xs i (i + 1) x at refl same) in (
        omega arith,
        subst (λ v. reached v (drop (i + 1) xs) ≡ grant bound held xs) (sym more) next,
        subst (λ v. list_all fits_grid v ≡ true) (sym more) (fits_more (take i w) e h f),
      )

  -- where an entry is another, the oracle is another
  pub other_entry : (w : Oracle) (xs : Sizes) (i : ℕ) (x : Addr × Size) (e : Entry) → i ≤ length w → slice_get xs i ≡ Some x → e ≡ entry_behind bound held (take i w) x →
      reached (take i w) (drop i xs) ≡ grant bound held xs → w ≡ grant bound held xs → slice_get w i ≡ Some e
  other_entry w xs i x e within at is same granted =
      let parts = granted ∙ sym same ∙ ap (reached (take i w)) (taken_off xs i x at) in
      let long : length (take i w) ≡ i = length-take-le i w within in
      ap (λ v. slice_get v i) parts
      ∙ subst (λ k. slice_get (reached (take i w) (x ∷ drop (i + 1) xs)) k ≡ Some (entry_behind bound held (take i w) x)) long (entry_there (take i w) (entry_behind bound held (take i w) x) _)
      ∙ ap (λ y. Some y) (sym is)

  -- at the end of the arrays only the number of entries is left to compare
  pub all_same : (w : Oracle) (xs : Sizes) (i n : ℕ) → n ≡ length w → i ≤ length w → slice_get xs i ≡ None → reached (take i w) (drop i xs) ≡ grant bound held xs → IsTrue (nat_eq i n) ↔ (w ≡ grant bound held xs)
  all_same w xs i n count within none same =
      let granted = all_reached (take i w) xs i none same in (
        λ e. let long : length w ≡ i = sym count ∙ sym (eqb-true i n e) in sym (take-length w) ∙ ap (λ k. take k w) long ∙ granted,
        λ h. eq-eqb i n (sym (count ∙ ap length (h ∙ sym granted) ∙ length-take-le i w within)),
      )

  -- being what is granted is being consistent
  pub by_permits : (w : Oracle) (xs : Sizes) (b : Bool) → AreSizes xs → IsInOrder w → IsTrue b ↔ (w ≡ grant bound held xs) → IsTrue b ↔ ((sizes_of w ≡ xs) × ArePermits bound held w)
  by_permits w xs b o p h = (
    λ t. subst (λ v. (sizes_of v ≡ xs) × ArePermits bound held v) (sym (h.0 t)) (grant_gives_permits bound held xs o),
    λ c. h.1 (only_grant_gives bound held w p c.1 ∙ ap (grant bound held) c.0),
  )
