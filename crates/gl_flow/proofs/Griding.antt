-- The grid of what is read of, while contents and formula cells are written.
use Rattle.std.proofs.Common.{◌≡◌, ◌⊎◌, inl, inr, ℕ, zero, suc, ◌+◌, ◌-◌, ◌<◌, ◌≤◌, Bool, true, false, ◌&&◌, nat_le, cond, List, [], ◌∷◌, ◌++◌, map, filter, find, length, get_or, set, refl, sym, subst, ap, ◌∙◌, arith, length-set, length-append}
use Rattle.std.specs.Prelude.{Option, Some, None, slice_get, if◌then◌else◌}
use Rattle.std.specs.declared.vec.Vec.{Vec}
use Rattle.std.specs.declared.alloc.Global.{Global}
use Rattle.std.proofs.lemmas.Bool.{and_parts, and_from, cases_eq, le-leb}
use Rattle.std.proofs.lemmas.List.{get_or-set_same, get_or-set_other, get_or_append_left, get_or_push, map-set, get_or-map}
use Rattle.std.proofs.lemmas.Option.{slice_get_within, slice_get_read}
use Rattle.gl_calculus.specs.Computation.Lists.{Member}
use Rattle.gl_calculus.specs.Grid.Limits.{grid_cols, grid_rows}
use Rattle.gl_calculus.specs.Grid.Grid.{Addr, Range, covers, grid, is_before, same_addr}
use Rattle.gl_calculus.specs.Formulas.Formula.{Content, Const, Form, Cells, IsSheet, content, formula_addresses}
use Rattle.laws_calculus.proofs.Calculus.Settles.{formula_content, formula_listed}
use Rattle.gl_calculus.proofs.Tests.{addr_exact, addr_same}
use Rattle.gl_cells.specs.Search.{is_in_play, comes_after}
use Rattle.gl_graph.proofs.Rising.{map_push}
use Rattle.gl_flow.specs.Places.{are_in_order, StandsAt}
use Rattle.gl_flow.specs.Columns.{IsLast, IsColumn}
use Rattle.gl_flow.specs.Grid.{number_lists, source, written_at, IsShaped, IsInRows, AreColumns, IsSource, formula, constant, blank, AreSources}
use Rattle.gl_flow.specs.Filling.{IsClear, IsCleared, IsFilled}
use Rattle.gl_flow.proofs.Placing.{in_order, never_self, order_test, before_on}

-- ---- the columns one after another

pub columns_start : (boxes : List (Option Range)) (rows : ℕ) (columns : List (Vec ℕ Global)) → columns ≡ [] → (1 ≤ 1) × AreColumns boxes rows (1 - 1) (number_lists columns)
columns_start boxes rows columns e = subst (λ t. (1 ≤ 1) × AreColumns boxes rows (1 - 1) (number_lists t)) (sym e) (omega arith, record { size = refl; each = λ c m n. absurd (omega (arith, m, n)) })

pub columns_done : (boxes : List (Option Range)) (rows column : ℕ) (columns : List (Vec ℕ Global)) → column ≡ 703 → (1 ≤ column) × AreColumns boxes rows (column - 1) (number_lists columns) → AreColumns boxes rows grid_cols (number_lists columns)
columns_done boxes rows column columns e (l, s) = let u : column - 1 ≡ grid_cols = omega (arith, e) in subst (λ t. AreColumns boxes rows t (number_lists columns)) u s

pub columns_on : (boxes : List (Option Range)) (rows column : ℕ) (columns : List (Vec ℕ Global)) (new : List (Vec ℕ Global)) (v : Vec ℕ Global) → new ≡ columns ++ v ∷ [] → IsColumn boxes column rows v.items →
    (1 ≤ column) × AreColumns boxes rows (column - 1) (number_lists columns) → (1 ≤ column + 1) × AreColumns boxes rows (column + 1 - 1) (number_lists new)
columns_on boxes rows column columns new v e h (l, s) = (omega arith, record { size = size; each = λ c m n. by c m n (cases_eq c column) })
  where
    lists : number_lists new ≡ number_lists columns ++ v.items ∷ []
    lists = ap number_lists e ∙ map_push (λ (v : Vec ℕ Global). v.items) columns v

    size : length (number_lists new) ≡ column + 1 - 1
    size = let u = ap length lists ∙ length-append (number_lists columns) (v.items ∷ []) in let w = s.size in omega (arith, u, w, l)

    by : (c : ℕ) → 1 ≤ c → c ≤ column + 1 - 1 → (c ≡ column) ⊎ (c ≡ column → ⊥) → IsColumn boxes c rows (get_or (number_lists new) (c - 1) [])
    by c m n (inl d) =
        let w = s.size in
        let i : length (number_lists columns) ≡ c - 1 = omega (arith, w, d) in
        let u : get_or (number_lists new) (c - 1) [] ≡ v.items = ap (λ t. get_or t (c - 1) []) lists ∙ get_or_push (number_lists columns) v.items [] (c - 1) i in
        subst (λ t. IsColumn boxes t rows (get_or (number_lists new) (c - 1) [])) (sym d) (subst (λ t. IsColumn boxes column rows t) (sym u) h)
    by c m n (inr d) =
        let w = s.size in
        let u : get_or (number_lists new) (c - 1) [] ≡ get_or (number_lists columns) (c - 1) [] = ap (λ t. get_or t (c - 1) []) lists ∙ get_or_append_left (number_lists columns) (v.items ∷ []) [] (c - 1) (omega (arith, w, m, n, d, l)) in
        subst (λ t. IsColumn boxes c rows t) (sym u) (s.each c m (omega (arith, n, d)))

-- ---- one address is written

pub write_is : (columns new : List (Vec ℕ Global)) (v w : Vec ℕ Global) (a : Addr) (n : ℕ) → a.col - 1 < length columns → v ≡ get_or columns (a.col - 1) v → w.items ≡ set v.items (a.row - 1) n → new ≡ set columns (a.col - 1) w → number_lists new ≡ written_at (number_lists columns) a n
write_is columns new v w a n l is e d =
    let here : get_or (number_lists columns) (a.col - 1) [] ≡ v.items = get_or-map (λ (v : Vec ℕ Global). v.items) columns (a.col - 1) v [] l ∙ ap (λ (v : Vec ℕ Global). v.items) (sym is) in
    ap number_lists d ∙ map-set (λ (v : Vec ℕ Global). v.items) columns (a.col - 1) w
    ∙ ap (λ t. set (number_lists columns) (a.col - 1) t) (e ∙ ap (λ t. set t (a.row - 1) n) (sym here))

lists_length : (columns : List (Vec ℕ Global)) → length (number_lists columns) ≡ length columns
lists_length [] = refl
lists_length (v ∷ vs) = ap suc (lists_length vs)

pub columns_within : (rows : ℕ) (columns : List (Vec ℕ Global)) → IsShaped rows (number_lists columns) → grid_cols ≤ length columns
columns_within rows columns s = let u = s.cols in let v = lists_length columns in omega (arith, u, v)

module _ (rows : ℕ) (lists : List (List ℕ)) (shaped : IsShaped rows lists) (a : Addr) (n : ℕ) where
  abbrev here : List ℕ
  here = get_or lists (a.col - 1) []

  -- the column, written
  column_is : (c : ℕ) → c < grid_cols → (get_or (written_at lists a n) c [] ≡ get_or lists c []) ⊎ ((c ≡ a.col - 1) × (get_or (written_at lists a n) c [] ≡ set here (a.row - 1) n))
  column_is c l = by (cases_eq c (a.col - 1))
    where
      by : (c ≡ a.col - 1) ⊎ (c ≡ a.col - 1 → ⊥) → (get_or (written_at lists a n) c [] ≡ get_or lists c []) ⊎ ((c ≡ a.col - 1) × (get_or (written_at lists a n) c [] ≡ set here (a.row - 1) n))
      by (inl d) =
          let s = shaped.cols in
          inr (d, ap (λ t. get_or (written_at lists a n) t []) d ∙ get_or-set_same lists (a.col - 1) (set here (a.row - 1) n) [] (omega (arith, s, d, l)))
      by (inr d) = inl (get_or-set_other lists (a.col - 1) c (set here (a.row - 1) n) [] d)

  pub still_shaped : IsShaped rows (written_at lists a n)
  still_shaped = record {
    cols = length-set lists (a.col - 1) (set here (a.row - 1) n) ∙ shaped.cols;
    each = λ c l. by c l (column_is c l);
  }
    where
      by : (c : ℕ) → c < grid_cols → (get_or (written_at lists a n) c [] ≡ get_or lists c []) ⊎ ((c ≡ a.col - 1) × (get_or (written_at lists a n) c [] ≡ set here (a.row - 1) n)) → length (get_or (written_at lists a n) c []) ≡ rows
      by c l (inl e) = ap length e ∙ shaped.each c l
      by c l (inr (d, e)) = ap length e ∙ length-set here (a.row - 1) n ∙ ap (λ t. length (get_or lists t [])) (sym d) ∙ shaped.each c l

  pub same_source : IsInRows rows a → source (written_at lists a n) a ≡ n
  same_source r =
      let s = shaped.cols in
      let u = r.left in
      let v = r.right in
      let w = r.top in
      let x = r.bottom in
      let y = shaped.each (a.col - 1) (omega (arith, u, v)) in
      ap (λ t. get_or t (a.row - 1) 0) (get_or-set_same lists (a.col - 1) (set here (a.row - 1) n) [] (omega (arith, s, u, v)))
      ∙ get_or-set_same here (a.row - 1) n 0 (omega (arith, y, w, x))

  pub other_source : (p : Addr) → IsInRows rows p → 1 ≤ a.col → 1 ≤ a.row → (p ≡ a → ⊥) → source (written_at lists a n) p ≡ source lists p
  other_source p r l m d = by (column_is (p.col - 1) (let u = r.left in let v = r.right in omega (arith, u, v)))
    where
      by : (get_or (written_at lists a n) (p.col - 1) [] ≡ get_or lists (p.col - 1) []) ⊎ ((p.col - 1 ≡ a.col - 1) × (get_or (written_at lists a n) (p.col - 1) [] ≡ set here (a.row - 1) n)) → source (written_at lists a n) p ≡ source lists p
      by (inl e) = ap (λ t. get_or t (p.row - 1) 0) e
      by (inr (c, e)) =
          ap (λ t. get_or t (p.row - 1) 0) e
          ∙ get_or-set_other here (a.row - 1) (p.row - 1) n 0 (λ z. d (same c z))
          ∙ ap (λ t. get_or (get_or lists t []) (p.row - 1) 0) (sym c)
        where
          same : p.col - 1 ≡ a.col - 1 → p.row - 1 ≡ a.row - 1 → p ≡ a
          same c z =
              let u = r.left in
              let v = r.top in
              let x : p.col ≡ a.col = omega (arith, c, u, l) in
              let y : p.row ≡ a.row = omega (arith, z, v, m) in
              ap (λ t. record { col = t; row = p.row }) x ∙ ap (λ t. record { col = a.col; row = t }) y

-- the same address or another one
same_or_not : (p a : Addr) → (p ≡ a) ⊎ (p ≡ a → ⊥)
same_or_not p a = by (same_addr p a) refl
  where
    by : (b : Bool) → same_addr p a ≡ b → (p ≡ a) ⊎ (p ≡ a → ⊥)
    by true e = inl (addr_exact p a e)
    by false e = inr (λ d. let u : true ≡ false = sym (addr_same p) ∙ ap (same_addr p) d ∙ e in cc u)

-- ---- the contents in turn

abbrev pub places_of : Cells → List Addr
places_of S = map (λ c. c.0) S

head_before : (x q : Addr) (xs : List Addr) → are_in_order (x ∷ xs) ≡ true → Member q xs → is_before x q ≡ true
head_before x q (y ∷ ys) o (inl e) = subst (λ t. is_before x t ≡ true) (sym e) (and_parts (is_before x y) (are_in_order (y ∷ ys)) o).0
head_before x q (y ∷ ys) o (inr m) = let p = and_parts (is_before x y) (are_in_order (y ∷ ys)) o in before_on x y q p.0 (head_before y q ys p.1 m)
head_before x q [] o m = absurd m

tail_order : (x : Addr) (xs : List Addr) → are_in_order (x ∷ xs) ≡ true → are_in_order xs ≡ true
tail_order x [] o = refl
tail_order x (y ∷ ys) o = (and_parts (is_before x y) (are_in_order (y ∷ ys)) o).1

-- the first that passes the test comes before all others that do
first_found : (test : Addr → Bool) (xs : List Addr) (a q : Addr) → are_in_order xs ≡ true → find test xs ≡ Some a → Member q xs → test q ≡ true → (q ≡ a) ⊎ (is_before a q ≡ true)
first_found test [] a q o e m h = absurd m
first_found test (x ∷ xs) a q o e m h = by (test x) refl e m (λ d i. first_found test xs a q (tail_order x xs o) d i h)
  where
    by : (b : Bool) → test x ≡ b → cond b (Some x) (find test xs) ≡ Some a → (q ≡ x) ⊎ Member q xs → (find test xs ≡ Some a → Member q xs → (q ≡ a) ⊎ (is_before a q ≡ true)) → (q ≡ a) ⊎ (is_before a q ≡ true)
    by true u d (inl i) k = let v : x ≡ a = cc d in inl (i ∙ v)
    by true u d (inr i) k = let v : x ≡ a = cc d in inr (subst (λ t. is_before t q ≡ true) v (head_before x q xs o i))
    by false u d (inl i) k = let v : true ≡ false = sym h ∙ ap test i ∙ u in absurd (cc v)
    by false u d (inr i) k = k d i

found_passes : (test : Addr → Bool) (xs : List Addr) (a : Addr) → find test xs ≡ Some a → Member a xs × (test a ≡ true)
found_passes test [] a e = absurd (cc e)
found_passes test (x ∷ xs) a e = by (test x) refl e (λ d. found_passes test xs a d)
  where
    by : (b : Bool) → test x ≡ b → cond b (Some x) (find test xs) ≡ Some a → (find test xs ≡ Some a → Member a xs × (test a ≡ true)) → Member a (x ∷ xs) × (test a ≡ true)
    by true u d k = let v : x ≡ a = cc d in (inl (sym v), subst (λ t. test t ≡ true) v u)
    by false u d k = let (i, h) = k d in (inr i, h)

none_passes : (test : Addr → Bool) (xs : List Addr) (q : Addr) → find test xs ≡ None → Member q xs → test q ≡ false
none_passes test [] q e m = absurd m
none_passes test (x ∷ xs) q e m = by (test x) refl e m (λ d i. none_passes test xs q d i)
  where
    by : (b : Bool) → test x ≡ b → cond b (Some x) (find test xs) ≡ None → (q ≡ x) ⊎ Member q xs → (find test xs ≡ None → Member q xs → test q ≡ false) → test q ≡ false
    by true u d i k = absurd (cc d)
    by false u d (inl i) k = ap test i ∙ u
    by false u d (inr i) k = k d i

-- fewer pass a stricter test
no_more : (old new : Addr → Bool) (xs : List Addr) → ((q : Addr) → new q ≡ true → old q ≡ true) → length (filter new xs) ≤ length (filter old xs)
no_more old new [] h = omega arith
no_more old new (x ∷ xs) h = by (new x) (old x) refl refl (no_more old new xs h)
  where
    by : (b d : Bool) → new x ≡ b → old x ≡ d → length (filter new xs) ≤ length (filter old xs) → length (cond b (x ∷ filter new xs) (filter new xs)) ≤ length (cond d (x ∷ filter old xs) (filter old xs))
    by true true u v l = omega (arith, l)
    by true false u v l = let w : true ≡ false = sym (h x u) ∙ v in absurd (cc w)
    by false true u v l = omega (arith, l)
    by false false u v l = l

fewer : (old new : Addr → Bool) (xs : List Addr) (a : Addr) → ((q : Addr) → new q ≡ true → old q ≡ true) → Member a xs → old a ≡ true → new a ≡ false → length (filter new xs) < length (filter old xs)
fewer old new [] a h m p n = absurd m
fewer old new (x ∷ xs) a h m p n = by (new x) (old x) refl refl m (λ i. fewer old new xs a h i p n)
  where
    by : (b d : Bool) → new x ≡ b → old x ≡ d → (a ≡ x) ⊎ Member a xs → (Member a xs → length (filter new xs) < length (filter old xs)) → length (cond b (x ∷ filter new xs) (filter new xs)) < length (cond d (x ∷ filter old xs) (filter old xs))
    by true d u v (inl i) k = let w : true ≡ false = sym u ∙ sym (ap new i) ∙ n in absurd (cc w)
    by false true u v (inl i) k = let l = no_more old new xs h in omega (arith, l)
    by false false u v (inl i) k = let w : true ≡ false = sym p ∙ ap old i ∙ v in absurd (cc w)
    by true true u v (inr i) k = let l = k i in omega (arith, l)
    by true false u v (inr i) k = let w : true ≡ false = sym (h x u) ∙ v in absurd (cc w)
    by false true u v (inr i) k = let l = k i in omega (arith, l)
    by false false u v (inr i) k = k i

in_play_on : (after : Option Addr) (a q : Addr) → is_in_play grid after a ≡ true → is_in_play grid (Some a) q ≡ true → is_in_play grid after q ≡ true
in_play_on after a q h k = by after (and_parts (covers grid a) (comes_after after a) h).1
  where
    p : (covers grid q ≡ true) × (is_before a q ≡ true)
    p = and_parts (covers grid q) (is_before a q) k

    by : (o : Option Addr) → comes_after o a ≡ true → is_in_play grid o q ≡ true
    by None u = and_from (covers grid q) true p.0 refl
    by (Some z) u = and_from (covers grid q) (is_before z q) p.0 (before_on z a q u p.1)

not_in_play_self : (a : Addr) → is_in_play grid (Some a) a ≡ false
not_in_play_self a = by (is_in_play grid (Some a) a) refl
  where
    by : (b : Bool) → is_in_play grid (Some a) a ≡ b → b ≡ false
    by true e = absurd (never_self a (and_parts (covers grid a) (is_before a a) e).1)
    by false e = refl

abbrev pub in_play_count : Cells → Option Addr → ℕ
in_play_count S after = length (filter (is_in_play grid after) (places_of S))

pub less_in_play : (S : Cells) (after : Option Addr) (a : Addr) → find (is_in_play grid after) (places_of S) ≡ Some a → in_play_count S (Some a) < in_play_count S after
less_in_play S after a e =
    let (i, h) = found_passes (is_in_play grid after) (places_of S) a e in
    fewer (is_in_play grid after) (is_in_play grid (Some a)) (places_of S) a (λ q k. in_play_on after a q h k) i h (not_in_play_self a)

has_place : (S : Cells) (a : Addr) (c : Content) → content S a ≡ Some c → Member a (places_of S)
has_place [] a c e = absurd (cc e)
has_place (x ∷ xs) a c e = by (same_addr a x.0) refl e (λ d. has_place xs a c d)
  where
    by : (b : Bool) → same_addr a x.0 ≡ b → (if b then Some x.1 else content xs a) ≡ Some c → (content xs a ≡ Some c → Member a (places_of xs)) → (a ≡ x.0) ⊎ Member a (places_of xs)
    by true u d k = inl (addr_exact a x.0 u)
    by false u d k = inr (k d)

has_content : (S : Cells) (a : Addr) → Member a (places_of S) → content S a ≡ None → ⊥
has_content [] a m e = absurd m
has_content (x ∷ xs) a m e = by (same_addr a x.0) refl e m (λ i d. has_content xs a i d)
  where
    by : (b : Bool) → same_addr a x.0 ≡ b → (if b then Some x.1 else content xs a) ≡ None → (a ≡ x.0) ⊎ Member a (places_of xs) → (Member a (places_of xs) → content xs a ≡ None → ⊥) → ⊥
    by true u d i k = cc d
    by false u d (inl i) k = let w : true ≡ false = sym (addr_same a) ∙ ap (same_addr a) i ∙ u in cc w
    by false u d (inr i) k = k i d

-- while contents are cleared, up to this address
pub record IsClearing (S : Cells) (boxes : List (Option Range)) (rows : ℕ) (after : Option Addr) (lists : List (List ℕ)) : Type 0 where
  pub shaped : IsShaped rows lists
  pub blanks : (p : Addr) → IsInRows rows p → content S p ≡ None → IsLast boxes p (source lists p)
  pub held : (p : Addr) (c : Content) → IsInRows rows p → content S p ≡ Some c → is_in_play grid after p ≡ false → source lists p ≡ 0

module _ (S : Cells) (boxes : List (Option Range)) (rows : ℕ) (few : rows ≤ grid_rows) where
  in_grid : (p : Addr) → IsInRows rows p → covers grid p ≡ true
  in_grid p r =
      let b = r.bottom in
      and_from (nat_le 1 p.row && nat_le p.row grid_rows) (nat_le 1 p.col && nat_le p.col grid_cols)
      (and_from (nat_le 1 p.row) (nat_le p.row grid_rows) (le-leb 1 p.row r.top) (le-leb p.row grid_rows (omega (arith, b, few))))
      (and_from (nat_le 1 p.col) (nat_le p.col grid_cols) (le-leb 1 p.col r.left) (le-leb p.col grid_cols r.right))

  pub clear_start : (lists : List (List ℕ)) → AreColumns boxes rows grid_cols lists → IsClearing S boxes rows None lists
  clear_start lists h = record {
    shaped = record { cols = h.size; each = λ c l. size c l };
    blanks = λ p r e. (h.each p.col r.left r.right).last p.row r.top r.bottom;
    held = λ p c r e f. let u : true ≡ false = sym (and_from (covers grid p) true (in_grid p r) refl) ∙ f in absurd (cc u);
  }
    where
      size : (c : ℕ) → c < grid_cols → length (get_or lists c []) ≡ rows
      size c l = let e : c + 1 - 1 ≡ c = omega arith in ap (λ t. length (get_or lists t [])) (sym e) ∙ (h.each (c + 1) (omega arith) (omega (arith, l))).size

  pub clear_on : (after : Option Addr) (a : Addr) (lists new : List (List ℕ)) → IsSheet S → find (is_in_play grid after) (places_of S) ≡ Some a → 1 ≤ a.col → 1 ≤ a.row → new ≡ written_at lists a 0 → IsClearing S boxes rows after lists → IsClearing S boxes rows (Some a) new
  clear_on after a lists new o e l m d h = subst (λ t. IsClearing S boxes rows (Some a) t) (sym d) (record {
    shaped = still_shaped rows lists h.shaped a 0;
    blanks = λ p r n. blanks p r n (same_or_not p a);
    held = λ p c r n f. held p c r n f (same_or_not p a);
  })
    where
      passes : Member a (places_of S) × (is_in_play grid after a ≡ true)
      passes = found_passes (is_in_play grid after) (places_of S) a e

      blanks : (p : Addr) → IsInRows rows p → content S p ≡ None → (p ≡ a) ⊎ (p ≡ a → ⊥) → IsLast boxes p (source (written_at lists a 0) p)
      blanks p r n (inl i) = absurd (has_content S a passes.0 (subst (λ t. content S t ≡ None) i n))
      blanks p r n (inr i) = subst (λ t. IsLast boxes p t) (sym (other_source rows lists h.shaped a 0 p r l m i)) (h.blanks p r n)

      held : (p : Addr) (c : Content) → IsInRows rows p → content S p ≡ Some c → is_in_play grid (Some a) p ≡ false → (p ≡ a) ⊎ (p ≡ a → ⊥) → source (written_at lists a 0) p ≡ 0
      held p c r n f (inl i) = subst (λ t. source (written_at lists a 0) t ≡ 0) (sym i) (same_source rows lists h.shaped a 0 (subst (λ t. IsInRows rows t) i r))
      held p c r n f (inr i) = other_source rows lists h.shaped a 0 p r l m i ∙ h.held p c r n (by (is_in_play grid after p) refl)
        where
          by : (b : Bool) → is_in_play grid after p ≡ b → b ≡ false
          by false u = refl
          by true u = go (first_found (is_in_play grid after) (places_of S) a p (order_test (places_of S) o) e (has_place S p c n) u)
            where
              go : (p ≡ a) ⊎ (is_before a p ≡ true) → true ≡ false
              go (inl j) = absurd (i j)
              go (inr j) = sym (and_from (covers grid p) (is_before a p) (in_grid p r) j) ∙ f

  pub clear_done : (after : Option Addr) (lists : List (List ℕ)) → find (is_in_play grid after) (places_of S) ≡ None → IsClearing S boxes rows after lists → IsCleared S boxes rows lists
  clear_done after lists e h = record {
    shaped = h.shaped;
    clear = λ p r. ((λ n. h.blanks p r n), (λ c n. h.held p c r n (none_passes (is_in_play grid after) (places_of S) p e (has_place S p c n))));
  }

-- ---- the formula cells in turn

module _ (S : Cells) (places : List Addr) (boxes : List (Option Range)) (rows : ℕ) where
  pub fill_start : (lists : List (List ℕ)) → IsCleared S boxes rows lists → IsFilled S places boxes rows 0 lists
  fill_start lists h = record { shaped = h.shaped; formulas = λ p k r s l. absurd (omega (arith, l)); others = λ p r n. h.clear p r }

  pub fill_on : (k : ℕ) (a : Addr) (lists new : List (List ℕ)) → are_in_order places ≡ true → k < length places → a ≡ get_or places k a → 1 ≤ a.col → 1 ≤ a.row → new ≡ written_at lists a (k + 1) → IsFilled S places boxes rows k lists → IsFilled S places boxes rows (k + 1) new
  fill_on k a lists new o within is l m d h = subst (λ t. IsFilled S places boxes rows (k + 1) t) (sym d) (record {
    shaped = still_shaped rows lists h.shaped a (k + 1);
    formulas = λ p j r s n. formulas p j r s n (cases_eq j k);
    others = λ p r n. others p r n (same_or_not p a);
  })
    where
      at : slice_get places k ≡ Some a
      at = slice_get_read places (length places) k a refl within is

      apart : (p : Addr) (j : ℕ) → StandsAt places p j → j < k → p ≡ a → ⊥
      apart p j s n i = never_self a (subst (λ t. is_before t a ≡ true) i (in_order places p a j k o s at n))

      formulas : (p : Addr) (j : ℕ) → IsInRows rows p → StandsAt places p j → j < k + 1 → (j ≡ k) ⊎ (j ≡ k → ⊥) → source (written_at lists a (k + 1)) p ≡ suc j
      formulas p j r s n (inl i) =
          let u : Some p ≡ Some a = sym s ∙ ap (slice_get places) i ∙ at in
          let v : p ≡ a = cc u in
          let w : k + 1 ≡ suc j = omega (arith, i) in
          subst (λ t. source (written_at lists a (k + 1)) t ≡ suc j) (sym v) (same_source rows lists h.shaped a (k + 1) (subst (λ t. IsInRows rows t) v r) ∙ w)
      formulas p j r s n (inr i) =
          let u : j < k = omega (arith, n, i) in
          other_source rows lists h.shaped a (k + 1) p r l m (apart p j s u) ∙ h.formulas p j r s u

      others : (p : Addr) → IsInRows rows p → ((j : ℕ) → StandsAt places p j → j < k + 1 → ⊥) → (p ≡ a) ⊎ (p ≡ a → ⊥) → IsClear S boxes p (source (written_at lists a (k + 1)) p)
      others p r n (inl i) = absurd (n k (at ∙ ap Some (sym i)) (omega arith))
      others p r n (inr i) = subst (λ t. IsClear S boxes p t) (sym (other_source rows lists h.shaped a (k + 1) p r l m i)) (h.others p r (λ j s u. n j s (omega (arith, u))))

  stands : (ps : List Addr) (a : Addr) → Member a ps → (k : ℕ) × StandsAt ps a k
  stands [] a m = absurd m
  stands (p ∷ ps) a (inl e) = (zero, ap Some (sym e))
  stands (p ∷ ps) a (inr m) = let (k, s) = stands ps a m in (suc k, s)

  listed : (ps : List Addr) (a : Addr) (k : ℕ) → StandsAt ps a k → Member a ps
  listed [] a k s = absurd (cc s)
  listed (p ∷ ps) a zero s = let u : p ≡ a = cc s in inl (sym u)
  listed (p ∷ ps) a (suc k) s = inr (listed ps a k s)

  pub fill_done : (lists : List (List ℕ)) → IsSheet S → places ≡ formula_addresses S → IsFilled S places boxes rows (length places) lists → AreSources S places boxes rows lists
  fill_done lists o e h p r = by (content S p) refl
    where
      -- an address that is listed has a formula
      formula_there : (k : ℕ) → StandsAt places p k → (c : Option Content) → content S p ≡ c → (f : _) × (c ≡ Some (Form f))
      formula_there k s c u =
          let (f, v) = formula_content S o p (subst (λ t. Member p t) e (listed places p k s)) in
          (f, sym u ∙ v)

      by : (c : Option Content) → content S p ≡ c → IsSource S places boxes p (source lists p)
      by None u = blank u ((h.others p r (λ k s l. let (f, v) = formula_there k s None u in cc v)).0 u)
      by (Some (Const x)) u =
          let z = (h.others p r (λ k s l. let (f, v) = formula_there k s (Some (Const x)) u in cc v)).1 (Const x) u in
          subst (λ t. IsSource S places boxes p t) (sym z) (constant u)
      by (Some (Form f)) u =
          let (k, s) = stands places p (subst (λ t. Member p t) (sym e) (formula_listed S p f u)) in
          subst (λ t. IsSource S places boxes p t) (sym (h.formulas p k r s (slice_get_within places k p s))) (formula s)
