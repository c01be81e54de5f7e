-- What the addresses of a range show, row by row.
use Rattle.std.proofs.Common.{◌≡◌, ◌∙◌, ◌⊎◌, inl, inr, ℕ, suc, ◌+◌, ◌-◌, ◌*◌, ◌<◌, ◌≤◌, List, [], ◌∷◌, ◌++◌, length, take, drop, get_or, Some, ap, sym, subst, arith, append_assoc, append-nil, length-append}
use Rattle.std.proofs.Math.ListN.{get_or-append}
use Rattle.std.proofs.Math.Seq.{get_or-append_seam, take-append_seam, drop-append_seam}
use Rattle.std.specs.Prelude.{nat_le, IsTrue}
use Rattle.std.proofs.lemmas.Bool.{leb-true}
use Rattle.gl_calculus.specs.Grid.Grid.{Range, addr, extents}
use Rattle.gl_calculus.proofs.Tests.{both}
use Rattle.gl_plane.specs.Parts.{is_ordered}
use Rattle.gl_calculus.specs.Values.Value.{Oracle}
use Rattle.gl_calculus.specs.Formulas.Formula.{Version}
use Rattle.gl_calculus.specs.Calculation.Calculation.{Shown, IsShown}
use Rattle.gl_calculus.specs.Evaluation.World.{world}
use Rattle.gl_language.specs.Texts.Text.{Bytes}
use Rattle.gl_protocol.specs.Scripts.Commands as C
use Rattle.gl_protocol.specs.Scripts.Commands.{AreShown, SettledReply}
use Rattle.gl_protocol.specs.Replies.Tables.{table_text}
use Rattle.gl_calc.specs.View.{View, sheet_of}
use Rattle.gl_protocol.specs.Run.Records.{csv_records}
use Rattle.gl_views.specs.Rows.{in_rows}
use Rattle.gl_run.specs.Replies.{AreShownIn, IsRowShown, IsShownIn, RepliesBy}

-- the corners of a range are in order
pub rows_ordered : (r : Range) → IsTrue (is_ordered r.first r.last) → r.first.row ≤ r.last.row
rows_ordered r h = leb-true r.first.row r.last.row (both (nat_le r.first.row r.last.row) (nat_le r.first.col r.last.col) h).0

-- ---- a row

module _ (c : View) (r : Range) (i : ℕ) where
  -- these are shown from the first column on
  abbrev pub AreInRow : List Shown → Type 0
  AreInRow xs = (j : ℕ) (d : Shown) → j < length xs → IsShownIn c (addr (r.first.col + j) i) (get_or xs j d)

  in_row_more : (xs : List Shown) (x : Shown) → AreInRow xs → IsShownIn c (addr (r.first.col + length xs) i) x → AreInRow (xs ++ x ∷ [])
  in_row_more xs x h k j d below = by (split (omega (arith, below, length-append xs (x ∷ []))))
    where
      split : j < length xs + 1 → (j < length xs) ⊎ (length xs ≡ j)
      split p = grind arith

      by : (j < length xs) ⊎ (length xs ≡ j) → IsShownIn c (addr (r.first.col + j) i) (get_or (xs ++ x ∷ []) j d)
      by (inl p) = subst (λ (y : Shown). IsShownIn c (addr (r.first.col + j) i) y) (sym (get_or-append xs (x ∷ []) d j p)) (h j d p)
      by (inr e) = subst (λ (n : ℕ). IsShownIn c (addr (r.first.col + n) i) (get_or (xs ++ x ∷ []) n d)) e (subst (λ (y : Shown). IsShownIn c (addr (r.first.col + length xs) i) y) (sym (get_or-append_seam xs x [] d)) k)

  -- the row is told up to this column
  pub record RowBegun (col : ℕ) (old new : List Shown) : Type 0 where
    pub part : List Shown
    pub joined : new ≡ old ++ part
    pub counted : r.first.col + length part ≡ col
    pub shown : AreInRow part

  pub row_begins : (old : List Shown) → RowBegun r.first.col old old
  row_begins old = record { part = []; joined = sym (append-nil old); counted = omega arith; shown = λ j d h. absurd (omega (arith, h)) }

  pub row_on : (col : ℕ) (old new : List Shown) (x : Shown) (new' : List Shown) → RowBegun col old new → IsShownIn c (addr col i) x → new' ≡ new ++ x ∷ [] → RowBegun (col + 1) old new'
  row_on col old new x new' h k e = record {
    part = h.part ++ x ∷ [];
    joined = e ∙ ap (λ xs. xs ++ x ∷ []) h.joined ∙ append_assoc old h.part (x ∷ []);
    counted = omega (arith, h.counted, length-append h.part (x ∷ []));
    shown = in_row_more h.part x h.shown (subst (λ (n : ℕ). IsShownIn c (addr n i) x) (sym h.counted) k);
  }

  pub row_ends : (col : ℕ) (old new : List Shown) → r.first.col ≤ r.last.col → RowBegun col old new → col ≡ r.last.col + 1 → IsRowShown c r i old new
  row_ends col old new o h e = (h.part, h.joined, omega (arith, h.counted, e, o), h.shown)

-- ---- rows

module _ (c : View) (r : Range) where
  -- so many rows from this one on
  abbrev Rows : Version → Oracle → (row n : ℕ) → List Shown → Type 0
  Rows version w row n xs = AreShown csv_records version (sheet_of c) w r row (in_rows n (extents r).cols xs)

  -- the rows before this one are told: where the rest is told behind them, all is
  pub record Begun (row : ℕ) (items : List Shown) : Type 0 where
    pub counted : length items ≡ (row - r.first.row) * (extents r).cols
    pub shown : (version : Version) (w : Oracle) → c.held ≡ Some (version, w) → (rest : List Shown) → Rows version w row (r.last.row + 1 - row) rest → Rows version w r.first.row (extents r).rows (items ++ rest)

  pub begins : Begun r.first.row []
  begins =
      let none : r.first.row - r.first.row ≡ 0 = omega arith in
      record { counted = omega (arith, ap (λ n. n * (extents r).cols) none); shown = λ version w e rest h. h }

  one_row : (version : Version) (w : Oracle) (n i : ℕ) (xs rest : List Shown) → i ≤ r.last.row → length xs ≡ (extents r).cols
      → ((j : ℕ) (d : Shown) → j < length xs → IsShown (world version (sheet_of c) w) (addr (r.first.col + j) i) (get_or xs j d))
      → Rows version w (i + 1) n rest → Rows version w i (suc n) (xs ++ rest)
  one_row version w n i xs rest low long h more =
      let cols = (extents r).cols in
      let front : take cols (xs ++ rest) ≡ xs = subst (λ (k : ℕ). take k (xs ++ rest) ≡ xs) long (take-append_seam xs rest) in
      let back : drop cols (xs ++ rest) ≡ rest = subst (λ (k : ℕ). drop k (xs ++ rest) ≡ rest) long (drop-append_seam xs rest) in
      subst (λ (ys : List Shown). AreShown csv_records version (sheet_of c) w r i (ys ∷ in_rows n cols (drop cols (xs ++ rest)))) (sym front)
      (subst (λ (ys : List Shown). AreShown csv_records version (sheet_of c) w r i (xs ∷ in_rows n cols ys)) (sym back)
      (C.AreShown.row low long h more))

  pub goes_on : (row : ℕ) (items items' : List Shown) → r.first.row ≤ row → row ≤ r.last.row → Begun row items → IsRowShown c r row items items' → Begun (row + 1) items'
  goes_on row items items' top bottom h k = record {
    counted = long;
    shown = λ version w e rest more.
        let left : r.last.row + 1 - row ≡ suc (r.last.row + 1 - (row + 1)) = omega (arith, bottom) in
        let one = one_row version w (r.last.row + 1 - (row + 1)) row k.0 rest bottom k.2 (λ j d p. k.3 j d p version w e) more in
        let all = h.shown version w e (k.0 ++ rest) (subst (λ (n : ℕ). Rows version w row n (k.0 ++ rest)) (sym left) one) in
        subst (λ (ys : List Shown). Rows version w r.first.row (extents r).rows ys) (sym (append_assoc items k.0 rest) ∙ ap (λ ys. ys ++ rest) (sym k.1)) all;
  }
    where
      cols : ℕ
      cols = (extents r).cols

      long : length items' ≡ (row + 1 - r.first.row) * cols
      long =
          let joined : length items' ≡ length items + length k.0 = ap length k.1 ∙ length-append items k.0 in
          let next : row + 1 - r.first.row ≡ (row - r.first.row) + 1 = omega (arith, top) in
          let more : ((row - r.first.row) + 1) * cols ≡ (row - r.first.row) * cols + cols = omega arith in
          joined ∙ omega (arith, h.counted, k.2) ∙ sym more ∙ ap (λ n. n * cols) (sym next)

  pub ends : (row : ℕ) (items : List Shown) → row ≡ r.last.row + 1 → Begun row items → (length items ≡ (extents r).rows * (extents r).cols) × AreShownIn c r items
  ends row items e h = (
    h.counted ∙ ap (λ n. (n - r.first.row) * (extents r).cols) e,
    λ version w k.
        let none : r.last.row + 1 - row ≡ 0 = omega (arith, e) in
        subst (λ (ys : List Shown). Rows version w r.first.row (extents r).rows ys) (append-nil items)
        (h.shown version w k [] (subst (λ (n : ℕ). Rows version w row n []) (sym none) (C.AreShown.none (omega (arith, e))))),
  )

  pub view_replies : (items : List Shown) (reply : Bytes) → AreShownIn c r items → reply ≡ table_text (extents r).cols (in_rows (extents r).rows (extents r).cols items)
      → (rounds : ℕ) → RepliesBy c rounds (C.Request.View r) reply
  view_replies items reply h e rounds version w k =
      subst (λ (y : Bytes). SettledReply csv_records version (sheet_of c) w rounds (C.Request.View r) y) (sym e) (C.SettledReply.view (h version w k))
