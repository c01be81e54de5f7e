-- Items in rows.
use Rattle.std.proofs.Common.{◌≡◌, ◌∙◌, ℕ, zero, suc, ◌+◌, ◌*◌, ◌<◌, ◌≤◌, List, [], ◌∷◌, ◌++◌, length, map, take, drop, refl, sym, arith, append_assoc, append-nil, length-drop}
use Rattle.gl_calculus.specs.Calculation.Calculation.{Shown}
use Rattle.gl_language.specs.Texts.Text.{Bytes}
use Rattle.gl_views.specs.Rows.{in_rows}
use Rattle.gl_views.specs.Cells.{cell_of}

abbrev pub cells_of : List (List Shown) → List (List Bytes)
cells_of rs = map (map cell_of) rs

-- so many rows are done, and these items are left
pub record IsBegun (rows cols i : ℕ) (done : List (List Bytes)) (left all : List Shown) : Type 0 where
  pub rest : ℕ
  pub counted : i + rest ≡ rows
  pub long : length left ≡ rest * cols
  pub joined : done ++ cells_of (in_rows rest cols left) ≡ cells_of (in_rows rows cols all)

pub begun : (rows cols : ℕ) (all : List Shown) → length all ≡ rows * cols → IsBegun rows cols 0 [] all all
begun rows cols all h = record { rest = rows; counted = omega arith; long = h; joined = refl }

pub has_row : (rows cols i : ℕ) (done : List (List Bytes)) (left all : List Shown) → IsBegun rows cols i done left all → i < rows → cols ≤ length left
has_row rows cols i done left all h below = at_least h.rest (omega (arith, h.counted)) h.long
  where
    at_least : (rest : ℕ) → 0 < rest → length left ≡ rest * cols → cols ≤ length left
    at_least zero some e = absurd (omega arith)
    at_least (suc k) some e = omega (arith, e)

pub next_row : (rows cols i : ℕ) (done : List (List Bytes)) (left all : List Shown) → IsBegun rows cols i done left all → i < rows → IsBegun rows cols (i + 1) (done ++ map cell_of (take cols left) ∷ []) (drop cols left) all
next_row rows cols i done left all h below = step h.rest h.counted h.long h.joined
  where
    step : (rest : ℕ) → i + rest ≡ rows → length left ≡ rest * cols → done ++ cells_of (in_rows rest cols left) ≡ cells_of (in_rows rows cols all) → IsBegun rows cols (i + 1) (done ++ map cell_of (take cols left) ∷ []) (drop cols left) all
    step zero c e j = absurd (omega (arith, c, below))
    step (suc k) c e j = record {
      rest = k;
      counted = omega (arith, c);
      long = length-drop cols left ∙ (let q : length left ≡ k * cols + cols = omega (arith, e) in omega (arith, q));
      joined = append_assoc done (map cell_of (take cols left) ∷ []) (cells_of (in_rows k cols (drop cols left))) ∙ j;
    }

pub all_rows : (rows cols i : ℕ) (done : List (List Bytes)) (left all : List Shown) → IsBegun rows cols i done left all → rows ≤ i → done ≡ cells_of (in_rows rows cols all)
all_rows rows cols i done left all h end = finish h.rest (omega (arith, h.counted, end)) h.joined
  where
    finish : (rest : ℕ) → rest ≡ 0 → done ++ cells_of (in_rows rest cols left) ≡ cells_of (in_rows rows cols all) → done ≡ cells_of (in_rows rows cols all)
    finish zero z j = sym (append-nil done) ∙ j
    finish (suc k) z j = absurd (omega (arith, z))
