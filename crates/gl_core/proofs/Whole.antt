-- Lists that have all there is: as many seeds with notes as notes, or as many notes as keys that have outcomes.
use Rattle.std.proofs.Common.{◌≡◌, ℕ, zero, suc, ◌+◌, ◌<◌, ◌≤◌, Bool, true, false, nat_eq, if◌then◌else◌, List, [], ◌∷◌, length, filter, take, slice_get, Option, Some, None, is_some, refl, sym, ap, ◌∙◌, subst, inl, inr, arith, append-nil, eqb-true}
use Rattle.std.specs.List.{list_all}
use Rattle.gl_calculus.specs.Computation.Lists.{Member, AreDistinct}
use Rattle.gl_calculus.specs.Computation.Notes.{Note, Here}
use Rattle.gl_machine.specs.Remembered.{AreClosed}
use Rattle.laws_calculus.proofs.Forecast.Nodes.{filter_part}
use Rattle.laws_calculus.proofs.Query.Quiet.{distinct_within}
use Rattle.gl_calculus.specs.Grid.Grid.{Range}
use Rattle.gl_calculus.proofs.Tests.{both}
use Rattle.gl_support.specs.Reach.{has}
use Rattle.gl_support.specs.Rows.{notes_of}
use Rattle.gl_support.specs.declared.row.Row.{Row}
use Rattle.gl_demand.specs.declared.outcome.Outcome.{Outcome}
use Rattle.gl_core.specs.Numbers.{Each, numbers_of, IsRowOf}
use Rattle.gl_core.specs.Ledger.{IsLedger}
use Rattle.gl_core.specs.Resuming.{IsClosure}
use Rattle.gl_core.specs.Table.{IsCore, is_row, has_outcome}
use Rattle.gl_core.specs.declared.ledger.Ledger.{Ledger}
use Rattle.gl_core.specs.declared.entries.Entries.{Entries}
use Rattle.gl_core.specs.declared.status.Status.{Status}
use Rattle.gl_core.specs.declared.status.Status.TheVariants.{Idle, Waiting, Resolved}
use Rattle.gl_core.proofs.Wakes.{get_there, get_within}
use Rattle.gl_core.proofs.Places.{member_at, place_of}
use Rattle.gl_core.proofs.Numbered.{get_map}
use Rattle.gl_core.proofs.Filtered.{numbers_length}
use Rattle.gl_core.proofs.Cores.{indexed}
use Rattle.gl_core.proofs.Resolved.{has_at, known_apart}
use Rattle.gl_core.proofs.Marks.{has_there, there_has}
use Rattle.gl_core.proofs.Queued.{read_noted}

-- distinct members of a list that are as many as it has are all of it
pub fills : (xs ys : List ℕ) → AreDistinct xs → ((n : ℕ) → Member n xs → Member n ys) → length ys ≤ length xs → (n : ℕ) → Member n ys → Member n xs
fills xs ys d w h n m = by (has xs n) refl
  where
    within : (k : ℕ) → Member k (n ∷ xs) → Member k ys
    within k (inl e) = subst (λ (j : ℕ). Member j ys) (sym e) m
    within k (inr i) = w k i

    by : (b : Bool) → has xs n ≡ b → Member n xs
    by true e = there_has xs n e
    by false e =
        let out : Member n xs → ⊥ = λ i. let non : true ≡ false = sym (has_there xs n i) ∙ e in cc non in
        let q = distinct_within (n ∷ xs) ys (out, d) within in
        absurd (omega (arith, q, h))

-- ---- as many seeds with notes as notes

module _ (ys : List ℕ) where
  noted_member : (xs : List ℕ) (n : ℕ) → Member n (filter (has ys) xs) → Member n xs × Member n ys
  noted_member xs n m = let (i, t) = filter_part (has ys) xs n m in (i, there_has ys n t)

  noted_apart : (xs : List ℕ) → AreDistinct xs → AreDistinct (filter (has ys) xs)
  noted_apart [] d = tt
  noted_apart (x ∷ xs) d = by (has ys x) (noted_apart xs d.1)
    where
      by : (b : Bool) → AreDistinct (filter (has ys) xs) → AreDistinct (if b then x ∷ filter (has ys) xs else filter (has ys) xs)
      by true f = (λ m. d.0 (noted_member xs x m).0, f)
      by false f = f

-- then nothing else can be reached
pub all_seeds : (l : Ledger) → IsLedger l → AreClosed (notes_of l.rows.items) → (seeds : List ℕ) → Each (λ n. n < length l.book) seeds → AreDistinct seeds → length (filter (has (numbers_of l.rows.items)) seeds) ≡ length l.rows.items → IsClosure l seeds seeds
all_seeds l h c seeds b d e = record {
  rest = [];
  first = sym (append-nil seeds);
  below = b;
  apart = d;
  reached = λ k m. (k, m, Here);
  closed = λ n i m j r. every j (noted n i j r);
  noted = noted;
}
  where
    ns : List ℕ
    ns = numbers_of l.rows.items

    noted : (n : Note ℕ Outcome Range) → Member n (notes_of l.rows.items) → (j : ℕ) → Member j n.reads → Member j ns
    noted = read_noted l.rows.items c

    every : (k : ℕ) → Member k ns → Member k seeds
    every k m = (noted_member ns seeds k (fills (filter (has ns) seeds) ns (noted_apart ns seeds d) (λ j i. (noted_member ns seeds j i).1) (let q = numbers_length l.rows.items in omega (arith, q, e)) k m)).0

-- the next number
pub count_next : (ys xs : List ℕ) (i n : ℕ) → slice_get xs i ≡ Some n → length (filter (has ys) (take (i + 1) xs)) ≡ length (filter (has ys) (take i xs)) + (if has ys n then 1 else 0)
count_next ys xs i n e = ap (λ (t : ℕ). length (filter (has ys) (take t xs))) (let a : i + 1 ≡ suc i = omega arith in a) ∙ by xs i e
  where
    more : (b : Bool) (x : ℕ) (us vs : List ℕ) (k : ℕ) → length us ≡ length vs + k → length (if b then x ∷ us else us) ≡ length (if b then x ∷ vs else vs) + k
    more true x us vs k q = omega (arith, q)
    more false x us vs k q = q

    one : (b : Bool) (x : ℕ) → length (if b then x ∷ [] else []) ≡ 0 + (if b then 1 else 0)
    one true x = refl
    one false x = refl

    by : (xs : List ℕ) (i : ℕ) → slice_get xs i ≡ Some n → length (filter (has ys) (take (suc i) xs)) ≡ length (filter (has ys) (take i xs)) + (if has ys n then 1 else 0)
    by [] i e = absurd (cc e)
    by (x ∷ xs) zero e = let d : x ≡ n = cc in one (has ys x) x ∙ ap (λ (m : ℕ). 0 + (if has ys m then 1 else 0)) d
    by (x ∷ xs) (suc i) e = more (has ys x) x (filter (has ys) (take (suc i) xs)) (filter (has ys) (take i xs)) (if has ys n then 1 else 0) (by xs i e)

-- a number has a row or not
pub has_by_row : (rs : List (Row Outcome Range)) (n : ℕ) (v : Option ℕ) → IsRowOf rs n v → has (numbers_of rs) n ≡ is_some v
has_by_row rs n None h = by (has (numbers_of rs) n) refl
  where
    by : (b : Bool) → has (numbers_of rs) n ≡ b → b ≡ false
    by true e = absurd (h (there_has (numbers_of rs) n e))
    by false e = refl
has_by_row rs n (Some r) (x, e, b) = subst (λ (m : ℕ). has (numbers_of rs) m ≡ true) b (has_there (numbers_of rs) x.by (member_at (numbers_of rs) r x.by (get_map (λ (y : Row Outcome Range). y.by) rs r x e)))

-- ---- as many notes as keys that have outcomes

pub row_number : (rs : List (Row Outcome Range)) (r : Row Outcome Range) → Member r rs → Member r.by (numbers_of rs)
row_number [] r m = absurd m
row_number (x ∷ rs) r (inl e) = inl (ap (λ (y : Row Outcome Range). y.by) e)
row_number (x ∷ rs) r (inr m) = inr (row_number rs r m)

pub filter_whole : {X : Type 0} (p : X → Bool) (xs : List X) → ((x : X) → Member x xs → p x ≡ true) → filter p xs ≡ xs
filter_whole p [] h = refl
filter_whole p (x ∷ xs) h = by (p x) (h x (inl refl)) (filter_whole p xs (λ y m. h y (inr m)))
  where
    by : (b : Bool) → b ≡ true → filter p xs ≡ xs → (if b then x ∷ filter p xs else filter p xs) ≡ x ∷ xs
    by true e f = ap (λ t. x ∷ t) f
    by false e f = absurd (cc e)
