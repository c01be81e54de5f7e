-- Hulls of blocks of ranges.
use Rattle.std.proofs.Common.{◌≡◌, ℕ, zero, suc, ◌/◌, ◌%◌, ◌≤◌, ◌<◌, ◌+◌, ◌⊎◌, inl, inr, List, [], ◌∷◌, ◌++◌, drop, get_or, length, Bool, true, false, ◌||◌, nat_lt, Option, Some, slice_get, refl, ap, sym, ◌∙◌, subst, arith}
use Rattle.std.proofs.lemmas.Grind.{common_steps}
use Rattle.std.proofs.lemmas.Bool.Decides.{nat_tests}
use Rattle.std.proofs.lemmas.Option.{slice_get-get_or}
use Rattle.std.proofs.lemmas.List.{drop_more, at_drop_all}
use Rattle.std.proofs.lemmas.List.Folds.{list_any-append}
use Rattle.std.specs.List.{list_any}
use Rattle.gl_calculus.proofs.Members.{any_member, member_any, either, left, right}
use Rattle.gl_calculus.specs.Grid.Grid.{Addr, Range, addresses, covers}
use Rattle.gl_calculus.proofs.Grants.{clash}
use Rattle.gl_plane.specs.Changes.{is_covered, hull_covers, Within, IsHull, AreHulls, AreWider}
use Rattle.gl_plane.proofs.Ranges.{not_true}

-- ---- hulls of more ranges

-- wider hulls cover the same ranges
hulls_kept : (n : ℕ) (rs old new : List Range) → AreHulls n rs old → AreWider old new → AreHulls n rs new
hulls_kept n rs old new a w = record {
  enough = omega (arith, a.enough, w.kept);
  covered = λ k r g p h. w.above ((n + k) / 64) p (a.covered k r g p h);
}

from_start : (k : ℕ) → k ≡ 0 + k
from_start k = omega arith

-- ranges with those that come behind them
earlier_or_later : {X : Type 0} (xs ys : List X) (k : ℕ) (y : X) → slice_get (xs ++ ys) k ≡ Some y → (slice_get xs k ≡ Some y) ⊎ ((j : ℕ) × (k ≡ length xs + j) × (slice_get ys j ≡ Some y))
earlier_or_later [] ys k y g = inr (k, from_start k, g)
earlier_or_later (x ∷ xs) ys zero y g = inl g
earlier_or_later (x ∷ xs) ys (suc k) y g = later (earlier_or_later xs ys k y g) where
  later : (slice_get xs k ≡ Some y) ⊎ ((j : ℕ) × (k ≡ length xs + j) × (slice_get ys j ≡ Some y)) → (slice_get xs k ≡ Some y) ⊎ ((j : ℕ) × (suc k ≡ suc (length xs) + j) × (slice_get ys j ≡ Some y))
  later (inl p) = inl p
  later (inr (j, e, p)) = inr (j, omega (arith, e), p)

two_lengths : {X : Type 0} (xs ys : List X) → length (xs ++ ys) ≡ length xs + length ys
two_lengths xs ys = grind (arith, common_steps)

covered_both : (rs more hulls : List Range) (k : ℕ) (r : Range) → AreHulls 0 rs hulls → AreHulls (length rs) more hulls → (slice_get rs k ≡ Some r) ⊎ ((j : ℕ) × (k ≡ length rs + j) × (slice_get more j ≡ Some r)) → Within (covers r) (hull_covers (slice_get hulls ((0 + k) / 64)))
covered_both rs more hulls k r a b (inl g) = a.covered k r g
covered_both rs more hulls k r a b (inr (j, e, g)) =
    let at : length rs + j ≡ 0 + k = omega (arith, e) in
    subst (λ m. Within (covers r) (hull_covers (slice_get hulls (m / 64)))) at (b.covered j r g)

hulls_both : (rs more hulls : List Range) → AreHulls 0 rs hulls → AreHulls (length rs) more hulls → AreHulls 0 (rs ++ more) hulls
hulls_both rs more hulls a b = record {
  enough = omega (arith, two_lengths rs more, b.enough);
  covered = λ k r g. covered_both rs more hulls k r a b (earlier_or_later rs more k r g);
}

-- so the hulls that were widened for more ranges cover those before, too
pub hulls_added : (rs more all old new : List Range) (n : ℕ) → AreHulls 0 rs old → AreWider old new → n ≡ length rs → AreHulls n more new → all ≡ rs ++ more → AreHulls 0 all new
hulls_added rs more all old new n a w e b same = subst (λ s. AreHulls 0 s new) (sym same) (hulls_both rs more new (hulls_kept 0 rs old new a w) (subst (λ m. AreHulls m more new) e b))

-- and so does the hull of all
pub hull_added : (hull wide : Option Range) (rs more all : List Range) → IsHull hull rs → Within (λ a. hull_covers hull a || is_covered more a) (hull_covers wide) → all ≡ rs ++ more → IsHull wide all
hull_added hull wide rs more all k w same a h = by (either (is_covered rs a) (is_covered more a) split)
  where
    split : (is_covered rs a || is_covered more a) ≡ true
    split = sym (ap (λ s. is_covered s a) same ∙ list_any-append (λ x. covers x a) rs more) ∙ h

    by : (is_covered rs a ≡ true) ⊎ (is_covered more a ≡ true) → hull_covers wide a ≡ true
    by (inl e) = w a (left (hull_covers hull a) (is_covered more a) (k a e))
    by (inr e) = w a (right (hull_covers hull a) (is_covered more a) e)

-- ---- passing ranges

passed : (p : Range → Bool) (rs : List Range) (i : ℕ) (d : Range) → i < length rs → p (get_or rs i d) ≡ false → list_any p (drop i rs) ≡ list_any p (drop (i + 1) rs)
passed p rs i d h f = ap (list_any p) (drop_more rs i d h) ∙ ap (λ b. b || list_any p (drop (i + 1) rs)) f

-- past the end there is nothing
none_left : (p : Range → Bool) (rs : List Range) (i : ℕ) → length rs ≤ i → list_any p (drop i rs) ≡ false
none_left p rs i h = at_drop_all (list_any p) rs i h

all_passed : (p : Range → Bool) (rs : List Range) (d : Range) (n i : ℕ) → ((k : ℕ) → i ≤ k → k < i + n → k < length rs → p (get_or rs k d) ≡ false) → list_any p (drop i rs) ≡ list_any p (drop (i + n) rs)
all_passed p rs d zero i h = let e : i ≡ i + 0 = omega arith in ap (λ j. list_any p (drop j rs)) e
all_passed p rs d (suc n) i h =
    let e : i + 1 + n ≡ i + suc n = omega arith in
    one (nat_lt i (length rs)) refl ∙ all_passed p rs d n (i + 1) (λ k lo hi in_list. h k (omega arith) (omega arith) in_list) ∙ ap (λ j. list_any p (drop j rs)) e
  where
    one : (b : Bool) → nat_lt i (length rs) ≡ b → list_any p (drop i rs) ≡ list_any p (drop (i + 1) rs)
    one true f = let lt : i < length rs = grind (arith, nat_tests) in passed p rs i d lt (h i (omega arith) (omega arith) lt)
    one false f = let le : length rs ≤ i = grind (arith, nat_tests) in none_left p rs i le ∙ sym (none_left p rs (i + 1) (omega arith))

-- what lies apart from a hull lies apart from all within it
apart : (h r : Range) (places : List Addr) → Within (covers r) (covers h) → list_any (covers h) places ≡ false → list_any (covers r) places ≡ false
apart h r places w f = sym (not_true (list_any (covers r) places) (λ e.
    let (a, n, i) = any_member (covers r) places e in
    clash (member_any (covers h) places a n (w a i)) f))

-- a block whose hull lies apart from the range
pub block_passed : (r : Range) (rs hulls : List Range) (i : ℕ) (h : Range) → AreHulls 0 rs hulls → i % 64 ≡ 0 → slice_get hulls (i / 64) ≡ Some h → list_any (covers h) (addresses r) ≡ false → list_any (λ c. list_any (covers c) (addresses r)) (drop i rs) ≡ list_any (λ c. list_any (covers c) (addresses r)) (drop (i + 64) rs)
block_passed r rs hulls i h a z g f = all_passed (λ c. list_any (covers c) (addresses r)) rs h 64 i (λ k lo hi in_list.
    let same : k / 64 ≡ i / 64 = omega arith in
    let at : slice_get hulls ((0 + k) / 64) ≡ Some h = ap (λ m. slice_get hulls (m / 64)) (sym (from_start k)) ∙ ap (slice_get hulls) same ∙ g in
    let w : Within (covers (get_or rs k h)) (covers h) = subst (λ o. Within (covers (get_or rs k h)) (hull_covers o)) at (a.covered k (get_or rs k h) (slice_get-get_or rs k h in_list)) in
    apart h (get_or rs k h) (addresses r) w f)
