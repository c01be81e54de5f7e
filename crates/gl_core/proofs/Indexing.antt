-- Lists of numbers, and their places, one after the other.
use Rattle.std.proofs.Common.{◌≡◌, ℕ, zero, suc, ◌+◌, ◌<◌, ◌≤◌, ◌⊎◌, List, [], ◌∷◌, ◌++◌, length, take, set, slice_get, slice_index, Some, replicate, refl, sym, ap, ◌∙◌, subst, arith, inl, inr}
use Rattle.gl_calculus.specs.Computation.Lists.{Member, AreDistinct}
use Rattle.gl_core.specs.Numbers.{IsIndex}
use Rattle.gl_core.proofs.Places.{member_at}
use Rattle.gl_core.proofs.Numbered.{index_push}

pub take_next : {X : Type 0} (xs : List X) (i : ℕ) (x : X) → slice_get xs i ≡ Some x → take (i + 1) xs ≡ take i xs ++ x ∷ []
take_next {X} xs i x e = ap (λ n. take n xs) (let a : i + 1 ≡ suc i = omega arith in a) ∙ by xs i e
  where
    by : (xs : List X) (i : ℕ) → slice_get xs i ≡ Some x → take (suc i) xs ≡ take i xs ++ x ∷ []
    by [] i e = absurd (cc e)
    by (y ∷ ys) zero e = let d : y ≡ x = cc in ap (λ t. t ∷ []) d
    by (y ∷ ys) (suc i) e = ap (λ t. y ∷ t) (by ys i e)

pub take_length : {X : Type 0} (xs : List X) (i : ℕ) → i ≤ length xs → length (take i xs) ≡ i
take_length xs zero h = refl
take_length [] (suc i) h = absurd (omega arith)
take_length (x ∷ xs) (suc i) h = ap suc (take_length xs i (omega arith))

pub take_whole : {X : Type 0} (xs : List X) (i : ℕ) → length xs ≤ i → take i xs ≡ xs
take_whole [] zero h = refl
take_whole [] (suc i) h = refl
take_whole (x ∷ xs) zero h = absurd (omega arith)
take_whole (x ∷ xs) (suc i) h = ap (λ t. x ∷ t) (take_whole xs i (omega arith))

pub before : (ns : List ℕ) (i n : ℕ) → AreDistinct ns → slice_get ns i ≡ Some n → Member n (take i ns) → ⊥
before [] i n d e m = cc e
before (x ∷ ns) zero n d e m = m
before (x ∷ ns) (suc i) n d e (inl s) = d.0 (subst (λ t. Member t ns) s (member_at ns i n e))
before (x ∷ ns) (suc i) n d e (inr m) = before ns i n d.1 e m

-- the place of the next number
pub index_next : (ns places : List ℕ) (i n : ℕ) → AreDistinct ns → slice_get ns i ≡ Some n → i < length ns → n < length places → IsIndex (take i ns) places → IsIndex (take (i + 1) ns) (set places n (i + 1))
index_next ns places i n d e h g x =
    let l : length (take i ns) ≡ i = take_length ns i (omega (arith, h)) in
    let a = index_push (take i ns) places n x g (before ns i n d e) in
    subst (λ t. IsIndex t (set places n (i + 1))) (sym (take_next ns i n e)) (subst (λ m. IsIndex (take i ns ++ n ∷ []) (set places n (m + 1))) l a)

pub zeros : (n q : ℕ) → slice_index (replicate n 0) q ≡ 0
zeros zero q = refl
zeros (suc n) zero = refl
zeros (suc n) (suc q) = zeros n q

-- ---- no places

pub index_past : (xs : List ℕ) (q : ℕ) → length xs ≤ q → slice_index xs q ≡ 0
index_past [] q h = refl
index_past (x ∷ xs) zero h = absurd (omega arith)
index_past (x ∷ xs) (suc q) h = index_past xs q (omega arith)

pub all_zero : (xs : List ℕ) (n : ℕ) → length xs ≤ n → ((q : ℕ) → q < n → slice_index xs q ≡ 0) → (q : ℕ) → slice_index xs q ≡ 0
all_zero xs n l h q = by (le_or_lt q)
  where
    lt : (a b : ℕ) → (a < b) ⊎ (b ≤ a)
    lt zero zero = inr (omega arith)
    lt zero (suc b) = inl (omega arith)
    lt (suc a) zero = inr (omega arith)
    lt (suc a) (suc b) = elim (lt a b) [
      | inl h ↦ inl (omega arith)
      | inr h ↦ inr (omega arith)
    ]

    le_or_lt : (q : ℕ) → (q < n) ⊎ (n ≤ q)
    le_or_lt q = lt q n

    by : (q < n) ⊎ (n ≤ q) → slice_index xs q ≡ 0
    by (inl g) = h q g
    by (inr g) = index_past xs q (omega (arith, g, l))

pub zero_last : (xs : List ℕ) (q : ℕ) → slice_index (xs ++ 0 ∷ []) q ≡ slice_index xs q
zero_last [] zero = refl
zero_last [] (suc q) = refl
zero_last (x ∷ xs) zero = refl
zero_last (x ∷ xs) (suc q) = zero_last xs q
