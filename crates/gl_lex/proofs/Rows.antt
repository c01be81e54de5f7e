-- Rows of bytes that pass a test.
use Rattle.std.proofs.Common.{◌≡◌, ℕ, suc, ◌<◌, Bool, true, false, [], ◌∷◌, ◌++◌, take, drop, length, get_or, refl, ap, ◌∙◌, arith, IsTrue}
use Rattle.std.specs.List.{prefix_len, AllByRecursion}
use Rattle.gl_language.specs.Texts.Text.{Bytes}
use Rattle.gl_language.specs.Reading.Token.{NotBefore}

module _ (p : ℕ → Bool) where
  prefix_yes : (x : ℕ) (xs : Bytes) → p x ≡ true → prefix_len p (x ∷ xs) ≡ suc (prefix_len p xs)
  prefix_yes x xs e = grind (arith, e)

  prefix_no : (x : ℕ) (xs : Bytes) → p x ≡ false → prefix_len p (x ∷ xs) ≡ 0
  prefix_no x xs e = grind (arith, e)

  abbrev pub AllPass : Bytes → Type 0
  AllPass bs = AllByRecursion (λ b. IsTrue (p b)) bs

  -- the bytes of the row pass, and the one behind it doesn't
  passes_by : (x : ℕ) (xs : Bytes) (b : Bool) → p x ≡ b → AllPass (take (prefix_len p xs) xs) → AllPass (take (prefix_len p (x ∷ xs)) (x ∷ xs))
  passes_by x xs true e h = rw (prefix_yes x xs e) (e, h)
  passes_by x xs false e h = rw (prefix_no x xs e) tt

  pub row_passes : (bytes : Bytes) → AllPass (take (prefix_len p bytes) bytes)
  row_passes [] = tt
  row_passes (x ∷ xs) = passes_by x xs (p x) refl (row_passes xs)

  stops_by : (x : ℕ) (xs : Bytes) (b : Bool) → p x ≡ b → NotBefore p (drop (prefix_len p xs) xs) → NotBefore p (drop (prefix_len p (x ∷ xs)) (x ∷ xs))
  stops_by x xs true e h = rw (prefix_yes x xs e) h
  stops_by x xs false e h = rw (prefix_no x xs e) e

  pub row_stops : (bytes : Bytes) → NotBefore p (drop (prefix_len p bytes) bytes)
  row_stops [] = tt
  row_stops (x ∷ xs) = stops_by x xs (p x) refl (row_stops xs)

  -- what passes up to a byte that doesn't is the row
  pub row_is : (bs rest : Bytes) → AllPass bs → NotBefore p rest → prefix_len p (bs ++ rest) ≡ length bs
  row_is [] [] a n = refl
  row_is [] (x ∷ xs) a n = prefix_no x xs n
  row_is (b ∷ bs) rest a n = prefix_yes b (bs ++ rest) a.0 ∙ ap suc (row_is bs rest a.1 n)

  pub row_first : (bytes : Bytes) → p (get_or bytes 0 0) ≡ true → 0 < length bytes → 0 < prefix_len p bytes
  row_first [] e h = absurd (omega (arith, h))
  row_first (x ∷ xs) e h = rw (prefix_yes x xs e) (omega arith)
