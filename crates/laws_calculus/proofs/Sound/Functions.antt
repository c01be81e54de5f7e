-- Each function gives a sound value of sound values.
use Rattle.std.proofs.Common.{ℕ, ◌-◌, ◌<◌, ℤ, pos, Bool, List, [], ◌∷◌, length, take, Option, Some, None, refl, filter_map}
use Rattle.std.specs.Str.{chars}
use Rattle.gl_calculus.specs.Values.ErrKind.{ErrKind}
use Rattle.gl_calculus.specs.Values.Value.{Scalar, Value}
use Rattle.gl_calculus.specs.Formulas.Formula.{Fun}
use Rattle.gl_calculus.specs.Formulas.Formula as F
use Rattle.gl_calculus.specs.Values.Operators.{exact, magnitude, modulo, numeric, plain}
use Rattle.gl_calculus.specs.Values.Functions.{all_elements, whole_number, truth, sum_fault, truth_fault, first_fault, unless, lesser, greater, truth_of, total, extreme, verdict, negation, is_error, is_blank, text_length, take_last, text_part, apply}
use Rattle.laws_calculus.proofs.Sound.Values.{IsSound, IsSoundValue, AllSoundValues}
use Rattle.laws_calculus.proofs.Sound.Operators.{exact_sound, numeric_sound, modulo_sound, magnitude_sound, first_chars, last_chars}
use Rattle.laws_calculus.proofs.Sound.Lift.{lift1_sound, lift2_sound}
use Rattle.laws_calculus.proofs.Sound.Arrays.{extent_sound, index_sound, sequence_sound, transpose_sound, take_sound, drop_sound, hstack_sound, vstack_sound, filter_sound, unique_sound, lookup_sound}
use Rattle.std.specs.List.{list_all, list_any, reduce}
use Rattle.std.specs.Prelude.{unwrap_or, fold, ◌+ℤ◌}

-- ---- over all elements

unless_sound : (o : Option ErrKind) (r : Scalar) → IsSound r → IsSound (unless o r)
unless_sound (Some k) r h = refl
unless_sound None r h = h

total_sound : (xs : List Scalar) → IsSound (total xs)
total_sound xs = unless_sound (first_fault sum_fault xs) (exact (fold ◌+ℤ◌ (pos 0) (filter_map whole_number xs))) (exact_sound (fold ◌+ℤ◌ (pos 0) (filter_map whole_number xs)))

extreme_sound : (better : ℤ → ℤ → ℤ) (xs : List Scalar) → IsSound (extreme better xs)
extreme_sound better xs = unless_sound (first_fault sum_fault xs) (Scalar.Int (unwrap_or (reduce better (filter_map whole_number xs)) (pos 0))) refl

truth_sound : (f : List Bool → Bool) (bs : List Bool) → IsSound (truth_of f bs)
truth_sound f [] = refl
truth_sound f (b ∷ bs) = refl

verdict_sound : (f : List Bool → Bool) (xs : List Scalar) → IsSound (verdict f xs)
verdict_sound f xs = unless_sound (first_fault truth_fault xs) (truth_of f (filter_map truth xs)) (truth_sound f (filter_map truth xs))

-- ---- on one scalar, or two

negation_sound : (x : Scalar) → IsSound (negation x)
negation_sound (Scalar.Bool b) = refl
negation_sound Scalar.Blank = refl
negation_sound (Scalar.Err k) = refl
negation_sound x = refl

is_error_sound : (x : Scalar) → IsSound (is_error x)
is_error_sound (Scalar.Err k) = refl
is_error_sound x = refl

is_blank_sound : (x : Scalar) → IsSound (is_blank x)
is_blank_sound Scalar.Blank = refl
is_blank_sound x = refl

length_sound : (x : Scalar) → IsSound (text_length x)
length_sound (Scalar.Err k) = refl
length_sound (Scalar.Sheet s) = refl
length_sound x = refl

left_sound : (x n : Scalar) → IsSound x → IsSound n → IsSound (text_part take x n)
left_sound (Scalar.Err k) n h l = refl
left_sound x (Scalar.Err k) h l = refl
left_sound (Scalar.Sheet s) n h l = refl
left_sound x (Scalar.Sheet s) h l = refl
left_sound x Scalar.Blank h l = first_chars 0 x h
left_sound x (Scalar.Int (pos n)) h l = first_chars n x h
left_sound x n h l = refl

right_sound : (x n : Scalar) → IsSound x → IsSound n → IsSound (text_part take_last x n)
right_sound (Scalar.Err k) n h l = refl
right_sound x (Scalar.Err k) h l = refl
right_sound (Scalar.Sheet s) n h l = refl
right_sound x (Scalar.Sheet s) h l = refl
right_sound x Scalar.Blank h l = last_chars (length (chars (plain x)) - 0) x h
right_sound x (Scalar.Int (pos n)) h l = last_chars (length (chars (plain x)) - n) x h
right_sound x n h l = refl

-- ---- all of them

-- so many arguments that it has a sound value
abbrev pub Enough : Fun → ℕ → Type 0
Enough F.Fun.HStack n = 0 < n
Enough F.Fun.VStack n = 0 < n
Enough f n = Unit {0}

pub apply_sound : (f : Fun) (vs : List Value) → Enough f (length vs) → AllSoundValues vs → IsSoundValue (apply f vs)
unfolding apply
apply_sound F.Fun.Sum vs e h = total_sound (all_elements vs)
apply_sound F.Fun.Count vs e h = refl
apply_sound F.Fun.Min vs e h = extreme_sound lesser (all_elements vs)
apply_sound F.Fun.Max vs e h = extreme_sound greater (all_elements vs)
apply_sound F.Fun.And vs e h = verdict_sound (list_all (λ b. b)) (all_elements vs)
apply_sound F.Fun.Or vs e h = verdict_sound (list_any (λ b. b)) (all_elements vs)
apply_sound F.Fun.Not (v ∷ []) e h = lift1_sound negation (λ x p. negation_sound x) v h.0
apply_sound F.Fun.IsError (v ∷ []) e h = lift1_sound is_error (λ x p. is_error_sound x) v h.0
apply_sound F.Fun.IsBlank (v ∷ []) e h = lift1_sound is_blank (λ x p. is_blank_sound x) v h.0
apply_sound F.Fun.Abs (v ∷ []) e h = lift1_sound magnitude (λ x p. magnitude_sound x) v h.0
apply_sound F.Fun.Mod (u ∷ v ∷ []) e h = lift2_sound (numeric modulo) (numeric_sound modulo modulo_sound) u v h.0 h.1.0
apply_sound F.Fun.Len (v ∷ []) e h = lift1_sound text_length (λ x p. length_sound x) v h.0
apply_sound F.Fun.Left (v ∷ n ∷ []) e h = lift2_sound (text_part take) left_sound v n h.0 h.1.0
apply_sound F.Fun.Right (v ∷ n ∷ []) e h = lift2_sound (text_part take_last) right_sound v n h.0 h.1.0
apply_sound F.Fun.Rows (v ∷ []) e h = extent_sound (λ s. s.rows) v
apply_sound F.Fun.Columns (v ∷ []) e h = extent_sound (λ s. s.cols) v
apply_sound F.Fun.Index (v ∷ r ∷ c ∷ []) e h = index_sound v r c h.0
apply_sound F.Fun.Sequence (m ∷ n ∷ []) e h = sequence_sound m n
apply_sound F.Fun.Transpose (v ∷ []) e h = transpose_sound v h.0
apply_sound F.Fun.Take (v ∷ m ∷ n ∷ []) e h = take_sound v m n h.0
apply_sound F.Fun.Drop (v ∷ m ∷ n ∷ []) e h = drop_sound v m n h.0
apply_sound F.Fun.HStack vs e h = hstack_sound vs e h
apply_sound F.Fun.VStack vs e h = vstack_sound vs e h
apply_sound F.Fun.Filter (v ∷ keep ∷ []) e h = filter_sound v keep h.0
apply_sound F.Fun.Unique (v ∷ []) e h = unique_sound v h.0
apply_sound F.Fun.Lookup (x ∷ keys ∷ v ∷ []) e h = lookup_sound x keys v h.1.1.0
apply_sound F.Fun.Na [] e h = refl
apply_sound f vs e h = refl
