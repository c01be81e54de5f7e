-- The functions taken apart as the code takes them.
use Rattle.std.specs.Prelude.{ℕ, ℤ, pos, ◌+ℤ◌, Bool, ◌&&◌, ◌||◌, List, fold, filter_map, take, Option, Some, None, Result, IfOk, IsTrue, encode_utf8_all, chars, unwrap_or}
use Rattle.gl_calculus.specs.Values.ErrKind.{ErrKind}
use Rattle.gl_calculus.specs.Values.Value.{Scalar, Int, Text}
use Rattle.gl_calculus.specs.Values.Operators.{exact, plain}
use Rattle.gl_calculus.specs.Values.Functions.{first_fault, sum_fault, truth_fault, unless, whole_number, truth, truth_of, lesser, greater, take_last}
use Rattle.gl_calculus.specs.Evaluation.Sound.{is_sound_scalar}
use Rattle.gl_plane.specs.declared.NoMemory.{NoMemory}
use Rattle.gl_value.specs.View.{scalar_tree}
use Rattle.gl_value.specs.declared.Scalar as Code
use Rattle.gl_funs.specs.declared.numbers.End.{End}
use Rattle.gl_funs.specs.declared.numbers.End.TheVariants.{Least, Greatest}
use Rattle.gl_funs.specs.declared.texts.Side.{Side}
use Rattle.gl_funs.specs.declared.texts.Side.TheVariants.{First, Last}
use Rattle.gl_funs.specs.declared.truths.Quantity.{Quantity}
use Rattle.gl_funs.specs.declared.truths.Quantity.TheVariants.{All, Any}
use Rattle.std.specs.List.{list_all, list_any, reduce}

-- the sum of some elements and of what was added before
abbrev pub total_from : ℤ → List Scalar → Scalar
total_from n xs = unless (first_fault sum_fault xs) (exact (fold (λ i j. i +ℤ j) n (filter_map whole_number xs)))

-- the best of some numbers and of the best before, if there is one
abbrev pub best_from : (ℤ → ℤ → ℤ) → Option ℤ → List ℤ → ℤ
best_from better None ns = unwrap_or (reduce better ns) (pos 0)
best_from better (Some n) ns = fold better n ns

abbrev pub better : End → ℤ → ℤ → ℤ
better Least = lesser
better Greatest = greater

abbrev pub extreme_from : (ℤ → ℤ → ℤ) → Option ℤ → List Scalar → Scalar
extreme_from better o xs = unless (first_fault sum_fault xs) (Int (best_from better o (filter_map whole_number xs)))

-- the truth of some truth values and of the truth before, if there is one
abbrev pub truth_from : (Bool → Bool → Bool) → (List Bool → Bool) → Option Bool → List Bool → Scalar
truth_from joins f None bs = truth_of f bs
truth_from joins f (Some b) bs = Scalar.Bool (joins b (f bs))

abbrev pub verdict_from : (Bool → Bool → Bool) → (List Bool → Bool) → Option Bool → List Scalar → Scalar
verdict_from joins f o xs = unless (first_fault truth_fault xs) (truth_from joins f o (filter_map truth xs))

-- how truth values are joined, two of them and a list of them
abbrev pub joins : Quantity → Bool → Bool → Bool
joins All = ◌&&◌
joins Any = ◌||◌

abbrev pub rule_of : Quantity → List Bool → Bool
rule_of All = list_all (λ b. b)
rule_of Any = list_any (λ b. b)

-- the truth that is known, or #VALUE!
abbrev pub known_truth : Option Bool → Scalar
known_truth (Some b) = Scalar.Bool b
known_truth None = Scalar.Err ErrKind.Value

-- a number that is not negative
abbrev pub natural : Option ℤ → Option ℕ
natural (Some (pos n)) = Some n
natural o = None

-- so many of the first, or of the last
abbrev pub cut : Side → ℕ → List ℕ → List ℕ
cut First = take
cut Last = take_last

-- the answer is sound where the operand is
abbrev pub KeepsSound : Code.Scalar → Result Code.Scalar NoMemory → Type 0
KeepsSound x r = IsTrue (is_sound_scalar (scalar_tree x)) → IfOk r (λ z. IsTrue (is_sound_scalar (scalar_tree z)))

-- a part of the characters of a scalar's plain text
abbrev pub part_text : (List ℕ → List ℕ) → Scalar → Scalar
part_text part x = Text (encode_utf8_all (part (chars (plain x))))
