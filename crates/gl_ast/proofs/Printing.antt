-- What printing appends.
use Rattle.std.proofs.Common.{◌≡◌, ℕ, ◌≤◌, Bool, true, false, List, [], ◌∷◌, ◌++◌, length, drop, refl, ap, sym, ◌∙◌, append_assoc, append-nil}
use Rattle.std.specs.List.{join_with_byte}
use Rattle.std.proofs.lemmas.List.{at_drop_all}
use Rattle.gl_calculus.specs.Formulas.Formula as F
use Rattle.gl_language.specs.Texts.Canonical.{in_place}
use Rattle.gl_language.specs.Texts.Text.{Bytes, needs_parens, text_behind, operands_text, texts, placed_text}
use Rattle.gl_ast.specs.View.{argument_trees, operand_trees}
use Rattle.gl_ast.specs.declared.Op.{Op}
use Rattle.gl_ast.specs.declared.Formula.{Formula}

-- two or three parts in a row
pub two_parts : (a b c x y w : Bytes) → b ≡ a ++ x → c ≡ b ++ y → w ≡ x ++ y → c ≡ a ++ w
two_parts a b c x y w p q h = q ∙ ap (λ z. z ++ y) p ∙ append_assoc a x y ∙ ap (λ z. a ++ z) (sym h)

pub three_parts : (a b c d x y z w : Bytes) → b ≡ a ++ x → c ≡ b ++ y → d ≡ c ++ z → w ≡ x ++ (y ++ z) → d ≡ a ++ w
three_parts a b c d x y z w p q r h = two_parts a b d x (y ++ z) w p (two_parts b c d y z (y ++ z) q r refl) h

pub let_head : (a b c d v : Bytes) → b ≡ a ++ (76 ∷ 69 ∷ 84 ∷ 40 ∷ []) → c ≡ b ++ v → d ≡ c ++ (44 ∷ []) → d ≡ a ++ (76 ∷ 69 ∷ 84 ∷ 40 ∷ v ++ 44 ∷ [])
let_head a b c d v p q r = three_parts a b c d (76 ∷ 69 ∷ 84 ∷ 40 ∷ []) v (44 ∷ []) _ p q r refl

pub ruleset head_rules = (let_head)

-- ---- places

pub with_parens : (a b c d : Bytes) (at minus : ℕ) (t : F.Formula) → needs_parens minus at t ≡ true → b ≡ a ++ 40 ∷ [] → c ≡ b ++ text_behind 0 t → d ≡ c ++ 41 ∷ [] → d ≡ a ++ placed_text at minus t
with_parens a b c d at minus t h p q r = three_parts a b c d (40 ∷ []) (text_behind 0 t) (41 ∷ []) (placed_text at minus t) p q r (ap (λ z. in_place z (λ m. text_behind m t) minus) h)

pub without_parens : (a b : Bytes) (at minus : ℕ) (t : F.Formula) → needs_parens minus at t ≡ false → b ≡ a ++ text_behind minus t → b ≡ a ++ placed_text at minus t
without_parens a b at minus t h p = p ∙ ap (λ z. a ++ z) (sym (ap (λ z. in_place z (λ m. text_behind m t) minus) h))

pub ruleset placed_rules = (with_parens, without_parens)

-- ---- operands

pub operands_end : (a : Bytes) (at : ℕ) (all : List (Op × Formula)) (i : ℕ) → length all ≤ i → a ++ operands_text at (operand_trees (drop i all)) ≡ a
operands_end a at all i h = ap (λ z. a ++ z) (at_drop_all (λ (xs : List (Op × Formula)). operands_text at (operand_trees xs)) all i h) ∙ append-nil a

pub ruleset operand_rules = (operands_end)

-- ---- arguments

-- what is still to come of some arguments, behind others or not
abbrev pub to_come : Bool → List Bytes → Bytes
to_come false xs = join_with_byte 44 xs
to_come true [] = []
to_come true (x ∷ xs) = 44 ∷ join_with_byte 44 (x ∷ xs)

none_to_come : (more : Bool) → to_come more [] ≡ []
none_to_come true = refl
none_to_come false = refl

pub arguments_end : (a : Bytes) (more : Bool) (all : List Formula) (i : ℕ) → length all ≤ i → a ++ to_come more (texts (argument_trees (drop i all))) ≡ a
arguments_end a more all i h = ap (λ z. a ++ z) (at_drop_all (λ (xs : List Formula). to_come more (texts (argument_trees xs))) all i h ∙ none_to_come more) ∙ append-nil a

pub ruleset argument_rules = (arguments_end)
