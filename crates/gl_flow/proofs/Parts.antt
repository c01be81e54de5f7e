-- What stands in the parts of a formula.
use Rattle.std.proofs.Common.{◌≡◌, ℕ, ◌+◌, ◌<◌, ◌≤◌, true, false, ◌||◌, List, [], ◌∷◌, ◌++◌, length, drop, get_or, refl, sym, ap, ◌∙◌, append_assoc}
use Rattle.std.specs.List.{list_any}
use Rattle.std.proofs.lemmas.List.Folds.{list_any-append}
use Rattle.std.proofs.lemmas.List.{append-nil, map-append, at_drop_more, at_drop_all}
use Rattle.gl_ast.specs.View.{formula_tree, argument_trees, operand_trees}
use Rattle.gl_ast.specs.declared.Formula.{Formula}
use Rattle.gl_ast.specs.declared.Op.{Op}
use Rattle.gl_calculus.specs.Forecast as Fo
use Rattle.gl_calculus.specs.Forecast.{sequence_size, any_size}
use Rattle.gl_flow.specs.Pieces.{piece_tree, piece_trees, without_calls}
use Rattle.gl_flow.specs.declared.reading.Piece.{Piece}

pub other_sequence : (xs : List Formula) → (length xs ≡ 2 → ⊥) → sequence_size (argument_trees xs) ≡ any_size
other_sequence [] h = refl
other_sequence (x ∷ []) h = refl
other_sequence (x ∷ y ∷ []) h = absurd (h refl)
other_sequence (x ∷ y ∷ z ∷ zs) h = refl

-- some part of two
pub any_both : (xs ys : List Fo.Piece) → list_any Fo.piece_makes (xs ++ ys) ≡ (list_any Fo.piece_makes xs || list_any Fo.piece_makes ys)
any_both xs ys = list_any-append Fo.piece_makes xs ys

any_false : (xs ys : List Fo.Piece) → list_any Fo.piece_makes xs ≡ false → list_any Fo.piece_makes (xs ++ ys) ≡ list_any Fo.piece_makes ys
any_false xs ys e = any_both xs ys ∙ ap (λ b. b || list_any Fo.piece_makes ys) e

any_true : (xs ys : List Fo.Piece) → list_any Fo.piece_makes xs ≡ true → list_any Fo.piece_makes (xs ++ ys) ≡ true
any_true xs ys e = any_both xs ys ∙ ap (λ b. b || list_any Fo.piece_makes ys) e

-- one argument or operand after another
pub makes_next : {X : Type 0} (parts : List X → List Fo.Piece) (own : X → List Fo.Piece) (split : (x : X) (xs : List X) → parts (x ∷ xs) ≡ own x ++ parts xs) (xs : List X) (i : ℕ) (x : X) →
    i < length xs → x ≡ get_or xs i x → list_any Fo.piece_makes (own x) ≡ false → list_any Fo.piece_makes (parts (drop i xs)) ≡ list_any Fo.piece_makes (parts (drop (i + 1) xs))
makes_next parts own split xs i x l is e =
    ap (list_any Fo.piece_makes) (at_drop_more parts xs i x l ∙ ap (λ t. parts (t ∷ drop (i + 1) xs)) (sym is) ∙ split x (drop (i + 1) xs)) ∙ any_false (own x) (parts (drop (i + 1) xs)) e

pub makes_here : {X : Type 0} (parts : List X → List Fo.Piece) (own : X → List Fo.Piece) (split : (x : X) (xs : List X) → parts (x ∷ xs) ≡ own x ++ parts xs) (xs : List X) (i : ℕ) (x : X) →
    i < length xs → x ≡ get_or xs i x → list_any Fo.piece_makes (own x) ≡ true → list_any Fo.piece_makes (parts (drop i xs)) ≡ true
makes_here parts own split xs i x l is e =
    ap (list_any Fo.piece_makes) (at_drop_more parts xs i x l ∙ ap (λ t. parts (t ∷ drop (i + 1) xs)) (sym is) ∙ split x (drop (i + 1) xs)) ∙ any_true (own x) (parts (drop (i + 1) xs)) e

pub makes_done : {X : Type 0} (parts : List X → List Fo.Piece) (none : parts [] ≡ []) (xs : List X) (i : ℕ) → length xs ≤ i → list_any Fo.piece_makes (parts (drop i xs)) ≡ false
makes_done parts none xs i l = ap (list_any Fo.piece_makes) (at_drop_all parts xs i l ∙ none)

-- ---- pieces but for calls

without_append : (xs ys : List Fo.Piece) → without_calls (xs ++ ys) ≡ without_calls xs ++ without_calls ys
without_append [] ys = refl
without_append (Fo.Piece.Reads r ∷ xs) ys = ap (λ t. Fo.Piece.Reads r ∷ t) (without_append xs ys)
without_append (Fo.Piece.Spills a ∷ xs) ys = ap (λ t. Fo.Piece.Spills a ∷ t) (without_append xs ys)
without_append (Fo.Piece.Calls f ∷ xs) ys = without_append xs ys

-- of two parts in a row
pub pieces_then : (a b c : List Piece) (xs ys : List Fo.Piece) → piece_trees b ≡ piece_trees a ++ without_calls xs → piece_trees c ≡ piece_trees b ++ without_calls ys → piece_trees c ≡ piece_trees a ++ without_calls (xs ++ ys)
pieces_then a b c xs ys e d = d ∙ ap (λ t. t ++ without_calls ys) e ∙ append_assoc (piece_trees a) (without_calls xs) (without_calls ys) ∙ ap (λ t. piece_trees a ++ t) (sym (without_append xs ys))

pub pieces_none : (a : List Piece) → piece_trees a ≡ piece_trees a ++ []
pieces_none a = sym (append-nil (piece_trees a))

pub trees_push : (a : List Piece) (p : Piece) → piece_trees (a ++ p ∷ []) ≡ piece_trees a ++ piece_tree p ∷ []
trees_push a p = map-append piece_tree a (p ∷ [])

pub pieces_next : {X : Type 0} (parts : List X → List Fo.Piece) (own : X → List Fo.Piece) (split : (x : X) (xs : List X) → parts (x ∷ xs) ≡ own x ++ parts xs) (xs : List X) (i : ℕ) (x : X) (a b : List Piece) →
    i < length xs → x ≡ get_or xs i x → piece_trees b ≡ piece_trees a ++ without_calls (own x) →
    piece_trees b ++ without_calls (parts (drop (i + 1) xs)) ≡ piece_trees a ++ without_calls (parts (drop i xs))
pieces_next parts own split xs i x a b l is e =
    ap (λ t. t ++ without_calls (parts (drop (i + 1) xs))) e ∙ append_assoc (piece_trees a) (without_calls (own x)) (without_calls (parts (drop (i + 1) xs)))
    ∙ ap (λ t. piece_trees a ++ t) (sym (without_append (own x) (parts (drop (i + 1) xs))) ∙ ap without_calls (sym (at_drop_more parts xs i x l ∙ ap (λ t. parts (t ∷ drop (i + 1) xs)) (sym is) ∙ split x (drop (i + 1) xs))))

pub pieces_done : {X : Type 0} (parts : List X → List Fo.Piece) (none : parts [] ≡ []) (xs : List X) (i : ℕ) (a : List Piece) → length xs ≤ i → piece_trees a ++ without_calls (parts (drop i xs)) ≡ piece_trees a
pieces_done parts none xs i a l = ap (λ t. piece_trees a ++ without_calls t) (at_drop_all parts xs i l ∙ none) ∙ append-nil (piece_trees a)

pub split_arguments : (x : Formula) (xs : List Formula) → Fo.all_pieces (argument_trees (x ∷ xs)) ≡ Fo.pieces (formula_tree x) ++ Fo.all_pieces (argument_trees xs)
split_arguments x xs = refl

pub split_operands : (x : Op × Formula) (xs : List (Op × Formula)) → Fo.operand_pieces (operand_trees (x ∷ xs)) ≡ Fo.pieces (formula_tree x.1) ++ Fo.operand_pieces (operand_trees xs)
split_operands x xs = refl
