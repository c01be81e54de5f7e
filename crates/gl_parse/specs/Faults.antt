-- What is refused of a form, and what is known of one that was read.
use Rattle.std.specs.Prelude.{◌≡◌, ◌^◌, ◌<◌, ◌≤◌, Bool, IsTrue, List, [], ◌∷◌, length, Some, None, Result, Ok, Err, ⊤}
use Rattle.std.specs.Str.{is_utf8}
use Rattle.gl_calculus.specs.Grid.Limits.{max_text}
use Rattle.gl_calculus.specs.Grid.Grid.{Addr, grid, covers}
use Rattle.gl_language.specs.Texts.Text.{Bytes}
use Rattle.gl_language.specs.Reading.Token.{IsRow, is_lower}
use Rattle.gl_language.specs.Reading.Grammar.{RawOperands, no_operand, operand_and, Raws, no_raw, raw_and, is_bad_range, is_bad_call, form_fault, tree}
use Rattle.gl_language.specs.Reading.Grammar as G
use Rattle.gl_plane.specs.Parts.{is_ordered}
use Rattle.gl_ast.specs.declared.Formula.{Formula}
use Rattle.gl_ast.specs.View.{formula_tree}
use Rattle.gl_parse.specs.declared.fault.ParseFault.{ParseFault}
use Rattle.gl_parse.specs.declared.fault.ParseFault.TheVariants as fault
use Rattle.gl_parse.specs.declared.raw.Span.{Span}
use Rattle.gl_parse.specs.declared.walk.FormFault.{FormFault}
use Rattle.gl_parse.specs.declared.walk.FormFault.TheVariants.{Range, Arity}
use Rattle.gl_parse.specs.Raws.{letters}

-- a form that shows a fault by itself
abbrev pub shows : FormFault → G.Raw → Bool
shows Range f = is_bad_range f
shows Arity f = is_bad_call f

-- the names that are bound, the innermost first
abbrev pub scope_onto : Bytes → List Span → List Bytes → List Bytes
scope_onto text [] more = more
scope_onto text (s ∷ ss) more = scope_onto text ss (letters text s ∷ more)

abbrev pub scope : Bytes → List Span → List Bytes
scope text ss = scope_onto text ss []

-- The numbers, texts, names and addresses of a form are those of tokens, and its corners hold P.
module _ (P : Addr → Addr → Type 0) where
  abbrev mutual
    pub IsSpelled : G.Raw → Type 0
    IsSpelled (G.Raw.Number n) = n < 2 ^ 63
    IsSpelled (G.Raw.Text t) = IsTrue (is_utf8 t) × (length t ≤ max_text)
    IsSpelled (G.Raw.Boolean b) = ⊤
    IsSpelled (G.Raw.At a) = IsTrue (covers grid a)
    IsSpelled (G.Raw.Spill a) = IsTrue (covers grid a)
    IsSpelled (G.Raw.Corners a b) = IsTrue (covers grid a) × IsTrue (covers grid b) × P a b
    IsSpelled (G.Raw.Var v) = IsRow is_lower v
    IsSpelled (G.Raw.Neg f) = IsSpelled f
    IsSpelled (G.Raw.Chain level f rest) = IsSpelled f × AreSpelledOperands rest
    IsSpelled (G.Raw.Compare op f g) = IsSpelled f × IsSpelled g
    IsSpelled (G.Raw.Let v f body) = IsRow is_lower v × IsSpelled f × IsSpelled body
    IsSpelled (G.Raw.Apply word xs) = AreSpelled xs

    pub AreSpelledOperands : RawOperands → Type 0
    AreSpelledOperands no_operand = ⊤
    AreSpelledOperands (operand_and op f rest) = IsSpelled f × AreSpelledOperands rest

    pub AreSpelled : Raws → Type 0
    AreSpelled no_raw = ⊤
    AreSpelled (raw_and f fs) = IsSpelled f × AreSpelled fs

abbrev pub AnyCorners : Addr → Addr → Type 0
AnyCorners a b = ⊤

abbrev pub InOrder : Addr → Addr → Type 0
InOrder a b = IsTrue (is_ordered a b)

-- What is answered for a form of the grammar.
abbrev pub Checked : G.Raw → Result Formula ParseFault → Type 0
Checked f (Ok g) = (form_fault f ≡ None) × (IsSpelled AnyCorners f → formula_tree g ≡ tree f)
Checked f (Err fault.Range) = form_fault f ≡ Some G.ParseFault.Range
Checked f (Err fault.Name) = form_fault f ≡ Some G.ParseFault.Name
Checked f (Err fault.Arity) = form_fault f ≡ Some G.ParseFault.Arity
Checked f (Err fault.NoMemory) = ⊤
Checked f (Err e) = ⊥
