-- What holds of the reading of formulas. Each is proved as the contract of a function: in gl_lex of tokens, in laws_language of formulas.
use Rattle.std.specs.Prelude.{◌≡◌, ◌≤◌, length, if◌then◌else◌}
use Rattle.gl_calculus.specs.Formulas.Formula.{Formula, Formulas}
use Rattle.gl_calculus.specs.Formulas.Formula as F
use Rattle.gl_language.specs.Texts.Text.{Bytes, formula_text}
use Rattle.gl_language.specs.Reading.Grammar.{Raws, applied, is_let, function_of, call_of, tree, trees}
use Rattle.gl_language.specs.Reading.Grammar.{Parses, ParseFault, IsParseFault, IsWellFormed}

-- A text is at most one formula, or has one first fault, and not both.
abbrev pub OneFormula : Type 0
OneFormula = (text : Bytes) (f g : Formula) → Parses text f → Parses text g → f ≡ g

abbrev pub OneFault : Type 0
OneFault = (text : Bytes) (x y : ParseFault) → IsParseFault text x → IsParseFault text y → x ≡ y

abbrev pub FormulaOrFault : Type 0
FormulaOrFault = (text : Bytes) (f : Formula) (x : ParseFault) → Parses text f → IsParseFault text x → ⊥

-- The canonical text of a formula that was read is read as this formula again, and is no longer than the text that it was read from.
abbrev pub PrintsBack : Type 0
PrintsBack = (text : Bytes) (f : Formula) → Parses text f → Parses (formula_text f) f × (length (formula_text f) ≤ length text)

-- What is read is well formed.
abbrev pub ReadsWellFormed : Type 0
ReadsWellFormed = (text : Bytes) (f : Formula) → Parses text f → IsWellFormed f

-- the formula of a word and the formulas of its arguments
abbrev pub let_or_call : Bytes → Formulas → Formula
let_or_call word (F.Formulas.formula_and (F.Formula.Var v) (F.Formulas.formula_and f
    (F.Formulas.formula_and body F.Formulas.no_formula))) =
    if is_let word then F.Formula.Let v f body
    else call_of (function_of word) (F.Formulas.formula_and (F.Formula.Var v)
    (F.Formulas.formula_and f (F.Formulas.formula_and body F.Formulas.no_formula)))
let_or_call word xs = call_of (function_of word) xs

-- The tree of a word and its arguments is told by the trees of these: LET of a variable and two more
-- binds the variable, and all else is a call.
abbrev pub LetBinds : Type 0
LetBinds = (word : Bytes) (xs : Raws) → tree (applied word xs) ≡ let_or_call word (trees xs)
