-- The laws of well formed formulas.
use Rattle.std.specs.Prelude.{◌≤◌, length}
use Rattle.gl_calculus.specs.Grid.Limits.{max_formula}
use Rattle.gl_calculus.specs.Formulas.Formula.{Formula}
use Rattle.gl_language.specs.Texts.Text.{formula_text}
use Rattle.gl_language.specs.Texts.Canonical.{HasTokens}
use Rattle.gl_language.specs.Reading.Grammar.{Parses, IsWellFormed}

-- The numbers, texts, names and addresses of a well formed formula are those of tokens.
abbrev pub WellFormedHasTokens : Type 0
WellFormedHasTokens = (f : Formula) → IsWellFormed f → HasTokens f

-- A well formed formula whose canonical text is short enough is what this text is read as.
abbrev pub WellFormedParses : Type 0
WellFormedParses = (f : Formula) → IsWellFormed f → length (formula_text f) ≤ max_formula → Parses (formula_text f) f
