-- The contents that a sheet may hold.
use Rattle.std.specs.Prelude.{nat_le, length, ◌&&◌, IsTrue}
use Rattle.std.specs.Str.{is_utf8}
use Rattle.gl_calculus.specs.Grid.Limits.{max_text}
use Rattle.gl_calculus.specs.Values.Value as V
use Rattle.gl_calculus.specs.Formulas.Formula.{Content, Const, Form}
use Rattle.gl_language.specs.Reading.Grammar.{IsWellFormed}

-- a constant that is no blank, error or sheet value, or a well formed formula
abbrev pub IsProperContent : Content → Type 0
IsProperContent (Const (V.Scalar.Int n)) = Unit {0}
IsProperContent (Const (V.Scalar.Bool b)) = Unit {0}
IsProperContent (Const (V.Scalar.Text t)) = IsTrue (is_utf8 t && nat_le (length t) max_text)
IsProperContent (Const x) = ⊥
IsProperContent (Form f) = IsWellFormed f
