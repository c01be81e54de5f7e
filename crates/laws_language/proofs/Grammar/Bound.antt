-- The tree of a word and its arguments.
use Rattle.std.proofs.Common.{◌≡◌, Bool, true, false, Option, Some, None, refl}
use Rattle.std.specs.Prelude.{if◌then◌else◌}
use Rattle.gl_calculus.specs.Formulas.Formula.{Fun, Formulas}
use Rattle.gl_calculus.specs.Formulas.Formula as F
use Rattle.gl_language.specs.Texts.Text.{Bytes}
use Rattle.gl_language.specs.Reading.Grammar.{Raw, Raws, no_raw, raw_and, function_of, is_let, call_of, tree, trees}
use Rattle.laws_language.specs.Formulas.{LetBinds, let_or_call}

tree_by : (l : Bool) (word : Bytes) (v : Bytes) (f body : Raw) (xs : Raws) → tree (if l then Raw.Let v f body else Raw.Apply word xs) ≡ (if l then F.Formula.Let v (tree f) (tree body) else call_of (function_of word) (trees xs))
tree_by true word v f body xs = refl
tree_by false word v f body xs = refl

-- a call is no variable
call_first : (o : Option Fun) (ys : Formulas) (word : Bytes) (fs : Formulas) → call_of (function_of word) (F.Formulas.formula_and (call_of o ys) fs) ≡ let_or_call word (F.Formulas.formula_and (call_of o ys) fs)
call_first (Some g) ys word fs = refl
call_first None ys word fs = refl

pub let_binds : LetBinds
let_binds word (raw_and (Raw.Var v) (raw_and f (raw_and body no_raw))) = tree_by (is_let word) word v f body _
let_binds word (raw_and (Raw.Apply w ys) fs) = call_first (function_of w) (trees ys) word (trees fs)
let_binds word xs = refl
