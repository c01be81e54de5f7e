-- The forms of the language that those of the code stand for, over the text that they were read from.
use Rattle.std.specs.Prelude.{List, [], ◌∷◌, map, slice_range}
use Rattle.std.specs.Rc.{rc_str_bytes}
use Rattle.gl_calculus.specs.Formulas.Formula as F
use Rattle.gl_language.specs.Texts.Text.{Bytes}
use Rattle.gl_language.specs.Reading.Grammar.{RawOperands, no_operand, operand_and, Raws, no_raw, raw_and}
use Rattle.gl_language.specs.Reading.Grammar as G
use Rattle.gl_lex.specs.View.{number}
use Rattle.gl_ast.specs.declared.Op.{Op}
use Rattle.gl_ast.specs.View.{level_tree, op_tree}
use Rattle.gl_parse.specs.declared.raw.Span.{Span}
use Rattle.gl_parse.specs.declared.raw.Raw.{Raw}
use Rattle.gl_parse.specs.declared.raw.Raw.TheOpen.{Raw-F}
use Rattle.gl_parse.specs.declared.raw.Raw.TheFolds.{fold-Raw}

-- these operands, and then those
abbrev pub onto : List (F.Op × G.Raw) → RawOperands → RawOperands
onto [] more = more
onto (p ∷ ps) more = operand_and p.0 p.1 (onto ps more)

abbrev pub links : List (F.Op × G.Raw) → RawOperands
links ps = onto ps no_operand

-- these arguments, and then those
abbrev pub before : List G.Raw → Raws → Raws
before [] more = more
before (f ∷ fs) more = raw_and f (before fs more)

abbrev pub raws_of : List G.Raw → Raws
raws_of fs = before fs no_raw

-- the letters of a span
abbrev pub letters : Bytes → Span → Bytes
letters text s = slice_range text s.start s.end

-- one level, with each form inside already seen as the language's
abbrev pub layer : Bytes → Raw-F G.Raw → G.Raw
layer text (Raw-F.Number n) = G.Raw.Number (number n)
layer text (Raw-F.Text t) = G.Raw.Text (rc_str_bytes t)
layer text (Raw-F.Bool b) = G.Raw.Boolean b
layer text (Raw-F.At a) = G.Raw.At a
layer text (Raw-F.Spill a) = G.Raw.Spill a
layer text (Raw-F.Corners a b) = G.Raw.Corners a b
layer text (Raw-F.Var name) = G.Raw.Var (letters text name)
layer text (Raw-F.Neg f) = G.Raw.Neg f.value
layer text (Raw-F.Chain l f rest) = G.Raw.Chain (level_tree l) f.value (links (map (λ p. (op_tree p.0, p.1)) rest.items))
layer text (Raw-F.Compare o f g) = G.Raw.Compare (op_tree o) f.value g.value
layer text (Raw-F.Let name f body) = G.Raw.Let (letters text name) f.value body.value
layer text (Raw-F.Apply word xs) = G.Raw.Apply (letters text word) (raws_of xs.items)

unfoldable pub raw_tree : Bytes → Raw → G.Raw
raw_tree text = fold-Raw G.Raw (layer text)

abbrev pub pairs : Bytes → List (Op × Raw) → List (F.Op × G.Raw)
pairs text ps = map (λ (p : Op × Raw). (op_tree p.0, raw_tree text p.1)) ps

abbrev pub plains : Bytes → List Raw → List G.Raw
plains text fs = map (raw_tree text) fs
