-- Well formed formulas are fit: their texts are those of tokens, and they have no bad range and no bad call.
use Rattle.std.proofs.Common.{◌≡◌, ◌*◌, nat_lt, nat_le, Bool, true, false, ◌&&◌, not, IsTrue, [], ◌∷◌, length, Option, Some, None, refl, sym, subst, ap, suc, ℕ, arith, if◌then◌else◌}
use Rattle.std.specs.List.{AllByRecursion}
use Rattle.std.specs.Option.{option_map_or}
use Rattle.std.specs.Str.{is_utf8}
use Rattle.std.proofs.lemmas.Bool.{and_parts, and_from, or_parts, not-false, leb-true, le-leb, ltb-false}
use Rattle.gl_calculus.specs.Grid.Limits.{max_text, max_cells, max_arguments}
use Rattle.gl_calculus.specs.Grid.Grid.{Addr, range, extents}
use Rattle.gl_calculus.specs.Values.Value as V
use Rattle.gl_calculus.specs.Formulas.Formula.{Level, Fun, Formula, Formulas, Content, Const, Form}
use Rattle.gl_calculus.specs.Formulas.Formula as F
use Rattle.gl_calculus.specs.Evaluation.Sound.{is_size}
use Rattle.gl_language.specs.Texts.Text.{Bytes}
use Rattle.gl_language.specs.Reading.Token.{IsToken, Quoted, quoted}
use Rattle.gl_language.specs.Reading.Grammar as G
use Rattle.gl_language.specs.Reading.Grammar.{Raw, Raws, no_raw, raw_and, RawOperands, Tokens, chained, applied, IsExpr, alone, compare, IsChain, chain, IsLinks, no_link, link, IsOperand, sum, prod, unary, IsUnary, neg, atom, IsAtom, number, text, truth, address, spill, corners, variable, apply, parens, IsArguments, no_argument, argument, IsMore, close, comma, function_of, is_let, call_of, tree, operand_trees, trees, some_form, some_operand, some_argument, is_bad_range, is_bad_call, has_bad_name, raws, between, allows, ParseFault}
use Rattle.gl_language.specs.Reading.Content.{IsProperContent}
use Rattle.gl_calculus.specs.Formulas.Fit.{number_of, takes, is_fit, are_fit, are_fit_operands, is_fit_content}
use Rattle.laws_calculus.specs.Sound.{WellFormedIsFit, ProperIsFit}
use Rattle.laws_calculus.proofs.Sound.Values.{is_size_from}

-- ---- texts

abbrev IsShortText : Bytes → Type 0
IsShortText t = IsTrue (is_utf8 t && nat_le (length t) max_text)

-- each text in the form is UTF-8 and short
abbrev mutual
  HasTexts : Raw → Type 0
  HasTexts (Raw.Text t) = IsShortText t
  HasTexts (Raw.Neg f) = HasTexts f
  HasTexts (Raw.Chain level f rest) = HasTexts f × HaveTexts rest
  HasTexts (Raw.Compare op f g) = HasTexts f × HasTexts g
  HasTexts (Raw.Let v f body) = HasTexts f × HasTexts body
  HasTexts (Raw.Apply word xs) = AllHaveTexts xs
  HasTexts f = Unit {0}

  HaveTexts : RawOperands → Type 0
  HaveTexts G.RawOperands.no_operand = Unit {0}
  HaveTexts (G.RawOperands.operand_and op f rest) = HasTexts f × HaveTexts rest

  AllHaveTexts : Raws → Type 0
  AllHaveTexts no_raw = Unit {0}
  AllHaveTexts (raw_and f fs) = HasTexts f × AllHaveTexts fs

abbrev AreTokens : Tokens → Type 0
AreTokens ts = AllByRecursion IsToken ts

quoted_short : (t : Bytes) → IsToken (Quoted t) → IsShortText t
quoted_short t (bs, quoted d u l) = and_from (is_utf8 t) (nat_le (length t) max_text) u (le-leb (length t) max_text l)

chained_texts : (level : Level) (f : Raw) (rest : RawOperands) → HasTexts f → HaveTexts rest → HasTexts (chained level f rest)
chained_texts level f G.RawOperands.no_operand h k = h
chained_texts level f (G.RawOperands.operand_and op g rest) h k = (h, k)

let_texts : (l : Bool) (word : Bytes) (v : Bytes) (f body : Raw) → AllHaveTexts (raw_and (Raw.Var v) (raw_and f (raw_and body no_raw))) →
    HasTexts (if l then Raw.Let v f body else Raw.Apply word (raw_and (Raw.Var v) (raw_and f (raw_and body no_raw))))
let_texts true word v f body h = (h.1.0, h.1.1.0)
let_texts false word v f body h = h

applied_texts : (word : Bytes) (xs : Raws) → AllHaveTexts xs → HasTexts (applied word xs)
applied_texts word (raw_and (Raw.Var v) (raw_and f (raw_and body no_raw))) h = let_texts (is_let word) word v f body h
applied_texts word xs h = h

-- the texts of a form are those of tokens, and what follows it are tokens
mutual
  expr_texts : {ts us : Tokens} {f : Raw} → IsExpr ts f us → AreTokens ts → HasTexts f × AreTokens us
  expr_texts (alone c) h = chain_texts c h
  expr_texts (compare c e d) h = let p = chain_texts c h in let q = chain_texts d p.1.1 in ((p.0, q.0), q.1)

  chain_texts : {level : Level} {ts us : Tokens} {f : Raw} → IsChain level ts f us → AreTokens ts → HasTexts f × AreTokens us
  chain_texts (chain {level = level} {f = f} {rest = rest} o l) h = let p = operand_texts o h in let q = links_texts l p.1 in (chained_texts level f rest p.0 q.0, q.1)

  links_texts : {level : Level} {ts us : Tokens} {rest : RawOperands} → IsLinks level ts rest us → AreTokens ts → HaveTexts rest × AreTokens us
  links_texts no_link h = (tt, h)
  links_texts (link e o l) h = let p = operand_texts o h.1 in let q = links_texts l p.1 in ((p.0, q.0), q.1)

  operand_texts : {level : Level} {ts us : Tokens} {f : Raw} → IsOperand level ts f us → AreTokens ts → HasTexts f × AreTokens us
  operand_texts (sum c) h = chain_texts c h
  operand_texts (prod c) h = chain_texts c h
  operand_texts (unary u) h = unary_texts u h

  unary_texts : {ts us : Tokens} {f : Raw} → IsUnary ts f us → AreTokens ts → HasTexts f × AreTokens us
  unary_texts (neg u) h = unary_texts u h.1
  unary_texts (atom a) h = atom_texts a h

  atom_texts : {ts us : Tokens} {f : Raw} → IsAtom ts f us → AreTokens ts → HasTexts f × AreTokens us
  atom_texts number h = (tt, h.1)
  atom_texts (text {t = t}) h = (quoted_short t h.0, h.1)
  atom_texts truth h = (tt, h.1)
  atom_texts address h = (tt, h.1)
  atom_texts spill h = (tt, h.1.1)
  atom_texts corners h = (tt, h.1.1.1)
  atom_texts variable h = (tt, h.1)
  atom_texts (apply {word = word} {xs = xs} a) h = let p = arguments_texts a h.1.1 in (applied_texts word xs p.0, p.1)
  atom_texts (parens e) h = let p = expr_texts e h.1 in (p.0, p.1.1)

  arguments_texts : {ts us : Tokens} {xs : Raws} → IsArguments ts xs us → AreTokens ts → AllHaveTexts xs × AreTokens us
  arguments_texts no_argument h = (tt, h.1)
  arguments_texts (argument e m) h = let p = expr_texts e h in let q = more_texts m p.1 in ((p.0, q.0), q.1)

  more_texts : {ts us : Tokens} {xs : Raws} → IsMore ts xs us → AreTokens ts → AllHaveTexts xs × AreTokens us
  more_texts close h = (tt, h.1)
  more_texts (comma e m) h = let p = expr_texts e h.1 in let q = more_texts m p.1 in ((p.0, q.0), q.1)

-- ---- ranges

corners_fit : (a b : Addr) → is_bad_range (Raw.Corners a b) ≡ false → IsTrue (is_size (extents (range a b)))
corners_fit a b h =
    let z = extents (range a b) in
    let p = or_parts (not (nat_le a.col b.col && nat_le a.row b.row)) (nat_lt max_cells (z.rows * z.cols)) h in
    let q = and_parts (nat_le a.col b.col) (nat_le a.row b.row) (not-false (nat_le a.col b.col && nat_le a.row b.row) p.0) in
    is_size_from (extents (range a b))
    (record { rows = omega (arith, leb-true a.row b.row q.1); cols = omega (arith, leb-true a.col b.col q.0); small = ltb-false max_cells (z.rows * z.cols) p.1 })

-- ---- calls

same_number : (xs : Raws) → number_of (trees xs) ≡ length (raws xs)
same_number no_raw = refl
same_number (raw_and x xs) = ap suc (same_number xs)

-- those of a function of any number of arguments
few : (m : ℕ) (xs : Raws) → between m max_arguments (raws xs) ≡ true → nat_le (number_of (trees xs)) max_arguments ≡ true
few m xs h =
    subst (λ n. nat_le n max_arguments ≡ true) (sym (same_number xs))
    (and_parts (nat_le m (length (raws xs))) (nat_le (length (raws xs)) max_arguments) h).1

takes_from : (f : Fun) (xs : Raws) → allows f (raws xs) ≡ true → IsTrue (takes f (trees xs))
takes_from F.Fun.HStack no_raw h = absurd (cc h)
takes_from F.Fun.HStack (raw_and x xs) h = few 2 (raw_and x xs) h
takes_from F.Fun.VStack no_raw h = absurd (cc h)
takes_from F.Fun.VStack (raw_and x xs) h = few 2 (raw_and x xs) h
takes_from F.Fun.Sum xs h = few 1 xs h
takes_from F.Fun.Count xs h = few 1 xs h
takes_from F.Fun.Min xs h = few 1 xs h
takes_from F.Fun.Max xs h = few 1 xs h
takes_from F.Fun.And xs h = few 1 xs h
takes_from F.Fun.Or xs h = few 1 xs h
takes_from f xs h = refl

call_fit : (o : Option Fun) (xs : Raws) → option_map_or (λ f. allows f (raws xs)) o false ≡ true → IsTrue (are_fit (trees xs)) → IsTrue (is_fit (call_of o (trees xs)))
call_fit (Some f) xs h k = and_from (takes f (trees xs)) (are_fit (trees xs)) (takes_from f xs h) k
call_fit None xs h k = absurd (cc h)

-- ---- trees

mutual
  tree_fit : (f : Raw) → HasTexts f → some_form is_bad_range f ≡ false → some_form is_bad_call f ≡ false → IsTrue (is_fit (tree f))
  tree_fit (Raw.Number n) t r c = refl
  tree_fit (Raw.Text s) t r c = t
  tree_fit (Raw.Boolean b) t r c = refl
  tree_fit (Raw.At a) t r c = refl
  tree_fit (Raw.Spill a) t r c = refl
  tree_fit (Raw.Corners a b) t r c = corners_fit a b r
  tree_fit (Raw.Var v) t r c = refl
  tree_fit (Raw.Neg f) t r c = tree_fit f t r c
  tree_fit (Raw.Chain level f rest) t r c =
      let p = or_parts (some_form is_bad_range f) (some_operand is_bad_range rest) r in
      let q = or_parts (some_form is_bad_call f) (some_operand is_bad_call rest) c in
      and_from (is_fit (tree f)) (are_fit_operands (operand_trees rest)) (tree_fit f t.0 p.0 q.0) (operands_fit rest t.1 p.1 q.1)
  tree_fit (Raw.Compare op f g) t r c =
      let p = or_parts (some_form is_bad_range f) (some_form is_bad_range g) r in
      let q = or_parts (some_form is_bad_call f) (some_form is_bad_call g) c in
      and_from (is_fit (tree f)) (is_fit (tree g)) (tree_fit f t.0 p.0 q.0) (tree_fit g t.1 p.1 q.1)
  tree_fit (Raw.Let v f body) t r c =
      let p = or_parts (some_form is_bad_range f) (some_form is_bad_range body) r in
      let q = or_parts (some_form is_bad_call f) (some_form is_bad_call body) c in
      and_from (is_fit (tree f)) (is_fit (tree body)) (tree_fit f t.0 p.0 q.0) (tree_fit body t.1 p.1 q.1)
  tree_fit (Raw.Apply word xs) t r c =
      let fits = option_map_or (λ f. allows f (raws xs)) (function_of word) false in
      let q = or_parts (not fits) (some_argument is_bad_call xs) c in
      call_fit (function_of word) xs (not-false fits q.0) (arguments_fit xs t r q.1)

  operands_fit : (rest : RawOperands) → HaveTexts rest → some_operand is_bad_range rest ≡ false → some_operand is_bad_call rest ≡ false → IsTrue (are_fit_operands (operand_trees rest))
  operands_fit G.RawOperands.no_operand t r c = refl
  operands_fit (G.RawOperands.operand_and op f rest) t r c =
      let p = or_parts (some_form is_bad_range f) (some_operand is_bad_range rest) r in
      let q = or_parts (some_form is_bad_call f) (some_operand is_bad_call rest) c in
      and_from (is_fit (tree f)) (are_fit_operands (operand_trees rest)) (tree_fit f t.0 p.0 q.0) (operands_fit rest t.1 p.1 q.1)

  arguments_fit : (xs : Raws) → AllHaveTexts xs → some_argument is_bad_range xs ≡ false → some_argument is_bad_call xs ≡ false → IsTrue (are_fit (trees xs))
  arguments_fit no_raw t r c = refl
  arguments_fit (raw_and f fs) t r c =
      let p = or_parts (some_form is_bad_range f) (some_argument is_bad_range fs) r in
      let q = or_parts (some_form is_bad_call f) (some_argument is_bad_call fs) c in
      and_from (is_fit (tree f)) (are_fit (trees fs)) (tree_fit f t.0 p.0 q.0) (arguments_fit fs t.1 p.1 q.1)

-- ---- the laws

no_faults : (r n c : Bool) → (if r then Some ParseFault.Range else if n then Some ParseFault.Name else if c then Some ParseFault.Arity else None) ≡ None → (r ≡ false) × (c ≡ false)
no_faults true n c e = absurd (cc e)
no_faults false true c e = absurd (cc e)
no_faults false false true e = absurd (cc e)
no_faults false false false e = (refl, refl)

pub well_formed_is_fit : WellFormedIsFit
well_formed_is_fit f (ts, raw, tokens, deep, form, no_fault, is_tree) =
    let p = no_faults (some_form is_bad_range raw) (has_bad_name [] raw) (some_form is_bad_call raw) no_fault in
    subst (λ g. IsTrue (is_fit g)) (sym is_tree) (tree_fit raw (expr_texts form tokens).0 p.0 p.1)

content_fit : (c : Content) → IsProperContent c → IsTrue (is_fit_content c)
content_fit (Const (V.Scalar.Int n)) h = refl
content_fit (Const (V.Scalar.Bool b)) h = refl
content_fit (Const (V.Scalar.Text t)) h = h
content_fit (Const V.Scalar.Blank) h = absurd h
content_fit (Const (V.Scalar.Err k)) h = absurd h
content_fit (Const (V.Scalar.Sheet s)) h = absurd h
content_fit (Form f) h = well_formed_is_fit f h

pub proper_is_fit : ProperIsFit
proper_is_fit [] h = tt
proper_is_fit (c ∷ cs) h = (content_fit c.1 h.0, proper_is_fit cs h.1)
