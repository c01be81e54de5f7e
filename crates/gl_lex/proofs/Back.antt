-- The canonical text of a formula has its canonical tokens.
use Rattle.std.proofs.Common.{◌≡◌, ◌≢◌, ℕ, ◌+◌, ◌*◌, ◌/◌, ◌%◌, ◌^◌, ◌<◌, ◌≤◌, pos, negsuc, Bool, true, false, ◌||◌, ◌==◌, inl, inr, [], ◌∷◌, ◌++◌, length, refl, ap, sym, subst, ◌∙◌, arith, IsTrue, append_assoc}
use Rattle.std.specs.Prelude.{codes, flat_map}
use Rattle.std.specs.Fmt.{decimal}
use Rattle.std.specs.Str.{is_utf8}
use Rattle.std.specs.List.{join_with_byte}
use Rattle.std.proofs.lemmas.Bool.Decides.{nat_tests}
use Rattle.std.proofs.lemmas.List.{append-nil}
use Rattle.gl_calculus.specs.Grid.Grid.{Addr, grid, covers}
use Rattle.gl_calculus.specs.Grid.Notation.{address_text}
use Rattle.gl_calculus.specs.Formulas.Formula.{Op, Fun, Formula, Formulas, Operands}
use Rattle.gl_calculus.specs.Formulas.Formula as F
use Rattle.gl_language.specs.Texts.Text.{Bytes, escaped, is_control, hex_digit, literal_text, truth_text, op_text, fun_text, level_place, one_more, minus_of, in_parens, needs_parens, text_behind, operands_text, texts, formula_text}
use Rattle.gl_language.specs.Reading.Token as T
use Rattle.gl_language.specs.Reading.Token.{is_digit, is_upper, is_lower, IsRow, NotBefore, Decodes, Spells, EndsBefore, Lexes, no_more, token, integer, quoted, address, truth, word, variable, signed}
use Rattle.gl_language.specs.Texts.Canonical.{in_place, Tokens, op_sign, tokens_in_place, tokens_behind, operands_tokens, arguments_tokens, more_tokens, HasTokens, HaveTokens, AllHaveTokens}
use Rattle.gl_lex.specs.Laws.{CanonicalIsLexed}
use Rattle.gl_lex.proofs.Starts.{starts, spells_begins}
use Rattle.gl_lex.proofs.Letters.{decimal_row, not_same}

-- ---- literals

decodes_byte : (b : ℕ) (s t : Bytes) → Decodes s t → b < 128 → is_control b ≡ true → Decodes (92 ∷ 120 ∷ hex_digit (b / 16) ∷ hex_digit (b % 16) ∷ s) (b ∷ t)
decodes_byte b s t d small c =
    let e : 16 * (b / 16) + b % 16 ≡ b = omega arith in
    subst (λ z. Decodes (92 ∷ 120 ∷ hex_digit (b / 16) ∷ hex_digit (b % 16) ∷ s) (z ∷ t)) e
    (T.hex (omega (arith, small), inl refl) (omega arith, inl refl) (omega (arith, small)) d)

escape_by : (b : ℕ) (s t : Bytes) (u v w x y z : Bool) → (b == 92) ≡ u → (b == 34) ≡ v → (b == 10) ≡ w → (b == 13) ≡ x → (b == 9) ≡ y → is_control b ≡ z → Decodes s t → Decodes (escaped b ++ s) (b ∷ t)
escape_by b s t true v w x y z p q r i j k d = let e : b ≡ 92 = grind (arith, nat_tests, p) in rw e (T.itself (inl refl) d)
escape_by b s t false true w x y z p q r i j k d = let e : b ≡ 34 = grind (arith, nat_tests, q) in rw e (T.itself (inr refl) d)
escape_by b s t false false true x y z p q r i j k d = let e : b ≡ 10 = grind (arith, nat_tests, r) in rw e (T.newline d)
escape_by b s t false false false true y z p q r i j k d = let e : b ≡ 13 = grind (arith, nat_tests, i) in rw e (T.return d)
escape_by b s t false false false false true z p q r i j k d = let e : b ≡ 9 = grind (arith, nat_tests, j) in rw e (T.tab d)
escape_by b s t false false false false false true p q r i j k d = rw (p, q, r, i, j, k) (decodes_byte b s t d (grind (arith, nat_tests, k)) k)
escape_by b s t false false false false false false p q r i j k d =
    let e : escaped b ≡ b ∷ [] = grind (arith, nat_tests, p, q, r, i, j, k) in
    let m : b ≢ 92 = λ e. grind (arith, nat_tests, p, e) in
    let n : b ≢ 34 = λ e. grind (arith, nat_tests, q, e) in
    subst (λ z. Decodes (z ++ s) (b ∷ t)) (sym e) (T.plain m n k d)

decodes_all : (t : Bytes) → Decodes (flat_map escaped t) t
decodes_all [] = T.end
decodes_all (b ∷ t) = escape_by b (flat_map escaped t) t (b == 92) (b == 34) (b == 10) (b == 13) (b == 9) (is_control b) refl refl refl refl refl refl (decodes_all t)

-- ---- what may follow

abbrev Apart : Bytes → Type 0
Apart rest = NotBefore (λ b. is_digit b || is_upper b || is_lower b) rest

-- behind a sign: nothing that makes it longer
abbrev Opens : Bytes → Type 0
Opens rest = NotBefore (λ b. (b == 61) || (b == 62)) rest

no_digit : (rest : Bytes) → Apart rest → NotBefore is_digit rest
no_digit [] a = tt
no_digit (b ∷ bs) a = grind (arith, nat_tests, a)

no_lower : (rest : Bytes) → Apart rest → NotBefore is_lower rest
no_lower [] a = tt
no_lower (b ∷ bs) a = grind (arith, nat_tests, a)

no_upper_digit : (rest : Bytes) → Apart rest → NotBefore (λ b. is_upper b || is_digit b) rest
no_upper_digit [] a = tt
no_upper_digit (b ∷ bs) a = grind (arith, nat_tests, a)

no_equal : (rest : Bytes) → Opens rest → NotBefore (λ b. b == 61) rest
no_equal [] a = tt
no_equal (b ∷ bs) a = grind (arith, nat_tests, a)

-- ---- texts with their tokens, whatever follows

abbrev Back : Bytes → Tokens → Type 0
Back x ts = (rest : Bytes) (us : Tokens) → Apart rest → Lexes rest us → Lexes (x ++ rest) (ts ++ us)

-- one token
one : (t : T.Token) (x : Bytes) → Spells t x → ((rest : Bytes) → Apart rest → EndsBefore t rest) → Back x (t ∷ [])
one t x s ends rest us a r = token (x, refl, s, ends rest a) r

sign_ends : (s : T.Sign) (rest : Bytes) → Opens rest → EndsBefore (T.Signed s) rest
sign_ends (T.Sign.Operator F.Op.Lt) rest o = o
sign_ends (T.Sign.Operator F.Op.Gt) rest o = no_equal rest o
sign_ends (T.Sign.Operator F.Op.Eq) rest o = tt
sign_ends (T.Sign.Operator F.Op.Ne) rest o = tt
sign_ends (T.Sign.Operator F.Op.Le) rest o = tt
sign_ends (T.Sign.Operator F.Op.Ge) rest o = tt
sign_ends (T.Sign.Operator F.Op.Join) rest o = tt
sign_ends (T.Sign.Operator F.Op.Add) rest o = tt
sign_ends (T.Sign.Operator F.Op.Sub) rest o = tt
sign_ends (T.Sign.Operator F.Op.Mul) rest o = tt
sign_ends (T.Sign.Operator F.Op.Div) rest o = tt
sign_ends T.Sign.Hash rest o = tt
sign_ends T.Sign.LeftParen rest o = tt
sign_ends T.Sign.RightParen rest o = tt
sign_ends T.Sign.Comma rest o = tt
sign_ends T.Sign.Colon rest o = tt

sign_apart : (s : T.Sign) (rest : Bytes) → Apart (T.sign_text s ++ rest)
sign_apart (T.Sign.Operator F.Op.Eq) rest = refl
sign_apart (T.Sign.Operator F.Op.Ne) rest = refl
sign_apart (T.Sign.Operator F.Op.Lt) rest = refl
sign_apart (T.Sign.Operator F.Op.Le) rest = refl
sign_apart (T.Sign.Operator F.Op.Gt) rest = refl
sign_apart (T.Sign.Operator F.Op.Ge) rest = refl
sign_apart (T.Sign.Operator F.Op.Join) rest = refl
sign_apart (T.Sign.Operator F.Op.Add) rest = refl
sign_apart (T.Sign.Operator F.Op.Sub) rest = refl
sign_apart (T.Sign.Operator F.Op.Mul) rest = refl
sign_apart (T.Sign.Operator F.Op.Div) rest = refl
sign_apart T.Sign.Hash rest = refl
sign_apart T.Sign.LeftParen rest = refl
sign_apart T.Sign.RightParen rest = refl
sign_apart T.Sign.Comma rest = refl
sign_apart T.Sign.Colon rest = refl

-- a sign and what stands behind it
sign_then : (s : T.Sign) (y : Bytes) (us : Tokens) → ((rest : Bytes) → Opens (y ++ rest)) → Back y us → Back (T.sign_text s ++ y) (T.Signed s ∷ us)
sign_then s y us o by rest vs a r = token (T.sign_text s, append_assoc (T.sign_text s) y rest, signed, sign_ends s (y ++ rest) (o rest)) (by rest vs a r)

-- a sign that nothing makes longer
abbrev IsShut : T.Sign → Type 0
IsShut s = (rest : Bytes) → EndsBefore (T.Signed s) rest

shut_then : (s : T.Sign) (y : Bytes) (us : Tokens) → IsShut s → Back y us → Back (T.sign_text s ++ y) (T.Signed s ∷ us)
shut_then s y us o by rest vs a r = token (T.sign_text s, append_assoc (T.sign_text s) y rest, signed, o (y ++ rest)) (by rest vs a r)

nothing : Back [] []
nothing rest us a r = r

-- one text behind another, which begins with a sign
sign_next : (x : Bytes) (ts : Tokens) (s : T.Sign) (y : Bytes) (us : Tokens) → Back x ts → Back (T.sign_text s ++ y) us → Back (x ++ (T.sign_text s ++ y)) (ts ++ us)
sign_next x ts s y us bx by rest vs a r =
    let inner : Lexes ((T.sign_text s ++ y) ++ rest) (us ++ vs) = by rest vs a r in
    let apart : Apart ((T.sign_text s ++ y) ++ rest) = subst Apart (sym (append_assoc (T.sign_text s) y rest)) (sign_apart s (y ++ rest)) in
    let whole : Lexes (x ++ ((T.sign_text s ++ y) ++ rest)) (ts ++ (us ++ vs)) = bx ((T.sign_text s ++ y) ++ rest) (us ++ vs) apart inner in
    subst (λ z. Lexes z ((ts ++ us) ++ vs)) (sym (append_assoc x (T.sign_text s ++ y) rest)) (subst (λ z. Lexes (x ++ ((T.sign_text s ++ y) ++ rest)) z) (sym (append_assoc ts us vs)) whole)

-- ---- atoms

back_integer : (n : ℕ) → n < 2 ^ 63 → Back (decimal n) (T.Integer n ∷ [])
back_integer n h =
    let (row, is) = decimal_row n (omega (arith, h)) in
    one (T.Integer n) (decimal n) (subst (λ z. Spells (T.Integer z) (decimal n)) is (integer row (omega (arith, h, is)))) (λ rest a. no_digit rest a)

back_text : (t : Bytes) → IsTrue (is_utf8 t) → length t ≤ 4096 → Back (literal_text t) (T.Quoted t ∷ [])
back_text t u l = one (T.Quoted t) (literal_text t) (quoted (decodes_all t) u l) (λ rest a. tt)

back_truth : (b : Bool) → Back (truth_text b) (T.Truth b ∷ [])
back_truth b = one (T.Truth b) (truth_text b) truth (λ rest a. no_upper_digit rest a)

back_address : (a : Addr) → IsTrue (covers grid a) → Back (address_text a) (T.Address a ∷ [])
back_address a on = one (T.Address a) (address_text a) (address on) (λ rest p. no_digit rest p)

back_variable : (v : Bytes) → IsRow is_lower v → Back v (T.Variable v ∷ [])
back_variable v row = one (T.Variable v) v (variable row) (λ rest p. no_lower rest p)

word_spells : (g : Fun) → Spells (T.Word (fun_text g)) (fun_text g)
word_spells F.Fun.Sum = word (omega arith, (refl, (refl, (refl, tt)))) (not_same (fun_text F.Fun.Sum) (truth_text true) refl) (not_same (fun_text F.Fun.Sum) (truth_text false) refl)
word_spells F.Fun.Count = word (omega arith, (refl, (refl, (refl, (refl, (refl, tt)))))) (not_same (fun_text F.Fun.Count) (truth_text true) refl) (not_same (fun_text F.Fun.Count) (truth_text false) refl)
word_spells F.Fun.Min = word (omega arith, (refl, (refl, (refl, tt)))) (not_same (fun_text F.Fun.Min) (truth_text true) refl) (not_same (fun_text F.Fun.Min) (truth_text false) refl)
word_spells F.Fun.Max = word (omega arith, (refl, (refl, (refl, tt)))) (not_same (fun_text F.Fun.Max) (truth_text true) refl) (not_same (fun_text F.Fun.Max) (truth_text false) refl)
word_spells F.Fun.And = word (omega arith, (refl, (refl, (refl, tt)))) (not_same (fun_text F.Fun.And) (truth_text true) refl) (not_same (fun_text F.Fun.And) (truth_text false) refl)
word_spells F.Fun.Or = word (omega arith, (refl, (refl, tt))) (not_same (fun_text F.Fun.Or) (truth_text true) refl) (not_same (fun_text F.Fun.Or) (truth_text false) refl)
word_spells F.Fun.Not = word (omega arith, (refl, (refl, (refl, tt)))) (not_same (fun_text F.Fun.Not) (truth_text true) refl) (not_same (fun_text F.Fun.Not) (truth_text false) refl)
word_spells F.Fun.If = word (omega arith, (refl, (refl, tt))) (not_same (fun_text F.Fun.If) (truth_text true) refl) (not_same (fun_text F.Fun.If) (truth_text false) refl)
word_spells F.Fun.IfError = word (omega arith, (refl, (refl, (refl, (refl, (refl, (refl, (refl, tt)))))))) (not_same (fun_text F.Fun.IfError) (truth_text true) refl) (not_same (fun_text F.Fun.IfError) (truth_text false) refl)
word_spells F.Fun.IsError = word (omega arith, (refl, (refl, (refl, (refl, (refl, (refl, (refl, tt)))))))) (not_same (fun_text F.Fun.IsError) (truth_text true) refl) (not_same (fun_text F.Fun.IsError) (truth_text false) refl)
word_spells F.Fun.IsBlank = word (omega arith, (refl, (refl, (refl, (refl, (refl, (refl, (refl, tt)))))))) (not_same (fun_text F.Fun.IsBlank) (truth_text true) refl) (not_same (fun_text F.Fun.IsBlank) (truth_text false) refl)
word_spells F.Fun.Abs = word (omega arith, (refl, (refl, (refl, tt)))) (not_same (fun_text F.Fun.Abs) (truth_text true) refl) (not_same (fun_text F.Fun.Abs) (truth_text false) refl)
word_spells F.Fun.Mod = word (omega arith, (refl, (refl, (refl, tt)))) (not_same (fun_text F.Fun.Mod) (truth_text true) refl) (not_same (fun_text F.Fun.Mod) (truth_text false) refl)
word_spells F.Fun.Len = word (omega arith, (refl, (refl, (refl, tt)))) (not_same (fun_text F.Fun.Len) (truth_text true) refl) (not_same (fun_text F.Fun.Len) (truth_text false) refl)
word_spells F.Fun.Left = word (omega arith, (refl, (refl, (refl, (refl, tt))))) (not_same (fun_text F.Fun.Left) (truth_text true) refl) (not_same (fun_text F.Fun.Left) (truth_text false) refl)
word_spells F.Fun.Right = word (omega arith, (refl, (refl, (refl, (refl, (refl, tt)))))) (not_same (fun_text F.Fun.Right) (truth_text true) refl) (not_same (fun_text F.Fun.Right) (truth_text false) refl)
word_spells F.Fun.Rows = word (omega arith, (refl, (refl, (refl, (refl, tt))))) (not_same (fun_text F.Fun.Rows) (truth_text true) refl) (not_same (fun_text F.Fun.Rows) (truth_text false) refl)
word_spells F.Fun.Columns = word (omega arith, (refl, (refl, (refl, (refl, (refl, (refl, (refl, tt)))))))) (not_same (fun_text F.Fun.Columns) (truth_text true) refl) (not_same (fun_text F.Fun.Columns) (truth_text false) refl)
word_spells F.Fun.Index = word (omega arith, (refl, (refl, (refl, (refl, (refl, tt)))))) (not_same (fun_text F.Fun.Index) (truth_text true) refl) (not_same (fun_text F.Fun.Index) (truth_text false) refl)
word_spells F.Fun.Sequence = word (omega arith, (refl, (refl, (refl, (refl, (refl, (refl, (refl, (refl, tt))))))))) (not_same (fun_text F.Fun.Sequence) (truth_text true) refl) (not_same (fun_text F.Fun.Sequence) (truth_text false) refl)
word_spells F.Fun.Transpose = word (omega arith, (refl, (refl, (refl, (refl, (refl, (refl, (refl, (refl, (refl, tt)))))))))) (not_same (fun_text F.Fun.Transpose) (truth_text true) refl) (not_same (fun_text F.Fun.Transpose) (truth_text false) refl)
word_spells F.Fun.Take = word (omega arith, (refl, (refl, (refl, (refl, tt))))) (not_same (fun_text F.Fun.Take) (truth_text true) refl) (not_same (fun_text F.Fun.Take) (truth_text false) refl)
word_spells F.Fun.Drop = word (omega arith, (refl, (refl, (refl, (refl, tt))))) (not_same (fun_text F.Fun.Drop) (truth_text true) refl) (not_same (fun_text F.Fun.Drop) (truth_text false) refl)
word_spells F.Fun.HStack = word (omega arith, (refl, (refl, (refl, (refl, (refl, (refl, tt))))))) (not_same (fun_text F.Fun.HStack) (truth_text true) refl) (not_same (fun_text F.Fun.HStack) (truth_text false) refl)
word_spells F.Fun.VStack = word (omega arith, (refl, (refl, (refl, (refl, (refl, (refl, tt))))))) (not_same (fun_text F.Fun.VStack) (truth_text true) refl) (not_same (fun_text F.Fun.VStack) (truth_text false) refl)
word_spells F.Fun.Filter = word (omega arith, (refl, (refl, (refl, (refl, (refl, (refl, tt))))))) (not_same (fun_text F.Fun.Filter) (truth_text true) refl) (not_same (fun_text F.Fun.Filter) (truth_text false) refl)
word_spells F.Fun.Unique = word (omega arith, (refl, (refl, (refl, (refl, (refl, (refl, tt))))))) (not_same (fun_text F.Fun.Unique) (truth_text true) refl) (not_same (fun_text F.Fun.Unique) (truth_text false) refl)
word_spells F.Fun.Lookup = word (omega arith, (refl, (refl, (refl, (refl, (refl, (refl, tt))))))) (not_same (fun_text F.Fun.Lookup) (truth_text true) refl) (not_same (fun_text F.Fun.Lookup) (truth_text false) refl)
word_spells F.Fun.Na = word (omega arith, (refl, (refl, tt))) (not_same (fun_text F.Fun.Na) (truth_text true) refl) (not_same (fun_text F.Fun.Na) (truth_text false) refl)
word_spells F.Fun.Sheet = word (omega arith, (refl, (refl, (refl, (refl, (refl, tt)))))) (not_same (fun_text F.Fun.Sheet) (truth_text true) refl) (not_same (fun_text F.Fun.Sheet) (truth_text false) refl)
word_spells F.Fun.Update = word (omega arith, (refl, (refl, (refl, (refl, (refl, (refl, tt))))))) (not_same (fun_text F.Fun.Update) (truth_text true) refl) (not_same (fun_text F.Fun.Update) (truth_text false) refl)
word_spells F.Fun.View = word (omega arith, (refl, (refl, (refl, (refl, tt))))) (not_same (fun_text F.Fun.View) (truth_text true) refl) (not_same (fun_text F.Fun.View) (truth_text false) refl)
word_spells F.Fun.G = word (omega arith, (refl, tt)) (not_same (fun_text F.Fun.G) (truth_text true) refl) (not_same (fun_text F.Fun.G) (truth_text false) refl)
word_spells F.Fun.This = word (omega arith, (refl, (refl, (refl, (refl, tt))))) (not_same (fun_text F.Fun.This) (truth_text true) refl) (not_same (fun_text F.Fun.This) (truth_text false) refl)

back_word : (w : Bytes) → Spells (T.Word w) w → Back w (T.Word w ∷ [])
back_word w s = one (T.Word w) w s (λ rest p. no_upper_digit rest p)

let_spells : Spells (T.Word (codes "LET")) (codes "LET")
let_spells = word (omega arith, (refl, (refl, (refl, tt)))) (not_same (codes "LET") (truth_text true) refl) (not_same (codes "LET") (truth_text false) refl)

closing : (s : T.Sign) → IsShut s → Back (T.sign_text s ++ []) (T.Signed s ∷ [])
closing s o = shut_then s [] [] o nothing

-- ---- what a form begins with

opens_by : (t : T.Token) (b : ℕ) → starts t b ≡ true → ((s : T.Sign) → t ≢ T.Signed s) → ((b == 61) || (b == 62)) ≡ false
opens_by (T.Integer n) b h k = grind (arith, nat_tests, h)
opens_by (T.Quoted t) b h k = grind (arith, nat_tests, h)
opens_by (T.Address a) b h k = grind (arith, nat_tests, h)
opens_by (T.Truth x) b h k = grind (arith, nat_tests, h)
opens_by (T.Word w) b h k = grind (arith, nat_tests, h)
opens_by (T.Variable v) b h k = grind (arith, nat_tests, h)
opens_by (T.Signed s) b h k = absurd (k s refl)

opens_atom : (t : T.Token) (x : Bytes) → Spells t x → ((s : T.Sign) → t ≢ T.Signed s) → (rest : Bytes) → Opens (x ++ rest)
opens_atom t x s k rest =
    let b = spells_begins s in
    subst (λ z. Opens (z ++ rest)) (sym b.is) (opens_by t b.first b.begins k)

integer_spells : (n : ℕ) → n < 2 ^ 63 → Spells (T.Integer n) (decimal n)
integer_spells n h = let (row, is) = decimal_row n (omega (arith, h)) in subst (λ z. Spells (T.Integer z) (decimal n)) is (integer row (omega (arith, h, is)))

opens_place : (b : Bool) (text : ℕ → Bytes) (minus : ℕ) → ((m : ℕ) (rest : Bytes) → Opens (text m ++ rest)) → (rest : Bytes) → Opens (in_place b text minus ++ rest)
opens_place true text minus h rest = refl
opens_place false text minus h rest = h minus rest

opens_more : (x y rest : Bytes) → ((rest : Bytes) → Opens (x ++ rest)) → Opens ((x ++ y) ++ rest)
opens_more x y rest h = subst Opens (sym (append_assoc x y rest)) (h (y ++ rest))

opens : (f : Formula) → HasTokens f → (minus : ℕ) (rest : Bytes) → Opens (text_behind minus f ++ rest)
opens (F.Formula.Int (pos n)) h minus rest = opens_atom (T.Integer n) (decimal n) (integer_spells n h) (λ s e. cc e) rest
opens (F.Formula.Int (negsuc n)) h minus rest = absurd h
opens (F.Formula.Text t) h minus rest = refl
opens (F.Formula.Bool true) h minus rest = refl
opens (F.Formula.Bool false) h minus rest = refl
opens (F.Formula.At a) h minus rest = opens_atom (T.Address a) (address_text a) (address h) (λ s e. cc e) rest
opens (F.Formula.Spill a) h minus rest = opens_more (address_text a) (35 ∷ []) rest (λ r. opens_atom (T.Address a) (address_text a) (address h) (λ s e. cc e) r)
opens (F.Formula.Area r) h minus rest = opens_more (address_text r.first ++ (58 ∷ [])) (address_text r.last) rest (λ q. opens_more (address_text r.first) (58 ∷ []) q (λ q. opens_atom (T.Address r.first) (address_text r.first) (address h.0) (λ s e. cc e) q))
opens (F.Formula.Var v) h minus rest = opens_atom (T.Variable v) v (variable h) (λ s e. cc e) rest
opens (F.Formula.Neg f) h minus rest = refl
opens (F.Formula.Chain level f os) h minus rest =
    opens_more (in_place (needs_parens minus (level_place level + 1) f) (λ m. text_behind m f) minus) (operands_text (level_place level + 1) os) rest
    (λ r. opens_place (needs_parens minus (level_place level + 1) f) (λ m. text_behind m f) minus (λ m q. opens f h.0 m q) r)
opens (F.Formula.Compare op f g) h minus rest =
    let first = in_place (needs_parens minus 1 f) (λ m. text_behind m f) minus in
    opens_more (first ++ op_text op) (in_place (needs_parens 0 1 g) (λ m. text_behind m g) 0) rest (λ r. opens_more first (op_text op) r
    (λ q. opens_place (needs_parens minus 1 f) (λ m. text_behind m f) minus (λ m p. opens f h.0 m p) q))
opens (F.Formula.Call g xs) h minus rest = opens_more (fun_text g) (in_parens (join_with_byte 44 (texts xs))) rest (λ r. opens_atom (T.Word (fun_text g)) (fun_text g) (word_spells g) (λ s e. cc e) r)
opens (F.Formula.Let v f body) h minus rest = refl

-- ---- forms

place_back : (b : Bool) (text : ℕ → Bytes) (ts : ℕ → Tokens) (minus : ℕ) → ((m : ℕ) → Back (text m) (ts m)) → Back (in_place b text minus) (tokens_in_place b ts minus)
place_back true text ts minus h = shut_then T.Sign.LeftParen (text 0 ++ 41 ∷ []) (ts 0 ++ T.Signed T.Sign.RightParen ∷ []) (λ r. tt) (sign_next (text 0) (ts 0) T.Sign.RightParen [] (T.Signed T.Sign.RightParen ∷ []) (h 0) (closing T.Sign.RightParen (λ r. tt)))
place_back false text ts minus h = h minus

op_sign_text : (op : Op) → T.sign_text (op_sign op) ≡ op_text op
op_sign_text F.Op.Eq = refl
op_sign_text F.Op.Ne = refl
op_sign_text F.Op.Lt = refl
op_sign_text F.Op.Le = refl
op_sign_text F.Op.Gt = refl
op_sign_text F.Op.Ge = refl
op_sign_text F.Op.Join = refl
op_sign_text F.Op.Add = refl
op_sign_text F.Op.Sub = refl
op_sign_text F.Op.Mul = refl
op_sign_text F.Op.Div = refl

mutual
  back : (f : Formula) → HasTokens f → (minus : ℕ) → Back (text_behind minus f) (tokens_behind minus f)
  back (F.Formula.Int (pos n)) h minus = back_integer n h
  back (F.Formula.Int (negsuc n)) h minus = absurd h
  back (F.Formula.Text t) h minus = back_text t h.0 h.1
  back (F.Formula.Bool b) h minus = back_truth b
  back (F.Formula.At a) h minus = back_address a h
  back (F.Formula.Spill a) h minus = sign_next (address_text a) (T.Address a ∷ []) T.Sign.Hash [] (T.Signed T.Sign.Hash ∷ []) (back_address a h) (closing T.Sign.Hash (λ r. tt))
  back (F.Formula.Area r) h minus =
      subst (λ z. Back z (T.Address r.first ∷ T.Signed T.Sign.Colon ∷ T.Address r.last ∷ [])) (sym (append_assoc (address_text r.first) (58 ∷ []) (address_text r.last)))
      (sign_next (address_text r.first) (T.Address r.first ∷ []) T.Sign.Colon (address_text r.last) (T.Signed T.Sign.Colon ∷ T.Address r.last ∷ []) (back_address r.first h.0)
      (shut_then T.Sign.Colon (address_text r.last) (T.Address r.last ∷ []) (λ r. tt) (back_address r.last h.1)))
  back (F.Formula.Var v) h minus = back_variable v h
  back (F.Formula.Neg f) h minus =
      shut_then (T.Sign.Operator F.Op.Sub) (in_place (needs_parens (one_more minus) 4 f) (λ m. text_behind m f) (one_more minus)) _ (λ r. tt)
      (place_back (needs_parens (one_more minus) 4 f) (λ m. text_behind m f) (λ m. tokens_behind m f) (one_more minus) (λ m. back f h m))
  back (F.Formula.Chain level f os) h minus =
      back_operands (level_place level + 1) os h.1 (in_place (needs_parens minus (level_place level + 1) f) (λ m. text_behind m f) minus) (tokens_in_place (needs_parens minus (level_place level + 1) f) (λ m. tokens_behind m f) minus)
      (place_back (needs_parens minus (level_place level + 1) f) (λ m. text_behind m f) (λ m. tokens_behind m f) minus (λ m. back f h.0 m))
  back (F.Formula.Compare op f g) h minus =
      let x = in_place (needs_parens minus 1 f) (λ m. text_behind m f) minus in
      let y = in_place (needs_parens 0 1 g) (λ m. text_behind m g) 0 in
      let xs = tokens_in_place (needs_parens minus 1 f) (λ m. tokens_behind m f) minus in
      let ys = tokens_in_place (needs_parens 0 1 g) (λ m. tokens_behind m g) 0 in
      let bx : Back x xs = place_back (needs_parens minus 1 f) (λ m. text_behind m f) (λ m. tokens_behind m f) minus (λ m. back f h.0 m) in
      let by : Back y ys = place_back (needs_parens 0 1 g) (λ m. text_behind m g) (λ m. tokens_behind m g) 0 (λ m. back g h.1 m) in
      let oy : (rest : Bytes) → Opens (y ++ rest) = opens_place (needs_parens 0 1 g) (λ m. text_behind m g) 0 (λ m q. opens g h.1 m q) in
      let r : Back (x ++ (T.sign_text (op_sign op) ++ y)) (xs ++ (T.Signed (op_sign op) ∷ ys)) = sign_next x xs (op_sign op) y (T.Signed (op_sign op) ∷ ys) bx (sign_then (op_sign op) y ys oy by) in
      subst (λ z. Back z (xs ++ (T.Signed (op_sign op) ∷ ys))) (ap (λ z. x ++ (z ++ y)) (op_sign_text op) ∙ sym (append_assoc x (op_text op) y)) r
  back (F.Formula.Call g xs) h minus =
      let a = join_with_byte 44 (texts xs) in
      sign_next (fun_text g) (T.Word (fun_text g) ∷ []) T.Sign.LeftParen (a ++ 41 ∷ []) (T.Signed T.Sign.LeftParen ∷ (arguments_tokens xs ++ T.Signed T.Sign.RightParen ∷ [])) (back_word (fun_text g) (word_spells g))
      (shut_then T.Sign.LeftParen (a ++ 41 ∷ []) (arguments_tokens xs ++ T.Signed T.Sign.RightParen ∷ []) (λ r. tt) (sign_next a (arguments_tokens xs) T.Sign.RightParen [] (T.Signed T.Sign.RightParen ∷ []) (back_arguments xs h) (closing T.Sign.RightParen (λ r. tt))))
  back (F.Formula.Let v f body) h minus =
      let row = h.0 in
      let (hf, hb) = h.1 in
      let x = text_behind 0 f in
      let y = text_behind 0 body in
      let xs = tokens_behind 0 f in
      let ys = tokens_behind 0 body in
      let close = T.Signed T.Sign.RightParen ∷ [] in
      let two : Back (x ++ (44 ∷ y)) (xs ++ (T.Signed T.Sign.Comma ∷ ys)) = sign_next x xs T.Sign.Comma y (T.Signed T.Sign.Comma ∷ ys) (back f hf 0) (shut_then T.Sign.Comma y ys (λ r. tt) (back body hb 0)) in
      let three : Back (v ++ (44 ∷ (x ++ (44 ∷ y)))) (T.Variable v ∷ T.Signed T.Sign.Comma ∷ (xs ++ (T.Signed T.Sign.Comma ∷ ys))) =
      sign_next v (T.Variable v ∷ []) T.Sign.Comma (x ++ (44 ∷ y)) (T.Signed T.Sign.Comma ∷ (xs ++ (T.Signed T.Sign.Comma ∷ ys))) (back_variable v row) (shut_then T.Sign.Comma (x ++ (44 ∷ y)) (xs ++ (T.Signed T.Sign.Comma ∷ ys)) (λ r. tt) two) in
      let all = v ++ (44 ∷ (x ++ (44 ∷ y))) in
      let ts = T.Variable v ∷ T.Signed T.Sign.Comma ∷ (xs ++ (T.Signed T.Sign.Comma ∷ ys)) in
      let inside : Back (all ++ 41 ∷ []) (ts ++ close) = sign_next all ts T.Sign.RightParen [] close three (closing T.Sign.RightParen (λ r. tt)) in
      let e : ts ++ close ≡ T.Variable v ∷ T.Signed T.Sign.Comma ∷ (xs ++ (T.Signed T.Sign.Comma ∷ (ys ++ close))) = ap (λ z. T.Variable v ∷ T.Signed T.Sign.Comma ∷ z) (append_assoc xs (T.Signed T.Sign.Comma ∷ ys) close) in
      let whole : Back (codes "LET" ++ (40 ∷ (all ++ 41 ∷ []))) (T.Word (codes "LET") ∷ T.Signed T.Sign.LeftParen ∷ (ts ++ close)) =
      sign_next (codes "LET") (T.Word (codes "LET") ∷ []) T.Sign.LeftParen (all ++ 41 ∷ []) (T.Signed T.Sign.LeftParen ∷ (ts ++ close)) (back_word (codes "LET") let_spells) (shut_then T.Sign.LeftParen (all ++ 41 ∷ []) (ts ++ close) (λ r. tt) inside) in
      subst (λ z. Back (codes "LET" ++ (40 ∷ (all ++ 41 ∷ []))) (T.Word (codes "LET") ∷ T.Signed T.Sign.LeftParen ∷ z)) e whole

  -- operators and operands behind others
  back_operands : (place : ℕ) (os : Operands) → HaveTokens os → (x : Bytes) (xs : Tokens) → Back x xs → Back (x ++ operands_text place os) (xs ++ operands_tokens place os)
  back_operands place F.Operands.no_operand h x xs b = subst (λ z. Back z (xs ++ [])) (sym (append-nil x)) (subst (λ z. Back x z) (sym (append-nil xs)) b)
  back_operands place (F.Operands.operand_and op f os) h x xs b =
      let y = in_place (needs_parens (minus_of op) place f) (λ m. text_behind m f) (minus_of op) in
      let ys = tokens_in_place (needs_parens (minus_of op) place f) (λ m. tokens_behind m f) (minus_of op) in
      let by : Back y ys = place_back (needs_parens (minus_of op) place f) (λ m. text_behind m f) (λ m. tokens_behind m f) (minus_of op) (λ m. back f h.0 m) in
      let oy : (rest : Bytes) → Opens (y ++ rest) = opens_place (needs_parens (minus_of op) place f) (λ m. text_behind m f) (minus_of op) (λ m q. opens f h.0 m q) in
      let r : Back (x ++ (T.sign_text (op_sign op) ++ y)) (xs ++ (T.Signed (op_sign op) ∷ ys)) = sign_next x xs (op_sign op) y (T.Signed (op_sign op) ∷ ys) b (sign_then (op_sign op) y ys oy by) in
      let s : Back (x ++ (op_text op ++ y)) (xs ++ (T.Signed (op_sign op) ∷ ys)) = subst (λ z. Back (x ++ (z ++ y)) (xs ++ (T.Signed (op_sign op) ∷ ys))) (op_sign_text op) r in
      let t = back_operands place os h.1 (x ++ (op_text op ++ y)) (xs ++ (T.Signed (op_sign op) ∷ ys)) s in
      subst (λ z. Back z (xs ++ (T.Signed (op_sign op) ∷ (ys ++ operands_tokens place os)))) (append_assoc x (op_text op ++ y) (operands_text place os))
      (subst (λ z. Back ((x ++ (op_text op ++ y)) ++ operands_text place os) z) (append_assoc xs (T.Signed (op_sign op) ∷ ys) (operands_tokens place os)) t)

  back_arguments : (fs : Formulas) → AllHaveTokens fs → Back (join_with_byte 44 (texts fs)) (arguments_tokens fs)
  back_arguments F.Formulas.no_formula h = nothing
  back_arguments (F.Formulas.formula_and f fs) h = back_more fs h.1 (text_behind 0 f) (tokens_behind 0 f) (back f h.0 0)

  back_more : (fs : Formulas) → AllHaveTokens fs → (x : Bytes) (xs : Tokens) → Back x xs → Back (join_with_byte 44 (x ∷ texts fs)) (xs ++ more_tokens fs)
  back_more F.Formulas.no_formula h x xs b = subst (λ z. Back x z) (sym (append-nil xs)) b
  back_more (F.Formulas.formula_and f fs) h x xs b =
      let y = join_with_byte 44 (text_behind 0 f ∷ texts fs) in
      let ys = tokens_behind 0 f ++ more_tokens fs in
      let by : Back y ys = back_more fs h.1 (text_behind 0 f) (tokens_behind 0 f) (back f h.0 0) in
      sign_next x xs T.Sign.Comma y (T.Signed T.Sign.Comma ∷ ys) b (shut_then T.Sign.Comma y ys (λ r. tt) by)

pub canonical_is_lexed : CanonicalIsLexed
canonical_is_lexed f h =
    let r : Lexes (formula_text f ++ []) (tokens_behind 0 f ++ []) = back f h 0 [] [] tt no_more in
    subst (λ z. Lexes z (tokens_behind 0 f)) (append-nil (formula_text f)) (subst (λ z. Lexes (formula_text f ++ []) z) (append-nil (tokens_behind 0 f)) r)
