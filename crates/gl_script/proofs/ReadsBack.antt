-- The text of a content that was set or imported is read as this content again.
use Rattle.std.specs.Prelude.{codes}
use Rattle.std.proofs.Common.{◌≡◌, ◌≢◌, ◌∙◌, ℕ, ◌+◌, ◌*◌, ◌/◌, ◌%◌, ◌^◌, ◌<◌, ◌≤◌, suc, ℤ, pos, negsuc, IsTrue, Bool, true, false, ◌&&◌, ◌==◌, List, [], ◌∷◌, ◌++◌, length, get_or, Option, Some, None, inl, inr, refl, sym, ap, subst, arith}
use Rattle.std.specs.Prelude.{flat_map, nat_lt, nat_le, neg_ℤ, int_le, int_lt, ⊤, bytes_eq}
use Rattle.std.specs.List.{list_all, AllByRecursion}
use Rattle.std.specs.Str.{is_utf8}
use Rattle.std.specs.Fmt.{decimal, signed_decimal}
use Rattle.std.proofs.lemmas.Bool.Decides.{nat_tests}
use Rattle.gl_calculus.specs.Grid.Limits.{max_text}
use Rattle.gl_calculus.specs.Values.ErrKind.{ErrKind}
use Rattle.gl_calculus.specs.Grid.Grid.{Addr, same_addr}
use Rattle.gl_calculus.specs.Values.Operators.{exact}
use Rattle.gl_calculus.specs.Values.Value as V
use Rattle.gl_calculus.specs.Formulas.Formula as F
use Rattle.gl_calculus.specs.Formulas.Formula.{Cells, Const, content}
use Rattle.gl_language.specs.Texts.Text.{Bytes, escaped, is_control, hex_digit, truth_text, scalar_text, content_text}
use Rattle.gl_language.specs.Reading.Token as T
use Rattle.gl_language.specs.Reading.Token.{is_digit, digits_value, IsRow, Decodes}
use Rattle.gl_lex.proofs.Letters.{decimal_row}
use Rattle.laws_language.proofs.Grammar.Printed.{prints_back}
use Rattle.gl_protocol.specs.Scripts.Commands as C
use Rattle.gl_protocol.specs.Scripts.Commands.{Read, Is, Not, ReadsContent, field_fault, fields, contents, imported}
use Rattle.gl_language.specs.Texts.Plain.{signed_value, plain_scalar}
use Rattle.gl_script.specs.Reading.{SetReadsBack, ImportReadsBack}
use Rattle.gl_script.proofs.Contents.{plain_content, number_content}

-- ---- texts: what a literal has between its quotes stands for the text, whatever its bytes are

abbrev Escapes : ℕ → Bytes → Bytes → Type 0
Escapes b s t = Decodes (escaped b ++ s) (b ∷ t)

hex_escapes : (b : ℕ) (s t : Bytes) → Decodes s t → b < 128 → Decodes (92 ∷ 120 ∷ hex_digit (b / 16) ∷ hex_digit (b % 16) ∷ s) (b ∷ t)
hex_escapes b s t d small =
    let e : 16 * (b / 16) + b % 16 ≡ b = omega arith in
    subst (λ z. Decodes (92 ∷ 120 ∷ hex_digit (b / 16) ∷ hex_digit (b % 16) ∷ s) (z ∷ t)) e
    (T.hex (omega (arith, small), inl refl) (omega arith, inl refl) (omega (arith, small)) d)

escapes_by : (b : ℕ) (s t : Bytes) (u v w x y z : Bool) → (b == 92) ≡ u → (b == 34) ≡ v → (b == 10) ≡ w → (b == 13) ≡ x → (b == 9) ≡ y → is_control b ≡ z → Decodes s t → Escapes b s t
escapes_by b s t true v w x y z p q r i j k d = let e : b ≡ 92 = grind (arith, nat_tests, p) in rw e (T.itself (inl refl) d)
escapes_by b s t false true w x y z p q r i j k d = let e : b ≡ 34 = grind (arith, nat_tests, q) in rw e (T.itself (inr refl) d)
escapes_by b s t false false true x y z p q r i j k d = let e : b ≡ 10 = grind (arith, nat_tests, r) in rw e (T.newline d)
escapes_by b s t false false false true y z p q r i j k d = let e : b ≡ 13 = grind (arith, nat_tests, i) in rw e (T.return d)
escapes_by b s t false false false false true z p q r i j k d = let e : b ≡ 9 = grind (arith, nat_tests, j) in rw e (T.tab d)
escapes_by b s t false false false false false true p q r i j k d = rw (p, q, r, i, j, k) (hex_escapes b s t d (grind (arith, nat_tests, k)))
escapes_by b s t false false false false false false p q r i j k d =
    let e : escaped b ≡ b ∷ [] = grind (arith, nat_tests, p, q, r, i, j, k) in
    let m : b ≢ 92 = λ e. grind (arith, nat_tests, p, e) in
    let n : b ≢ 34 = λ e. grind (arith, nat_tests, q, e) in
    subst (λ z. Decodes (z ++ s) (b ∷ t)) (sym e) (T.plain m n k d)

escaped_decodes : (t : Bytes) → Decodes (flat_map escaped t) t
escaped_decodes [] = T.end
escaped_decodes (b ∷ t) = escapes_by b (flat_map escaped t) t (b == 92) (b == 34) (b == 10) (b == 13) (b == 9) (is_control b) refl refl refl refl refl refl (escaped_decodes t)

-- ---- numbers

abbrev IsExact : ℤ → Type 0
IsExact n = exact n ≡ V.Scalar.Int n

exact_is : (m n : ℤ) → exact m ≡ V.Scalar.Int n → IsExact n
exact_is m n e = by (int_le (neg_ℤ (pos (2 ^ 63))) m && int_lt m (pos (2 ^ 63))) refl
  where
    by : (b : Bool) → (int_le (neg_ℤ (pos (2 ^ 63))) m && int_lt m (pos (2 ^ 63))) ≡ b → IsExact n
    by true h =
        let k : exact m ≡ V.Scalar.Int m = rw h refl in
        let i : V.Scalar.Int m ≡ V.Scalar.Int n = sym k ∙ e in
        let j : m ≡ n = cc i in
        subst IsExact j k
    by false h =
        let k : exact m ≡ V.Scalar.Err ErrKind.Num = rw h refl in
        let i : V.Scalar.Err ErrKind.Num ≡ V.Scalar.Int n = sym k ∙ e in
        cc i

digits_pass : (bs : Bytes) → AllByRecursion (λ b. IsTrue (is_digit b)) bs → list_all is_digit bs ≡ true
digits_pass [] a = refl
digits_pass (b ∷ bs) a = rw (a.0) (digits_pass bs a.1)

digits_signed : (bs : Bytes) → IsRow is_digit bs → signed_value bs ≡ Some (pos (digits_value bs))
digits_signed [] r = absurd (omega (arith, r.0))
digits_signed (b ∷ bs) r =
    let d : is_digit b ≡ true = r.1.0 in
    let m : (b == 45) ≡ false = grind (arith, nat_tests, d) in
    rw (m, d, digits_pass bs r.1.1) refl

minus_signed : (bs : Bytes) → IsRow is_digit bs → signed_value (45 ∷ bs) ≡ Some (neg_ℤ (pos (digits_value bs)))
minus_signed bs r =
    let l : nat_lt 0 (length bs) ≡ true = grind (arith, nat_tests, r.0) in
    rw (l, digits_pass bs r.1) refl

not_far : (n : ℕ) → IsExact (pos n) → n < 2 ^ 64
not_far n e = grind (arith, nat_tests, e)

not_far_below : (n : ℕ) → IsExact (negsuc n) → suc n < 2 ^ 64
not_far_below n e = grind (arith, nat_tests, e)

plain_int : (t : Bytes) (n : ℤ) → signed_value t ≡ Some n → IsExact n → plain_scalar t ≡ V.Scalar.Int n
plain_int t n h e = rw (h, e) refl

number_reads : (t : Bytes) (n : ℤ) → 0 < length t → get_or t 0 0 ≢ 61 → get_or t 0 0 ≢ 34 → plain_scalar t ≡ V.Scalar.Int n → ReadsContent t (Is (Const (V.Scalar.Int n)))
number_reads t n some p q e = by (nat_le (length t) max_text) refl
  where
    by : (b : Bool) → nat_le (length t) max_text ≡ b → ReadsContent t (Is (Const (V.Scalar.Int n)))
    by true h = plain_content t (V.Scalar.Int n) some p q (sym e) (grind (arith, nat_tests, h))
    by false h = (number_content t (V.Scalar.Int n) some p q (sym e) (grind (arith, nat_tests, h)) refl).0

digit_first : (bs : Bytes) → IsRow is_digit bs → (get_or bs 0 0 ≢ 61) × (get_or bs 0 0 ≢ 34)
digit_first [] r = absurd (omega (arith, r.0))
digit_first (b ∷ bs) r = (λ e. grind (arith, nat_tests, r.1.0, e), λ e. grind (arith, nat_tests, r.1.0, e))

int_back : (n : ℤ) → IsExact n → ReadsContent (signed_decimal n) (Is (Const (V.Scalar.Int n)))
int_back (pos n) e =
    let (row, is) = decimal_row n (not_far n e) in
    let (p, q) = digit_first (decimal n) row in
    number_reads (decimal n) (pos n) row.0 p q (plain_int (decimal n) (pos n) (digits_signed (decimal n) row ∙ ap (λ k. Some (pos k)) is) e)
int_back (negsuc n) e =
    let (row, is) = decimal_row (suc n) (not_far_below n e) in
    number_reads (45 ∷ decimal (suc n)) (negsuc n) (omega arith) (λ h. omega (arith, h)) (λ h. omega (arith, h)) (plain_int (45 ∷ decimal (suc n)) (negsuc n) (minus_signed (decimal (suc n)) row ∙ ap (λ k. Some (neg_ℤ (pos k))) is) e)

-- ---- plain texts

-- what a plain text can be
abbrev IsPlain : Bytes → V.Scalar → Type 0
IsPlain t (V.Scalar.Int n) = IsExact n
IsPlain t (V.Scalar.Bool b) = ⊤
IsPlain t (V.Scalar.Text u) = t ≡ u
IsPlain t x = ⊥

number_plain : (t : Bytes) (n : ℤ) (x : V.Scalar) → signed_value t ≡ Some n → exact n ≡ x → IsPlain t (plain_scalar t)
number_plain t n (V.Scalar.Int m) h e = rw (h, e) (exact_is n m e)
number_plain t n V.Scalar.Blank h e = rw (h, e) refl
number_plain t n (V.Scalar.Bool b) h e = rw (h, e) refl
number_plain t n (V.Scalar.Text u) h e = rw (h, e) refl
number_plain t n (V.Scalar.Err k) h e = rw (h, e) refl
number_plain t n (V.Scalar.Sheet s) h e = rw (h, e) refl

word_plain : (t : Bytes) (u v : Bool) → signed_value t ≡ None → bytes_eq t (truth_text true) ≡ u → bytes_eq t (truth_text false) ≡ v → IsPlain t (plain_scalar t)
word_plain t true v h p q = rw (h, p) tt
word_plain t false true h p q = rw (h, p, q) tt
word_plain t false false h p q = rw (h, p, q) refl

is_plain : (t : Bytes) → IsPlain t (plain_scalar t)
is_plain t = by (signed_value t) refl
  where
    by : (o : Option ℤ) → signed_value t ≡ o → IsPlain t (plain_scalar t)
    by (Some n) h = number_plain t n (exact n) h refl
    by None h = word_plain t (bytes_eq t (truth_text true)) (bytes_eq t (truth_text false)) h refl refl

plain_form_back : (t : Bytes) (x : V.Scalar) → length t ≤ max_text → IsPlain t x → ReadsContent (scalar_text x) (Is (Const x))
plain_form_back t (V.Scalar.Int n) l p = int_back n p
plain_form_back t (V.Scalar.Bool true) l p = C.ReadsContent.plain (λ e. omega (arith, e)) (λ e. omega (arith, e)) (omega arith)
plain_form_back t (V.Scalar.Bool false) l p = C.ReadsContent.plain (λ e. omega (arith, e)) (λ e. omega (arith, e)) (omega arith)
plain_form_back t (V.Scalar.Text u) l p = C.ReadsContent.literal (escaped_decodes u) (subst (λ z. length z ≤ max_text) p l)
plain_form_back t V.Scalar.Blank l p = absurd p
plain_form_back t (V.Scalar.Err k) l p = absurd p
plain_form_back t (V.Scalar.Sheet s) l p = absurd p

plain_back : (t : Bytes) → length t ≤ max_text → ReadsContent (scalar_text (plain_scalar t)) (Is (Const (plain_scalar t)))
plain_back t l = plain_form_back t (plain_scalar t) l (is_plain t)

-- ---- contents that were set

abbrev IsBack : F.Content → Type 0
IsBack c = ReadsContent (content_text c) (Is c)

abbrev IfRead : Read F.Content → Type 0
IfRead (Is c) = IsBack c
IfRead (Not w) = ⊤

read_back : {text : Bytes} {x : Read F.Content} → ReadsContent text x → IfRead x
read_back (C.ReadsContent.formula {t = t} {f = f} p) = C.ReadsContent.formula (prints_back t f p).0
read_back (C.ReadsContent.fault p) = tt
read_back (C.ReadsContent.literal {t = t} d l) = C.ReadsContent.literal (escaped_decodes t) l
read_back (C.ReadsContent.no_literal h) = tt
read_back (C.ReadsContent.plain {b = b} {t = t} p q l) = plain_back (b ∷ t) l
read_back (C.ReadsContent.number {b = b} {t = t} {n = n} p q l e) = int_back n (subst (IsPlain (b ∷ t)) e (is_plain (b ∷ t)))
read_back (C.ReadsContent.long p q l h) = tt

pub set_reads_back : SetReadsBack
set_reads_back text c r = read_back r

-- ---- contents that were imported

abbrev AllBack : Read Cells → Type 0
AllBack (Is cs) = AllByRecursion (λ x. IsBack x.1) cs
AllBack (Not w) = ⊤

field_short : (x : Addr × Bytes) → field_fault x ≡ None → length x.1 ≤ max_text
field_short x h = by (nat_lt max_text (length x.1)) refl
  where
    by : (b : Bool) → nat_lt max_text (length x.1) ≡ b → length x.1 ≤ max_text
    by true k = let e : field_fault x ≡ Some (codes "field") = rw k refl in let i : None ≡ Some (codes "field") = sym h ∙ e in cc i
    by false k = grind (arith, nat_tests, k)

contents_back : (xs : List (Addr × Bytes)) → AllBack (contents xs)
contents_back [] = tt
contents_back (x ∷ xs) = by (field_fault x) (contents xs) refl refl (contents_back xs)
  where
    by : (o : Option Bytes) (r : Read Cells) → field_fault x ≡ o → contents xs ≡ r → AllBack r → AllBack (contents (x ∷ xs))
    by (Some w) r h k all = rw h tt
    by None (Is cs) h k all = rw (h, k) (plain_back x.1 (field_short x h), all)
    by None (Not w) h k all = rw (h, k) tt

imported_back : (at_addr : Addr) (records : List (List Bytes)) → AllBack (imported at_addr records)
imported_back at_addr records = by (list_all (list_all is_utf8) records) refl
  where
    by : (b : Bool) → list_all (list_all is_utf8) records ≡ b → AllBack (imported at_addr records)
    by true h = rw h (contents_back (fields at_addr records))
    by false h = rw h tt

found_by : (x : Addr × F.Content) (cs : Cells) (a : Addr) (c : F.Content) (b : Bool) → same_addr a x.0 ≡ b → IsBack x.1 → (content cs a ≡ Some c → IsBack c) → content (x ∷ cs) a ≡ Some c → IsBack c
found_by x cs a c true h back further e =
    let k : content (x ∷ cs) a ≡ Some x.1 = rw h refl in
    let i : Some x.1 ≡ Some c = sym k ∙ e in
    let j : x.1 ≡ c = cc i in
    subst IsBack j back
found_by x cs a c false h back further e =
    let k : content (x ∷ cs) a ≡ content cs a = rw h refl in
    further (sym k ∙ e)

found_back : (cs : Cells) (a : Addr) (c : F.Content) → AllByRecursion (λ x. IsBack x.1) cs → content cs a ≡ Some c → IsBack c
found_back [] a c all e = cc e
found_back (x ∷ cs) a c all e = found_by x cs a c (same_addr a x.0) refl all.0 (λ f. found_back cs a c all.1 f) e

pub import_reads_back : ImportReadsBack
import_reads_back at_addr a records cs c is found = found_back cs a c (subst AllBack is (imported_back at_addr records)) found
