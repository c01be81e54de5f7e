-- A text is read as one content, and a line as one request.
use Rattle.std.specs.Prelude.{codes}
use Rattle.std.proofs.Common.{cond, ◌≡◌, ◌≢◌, ◌∙◌, ℕ, ◌+◌, ◌<◌, ◌≤◌, Bool, true, false, [], ◌∷◌, ◌++◌, length, Option, Some, None, ◌⊎◌, inl, inr, refl, sym, ap, subst, arith, IsTrue}
use Rattle.std.specs.Prelude.{ℤ, IsFalse, ◌==◌}
use Rattle.std.specs.Str.{is_utf8}
use Rattle.std.proofs.lemmas.Bool.Decides.{nat_tests}
use Rattle.gl_calculus.specs.Grid.Limits.{max_text}
use Rattle.gl_calculus.specs.Grid.Grid.{Addr, Range, range}
use Rattle.gl_calculus.specs.Values.Value as V
use Rattle.gl_calculus.specs.Formulas.Formula as F
use Rattle.gl_calculus.specs.Formulas.Formula.{Formula, Const, Form}
use Rattle.gl_language.specs.Texts.Text.{Bytes}
use Rattle.gl_language.specs.Reading.Token.{Decodes, digits_value}
use Rattle.gl_language.specs.Reading.Grammar.{Parses, IsParseFault, ParseFault}
use Rattle.gl_lex.specs.Quote.{Scan, decode}
use Rattle.gl_lex.specs.declared.quote.State.TheVariants as state
use Rattle.gl_lex.proofs.Decoding.{decoded}
use Rattle.gl_lex.proofs.Once.{one_address}
use Rattle.laws_language.proofs.Grammar.Readings.{one_formula, one_fault, formula_or_fault}
use Rattle.gl_calculus.specs.Edits.Replicas.{stamp, is_stamp}
use Rattle.gl_protocol.specs.Scripts.Commands as C
use Rattle.gl_protocol.specs.Scripts.Commands.{Read, Is, Not, ReadsContent, ReadsRange, ReadsWords, ReadsLine, IsAddress, IsPlace, in_order, fault_word, is_comment, words_of}
use Rattle.gl_language.specs.Texts.Plain.{plain_scalar}
use Rattle.gl_script.proofs.Places.{Corners, corners, address_lacks, same_cut, holds_colon}
use Rattle.gl_script.proofs.Headers.{Lacks}

-- ---- contents

abbrev OfFormula : Bytes → Read F.Content → Type 0
OfFormula t x = ((f : Formula) × Parses t f × (x ≡ Is (Form f))) ⊎ ((e : ParseFault) × IsParseFault t e × (x ≡ Not (fault_word e)))

abbrev OfLiteral : Bytes → Read F.Content → Type 0
OfLiteral t x = ((s : Bytes) × (u : Bytes) × (t ≡ s ++ 34 ∷ []) × Decodes s u × (length u ≤ max_text) × (x ≡ Is (Const (V.Scalar.Text u)))) ⊎ (((s u : Bytes) → Decodes s u → length u ≤ max_text → t ≢ s ++ 34 ∷ []) × (x ≡ Not (codes "text")))

abbrev OfPlain : Bytes → Read F.Content → Type 0
OfPlain l x = ((length l ≤ max_text) × (x ≡ Is (Const (plain_scalar l)))) ⊎ (((n : ℤ) × (max_text < length l) × (plain_scalar l ≡ V.Scalar.Int n) × (x ≡ Is (Const (V.Scalar.Int n)))) ⊎ ((max_text < length l) × ((n : ℤ) → plain_scalar l ≢ V.Scalar.Int n) × (x ≡ Not (codes "field"))))

-- what was read, by the first byte
abbrev SeenBy : Bool → Bool → ℕ → Bytes → Read F.Content → Type 0
SeenBy true q b t x = OfFormula t x
SeenBy false true b t x = OfLiteral t x
SeenBy false false b t x = OfPlain (b ∷ t) x

abbrev Seen : Bytes → Read F.Content → Type 0
Seen [] x = ⊥
Seen (b ∷ t) x = SeenBy (b == 61) (b == 34) b t x

not_same : (b c : ℕ) → b ≢ c → (b == c) ≡ false
not_same b c n = grind (arith, nat_tests)

plain_seen : (b : ℕ) (t : Bytes) (x : Read F.Content) → b ≢ 61 → b ≢ 34 → OfPlain (b ∷ t) x → Seen (b ∷ t) x
plain_seen b t x p q o =
    subst (λ (c : Bool). SeenBy c (b == 34) b t x) (sym (not_same b 61 p)) (subst (λ (c : Bool). SeenBy false c b t x) (sym (not_same b 34 q)) o)

seen : {text : Bytes} {x : Read F.Content} → ReadsContent text x → Seen text x
seen (C.ReadsContent.formula {f = f} p) = inl (f, p, refl)
seen (C.ReadsContent.fault {fault = e} p) = inr (e, p, refl)
seen (C.ReadsContent.literal {s = s} {t = u} d l) = inl (s, u, refl, d, l, refl)
seen (C.ReadsContent.no_literal h) = inr (h, refl)
seen (C.ReadsContent.plain {b = b} {t = t} p q l) = plain_seen b t (Is (Const (plain_scalar (b ∷ t)))) p q (inl (l, refl))
seen (C.ReadsContent.number {b = b} {t = t} {n = n} p q l e) = plain_seen b t (Is (Const (V.Scalar.Int n))) p q (inr (inl (n, l, e, refl)))
seen (C.ReadsContent.long {b = b} {t = t} p q l e) = plain_seen b t (Not (codes "field")) p q (inr (inr (l, e, refl)))

of_formula : (t : Bytes) (x y : Read F.Content) → OfFormula t x → OfFormula t y → x ≡ y
of_formula t x y (inl a) (inl b) = a.2 ∙ ap (λ (f : Formula). Is (Form f)) (one_formula t a.0 b.0 a.1 b.1) ∙ sym b.2
of_formula t x y (inl a) (inr b) = absurd (formula_or_fault t a.0 b.0 a.1 b.1)
of_formula t x y (inr a) (inl b) = absurd (formula_or_fault t b.0 a.0 b.1 a.1)
of_formula t x y (inr a) (inr b) = a.2 ∙ ap (λ (e : ParseFault). Not (fault_word e)) (one_fault t a.0 b.0 a.1 b.1) ∙ sym b.2

same_decoded : (s r u v : Bytes) → Decodes s u → Decodes r v → s ++ 34 ∷ [] ≡ r ++ 34 ∷ [] → u ≡ v
same_decoded s r u v d e h =
    let k : Scan.Ends u (length s + 1) ≡ Scan.Ends v (length r + 1) = sym (decoded d []) ∙ ap (decode state.Plain) h ∙ decoded e [] in
    cc

of_literal : (t : Bytes) (x y : Read F.Content) → OfLiteral t x → OfLiteral t y → x ≡ y
of_literal t x y (inl a) (inl b) = a.5 ∙ ap (λ (u : Bytes). Is (Const (V.Scalar.Text u))) (same_decoded a.0 b.0 a.1 b.1 a.3 b.3 (sym a.2 ∙ b.2)) ∙ sym b.5
of_literal t x y (inl a) (inr b) = absurd (b.0 a.0 a.1 a.3 a.4 a.2)
of_literal t x y (inr a) (inl b) = absurd (a.0 b.0 b.1 b.3 b.4 b.2)
of_literal t x y (inr a) (inr b) = a.1 ∙ sym b.1

of_plain : (l : Bytes) (x y : Read F.Content) → OfPlain l x → OfPlain l y → x ≡ y
of_plain l x y (inl a) (inl b) = a.1 ∙ sym b.1
of_plain l x y (inl a) (inr (inl b)) = absurd (omega (arith, a.0, b.1))
of_plain l x y (inl a) (inr (inr b)) = absurd (omega (arith, a.0, b.0))
of_plain l x y (inr (inl a)) (inl b) = absurd (omega (arith, a.1, b.0))
of_plain l x y (inr (inl a)) (inr (inl b)) =
    let e : V.Scalar.Int a.0 ≡ V.Scalar.Int b.0 = sym a.2 ∙ b.2 in
    a.3 ∙ ap (λ (s : V.Scalar). Is (Const s)) e ∙ sym b.3
of_plain l x y (inr (inl a)) (inr (inr b)) = absurd (b.1 a.0 a.2)
of_plain l x y (inr (inr a)) (inl b) = absurd (omega (arith, a.0, b.0))
of_plain l x y (inr (inr a)) (inr (inl b)) = absurd (a.1 b.0 b.2)
of_plain l x y (inr (inr a)) (inr (inr b)) = a.2 ∙ sym b.2

one_by : (p q : Bool) (b : ℕ) (t : Bytes) (x y : Read F.Content) → SeenBy p q b t x → SeenBy p q b t y → x ≡ y
one_by true q b t x y g h = of_formula t x y g h
one_by false true b t x y g h = of_literal t x y g h
one_by false false b t x y g h = of_plain (b ∷ t) x y g h

one_seen : (text : Bytes) (x y : Read F.Content) → Seen text x → Seen text y → x ≡ y
one_seen [] x y g h = absurd g
one_seen (b ∷ t) x y g h = one_by (b == 61) (b == 34) b t x y g h

pub one_content : (text : Bytes) (x y : Read F.Content) → ReadsContent text x → ReadsContent text y → x ≡ y
one_content text x y a b = one_seen text x y (seen a) (seen b)

-- ---- places

pub same_place : (bs : Bytes) (a b : Addr) → IsAddress bs a → IsAddress bs b → a ≡ b
same_place bs a b h k = one_address a b h.0 k.0 (sym h.1 ∙ k.1)

corners_same : (bs : Bytes) (a b c d : Addr) → Corners bs a b → Corners bs c d → range a b ≡ range c d
corners_same bs a b c d (inl h) (inl k) =
    let e = same_place bs a c h.0 k.0 in
    ap (λ (z : Addr). range z b) e ∙ ap (λ (z : Addr). range c z) (sym h.1 ∙ e ∙ k.1)
corners_same bs a b c d (inl h) (inr k) = absurd (holds_colon k.0 k.1 (subst (Lacks 58) k.2 (address_lacks bs a h.0)))
corners_same bs a b c d (inr h) (inl k) = absurd (holds_colon h.0 h.1 (subst (Lacks 58) h.2 (address_lacks bs c k.0)))
corners_same bs a b c d (inr h) (inr k) =
    let e = same_cut h.0 h.1 k.0 k.1 (address_lacks h.0 a h.3) (address_lacks k.0 c k.3) (sym h.2 ∙ k.2) in
    let p = same_place k.0 a c (subst (λ (z : Bytes). IsAddress z a) e.0 h.3) k.3 in
    let q = same_place k.1 b d (subst (λ (z : Bytes). IsAddress z b) e.1 h.4) k.4 in
    ap (λ (z : Addr). range z b) p ∙ ap (λ (z : Addr). range c z) q

one_place : (bs : Bytes) (a b c d : Addr) → IsPlace bs a b → IsPlace bs c d → range a b ≡ range c d
one_place bs a b c d p q = corners_same bs a b c d (corners p) (corners q)

pub one_range : {bs : Bytes} {x y : Read Range} → ReadsRange bs x → ReadsRange bs y → x ≡ y
one_range (C.ReadsRange.range_of {bs = bs} {a = a} {b = b} p) (C.ReadsRange.range_of {a = c} {b = d} q) = ap (λ (r : Range). cond (in_order r.first r.last) (Is r) (Not (codes "range"))) (one_place bs a b c d p q)
one_range (C.ReadsRange.range_of {a = a} {b = b} p) (C.ReadsRange.no_address n) = absurd (n a b p)
one_range (C.ReadsRange.no_address n) (C.ReadsRange.range_of {a = a} {b = b} p) = absurd (n a b p)
one_range (C.ReadsRange.no_address n) (C.ReadsRange.no_address m) = refl

-- ---- words

same_range : {bs : Bytes} {r s : Range} → ReadsRange bs (Is r) → ReadsRange bs (Is s) → r ≡ s
same_range {r = r} {s = s} p q = let e : Is r ≡ Is s = one_range p q in cc

same_word : {bs : Bytes} {w v : Bytes} → ReadsRange bs (Not w) → ReadsRange bs (Not v) → w ≡ v
same_word {w = w} {v = v} p q = let e : Not w ≡ Not v = one_range p q in cc

range_or_word : {bs : Bytes} {r : Range} {w : Bytes} → ReadsRange bs (Is r) → ReadsRange bs (Not w) → ⊥
range_or_word {r = r} {w = w} p q = let e : Is r ≡ Not w = one_range p q in cc

same_text : {o : Option Bytes} {x y : Read (Option F.Content)} → C.ReadsText o x → C.ReadsText o y → x ≡ y
same_text C.ReadsText.no_text C.ReadsText.no_text = refl
same_text (C.ReadsText.text {t = t} {r = x} r) (C.ReadsText.text {r = y} s) = ap (λ (z : Read F.Content). C.onto (λ (c : F.Content). Some c) z) (one_content t x y r s)

stamp_or_not : (b : Bool) → IsTrue b → IsFalse b → ⊥
stamp_or_not b t f = cc

-- what an edit with this stamp asks
abbrev edit_by : Bytes → Bytes → Addr → Read (Option F.Content) → Read C.Request
edit_by t n a r = C.onto (λ c. C.Request.Merge (record { stamp = stamp (digits_value t) (digits_value n); place = a; content = c })) r

pub one_words : {ws : C.Words} {x y : Read C.Request} → ReadsWords ws x → ReadsWords ws y → x ≡ y
one_words C.ReadsWords.list C.ReadsWords.list = refl
one_words C.ReadsWords.calc C.ReadsWords.calc = refl
one_words C.ReadsWords.oracle C.ReadsWords.oracle = refl
one_words C.ReadsWords.quit C.ReadsWords.quit = refl
one_words (C.ReadsWords.set {place = p} {t = t} {r = x} a h r) (C.ReadsWords.set {r = y} b k s) = ap (λ (z : Addr). C.onto (C.Request.Set z) x) (same_place p a b h k) ∙ ap (λ (z : Read F.Content). C.onto (C.Request.Set b) z) (one_content t x y r s)
one_words (C.ReadsWords.set a h r) (C.ReadsWords.set_place n) = absurd (n a h)
one_words (C.ReadsWords.set_place n) (C.ReadsWords.set b k s) = absurd (n b k)
one_words (C.ReadsWords.set_place n) (C.ReadsWords.set_place m) = refl
one_words (C.ReadsWords.clear r) (C.ReadsWords.clear s) = ap (λ (z : Read Range). C.onto C.Request.Clear z) (one_range r s)
one_words (C.ReadsWords.view r) (C.ReadsWords.view s) = ap (λ (z : Range). cond (C.is_viewable z) (Is (C.Request.View z)) (Not (codes "range"))) (same_range r s)
one_words (C.ReadsWords.view r) (C.ReadsWords.view_place s) = absurd (range_or_word r s)
one_words (C.ReadsWords.view_place r) (C.ReadsWords.view s) = absurd (range_or_word s r)
one_words (C.ReadsWords.view_place r) (C.ReadsWords.view_place s) = ap Not (same_word r s)
one_words (C.ReadsWords.show {place = p} {a = a} h) (C.ReadsWords.show {a = b} k) = ap (λ (z : Addr). Is (C.Request.Show z)) (same_place p a b h k)
one_words (C.ReadsWords.show {a = a} h) (C.ReadsWords.show_place n) = absurd (n a h)
one_words (C.ReadsWords.show_place n) (C.ReadsWords.show {a = a} h) = absurd (n a h)
one_words (C.ReadsWords.show_place n) (C.ReadsWords.show_place m) = refl
one_words (C.ReadsWords.get {place = p} {a = a} h) (C.ReadsWords.get {a = b} k) = ap (λ (z : Addr). Is (C.Request.Get z)) (same_place p a b h k)
one_words (C.ReadsWords.get {a = a} h) (C.ReadsWords.get_place n) = absurd (n a h)
one_words (C.ReadsWords.get_place n) (C.ReadsWords.get {a = a} h) = absurd (n a h)
one_words (C.ReadsWords.get_place n) (C.ReadsWords.get_place m) = refl
one_words (C.ReadsWords.why_of {place = p} {a = a} h) (C.ReadsWords.why_of {a = b} k) = ap (λ (z : Addr). Is (C.Request.Why z)) (same_place p a b h k)
one_words (C.ReadsWords.why_of {a = a} h) (C.ReadsWords.why_place n) = absurd (n a h)
one_words (C.ReadsWords.why_place n) (C.ReadsWords.why_of {a = a} h) = absurd (n a h)
one_words (C.ReadsWords.why_place n) (C.ReadsWords.why_place m) = refl
one_words (C.ReadsWords.explain {place = p} {a = a} h) (C.ReadsWords.explain {a = b} k) = ap (λ (z : Addr). Is (C.Request.Explain z)) (same_place p a b h k)
one_words (C.ReadsWords.explain {a = a} h) (C.ReadsWords.explain_place n) = absurd (n a h)
one_words (C.ReadsWords.explain_place n) (C.ReadsWords.explain {a = a} h) = absurd (n a h)
one_words (C.ReadsWords.explain_place n) (C.ReadsWords.explain_place m) = refl
one_words (C.ReadsWords.payload h) (C.ReadsWords.payload k) = refl
one_words C.ReadsWords.export C.ReadsWords.export = refl
one_words C.ReadsWords.undo C.ReadsWords.undo = refl
one_words C.ReadsWords.redo C.ReadsWords.redo = refl
one_words C.ReadsWords.flow C.ReadsWords.flow = refl
one_words C.ReadsWords.site C.ReadsWords.site = refl
one_words (C.ReadsWords.edit {t = t} {n = n} {place = p} {r = x} a h i r) (C.ReadsWords.edit {r = y} b k j s) = ap (λ (z : Addr). edit_by t n z x) (same_place p a b h k) ∙ ap (λ (z : Read (Option F.Content)). edit_by t n b z) (same_text r s)
one_words (C.ReadsWords.edit {t = t} {n = n} a h i r) (C.ReadsWords.edit_stamp b k j) = absurd (stamp_or_not (is_stamp (digits_value t) (digits_value n)) i j)
one_words (C.ReadsWords.edit a h i r) (C.ReadsWords.edit_place m) = absurd (m a h)
one_words (C.ReadsWords.edit_stamp {t = t} {n = n} a h i) (C.ReadsWords.edit b k j s) = absurd (stamp_or_not (is_stamp (digits_value t) (digits_value n)) j i)
one_words (C.ReadsWords.edit_stamp a h i) (C.ReadsWords.edit_stamp b k j) = refl
one_words (C.ReadsWords.edit_stamp a h i) (C.ReadsWords.edit_place m) = absurd (m a h)
one_words (C.ReadsWords.edit_place m) (C.ReadsWords.edit b k j s) = absurd (m b k)
one_words (C.ReadsWords.edit_place m) (C.ReadsWords.edit_stamp b k j) = absurd (m b k)
one_words (C.ReadsWords.edit_place m) (C.ReadsWords.edit_place k) = refl

-- ---- lines

same_words : (l : Bytes) (ws vs : C.Words) → words_of l ≡ Some ws → words_of l ≡ Some vs → ws ≡ vs
same_words l ws vs p q = let e : Some ws ≡ Some vs = sym p ∙ q in cc

apart : (b : Bool) → IsTrue b → IsFalse b → ⊥
apart b t f = cc

no_and_some : (l : Bytes) (ws : C.Words) → words_of l ≡ None → words_of l ≡ Some ws → ⊥
no_and_some l ws p q = let e : None ≡ Some ws = sym p ∙ q in cc

pub one_line : (l : Bytes) (x y : Read C.Request) → ReadsLine l x → ReadsLine l y → x ≡ y
one_line l x y (C.ReadsLine.comment a) (C.ReadsLine.comment b) = refl
one_line l x y (C.ReadsLine.comment a) (C.ReadsLine.utf8 n u) = absurd (apart (is_comment l) a n)
one_line l x y (C.ReadsLine.comment a) (C.ReadsLine.command n u w) = absurd (apart (is_comment l) a n)
one_line l x y (C.ReadsLine.comment a) (C.ReadsLine.words n u w r) = absurd (apart (is_comment l) a n)
one_line l x y (C.ReadsLine.utf8 n u) (C.ReadsLine.comment a) = absurd (apart (is_comment l) a n)
one_line l x y (C.ReadsLine.utf8 n u) (C.ReadsLine.utf8 m v) = refl
one_line l x y (C.ReadsLine.utf8 n u) (C.ReadsLine.command m v w) = absurd (apart (is_utf8 l) v u)
one_line l x y (C.ReadsLine.utf8 n u) (C.ReadsLine.words m v w r) = absurd (apart (is_utf8 l) v u)
one_line l x y (C.ReadsLine.command n u w) (C.ReadsLine.comment a) = absurd (apart (is_comment l) a n)
one_line l x y (C.ReadsLine.command n u w) (C.ReadsLine.utf8 m v) = absurd (apart (is_utf8 l) u v)
one_line l x y (C.ReadsLine.command n u w) (C.ReadsLine.command m v z) = refl
one_line l x y (C.ReadsLine.command n u w) (C.ReadsLine.words {ws = ws} m v z r) = absurd (no_and_some l ws w z)
one_line l x y (C.ReadsLine.words n u w r) (C.ReadsLine.comment a) = absurd (apart (is_comment l) a n)
one_line l x y (C.ReadsLine.words n u w r) (C.ReadsLine.utf8 m v) = absurd (apart (is_utf8 l) u v)
one_line l x y (C.ReadsLine.words {ws = ws} n u w r) (C.ReadsLine.command m v z) = absurd (no_and_some l ws z w)
one_line l x y (C.ReadsLine.words {ws = ws} n u w r) (C.ReadsLine.words {ws = vs} m v z s) = one_words r (subst (λ (k : C.Words). ReadsWords k y) (sym (same_words l ws vs w z)) s)
