-- The decoder gives what the rules of literals give.
use Rattle.std.proofs.Common.{◌≡◌, ◌≢◌, ℕ, ◌+◌, ◌*◌, ◌<◌, ◌≤◌, Bool, true, false, ◌&&◌, ◌==◌, ◌⊎◌, inl, inr, [], ◌∷◌, ◌++◌, length, refl, ap, sym, subst, ◌∙◌, arith, IsFalse}
use Rattle.std.specs.Prelude.{nat_le}
use Rattle.std.proofs.lemmas.Bool.Decides.{nat_tests}
use Rattle.gl_language.specs.Texts.Text.{Bytes, is_control, hex_digit}
use Rattle.gl_language.specs.Reading.Token.{Decodes, IsHexDigit}
use Rattle.gl_language.specs.Reading.Token as D
use Rattle.gl_lex.specs.declared.quote.State.{State}
use Rattle.gl_lex.specs.declared.quote.State.TheVariants as state
use Rattle.gl_lex.specs.declared.quote.Step.{Step}
use Rattle.gl_lex.specs.declared.quote.Step.TheVariants.{Go, Push, End, Broken}
use Rattle.gl_lex.specs.Quote.{Scan, with_front, decode, turn, hex, plain, escape}
use Rattle.gl_lex.proofs.Quotes.{by_step, decode_step}

-- ---- steps

plain_is : (b : ℕ) → b ≢ 92 → b ≢ 34 → IsFalse (is_control b) → plain b ≡ Push b
plain_is b m n c = grind (arith, nat_tests, m, n, c)

escape_is : (b : ℕ) → (b ≡ 92) ⊎ (b ≡ 34) → escape b ≡ Push b
escape_is b (inl e) = rw e refl
escape_is b (inr e) = rw e refl

hex_below : (n : ℕ) → n < 16 → hex (hex_digit n) ≡ n
hex_below n h = grind (arith, nat_tests, h)

hex_small : (n : ℕ) → n < 16 → 10 ≤ n → hex (n + 87) ≡ n
hex_small n h l = grind (arith, nat_tests, h, l)

hex_is : (b n : ℕ) → IsHexDigit b n → hex b ≡ n
hex_is b n (h, inl e) = rw e (hex_below n h)
hex_is b n (h, inr (l, e)) = rw e (hex_small n h l)

first_is : (h m : ℕ) → IsHexDigit h m → m < 8 → turn state.HexFirst h ≡ Go (state.HexSecond m)
first_is h m d s = let e : hex h ≡ m = hex_is h m d in rw e (grind (arith, nat_tests, s))

second_is : (l m n : ℕ) → IsHexDigit l n → m < 8 → turn (state.HexSecond m) l ≡ Push (16 * m + n)
second_is l m n d s = let e : hex l ≡ n = hex_is l n d in let (k, r) = d in rw e (grind (arith, nat_tests, s, k))

-- ---- from the rules to the decoder

step_on : (s : State) (b : ℕ) (bs : Bytes) (x : Step) (r : Scan) → turn s b ≡ x → by_step x bs ≡ r → decode s (b ∷ bs) ≡ r
step_on s b bs x r e f = decode_step s b bs x e ∙ f

counted : (t : Bytes) (m n : ℕ) → m ≡ n → Scan.Ends t m ≡ Scan.Ends t n
counted t m n e = ap (Scan.Ends t) e

pub decoded : {s t : Bytes} → Decodes s t → (rest : Bytes) → decode state.Plain (s ++ 34 ∷ rest) ≡ Scan.Ends t (length s + 1)
decoded D.end rest = refl
decoded (D.plain {b} {s} {t} m n c d) rest =
    step_on state.Plain b (s ++ 34 ∷ rest) (Push b) _ (plain_is b m n c) (ap (with_front (b ∷ []) 1) (decoded d rest) ∙ counted (b ∷ t) _ _ (omega arith))
decoded (D.itself {b} {s} {t} e d) rest =
    step_on state.Plain 92 (b ∷ s ++ 34 ∷ rest) (Go state.Escape) _ refl
    (ap (with_front [] 1) (step_on state.Escape b (s ++ 34 ∷ rest) (Push b) _ (escape_is b e) (ap (with_front (b ∷ []) 1) (decoded d rest))) ∙ counted (b ∷ t) _ _ (omega arith))
decoded (D.newline {s} {t} d) rest = ap (λ z. with_front [] 1 (with_front (10 ∷ []) 1 z)) (decoded d rest) ∙ counted (10 ∷ t) _ _ (omega arith)
decoded (D.return {s} {t} d) rest = ap (λ z. with_front [] 1 (with_front (13 ∷ []) 1 z)) (decoded d rest) ∙ counted (13 ∷ t) _ _ (omega arith)
decoded (D.tab {s} {t} d) rest = ap (λ z. with_front [] 1 (with_front (9 ∷ []) 1 z)) (decoded d rest) ∙ counted (9 ∷ t) _ _ (omega arith)
decoded (D.hex {h} {l} {m} {n} {s} {t} u v small d) rest =
    ap (λ z. with_front [] 1 (with_front [] 1 z))
    (step_on state.HexFirst h (l ∷ s ++ 34 ∷ rest) (Go (state.HexSecond m)) _ (first_is h m u small)
    (ap (with_front [] 1) (step_on (state.HexSecond m) l (s ++ 34 ∷ rest) (Push (16 * m + n)) _ (second_is l m n v small) (ap (with_front ((16 * m + n) ∷ []) 1) (decoded d rest)))))
    ∙ counted ((16 * m + n) ∷ t) _ _ (omega arith)

-- ---- from the decoder to the rules

pub record Split (bytes t : Bytes) (n : ℕ) : Type 0 where
  pub quoted : Bytes
  pub rest : Bytes
  pub is : bytes ≡ quoted ++ 34 ∷ rest
  pub count : n ≡ length quoted + 1
  pub decodes : Decodes quoted t

plain_go : (b : ℕ) (s : State) → plain b ≡ Go s → (b ≡ 92) × (s ≡ state.Escape)
plain_go b s e = (grind (arith, nat_tests, e), grind (arith, nat_tests, e))

plain_push : (b c : ℕ) → plain b ≡ Push c → (c ≡ b) × (b ≢ 92) × (b ≢ 34) × IsFalse (is_control b)
plain_push b c e = (grind (arith, nat_tests, e), (λ h. grind (arith, nat_tests, e, h)), (λ h. grind (arith, nat_tests, e, h)), grind (arith, nat_tests, e))

plain_end : (b : ℕ) → plain b ≡ End → b ≡ 34
plain_end b e = grind (arith, nat_tests, e)

escape_go : (b : ℕ) (s : State) → escape b ≡ Go s → (b ≡ 120) × (s ≡ state.HexFirst)
escape_go b s e = (grind (arith, nat_tests, e), grind (arith, nat_tests, e))

escape_end : (b : ℕ) → escape b ≡ End → ⊥
escape_end b e = grind (arith, nat_tests, e)

-- the front of a result
pub record Behind (front : Bytes) (k : ℕ) (s : Scan) (t : Bytes) (n : ℕ) : Type 0 where
  pub text : Bytes
  pub length : ℕ
  pub ends : s ≡ Scan.Ends text length
  pub whole : t ≡ front ++ text
  pub counts : n ≡ k + length

behind : (front : Bytes) (k : ℕ) (s : Scan) (t : Bytes) (n : ℕ) → with_front front k s ≡ Scan.Ends t n → Behind front k s t n
behind front k (Scan.Ends u m) t n e = record { text = u; length = m; ends = refl; whole = cc e; counts = cc e }
behind front k Scan.Torn t n e = absurd (cc e)

abbrev Scans : State → Bytes → Bytes → Type 0
Scans s before bs = (t : Bytes) (n : ℕ) → decode s bs ≡ Scan.Ends t n → Split (before ++ bs) t (length before + n)

plain_by : (b : ℕ) (bs : Bytes) (x : Step) → plain b ≡ x → Scans state.Plain [] bs → Scans state.Escape (92 ∷ []) bs → (t : Bytes) (n : ℕ) → by_step x bs ≡ Scan.Ends t n → Split (b ∷ bs) t n
plain_by b bs (Go s) h go esc t n e =
    let (m, i) = plain_go b s h in
    let f = behind [] 1 (decode s bs) t n e in
    let g : decode state.Escape bs ≡ Scan.Ends f.text f.length = ap (λ z. decode z bs) (sym i) ∙ f.ends in
    let k = esc f.text f.length g in
    record { quoted = k.quoted; rest = k.rest; is = ap (λ z. z ∷ bs) m ∙ k.is; count = f.counts ∙ k.count; decodes = subst (Decodes k.quoted) (sym f.whole) k.decodes }
plain_by b bs (Push c) h go esc t n e =
    let (m, p, q, r) = plain_push b c h in
    let f = behind (c ∷ []) 1 (decode state.Plain bs) t n e in
    let k = go f.text f.length f.ends in
    record {
      quoted = b ∷ k.quoted;
      rest = k.rest;
      is = ap (λ z. b ∷ z) k.is;
      count = omega (arith, f.counts, k.count);
      decodes = subst (Decodes (b ∷ k.quoted)) (ap (λ z. z ∷ f.text) (sym m) ∙ sym f.whole) (D.plain p q r k.decodes);
    }
plain_by b bs End h go esc t n e =
    let i = plain_end b h in
    record { quoted = []; rest = bs; is = ap (λ z. z ∷ bs) i; count = cc e; decodes = let u : [] ≡ t = cc e in subst (Decodes []) u D.end }
plain_by b bs Broken h go esc t n e = absurd (cc e)

data EscapeOf (b : ℕ) (c : ℕ) : Type 0 where
  itself_of : (b ≡ 92) ⊎ (b ≡ 34) → c ≡ b → EscapeOf b c
  newline_of : b ≡ 110 → c ≡ 10 → EscapeOf b c
  return_of : b ≡ 114 → c ≡ 13 → EscapeOf b c
  tab_of : b ≡ 116 → c ≡ 9 → EscapeOf b c

escape_push_by : (b c : ℕ) (u v w x y : Bool) → (b == 92) ≡ u → (b == 34) ≡ v → (b == 110) ≡ w → (b == 114) ≡ x → (b == 116) ≡ y → escape b ≡ Push c → EscapeOf b c
escape_push_by b c true v w x y p q r s t e = itself_of (inl (grind (arith, nat_tests, p))) (grind (arith, nat_tests, p, e))
escape_push_by b c false true w x y p q r s t e = itself_of (inr (grind (arith, nat_tests, q))) (grind (arith, nat_tests, p, q, e))
escape_push_by b c false false true x y p q r s t e = newline_of (grind (arith, nat_tests, r)) (grind (arith, nat_tests, p, q, r, e))
escape_push_by b c false false false true y p q r s t e = return_of (grind (arith, nat_tests, s)) (grind (arith, nat_tests, p, q, r, s, e))
escape_push_by b c false false false false true p q r s t e = tab_of (grind (arith, nat_tests, t)) (grind (arith, nat_tests, p, q, r, s, t, e))
escape_push_by b c false false false false false p q r s t e = absurd (grind (arith, nat_tests, p, q, r, s, t, e))

escape_decodes : (b c : ℕ) (s t : Bytes) → EscapeOf b c → Decodes s t → Decodes (92 ∷ b ∷ s) (c ∷ t)
escape_decodes b c s t (itself_of h e) d = subst (λ z. Decodes (92 ∷ b ∷ s) (z ∷ t)) (sym e) (D.itself h d)
escape_decodes b c s t (newline_of h e) d = rw (h, e) (D.newline d)
escape_decodes b c s t (return_of h e) d = rw (h, e) (D.return d)
escape_decodes b c s t (tab_of h e) d = rw (h, e) (D.tab d)

escape_by : (b : ℕ) (bs : Bytes) (x : Step) → escape b ≡ x → Scans state.Plain [] bs → Scans state.HexFirst (92 ∷ 120 ∷ []) bs → (t : Bytes) (n : ℕ) → by_step x bs ≡ Scan.Ends t n → Split (92 ∷ b ∷ bs) t (1 + n)
escape_by b bs (Go s) h go hex t n e =
    let (m, i) = escape_go b s h in
    let f = behind [] 1 (decode s bs) t n e in
    let g : decode state.HexFirst bs ≡ Scan.Ends f.text f.length = ap (λ z. decode z bs) (sym i) ∙ f.ends in
    let k = hex f.text f.length g in
    record { quoted = k.quoted; rest = k.rest; is = ap (λ z. 92 ∷ z ∷ bs) m ∙ k.is; count = omega (arith, f.counts, k.count); decodes = subst (Decodes k.quoted) (sym f.whole) k.decodes }
escape_by b bs (Push c) h go hex t n e =
    let u = escape_push_by b c (b == 92) (b == 34) (b == 110) (b == 114) (b == 116) refl refl refl refl refl h in
    let f = behind (c ∷ []) 1 (decode state.Plain bs) t n e in
    let k = go f.text f.length f.ends in
    record {
      quoted = 92 ∷ b ∷ k.quoted;
      rest = k.rest;
      is = ap (λ z. 92 ∷ b ∷ z) k.is;
      count = omega (arith, f.counts, k.count);
      decodes = subst (Decodes (92 ∷ b ∷ k.quoted)) (sym f.whole) (escape_decodes b c k.quoted f.text u k.decodes);
    }
escape_by b bs End h go hex t n e = absurd (escape_end b h)
escape_by b bs Broken h go hex t n e = absurd (cc e)

-- a byte whose number as a hexadecimal digit is below 16
digit_of_by : (b : ℕ) (x y z : Bool) → (nat_le 48 b && nat_le b 57) ≡ x → (nat_le 65 b && nat_le b 70) ≡ y → (nat_le 97 b && nat_le b 102) ≡ z → hex b < 16 → IsHexDigit b (hex b)
digit_of_by b true y z p q r h = (h, inl (grind (arith, nat_tests, p)))
digit_of_by b false true z p q r h = (h, inl (grind (arith, nat_tests, p, q)))
digit_of_by b false false true p q r h = (h, inr (grind (arith, nat_tests, p, q, r), grind (arith, nat_tests, p, q, r)))
digit_of_by b false false false p q r h = absurd (grind (arith, nat_tests, p, q, r, h))

digit_of : (b : ℕ) → hex b < 16 → IsHexDigit b (hex b)
digit_of b h = digit_of_by b (nat_le 48 b && nat_le b 57) (nat_le 65 b && nat_le b 70) (nat_le 97 b && nat_le b 102) refl refl refl h

first_go : (h : ℕ) (s : State) → turn state.HexFirst h ≡ Go s → (hex h < 8) × (s ≡ state.HexSecond (hex h))
first_go h s e = (grind (arith, nat_tests, e), grind (arith, nat_tests, e))

first_no : (h : ℕ) (x : Step) → turn state.HexFirst h ≡ x → (c : ℕ) → (x ≡ Push c) ⊎ (x ≡ End) → ⊥
first_no h x e c (inl f) = grind (arith, nat_tests, e, f)
first_no h x e c (inr f) = grind (arith, nat_tests, e, f)

second_push : (l m c : ℕ) → turn (state.HexSecond m) l ≡ Push c → (m < 8) × (hex l < 16) × (c ≡ 16 * m + hex l)
second_push l m c e = (grind (arith, nat_tests, e), grind (arith, nat_tests, e), grind (arith, nat_tests, e))

second_no : (l m : ℕ) (x : Step) → turn (state.HexSecond m) l ≡ x → (s : State) → (x ≡ Go s) ⊎ (x ≡ End) → ⊥
second_no l m x e s (inl f) = grind (arith, nat_tests, e, f)
second_no l m x e s (inr f) = grind (arith, nat_tests, e, f)

first_by : (h : ℕ) (bs : Bytes) (x : Step) → turn state.HexFirst h ≡ x → (hex h < 8 → Scans (state.HexSecond (hex h)) (92 ∷ 120 ∷ h ∷ []) bs) → (t : Bytes) (n : ℕ) → by_step x bs ≡ Scan.Ends t n → Split (92 ∷ 120 ∷ h ∷ bs) t (2 + n)
first_by h bs (Go s) e second t n r =
    let (small, i) = first_go h s e in
    let f = behind [] 1 (decode s bs) t n r in
    let g : decode (state.HexSecond (hex h)) bs ≡ Scan.Ends f.text f.length = ap (λ z. decode z bs) (sym i) ∙ f.ends in
    let k = second small f.text f.length g in
    record { quoted = k.quoted; rest = k.rest; is = k.is; count = omega (arith, f.counts, k.count); decodes = subst (Decodes k.quoted) (sym f.whole) k.decodes }
first_by h bs (Push c) e second t n r = absurd (first_no h (Push c) e c (inl refl))
first_by h bs End e second t n r = absurd (first_no h End e 0 (inr refl))
first_by h bs Broken e second t n r = absurd (cc r)

second_by : (h l : ℕ) (bs : Bytes) (x : Step) → hex h < 8 → turn (state.HexSecond (hex h)) l ≡ x → Scans state.Plain [] bs → (t : Bytes) (n : ℕ) → by_step x bs ≡ Scan.Ends t n → Split (92 ∷ 120 ∷ h ∷ l ∷ bs) t (3 + n)
second_by h l bs (Go s) small e go t n r = absurd (second_no l (hex h) (Go s) e s (inl refl))
second_by h l bs (Push c) small e go t n r =
    let (p, q, i) = second_push l (hex h) c e in
    let f = behind (c ∷ []) 1 (decode state.Plain bs) t n r in
    let k = go f.text f.length f.ends in
    let w : (16 * hex h + hex l) ∷ f.text ≡ t = ap (λ z. z ∷ f.text) (sym i) ∙ sym f.whole in
    record {
      quoted = 92 ∷ 120 ∷ h ∷ l ∷ k.quoted;
      rest = k.rest;
      is = ap (λ z. 92 ∷ 120 ∷ h ∷ l ∷ z) k.is;
      count = omega (arith, f.counts, k.count);
      decodes = subst (Decodes (92 ∷ 120 ∷ h ∷ l ∷ k.quoted)) w (D.hex (digit_of h (omega (arith, small))) (digit_of l q) small k.decodes);
    }
second_by h l bs End small e go t n r = absurd (second_no l (hex h) End e state.Plain (inr refl))
second_by h l bs Broken small e go t n r = absurd (cc r)

mutual
  pub split_plain : (bs : Bytes) → Scans state.Plain [] bs
  split_plain [] t n e = absurd (cc e)
  split_plain (b ∷ bs) t n e = subst (Split (b ∷ bs) t) (omega arith) (plain_by b bs (plain b) refl (split_plain bs) (split_escape bs) t n (sym (decode_step state.Plain b bs (plain b) refl) ∙ e))

  split_escape : (bs : Bytes) → Scans state.Escape (92 ∷ []) bs
  split_escape [] t n e = absurd (cc e)
  split_escape (b ∷ bs) t n e = escape_by b bs (escape b) refl (split_plain bs) (split_first bs) t n (sym (decode_step state.Escape b bs (escape b) refl) ∙ e)

  split_first : (bs : Bytes) → Scans state.HexFirst (92 ∷ 120 ∷ []) bs
  split_first [] t n e = absurd (cc e)
  split_first (h ∷ bs) t n e = first_by h bs (turn state.HexFirst h) refl (λ small. split_second h bs small) t n (sym (decode_step state.HexFirst h bs (turn state.HexFirst h) refl) ∙ e)

  split_second : (h : ℕ) (bs : Bytes) → hex h < 8 → Scans (state.HexSecond (hex h)) (92 ∷ 120 ∷ h ∷ []) bs
  split_second h [] small t n e = absurd (cc e)
  split_second h (l ∷ bs) small t n e = second_by h l bs (turn (state.HexSecond (hex h)) l) small refl (split_plain bs) t n (sym (decode_step (state.HexSecond (hex h)) l bs (turn (state.HexSecond (hex h)) l) refl) ∙ e)
