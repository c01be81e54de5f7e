-- At most one token stands in front of a text, so a text has at most one list of tokens, or one first fault.
use Rattle.std.proofs.Common.{◌≡◌, ℕ, ◌+◌, ◌-◌, ◌/◌, ◌%◌, ◌≤◌, Bool, true, false, ◌==◌, ◌⊎◌, inl, inr, List, [], ◌∷◌, ◌++◌, drop, length, get_or, refl, ap, sym, subst, ◌∙◌, arith, IsTrue}
use Rattle.std.specs.Prelude.{nat_le}
use Rattle.std.specs.Fmt.{decimal}
use Rattle.std.proofs.lemmas.Fmt.{decimal_injective}
use Rattle.std.proofs.lemmas.Bool.Decides.{nat_tests}
use Rattle.std.proofs.lemmas.List.{append-nil}
use Rattle.gl_calculus.specs.Grid.Grid.{Addr, addr, grid, covers}
use Rattle.gl_calculus.specs.Grid.Notation.{column_text, address_text}
use Rattle.gl_language.specs.Texts.Text.{Bytes}
use Rattle.gl_language.specs.Reading.Token as T
use Rattle.gl_language.specs.Reading.Token.{is_digit, is_upper, is_lower, Takes, Reads, no_more, space, token, LexFault, IsLexFault, fault_at}
use Rattle.gl_lex.specs.Laws.{OneTokenList, OneLexFault, TokensOrFault}
use Rattle.gl_lex.specs.Front.{NoToken, sign_len}
use Rattle.gl_lex.proofs.Starts.{on_grid, spells_begins}
use Rattle.gl_lex.proofs.Fronts.{first, cut_at, row_cut, digit_front, lower_front}
use Rattle.gl_lex.proofs.Letters.{IsWord, IsAddress, upper_front, decimal_row, column_row, digits_first}
use Rattle.gl_lex.proofs.Texts.{IsText, text_front}
use Rattle.gl_lex.proofs.Signs.{other_front, other_is}

-- ---- addresses

column_cases : (c d : ℕ) (x y : Bool) → nat_le c 26 ≡ x → nat_le d 26 ≡ y → 1 ≤ c → 1 ≤ d → c ≤ 702 → d ≤ 702 → column_text c ≡ column_text d → c ≡ d
column_cases c d true true p q h k l m e =
    let f : (64 + c) ∷ [] ≡ (64 + d) ∷ [] = rw (p, q) at e in
    let g : 64 + c ≡ 64 + d = ap (λ z. get_or z 0 0) f in
    omega (arith, g)
column_cases c d true false p q h k l m e =
    let f = rw (p, q) at e in
    absurd (omega (arith, ap length f))
column_cases c d false true p q h k l m e =
    let f = rw (p, q) at e in
    absurd (omega (arith, ap length f))
column_cases c d false false p q h k l m e =
    let f : (64 + (c - 1) / 26) ∷ (65 + (c - 1) % 26) ∷ [] ≡ (64 + (d - 1) / 26) ∷ (65 + (d - 1) % 26) ∷ [] = rw (p, q) at e in
    let g : 64 + (c - 1) / 26 ≡ 64 + (d - 1) / 26 = ap (λ z. get_or z 0 0) f in
    let i : 65 + (c - 1) % 26 ≡ 65 + (d - 1) % 26 = ap (λ z. get_or z 1 0) f in
    omega (arith, g, i)

pub one_address : (a b : Addr) → IsTrue (covers grid a) → IsTrue (covers grid b) → address_text a ≡ address_text b → a ≡ b
one_address a b on off e =
    let (c, k, r, s) = on_grid a on in
    let (d, l, q, t) = on_grid b off in
    let da = (decimal_row a.row (omega (arith, s))).0 in
    let db = (decimal_row b.row (omega (arith, t))).0 in
    let pa = digits_first (decimal a.row) [] da in
    let pb = digits_first (decimal b.row) [] db in
    let na = subst (λ z. T.NotBefore is_upper z) (append-nil (decimal a.row)) pa in
    let nb = subst (λ z. T.NotBefore is_upper z) (append-nil (decimal b.row)) pb in
    let u = row_cut is_upper (address_text a) (column_text a.col) (decimal a.row) refl (column_row a.col c k) na in
    let v = row_cut is_upper (address_text a) (column_text b.col) (decimal b.row) e (column_row b.col d l) nb in
    let col : a.col ≡ b.col = column_cases a.col b.col (nat_le a.col 26) (nat_le b.col 26) refl refl c d k l (sym u.front ∙ v.front) in
    let row : a.row ≡ b.row = decimal_injective a.row b.row (omega (arith, s)) (omega (arith, t)) (sym u.behind ∙ v.behind) in
    ap (λ z. addr z a.row) col ∙ ap (λ z. addr b.col z) row

-- ---- one token

abbrev Same : T.Token → T.Token → Bytes → Bytes → Type 0
Same t u r s = (t ≡ u) × (r ≡ s)

same_upper : (bytes : Bytes) (t u : T.Token) (r s : Bytes) → IsWord bytes t r ⊎ IsAddress bytes t r → IsWord bytes u s ⊎ IsAddress bytes u s → Same t u r s
same_upper bytes t u r s (inl a) (inl b) = (a.token ∙ sym b.token, sym a.behind ∙ b.behind)
same_upper bytes t u r s (inr a) (inr b) =
    let e = one_address a.at_address b.at_address a.on b.on (a.text ∙ sym b.text) in
    (a.token ∙ ap T.Address e ∙ sym b.token, sym a.behind ∙ b.behind)
same_upper bytes t u r s (inl a) (inr b) = absurd (omega (arith, a.no_digit, b.digits))
same_upper bytes t u r s (inr a) (inl b) = absurd (omega (arith, b.no_digit, a.digits))

same_text : (rest : Bytes) (t u : T.Token) (r s : Bytes) → IsText rest t r → IsText rest u s → Same t u r s
same_text rest t u r s a b =
    let e = sym a.scanned ∙ b.scanned in
    let f : a.text ≡ b.text = cc e in
    let g : length a.quoted + 1 ≡ length b.quoted + 1 = cc e in
    let h : length a.quoted ≡ length b.quoted = omega (arith, g) in
    let m = cut_at rest a.quoted (34 ∷ r) (length a.quoted) a.behind refl in
    let n = cut_at rest b.quoted (34 ∷ s) (length a.quoted) b.behind h in
    (a.token ∙ ap T.Quoted f ∙ sym b.token, ap (drop 1) (sym m.behind ∙ n.behind))

same_quote : (bytes : Bytes) (t u : T.Token) (r s : Bytes) → (first bytes == 34) ≡ true → Takes bytes t r → Takes bytes u s → Same t u r s
same_quote [] t u r s h k l = absurd (cc h)
same_quote (b ∷ bytes) t u r s h k l =
    let e : b ≡ 34 = grind (arith, nat_tests, h) in
    let k' = subst (λ z. Takes (z ∷ bytes) t r) e k in
    let l' = subst (λ z. Takes (z ∷ bytes) u s) e l in
    same_text bytes t u r s (text_front bytes t r k') (text_front bytes u s l')

by_class : (bytes : Bytes) (t u : T.Token) (r s : Bytes) (d c l q : Bool) → is_digit (first bytes) ≡ d → is_upper (first bytes) ≡ c → is_lower (first bytes) ≡ l → (first bytes == 34) ≡ q → Takes bytes t r → Takes bytes u s → Same t u r s
by_class bytes t u r s true c l q hd hc hl hq j k =
    let a = digit_front bytes t r j hd in
    let b = digit_front bytes u s k hd in
    (a.token ∙ sym b.token, sym a.behind ∙ b.behind)
by_class bytes t u r s false true l q hd hc hl hq j k = same_upper bytes t u r s (upper_front bytes t r j hc) (upper_front bytes u s k hc)
by_class bytes t u r s false false true q hd hc hl hq j k =
    let a = lower_front bytes t r j hl in
    let b = lower_front bytes u s k hl in
    (a.token ∙ sym b.token, sym a.behind ∙ b.behind)
by_class bytes t u r s false false false true hd hc hl hq j k = same_quote bytes t u r s hq j k
by_class bytes t u r s false false false false hd hc hl hq j k =
    let o = other_is (first bytes) hd hc hl hq in
    let a = other_front bytes t r j o in
    let b = other_front bytes u s k o in
    let e = sym a.at_front ∙ b.at_front in
    let f : a.sign ≡ b.sign = cc e in
    (a.token ∙ ap T.Signed f ∙ sym b.token, sym a.behind ∙ ap (λ z. drop (sign_len z) bytes) f ∙ b.behind)

pub one_token : (bytes : Bytes) (t u : T.Token) (r s : Bytes) → Takes bytes t r → Takes bytes u s → Same t u r s
one_token bytes t u r s j k = by_class bytes t u r s (is_digit (first bytes)) (is_upper (first bytes)) (is_lower (first bytes)) (first bytes == 34) refl refl refl refl j k

-- ---- one reading

no_token_at_end : NoToken []
no_token_at_end t more (bs, e, s, ends) =
    let b = spells_begins s in
    let f : [] ≡ b.first ∷ (b.more ++ more) = e ∙ ap (λ z. z ++ more) b.is in
    cc f

no_token_at_space : (rest : Bytes) → NoToken (32 ∷ rest)
no_token_at_space rest t more k =
    let i = other_front (32 ∷ rest) t more k refl in
    cc i.at_front

-- where no more can be read
record Stops (r : Bytes) : Type 0 where
  no_space : (rest : Bytes) → r ≡ 32 ∷ rest → ⊥
  no_token : NoToken r

one_end : {text r s : Bytes} {ts us : List T.Token} → Reads text ts r → Stops r → Reads text us s → Stops s → (ts ≡ us) × (r ≡ s)
one_end no_more e no_more f = (refl, refl)
one_end no_more e (space b) f = absurd (e.no_space _ refl)
one_end no_more e (token {more = m} {t = u} k b) f = absurd (e.no_token u m k)
one_end (space a) e no_more f = absurd (f.no_space _ refl)
one_end (space a) e (space b) f = one_end a e b f
one_end (space a) e (token {more = m} {t = u} k b) f = absurd (no_token_at_space _ u m k)
one_end (token {more = m} {t = t} j a) e no_more f = absurd (f.no_token t m j)
one_end (token {more = m} {t = t} j a) e (space b) f = absurd (no_token_at_space _ t m j)
one_end {s = s} (token {text = text} {more = m} {t = t} {ts = ts} j a) e (token {more = n} {t = u} {ts = us} k b) f =
    let (p, q) = one_token text t u m n j k in
    let (g, h) = one_end a e (subst (λ z. Reads z us s) (sym q) b) f in
    (ap (λ z. z ∷ ts) p ∙ ap (λ z. u ∷ z) g, h)

stops_at_end : Stops []
stops_at_end = record { no_space = λ rest e. cc e; no_token = no_token_at_end }

stops_at_fault : {text : Bytes} {x : LexFault} {n : ℕ} (f : IsLexFault text x n) → Stops (f.first ∷ f.rest)
stops_at_fault f = record { no_space = λ rest e. f.no_space (ap (λ z. get_or z 0 0) e); no_token = f.no_token }

pub one_token_list : OneTokenList
one_token_list text ts us a b = (one_end a stops_at_end b stops_at_end).0

pub one_lex_fault : OneLexFault
one_lex_fault text x y m n a b =
    let (e, f) = one_end a.reads (stops_at_fault a) b.reads (stops_at_fault b) in
    let g : a.first ≡ b.first = ap (λ z. get_or z 0 0) f in
    (a.which ∙ ap fault_at g ∙ sym b.which, omega (arith, a.place, b.place, ap length f))

pub tokens_or_fault : TokensOrFault
tokens_or_fault text ts x n a b =
    let (e, f) = one_end a stops_at_end b.reads (stops_at_fault b) in
    cc f
