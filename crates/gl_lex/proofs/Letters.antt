-- What stands in front of a text that begins with an upper case letter: a word, or an address.
use Rattle.std.proofs.Common.{◌≡◌, ◌≢◌, ℕ, ◌+◌, ◌-◌, ◌*◌, ◌/◌, ◌%◌, ◌^◌, ◌<◌, ◌≤◌, Bool, true, false, ◌||◌, ◌⊎◌, inl, inr, [], ◌∷◌, ◌++◌, take, drop, length, get_or, refl, ap, sym, subst, ◌∙◌, arith, IsTrue, append_assoc, bytes_eq, length-drop}
use Rattle.std.specs.Prelude.{nat_le}
use Rattle.std.specs.Fmt.{decimal}
use Rattle.std.specs.List.{prefix_len}
use Rattle.std.proofs.lemmas.Fmt.{decimal_by_steps}
use Rattle.std.proofs.lemmas.List.{take_all, drop-drop, length-append}
use Rattle.std.proofs.lemmas.List.Sums.{prefix_len-le-length}
use Rattle.std.proofs.lemmas.Slice.Eq.{bytes_eq-Decides}
use Rattle.std.proofs.lemmas.Bool.Decides.{nat_tests}
use Rattle.gl_calculus.specs.Grid.Grid.{Addr, grid, covers}
use Rattle.gl_calculus.specs.Grid.Notation.{column_text, address_text}
use Rattle.gl_plane.specs.Parts.{IsAddr}
use Rattle.gl_language.specs.Texts.Text.{Bytes, truth_text}
use Rattle.gl_language.specs.Reading.Token as T
use Rattle.gl_language.specs.Reading.Token.{is_digit, is_upper, IsRow, NotBefore, Spells, Takes, EndsBefore, digits_value, integer, quoted, address, truth, word, variable, signed}
use Rattle.gl_lex.specs.declared.Kind.{Kind}
use Rattle.gl_lex.specs.declared.Kind.TheVariants as k
use Rattle.gl_lex.specs.declared.scan.Bad.TheVariants as bad
use Rattle.gl_lex.specs.declared.scan.Class.TheVariants.{Digit, Upper}
use Rattle.gl_lex.specs.View.{kind_token}
use Rattle.gl_lex.specs.Front.{row, value_from, IsFront, Refuses, word_token}
use Rattle.gl_lex.proofs.Rows.{AllPass, row_stops, row_is, row_first}
use Rattle.gl_lex.proofs.Starts.{starts, takes_starts, on_grid, apart_digit_upper, apart_upper_lower, apart_upper_quote, apart_upper_other}
use Rattle.gl_lex.proofs.Fronts.{first, cut_at, row_cut, row_of_front}

-- ---- decimals are rows of digits

pub all_append : (p : ℕ → Bool) (xs ys : Bytes) → AllPass p xs → AllPass p ys → AllPass p (xs ++ ys)
all_append p [] ys a b = b
all_append p (x ∷ xs) ys a b = (a.0, all_append p xs ys a.1 b)

value_snoc : (n d : ℕ) (ds : Bytes) → value_from n (ds ++ d ∷ []) ≡ 10 * value_from n ds + (d - 48)
value_snoc n d [] = refl
value_snoc n d (x ∷ xs) = value_snoc (10 * n + (x - 48)) d xs

abbrev IsDecimal : ℕ → Bytes → Type 0
IsDecimal n ds = IsRow is_digit ds × (digits_value ds ≡ n)

one_digit : (n : ℕ) → n < 10 → IsDecimal n ((48 + n) ∷ [])
one_digit n h = ((omega arith, (grind (arith, nat_tests), tt)), omega arith)

more_digits : (n : ℕ) (ds : Bytes) → 10 ≤ n → IsDecimal (n / 10) ds → IsDecimal n (ds ++ (48 + n % 10) ∷ [])
more_digits n ds h d = (
  (rw length-append (omega (arith, d.0.0)), all_append is_digit ds ((48 + n % 10) ∷ []) d.0.1 (grind (arith, nat_tests), tt)),
  value_snoc 0 (48 + n % 10) ds ∙ omega (arith, d.1),
)

pub decimal_row : (n : ℕ) → n < 2 ^ 64 → IsDecimal n (decimal n)
decimal_row = decimal_by_steps IsDecimal one_digit more_digits

column_by : (c : ℕ) (b : Bool) → nat_le c 26 ≡ b → 1 ≤ c → c ≤ 702 → AllPass is_upper (column_text c)
column_by c true e h l = rw e (grind (arith, nat_tests), tt)
column_by c false e h l = rw e (grind (arith, nat_tests), (grind (arith, nat_tests), tt))

pub column_row : (c : ℕ) → 1 ≤ c → c ≤ 702 → AllPass is_upper (column_text c)
column_row c h l = column_by c (nat_le c 26) refl h l

-- ---- letters without digits behind them

pub record IsWord (bytes : Bytes) (t : T.Token) (rest : Bytes) : Type 0 where
  pub no_digit : prefix_len is_digit (drop (prefix_len is_upper bytes) bytes) ≡ 0
  pub token : t ≡ word_token (take (prefix_len is_upper bytes) bytes)
  pub behind : drop (prefix_len is_upper bytes) bytes ≡ rest

pub record IsAddress (bytes : Bytes) (t : T.Token) (rest : Bytes) : Type 0 where
  pub digits : 0 < prefix_len is_digit (drop (prefix_len is_upper bytes) bytes)
  pub at_address : Addr
  pub on : IsTrue (covers grid at_address)
  pub text : address_text at_address ≡ take (prefix_len is_upper bytes + prefix_len is_digit (drop (prefix_len is_upper bytes) bytes)) bytes
  pub token : t ≡ T.Address at_address
  pub behind : drop (prefix_len is_upper bytes + prefix_len is_digit (drop (prefix_len is_upper bytes) bytes)) bytes ≡ rest

not_upper : (rest : Bytes) → NotBefore (λ b. is_upper b || is_digit b) rest → NotBefore is_upper rest
not_upper [] n = tt
not_upper (b ∷ bs) n = grind (arith, nat_tests)

not_digit : (rest : Bytes) → NotBefore (λ b. is_upper b || is_digit b) rest → NotBefore is_digit rest
not_digit [] n = tt
not_digit (b ∷ bs) n = grind (arith, nat_tests)

not_both : (rest : Bytes) → NotBefore is_upper rest → NotBefore is_digit rest → NotBefore (λ b. is_upper b || is_digit b) rest
not_both [] m n = tt
not_both (b ∷ bs) m n = rw (m, n) refl

word_front : (bytes bs rest : Bytes) (t : T.Token) → bytes ≡ bs ++ rest → AllPass is_upper bs → NotBefore (λ b. is_upper b || is_digit b) rest → word_token bs ≡ t → IsWord bytes t rest
word_front bytes bs rest t e a n is =
    let c = row_cut is_upper bytes bs rest e a (not_upper rest n) in
    record {
      no_digit = ap (prefix_len is_digit) c.behind ∙ row_is is_digit [] rest tt (not_digit rest n);
      token = sym is ∙ ap word_token (sym c.front);
      behind = c.behind;
    }

truth_row : (b : Bool) → AllPass is_upper (truth_text b)
truth_row true = (refl, (refl, (refl, (refl, tt))))
truth_row false = (refl, (refl, (refl, (refl, (refl, tt)))))

word_of_truth : (b : Bool) → word_token (truth_text b) ≡ T.Truth b
word_of_truth true = refl
word_of_truth false = refl

not_equal : (a b : Bytes) (x : Bool) → bytes_eq a b ≡ x → a ≢ b → x ≡ false
not_equal a b true e n = absurd (n ((bytes_eq-Decides a b).0 e))
not_equal a b false e n = refl

word_of_word : (bs : Bytes) → bs ≢ truth_text true → bs ≢ truth_text false → word_token bs ≡ T.Word bs
word_of_word bs m n =
    let p : bytes_eq bs (truth_text true) ≡ false = not_equal bs (truth_text true) (bytes_eq bs (truth_text true)) refl m in
    let q : bytes_eq bs (truth_text false) ≡ false = not_equal bs (truth_text false) (bytes_eq bs (truth_text false)) refl n in
    rw (p, q) refl

-- ---- letters with digits behind them

pub digits_first : (ds rest : Bytes) → IsRow is_digit ds → NotBefore is_upper (ds ++ rest)
digits_first [] rest h = absurd (omega (arith, h.0))
digits_first (d ∷ ds) rest h = by (is_upper d) refl
  where
    by : (b : Bool) → is_upper d ≡ b → is_upper d ≡ false
    by true e = absurd (apart_digit_upper d h.1.0 e)
    by false e = e

address_front : (bytes rest : Bytes) (a : Addr) → bytes ≡ address_text a ++ rest → IsTrue (covers grid a) → NotBefore is_digit rest → IsAddress bytes (T.Address a) rest
address_front bytes rest a e on n =
    let (c, k, r, s) = on_grid a on in
    let d = (decimal_row a.row (omega (arith, s))).0 in
    let f : bytes ≡ column_text a.col ++ (decimal a.row ++ rest) = e ∙ append_assoc (column_text a.col) (decimal a.row) rest in
    let u = row_cut is_upper bytes (column_text a.col) (decimal a.row ++ rest) f (column_row a.col c k) (digits_first (decimal a.row) rest d) in
    let w : prefix_len is_upper bytes ≡ length (column_text a.col) = ap (prefix_len is_upper) f ∙ row_is is_upper (column_text a.col) (decimal a.row ++ rest) (column_row a.col c k) (digits_first (decimal a.row) rest d) in
    let v : prefix_len is_digit (drop (prefix_len is_upper bytes) bytes) ≡ length (decimal a.row) = ap (prefix_len is_digit) u.behind ∙ row_is is_digit (decimal a.row) rest d.1 n in
    let z = cut_at bytes (address_text a) rest (prefix_len is_upper bytes + prefix_len is_digit (drop (prefix_len is_upper bytes) bytes)) e (ap (λ q. q + prefix_len is_digit (drop (prefix_len is_upper bytes) bytes)) w ∙ ap (λ q. length (column_text a.col) + q) v ∙ sym (length-append (column_text a.col) (decimal a.row))) in
    record { digits = omega (arith, v, d.0); at_address = a; on = on; text = sym z.front; token = refl; behind = z.behind }

pub upper_front : (bytes : Bytes) (t : T.Token) (rest : Bytes) → Takes bytes t rest → is_upper (first bytes) ≡ true → IsWord bytes t rest ⊎ IsAddress bytes t rest
upper_front bytes t rest takes h = by takes (takes_starts bytes t rest takes)
  where
    by : {t : T.Token} → Takes bytes t rest → starts t (first bytes) ≡ true → IsWord bytes t rest ⊎ IsAddress bytes t rest
    by (bs, e, word row m n, ends) s = inl (word_front bytes bs rest (T.Word bs) e row.1 ends (word_of_word bs m n))
    by (bs, e, truth {b}, ends) s = inl (word_front bytes (truth_text b) rest (T.Truth b) e (truth_row b) ends (word_of_truth b))
    by (bs, e, address {a} on, ends) s = inr (address_front bytes rest a e on ends)
    by (bs, e, variable row, ends) s = absurd (apart_upper_lower (first bytes) h s)
    by (bs, e, integer row small, ends) s = absurd (apart_digit_upper (first bytes) s h)
    by (bs, e, quoted d u l, ends) s = absurd (apart_upper_quote (first bytes) h s)
    by (bs, e, signed, ends) s = absurd (apart_upper_other (first bytes) h s)

-- ---- as the code comes to them

pub rest_is : (bytes : Bytes) (at : ℕ) → take (length bytes - at) (drop at bytes) ≡ drop at bytes
rest_is bytes at = take_all (length bytes - at) (drop at bytes) (omega (arith, length-drop at bytes))

as_addr : (a : Addr) → IsTrue (covers grid a) → IsAddr a
as_addr a h = let (c, k, r, s) = on_grid a h in (r, s, c, k)

covered : (a : Addr) → IsAddr a → IsTrue (covers grid a)
covered a h = let (r, s, c, k) = h in grind (arith, nat_tests, r, s, c, k)

pub not_same : (a b : Bytes) → bytes_eq a b ≡ false → a ≢ b
not_same a b p e = let q : bytes_eq a b ≡ true = (bytes_eq-Decides a b).1 e in cc (p, q)

pub quote_is : (bytes : Bytes) → 0 < length bytes → get_or bytes 0 0 ≡ 34 → 34 ∷ take (length bytes - 1) (drop 1 bytes) ≡ bytes
quote_is [] h e = absurd (omega (arith, h))
quote_is (b ∷ bs) h e = ap (λ z. 34 ∷ z) (rest_is (b ∷ bs) 1) ∙ ap (λ z. z ∷ bs) (sym e)

spells_by : (bs : Bytes) (x y : Bool) → bytes_eq bs (truth_text true) ≡ x → bytes_eq bs (truth_text false) ≡ y → IsRow is_upper bs → Spells (word_token bs) bs
spells_by bs true y p q row = let e : bs ≡ truth_text true = (bytes_eq-Decides bs (truth_text true)).0 p in rw e truth
spells_by bs false true p q row = let e : bs ≡ truth_text false = (bytes_eq-Decides bs (truth_text false)).0 q in rw e truth
spells_by bs false false p q row = rw (p, q) (word row (not_same bs (truth_text true) p) (not_same bs (truth_text false) q))

word_spells : (bs : Bytes) → IsRow is_upper bs → Spells (word_token bs) bs
word_spells bs row = spells_by bs (bytes_eq bs (truth_text true)) (bytes_eq bs (truth_text false)) refl refl row

ends_by : (bs rest : Bytes) (x y : Bool) → bytes_eq bs (truth_text true) ≡ x → bytes_eq bs (truth_text false) ≡ y → NotBefore (λ b. is_upper b || is_digit b) rest → EndsBefore (word_token bs) rest
ends_by bs rest true y p q n = rw p n
ends_by bs rest false true p q n = rw (p, q) n
ends_by bs rest false false p q n = rw (p, q) n

word_ends : (bs rest : Bytes) → NotBefore (λ b. is_upper b || is_digit b) rest → EndsBefore (word_token bs) rest
word_ends bs rest n = ends_by bs rest (bytes_eq bs (truth_text true)) (bytes_eq bs (truth_text false)) refl refl n

module _ (bytes : Bytes) (some : 0 < length bytes) (h : is_upper (first bytes) ≡ true) where
  pub word_is : (kind : Kind) (w d : ℕ) → w ≡ row Upper bytes → d ≡ row Digit (take (length bytes - w) (drop w bytes)) → d ≡ 0 → kind_token kind (take w bytes) ≡ word_token (take w bytes) → IsFront bytes kind w
  unfolding row
  word_is kind w d e f z is =
      let n : prefix_len is_digit (drop w bytes) ≡ 0 = ap (prefix_len is_digit) (sym (rest_is bytes w)) ∙ sym f ∙ z in
      let behind : NotBefore is_digit (drop w bytes) = subst (λ m. NotBefore is_digit (drop m (drop w bytes))) n (row_stops is_digit (drop w bytes)) in
      let above : NotBefore is_upper (drop w bytes) = subst (λ m. NotBefore is_upper (drop m bytes)) (sym e) (row_stops is_upper bytes) in
      let r : IsRow is_upper (take w bytes) = subst (λ m. IsRow is_upper (take m bytes)) (sym e) (row_of_front bytes some is_upper h) in
      record {
        spells = subst (λ t. Spells t (take w bytes)) (sym is) (word_spells (take w bytes) r);
        ends = subst (λ t. EndsBefore t (drop w bytes)) (sym is) (word_ends (take w bytes) (drop w bytes) (not_both (drop w bytes) above behind));
        some = rw e (row_first is_upper bytes h some);
        within = rw e (prefix_len-le-length is_upper bytes);
      }

  pub address_is : (a : Addr) (w d : ℕ) → w ≡ row Upper bytes → d ≡ row Digit (take (length bytes - w) (drop w bytes)) → d ≤ length (take (length bytes - w) (drop w bytes)) → address_text a ≡ take (w + d) bytes → IsAddr a → IsFront bytes (k.Address a) (w + d)
  unfolding row
  address_is a w d e f l is on =
      let g : d ≡ prefix_len is_digit (drop w bytes) = f ∙ ap (prefix_len is_digit) (rest_is bytes w) in
      let behind : NotBefore is_digit (drop (w + d) bytes) = subst (λ z. NotBefore is_digit z) (drop-drop d w bytes) (subst (λ m. NotBefore is_digit (drop m (drop w bytes))) (sym g) (row_stops is_digit (drop w bytes))) in
      let c : IsTrue (covers grid a) = covered a on in
      let lw : w ≤ length bytes = rw e (prefix_len-le-length is_upper bytes) in
      record {
        spells = rw (sym is) (address c);
        ends = behind;
        some = rw e (omega (arith, row_first is_upper bytes h some));
        within = omega (arith, l, lw, length-drop w bytes, ap length (rest_is bytes w));
      }

  pub letters_not : (w d : ℕ) → w ≡ row Upper bytes → d ≡ row Digit (take (length bytes - w) (drop w bytes)) → (d ≡ 0 → ⊥) → ((a : Addr) → IsAddr a → address_text a ≡ take (w + d) bytes → ⊥) → Refuses bytes bad.Token
  unfolding row
  letters_not w d e f z none =
      let g : d ≡ prefix_len is_digit (drop w bytes) = f ∙ ap (prefix_len is_digit) (rest_is bytes w) in
      let i : prefix_len is_digit (drop (prefix_len is_upper bytes) bytes) ≡ d = ap (λ m. prefix_len is_digit (drop m bytes)) (sym e) ∙ sym g in (
        λ t more takes. elim (upper_front bytes t more takes h) [
          | inl u ↦ z (sym i ∙ u.no_digit)
          | inr u ↦ none u.at_address (as_addr u.at_address u.on) (u.text ∙ ap (λ m. take m bytes) (ap (λ q. q + prefix_len is_digit (drop (prefix_len is_upper bytes) bytes)) (sym e) ∙ ap (λ q. w + q) i))
        ],
        grind (arith, nat_tests, h),
      )
