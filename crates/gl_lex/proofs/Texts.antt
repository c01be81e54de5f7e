-- What stands in front of a text that begins with a quote.
use Rattle.std.proofs.Common.{◌≡◌, ℕ, ◌+◌, ◌<◌, ◌≤◌, true, [], ◌∷◌, ◌++◌, drop, length, refl, ap, sym, subst, ◌∙◌, arith, append_assoc}
use Rattle.std.specs.Str.{IsUtf8, is_utf8}
use Rattle.std.specs.Rc.{rc_str_bytes}
use Rattle.std.specs.declared.alloc.Global.{Global}
use Rattle.std.specs.declared.rc.RcStr.{RcStr}
use Rattle.std.proofs.lemmas.Str.{is_utf8-from_IsUtf8, IsUtf8-from_is_utf8}
use Rattle.std.proofs.lemmas.List.{length-append}
use Rattle.gl_language.specs.Texts.Text.{Bytes}
use Rattle.gl_language.specs.Reading.Token as T
use Rattle.gl_language.specs.Reading.Token.{Decodes, Takes, integer, quoted, address, truth, word, variable, signed}
use Rattle.gl_lex.specs.declared.Kind.TheVariants as k
use Rattle.gl_lex.specs.declared.quote.State.TheVariants as state
use Rattle.gl_lex.specs.Quote.{Scan, decode}
use Rattle.gl_lex.specs.Front.{NoToken, IsFront}
use Rattle.gl_lex.proofs.Starts.{starts, takes_starts, apart_digit_quote, apart_upper_quote, apart_lower_quote, apart_quote_other}
use Rattle.gl_lex.proofs.Fronts.{cut_at}
use Rattle.gl_lex.proofs.Decoding.{decoded, split_plain}

-- the text that stands behind a quote, up to the next that ends it
pub record IsText (rest : Bytes) (t : T.Token) (more : Bytes) : Type 0 where
  pub quoted : Bytes
  pub text : Bytes
  pub decodes : Decodes quoted text
  pub utf8 : is_utf8 text ≡ true
  pub short : length text ≤ 4096
  pub token : t ≡ T.Quoted text
  pub scanned : decode state.Plain rest ≡ Scan.Ends text (length quoted + 1)
  pub behind : rest ≡ quoted ++ 34 ∷ more

pub text_front : (rest : Bytes) (t : T.Token) (more : Bytes) → Takes (34 ∷ rest) t more → IsText rest t more
text_front rest t more takes = by takes (takes_starts (34 ∷ rest) t more takes)
  where
    by : {t : T.Token} → Takes (34 ∷ rest) t more → starts t 34 ≡ true → IsText rest t more
    by (bs, e, quoted {s} {t} d u l, ends) h =
        let f : 34 ∷ rest ≡ 34 ∷ (s ++ 34 ∷ more) = e ∙ ap (λ z. 34 ∷ z) (append_assoc s (34 ∷ []) more) in
        let g : rest ≡ s ++ 34 ∷ more = ap (drop 1) f in
        record { quoted = s; text = t; decodes = d; utf8 = u; short = l; token = refl; scanned = ap (decode state.Plain) g ∙ decoded d more; behind = g }
    by (bs, e, integer row small, ends) h = absurd (apart_digit_quote 34 h refl)
    by (bs, e, address a, ends) h = absurd (apart_upper_quote 34 h refl)
    by (bs, e, truth, ends) h = absurd (apart_upper_quote 34 h refl)
    by (bs, e, word row m n, ends) h = absurd (apart_upper_quote 34 h refl)
    by (bs, e, variable row, ends) h = absurd (apart_lower_quote 34 h refl)
    by (bs, e, signed, ends) h = absurd (apart_quote_other 34 refl h)

pub text_is : (rest s : Bytes) (n : ℕ) (r : RcStr Global) → decode state.Plain rest ≡ Scan.Ends s n → IsUtf8 s → length s ≤ 4096 → rc_str_bytes r ≡ s → IsFront (34 ∷ rest) (k.Text r) (n + 1)
text_is rest s n r e u l is =
    let p = split_plain rest s n e in
    let whole : 34 ∷ rest ≡ (34 ∷ p.quoted ++ 34 ∷ []) ++ p.rest = ap (λ z. 34 ∷ z) (p.is ∙ sym (append_assoc p.quoted (34 ∷ []) p.rest)) in
    let m : n + 1 ≡ length (34 ∷ p.quoted ++ 34 ∷ []) = omega (arith, p.count, length-append p.quoted (34 ∷ [])) in
    let c = cut_at (34 ∷ rest) (34 ∷ p.quoted ++ 34 ∷ []) p.rest (n + 1) whole m in
    record {
      spells = rw (c.front, is) (quoted p.decodes (is_utf8-from_IsUtf8 s u) l);
      ends = tt;
      some = omega arith;
      within = omega (arith, p.count, ap length p.is, length-append p.quoted (34 ∷ p.rest));
    }

same_scan : {rest : Bytes} {t : T.Token} {more : Bytes} (f : IsText rest t more) (s : Bytes) (n : ℕ) → decode state.Plain rest ≡ Scan.Ends s n → f.text ≡ s
same_scan f s n e = let g = sym f.scanned ∙ e in cc g

pub torn_not : (rest : Bytes) → decode state.Plain rest ≡ Scan.Torn → NoToken (34 ∷ rest)
torn_not rest e t more takes = let f = text_front rest t more takes in let g = sym f.scanned ∙ e in cc g

pub long_not : (rest s : Bytes) (n : ℕ) → decode state.Plain rest ≡ Scan.Ends s n → 4096 < length s → NoToken (34 ∷ rest)
long_not rest s n e l t more takes =
    let f = text_front rest t more takes in
    let g = same_scan f s n e in
    omega (arith, l, f.short, ap length g)

pub bytes_not : (rest s : Bytes) (n : ℕ) → decode state.Plain rest ≡ Scan.Ends s n → (IsUtf8 s → ⊥) → NoToken (34 ∷ rest)
bytes_not rest s n e l t more takes =
    let f = text_front rest t more takes in
    let g = same_scan f s n e in
    l (subst IsUtf8 g (IsUtf8-from_is_utf8 f.text f.utf8))
