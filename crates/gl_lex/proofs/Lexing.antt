-- How far a text was read.
use Rattle.std.proofs.Common.{◌≡◌, ◌≢◌, ℕ, suc, ◌+◌, ◌-◌, ◌<◌, ◌≤◌, List, [], ◌∷◌, ◌++◌, drop, take, length, get_or, ap, ◌∙◌, sym, subst, arith, drop-cons, add-one, length-drop}
use Rattle.std.specs.Prelude.{slice_range}
use Rattle.std.specs.List.{AllByRecursion}
use Rattle.std.proofs.Math.Seq.{take-suc}
use Rattle.std.proofs.lemmas.List.{at_drop_all, drop-drop, get_or-drop, map-append, take-append-drop}
use Rattle.gl_language.specs.Texts.Text.{Bytes}
use Rattle.gl_language.specs.Reading.Token as T
use Rattle.gl_language.specs.Reading.Token.{Takes, Spells, Reads, no_more, space, token, Lexes, LexFault, IsLexFault, fault_at}
use Rattle.gl_lex.specs.declared.Token.{Token}
use Rattle.gl_lex.specs.declared.Kind.{Kind}
use Rattle.gl_lex.specs.View.{kind_token, span, token_in, tokens_in, IsGap, AreSpans}
use Rattle.gl_lex.specs.Front.{IsFront, NoToken}

-- ---- one more step at the end

reads_space : {text more : Bytes} {ts : List T.Token} → Reads text ts more → (rest : Bytes) → more ≡ 32 ∷ rest → Reads text ts rest
reads_space (no_more {rest = more}) rest e = subst (λ z. Reads z [] rest) (sym e) (space no_more)
reads_space (space r) rest e = space (reads_space r rest e)
reads_space (token k r) rest e = token k (reads_space r rest e)

reads_token : {text more : Bytes} {ts : List T.Token} → Reads text ts more → (t : T.Token) (rest : Bytes) → Takes more t rest → Reads text (ts ++ t ∷ []) rest
reads_token no_more t rest k = token k no_more
reads_token (space r) t rest k = space (reads_token r t rest k)
reads_token (token j r) t rest k = token j (reads_token r t rest k)

-- ---- spans

-- one more space behind spaces
all_more : (xs : List ℕ) (x : ℕ) → AllByRecursion (λ b. b ≡ 32) xs → x ≡ 32 → AllByRecursion (λ b. b ≡ 32) (xs ++ x ∷ [])
all_more [] x a p = (p, tt)
all_more (y ∷ xs) x (q, a) p = (q, all_more xs x a p)

-- nothing stands between a place and itself
no_gap : (text : Bytes) (at : ℕ) → IsGap text at at
no_gap text at =
    let none : at - at ≡ 0 = omega arith in
    (omega arith, subst (λ n. AllByRecursion (λ b. b ≡ 32) (take n (drop at text))) (sym none) tt)

-- one more space
longer_gap : (text : Bytes) (from to : ℕ) → to < length text → get_or text to 0 ≡ 32 → IsGap text from to → IsGap text from (to + 1)
longer_gap text from to l e (m, a) =
    let behind : to - from < length (drop from text) = omega (arith, length-drop from text, l, m) in
    let more : to + 1 - from ≡ suc (to - from) = omega (arith, m) in
    let at : get_or (drop from text) (to - from) 0 ≡ get_or text to 0 = get_or-drop from text (to - from) 0 ∙ ap (λ n. get_or text n 0) (omega (arith, m)) in
    let whole : take (to + 1 - from) (drop from text) ≡ take (to - from) (drop from text) ++ get_or text to 0 ∷ [] =
    ap (λ n. take n (drop from text)) more ∙ take-suc (drop from text) (to - from) 0 behind ∙ ap (λ b. take (to - from) (drop from text) ++ b ∷ []) at in
    (omega (arith, m), subst (AllByRecursion (λ b. b ≡ 32)) (sym whole) (all_more (take (to - from) (drop from text)) (get_or text to 0) a e))

spans_space : (text : Bytes) (from to : ℕ) (ts : List Token) → to < length text → get_or text to 0 ≡ 32 → AreSpans text from to ts → AreSpans text from (to + 1) ts
spans_space text from to [] l e s = longer_gap text from to l e s
spans_space text from to (t ∷ ts) l e (a, b, c, s) = (a, b, c, spans_space text t.end to ts l e s)

spans_push : (text : Bytes) (from to : ℕ) (ts : List Token) (t : Token) → to ≡ t.start → t.start < t.end → Spells (token_in text t) (span text t) → AreSpans text from to ts → AreSpans text from t.end (ts ++ t ∷ [])
spans_push text from to [] t e m k s = (subst (IsGap text from) e s, m, k, no_gap text t.end)
spans_push text from to (u ∷ us) t e m k (a, b, c, s) = (a, b, c, spans_push text u.end to us t e m k s)

-- ---- the loop

pub record ReadSoFar (text : Bytes) (found : List Token) (at : ℕ) : Type 0 where
  pub reads : Reads text (tokens_in text found) (drop at text)
  pub spans : AreSpans text 0 at found
  pub within : at ≤ length text

pub start : (text : Bytes) → ReadSoFar text [] 0
start text = record { reads = no_more; spans = no_gap text 0; within = omega arith }

module _ {text : Bytes} {found : List Token} {at : ℕ} (so_far : ReadSoFar text found at) where
  pub done : length text ≤ at → Lexes text (tokens_in text found) × AreSpans text 0 (length text) found
  done h = (
    subst (λ z. Reads text (tokens_in text found) z) (at_drop_all (λ z. z) text at h) so_far.reads,
    subst (λ n. AreSpans text 0 n found) (omega (arith, h, so_far.within)) so_far.spans,
  )

  module _ (inside : at < length text) where
    front_is : drop at text ≡ get_or text at 0 ∷ drop (suc at) text
    front_is = drop-cons text at 0 inside

    pub past_space : get_or text at 0 ≡ 32 → ReadSoFar text found (at + 1)
    past_space h =
        let e : drop at text ≡ 32 ∷ drop (at + 1) text = rw add-one (front_is ∙ ap (λ b. b ∷ drop (suc at) text) h) in
        record { reads = reads_space so_far.reads (drop (at + 1) text) e; spans = spans_space text 0 at found inside h so_far.spans; within = omega (arith, inside) }

    module _ (black : get_or text at 0 ≢ 32) where
      pub fault_here : (f : LexFault) → NoToken (drop at text) → fault_at (get_or (drop at text) 0 0) ≡ f → IsLexFault text f at
      fault_here f none e = record {
        before = tokens_in text found;
        first = get_or text at 0;
        rest = drop (suc at) text;
        reads = subst (λ z. Reads text (tokens_in text found) z) front_is so_far.reads;
        no_space = black;
        no_token = λ t more k. none t more (subst (λ z. Takes z t more) (sym front_is) k);
        place = omega (arith, sym (ap length front_is), length-drop at text, inside);
        which = sym e ∙ ap (λ z. fault_at (get_or z 0 0)) front_is;
      }

      pub past_token : (kind : Kind) (n : ℕ) (t : Token) (longer : List Token) → IsFront (drop at text) kind n → t.kind ≡ kind → t.start ≡ at → t.end ≡ at + n → longer ≡ found ++ t ∷ [] → ReadSoFar text longer (at + n)
      past_token kind n t longer front k s e l =
          let sp : span text t ≡ take n (drop at text) = ap (λ z. slice_range text z t.end) s ∙ ap (λ z. slice_range text at z) e ∙ ap (λ z. take z (drop at text)) (omega arith) in
          let tk : token_in text t ≡ kind_token kind (take n (drop at text)) = ap (λ z. kind_token z (span text t)) k ∙ ap (kind_token kind) sp in
          let w : Spells (token_in text t) (span text t) = rw (tk, sp) front.spells in
          let takes : Takes (drop at text) (token_in text t) (drop (at + n) text) = (
            take n (drop at text),
            sym (ap (λ z. take n (drop at text) ++ z) (sym (drop-drop n at text)) ∙ take-append-drop n (drop at text)),
            rw tk front.spells,
            subst (λ z. T.EndsBefore z (drop (at + n) text)) (sym tk) (subst (λ z. T.EndsBefore (kind_token kind (take n (drop at text))) z) (drop-drop n at text) front.ends),
          ) in
          let all : tokens_in text longer ≡ tokens_in text found ++ token_in text t ∷ [] = ap (tokens_in text) l ∙ map-append (token_in text) found (t ∷ []) in
          record {
            reads = subst (λ z. Reads text z (drop (at + n) text)) (sym all) (reads_token so_far.reads (token_in text t) (drop (at + n) text) takes);
            spans = subst (λ z. AreSpans text 0 (at + n) z) (sym l) (subst (λ z. AreSpans text 0 z (found ++ t ∷ [])) e (spans_push text 0 at found t (sym s) (omega (arith, s, e, front.some)) w so_far.spans));
            within = omega (arith, front.within, length-drop at text, inside);
          }

pub ruleset lex_rules = (start, done, past_space)
