-- The widths of columns.
use Rattle.std.proofs.Common.{◌≡◌, ◌∙◌, ℕ, zero, suc, ◌+◌, ◌<◌, min, max, List, [], ◌∷◌, ◌++◌, length, take, drop, get_or, set, add-one, true, nat_lt, refl, sym, ap, arith, if◌then◌else◌}
use Rattle.std.specs.Prelude.{encode_utf8, encode_utf8_all}
use Rattle.std.specs.Str.{chars}
use Rattle.std.proofs.lemmas.Bool.Decides.{nat_tests}
use Rattle.std.proofs.lemmas.Str.{encode_ascii}
use Rattle.gl_language.specs.Texts.Text.{Bytes}
use Rattle.gl_protocol.specs.Replies.Tables.{cell_text, wider}

-- the widths, of which so many are raised to those of a row
abbrev pub raised : List ℕ → List Bytes → ℕ → List ℕ
raised ns ts i = wider (take i ns) (take i ts) ++ drop i ns

raise_next : (ns : List ℕ) (ts : List Bytes) (i : ℕ) → i < length ns → i < length ts → set (raised ns ts i) i (max (get_or (raised ns ts i) i 0) (length (chars (get_or ts i [])))) ≡ raised ns ts (suc i)
raise_next [] ts i h k = absurd (omega arith)
raise_next (n ∷ ns) [] i h k = absurd (omega arith)
raise_next (n ∷ ns) (t ∷ ts) zero h k = refl
raise_next (n ∷ ns) (t ∷ ts) (suc i) h k = ap (λ z. max n (length (chars t)) ∷ z) (raise_next ns ts i (omega arith) (omega arith))

pub raise_more : (ns ws : List ℕ) (ts : List Bytes) (i m : ℕ) → i < length ns → i < length ts → ws ≡ raised ns ts i → m ≡ max (get_or ws i 0) (length (chars (get_or ts i []))) → set ws i m ≡ raised ns ts (i + 1)
raise_more ns ws ts i m h k e f =
    ap (set ws i) f ∙ ap (λ z. set z i (max (get_or z i 0) (length (chars (get_or ts i []))))) e ∙ raise_next ns ts i h k ∙ ap (raised ns ts) (sym (add-one i))

pub raise_all : (ns : List ℕ) (ts : List Bytes) (i : ℕ) → i ≡ min (length ns) (length ts) → raised ns ts i ≡ wider ns ts
raise_all [] ts i h = none i
  where
    none : (i : ℕ) → raised [] ts i ≡ []
    none zero = refl
    none (suc i) = refl
raise_all (n ∷ ns) [] i h = zero_one i (omega (arith, h))
  where
    zero_one : (i : ℕ) → i ≡ 0 → raised (n ∷ ns) [] i ≡ n ∷ ns
    zero_one zero e = refl
    zero_one (suc i) e = absurd (omega (arith, e))
raise_all (n ∷ ns) (t ∷ ts) zero h = absurd (omega (arith, h))
raise_all (n ∷ ns) (t ∷ ts) (suc i) h = ap (λ z. max n (length (chars t)) ∷ z) (raise_all ns ts i (omega (arith, h)))

-- ---- the text of a cell

pub cut_text : (t s w : Bytes) → 24 < length (chars t) → w ≡ encode_utf8_all (take 23 (chars t)) → s ≡ w ++ encode_utf8 126 → s ≡ cell_text t
cut_text t s w h e f =
    let long : nat_lt 24 (length (chars t)) ≡ true = grind (arith, nat_tests) in
    f ∙ ap (λ z. w ++ z) (encode_ascii 126 (omega arith)) ∙ ap (λ z. z ++ 126 ∷ []) e
    ∙ sym (ap (λ b. if b then encode_utf8_all (take 23 (chars t)) ++ 126 ∷ [] else t) long)
