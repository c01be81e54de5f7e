-- One more byte: either no item ends in the text, or one ends with that byte.
use Rattle.std.proofs.Common.{◌≡◌, ℕ, zero, suc, ◌+◌, ◌-◌, ◌<◌, ◌≤◌, Bool, true, false, cond, eqb, ltb, leb, List, [], ◌∷◌, ◌++◌, length, take, Option, None, Some, refl, ap, sym, ◌∙◌, arith, get_or, subst, length-append, length-take, inl, inr}
use Rattle.std.proofs.lemmas.Bool.Decides.{nat_tests}
use Rattle.std.proofs.lemmas.Bool.{cases_lt, cases_eq}
use Rattle.std.proofs.lemmas.List.{take_all, drop_all}
use Rattle.gl_protocol.specs.Framing.Framing.{Item, Long, Import, Kind, past_limit, plain, header, kind_by, kind_of, drop_cr, has_lf, first_line, after_line, item_at, first_item}
use Rattle.gl_protocol.specs.Framing.Header.{payload_len}
use Rattle.gl_protocol.specs.Framing.Stream.{Stream, nothing, in_line, skipped, in_payload, step, step_line, close_by}
use Rattle.laws_protocol.proofs.Items.Begun.{line_stream, payload_stream, stream_of}
use Rattle.gl_calculus.specs.Grid.Limits.{max_line}
use Rattle.laws_protocol.proofs.Items.Lines.{has_lf-more, first_line-more, after_line-more, has_lf-push, first_line-push, after_line-push}

-- what a byte did: nothing ended and this is begun, or this item ended and nothing follows it
abbrev pub Stepped : Option (Item × List ℕ) → Stream × Option Item → Stream → Type 0
Stepped None s now = s ≡ (now, None)
Stepped (Some p) s now = (p.1 ≡ []) × (s ≡ (nothing, Some p.0))

abbrev still : Stream → Stream × Option Item
still s = (s, None)

-- an LF
pub closed : (k : Kind) (bs : List ℕ) → Stepped (item_at k bs []) (close_by k bs) (payload_stream k bs [])
closed past_limit bs = (refl, refl)
closed plain bs = (refl, refl)
closed (header zero) bs = (refl, refl)
closed (header (suc n)) bs =
    let a : leb (suc n) 0 ≡ false = grind (arith, nat_tests) in
    let d : eqb (suc n) 0 ≡ false = grind (arith, nat_tests) in
    let e : suc n ≡ suc n - 0 = omega arith in
    rw (a, d) (ap (λ (k : ℕ). still (in_payload bs [] k)) e)

not_paid : (n m : ℕ) (x : Item × List ℕ) → cond (leb n m) (Some x) None ≡ None → m < n
not_paid n m x =
    let P : Bool → Type 0 = λ c. leb n m ≡ c → cond c (Some x) None ≡ None → m < n in
    (elim (leb n m) as P [ true ↦ λ e h. cc | false ↦ λ e h. grind (arith, nat_tests) ]) refl

paid_last : (n : ℕ) (bs u : List ℕ) (b : ℕ) → n ≡ length u + 1
    → Stepped (item_at (header n) bs (u ++ b ∷ [])) (step (in_payload bs u (n - length u)) b) (in_payload bs (u ++ b ∷ []) (n - length (u ++ b ∷ [])))
paid_last n bs u b h =
    let l : length (u ++ b ∷ []) ≡ n = omega (arith, length-append u (b ∷ [])) in
    let a : leb n (length (u ++ b ∷ [])) ≡ true = grind (arith, nat_tests) in
    let d : leb (n - length u) 1 ≡ true = grind (arith, nat_tests) in
    rw (a, d) (drop_all n (u ++ b ∷ []) (omega arith), ap (λ (v : List ℕ). (nothing, Some (Import bs v))) (sym (take_all n (u ++ b ∷ []) (omega arith))))

paid_more : (n : ℕ) (bs u : List ℕ) (b : ℕ) → length u + 1 < n
    → Stepped (item_at (header n) bs (u ++ b ∷ [])) (step (in_payload bs u (n - length u)) b) (in_payload bs (u ++ b ∷ []) (n - length (u ++ b ∷ [])))
paid_more n bs u b h =
    let l : length (u ++ b ∷ []) ≡ length u + 1 = length-append u (b ∷ []) in
    let a : leb n (length (u ++ b ∷ [])) ≡ false = grind (arith, nat_tests) in
    let d : leb (n - length u) 1 ≡ false = grind (arith, nat_tests) in
    let e : n - length u - 1 ≡ n - length (u ++ b ∷ []) = omega arith in
    rw (a, d) (ap (λ (k : ℕ). still (in_payload bs (u ++ b ∷ []) k)) e)

-- a byte of a payload
pub paid : (k : Kind) (bs u : List ℕ) (b : ℕ) → item_at k bs u ≡ None → Stepped (item_at k bs (u ++ b ∷ [])) (step (payload_stream k bs u) b) (payload_stream k bs (u ++ b ∷ []))
paid past_limit bs u b h = cc
paid plain bs u b h = cc
paid (header n) bs u b h =
    let short : length u < n = not_paid n (length u) _ h in
    let P : Type 0 = Stepped (item_at (header n) bs (u ++ b ∷ [])) (step (in_payload bs u (n - length u)) b) (in_payload bs (u ++ b ∷ []) (n - length (u ++ b ∷ []))) in
    elim (cases_lt (length u + 1) n) as (λ _. P) [ inl l ↦ paid_more n bs u b l | inr g ↦ paid_last n bs u b (omega arith) ]

-- a CR that is dropped takes one byte
length_drop_cr : (t : List ℕ) → length t ≤ length (drop_cr t) + 1
length_drop_cr t =
    let P : Bool → Type 0 = λ c. length t ≤ length (cond c (take (length t - 1) t) t) + 1 in
    elim (eqb (get_or t (length t - 1) 0) 13) as P [ true ↦ omega (arith, length-take (length t - 1) t) | false ↦ omega arith ]

pub kind_long : (t : List ℕ) → (max_line + 1) < length t → kind_of (drop_cr t) ≡ past_limit
unfolding kind_of
kind_long t h =
    let e : ltb max_line (length (drop_cr t)) ≡ true = let l = length_drop_cr t in grind (arith, nat_tests) in
    ap (λ c. kind_by c (payload_len (drop_cr t))) e

-- a line that is begun goes on as its bytes do, or is skipped
step-line_stream : (t : List ℕ) (b : ℕ) → step (line_stream t) b ≡ cond (leb (length t) (max_line + 1)) (step_line t b) (step skipped b)
step-line_stream [] b = refl
step-line_stream (a ∷ t) b =
    let e : eqb (suc (length t)) 0 ≡ false = grind (arith, nat_tests) in
    let P : Bool → Type 0 = λ c. step (cond c (in_line (a ∷ t)) skipped) b ≡ cond c (step_line (a ∷ t) b) (step skipped b) in
    rw e (elim (leb (suc (length t)) (max_line + 1)) as P [ true ↦ refl | false ↦ refl ])

-- an LF ends the line
line_ended : (t : List ℕ) → has_lf t ≡ false → Stepped (first_item (t ++ 10 ∷ [])) (step (line_stream t) 10) (stream_of (t ++ 10 ∷ []))
line_ended t h =
    let k = kind_of (drop_cr t) in
    let l = drop_cr t in
    let lf : has_lf (t ++ 10 ∷ []) ≡ true = has_lf-push t 10 h in
    let P : Bool → Type 0 = λ c. leb (length t) (max_line + 1) ≡ c → Stepped (item_at k l []) (cond c (close_by k l) (nothing, Some Long)) (payload_stream k l []) in
    let all : P (leb (length t) (max_line + 1)) = elim (leb (length t) (max_line + 1)) as P [
      | true ↦ λ e. closed k l
      | false ↦ λ e. let long : k ≡ past_limit = kind_long t (grind (arith, nat_tests)) in rw long (refl, refl)
    ] in
    rw (step-line_stream t 10, lf, first_line-push t h, after_line-push t h) (all refl)

both_skip : (s : Stream) (a d : Bool) → (d ≡ true → a ≡ true) → cond a (still (cond d s skipped)) (still skipped) ≡ still (cond d s skipped)
both_skip s true d h = refl
both_skip s false true h = cc (h refl)
both_skip s false false h = refl

-- another byte goes on with it
line_goes_on : (t : List ℕ) (b : ℕ) → has_lf t ≡ false → eqb b 10 ≡ false → Stepped (first_item (t ++ b ∷ [])) (step (line_stream t) b) (stream_of (t ++ b ∷ []))
line_goes_on t b h ne =
    let lf : has_lf (t ++ b ∷ []) ≡ false = has_lf-push t b h ∙ ne in
    let n : length (t ++ b ∷ []) ≡ length t + 1 = length-append t (b ∷ []) in
    let z : eqb (length (t ++ b ∷ [])) 0 ≡ false = grind (arith, nat_tests) in
    let same : leb (length (t ++ b ∷ [])) (max_line + 1) ≡ leb (length t) max_line = grind (arith, nat_tests) in
    let below : leb (length t) max_line ≡ true → leb (length t) (max_line + 1) ≡ true = λ e. grind (arith, nat_tests) in
    rw (step-line_stream t b, lf, z, ne, same) (both_skip (in_line (t ++ b ∷ [])) _ _ below)

any_byte : (t : List ℕ) (b : ℕ) → has_lf t ≡ false → Stepped (first_item (t ++ b ∷ [])) (step (line_stream t) b) (stream_of (t ++ b ∷ []))
any_byte t b h =
    let P : Type 0 = Stepped (first_item (t ++ b ∷ [])) (step (line_stream t) b) (stream_of (t ++ b ∷ [])) in
    elim (cases_eq b 10) as (λ _. P) [
      | inl e ↦ subst (λ (x : ℕ). Stepped (first_item (t ++ x ∷ [])) (step (line_stream t) x) (stream_of (t ++ x ∷ []))) (sym e) (line_ended t h)
      | inr ne ↦ line_goes_on t b h (grind (arith, nat_tests))
    ]

-- One more byte.
pub one_more : (t : List ℕ) (b : ℕ) → first_item t ≡ None → Stepped (first_item (t ++ b ∷ [])) (step (stream_of t) b) (stream_of (t ++ b ∷ []))
one_more t b h =
    let P : Bool → Type 0 = λ c. has_lf t ≡ c → Stepped (first_item (t ++ b ∷ [])) (step (stream_of t) b) (stream_of (t ++ b ∷ [])) in
    (elim (has_lf t) as P [
      | true ↦ λ e. rw (has_lf-more t (b ∷ []) e, first_line-more t (b ∷ []) e, after_line-more t (b ∷ []) e, e) (paid (kind_of (drop_cr (first_line t))) (drop_cr (first_line t)) (after_line t) b (rw e at h))
      | false ↦ λ e. rw e (any_byte t b e)
    ]) refl
