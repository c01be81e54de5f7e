-- Steps of the decoder.
use Rattle.std.proofs.Common.{◌≡◌, ℕ, ◌+◌, ◌<◌, ◌≤◌, List, [], ◌∷◌, ◌++◌, drop, length, get_or, ap, sym, ◌∙◌, refl, append_assoc, arith}
use Rattle.std.proofs.lemmas.List.{at_drop_more, at_drop_all, append-nil}
use Rattle.gl_lex.specs.declared.quote.State.{State}
use Rattle.gl_lex.specs.declared.quote.State.TheVariants as state
use Rattle.gl_lex.specs.declared.quote.Step.{Step}
use Rattle.gl_lex.specs.declared.quote.Step.TheVariants.{Go, Push, End, Broken}
use Rattle.gl_lex.specs.Quote.{Scan, with_front, decode, turn}

-- what a step makes of the rest
abbrev pub by_step : Step → List ℕ → Scan
by_step (Go t) bs = with_front [] 1 (decode t bs)
by_step (Push c) bs = with_front (c ∷ []) 1 (decode state.Plain bs)
by_step End bs = Scan.Ends [] 1
by_step Broken bs = Scan.Torn

pub decode_step : (s : State) (b : ℕ) (bs : List ℕ) (x : Step) → turn s b ≡ x → decode s (b ∷ bs) ≡ by_step x bs
decode_step s b bs x h = by_cases (turn s b) ∙ ap (λ z. by_step z bs) h
  where
    by_cases : (y : Step) → elim y as (λ _. Scan) [ Go t ↦ with_front [] 1 (decode t bs) | Push c ↦ with_front (c ∷ []) 1 (decode state.Plain bs) | End ↦ Scan.Ends [] 1 | Broken ↦ Scan.Torn ] ≡ by_step y bs
    by_cases (Go t) = refl
    by_cases (Push c) = refl
    by_cases End = refl
    by_cases Broken = refl

with_twice : (a b : List ℕ) (n m : ℕ) (s : Scan) → with_front a n (with_front b m s) ≡ with_front (a ++ b) (n + m) s
with_twice a b n m (Scan.Ends s k) = ap (λ z. Scan.Ends z (n + (m + k))) (sym (append_assoc a b s)) ∙ ap (λ z. Scan.Ends ((a ++ b) ++ s) z) (omega arith)
with_twice a b n m Scan.Torn = refl

at_step : (bytes : List ℕ) (at : ℕ) (s : State) (x : Step) → at < length bytes → x ≡ turn s (get_or bytes at 0) → decode s (drop at bytes) ≡ by_step x (drop (at + 1) bytes)
at_step bytes at s x h e = at_drop_more (decode s) bytes at 0 h ∙ decode_step s (get_or bytes at 0) (drop (at + 1) bytes) x (sym e)

pub go_on : (out bytes : List ℕ) (at : ℕ) (s t : State) → at < length bytes → Go t ≡ turn s (get_or bytes at 0) → with_front out (at + 1) (decode t (drop (at + 1) bytes)) ≡ with_front out at (decode s (drop at bytes))
go_on out bytes at s t h e = sym (ap (with_front out at) (at_step bytes at s (Go t) h e) ∙ with_twice out [] at 1 (decode t (drop (at + 1) bytes)) ∙ ap (λ z. with_front z (at + 1) (decode t (drop (at + 1) bytes))) (append-nil out))

pub push_on : (out longer bytes : List ℕ) (at c : ℕ) (s : State) → at < length bytes → Push c ≡ turn s (get_or bytes at 0) → longer ≡ out ++ c ∷ [] → with_front longer (at + 1) (decode state.Plain (drop (at + 1) bytes)) ≡ with_front out at (decode s (drop at bytes))
push_on out longer bytes at c s h e p = ap (λ z. with_front z (at + 1) (decode state.Plain (drop (at + 1) bytes))) p ∙ sym (ap (with_front out at) (at_step bytes at s (Push c) h e) ∙ with_twice out (c ∷ []) at 1 (decode state.Plain (drop (at + 1) bytes)))

pub ends_here : (out bytes : List ℕ) (at : ℕ) (s : State) → at < length bytes → End ≡ turn s (get_or bytes at 0) → with_front out at (decode s (drop at bytes)) ≡ Scan.Ends out (at + 1)
ends_here out bytes at s h e = ap (with_front out at) (at_step bytes at s End h e) ∙ ap (λ z. Scan.Ends z (at + 1)) (append-nil out)

pub torn_here : (out bytes : List ℕ) (at : ℕ) (s : State) → at < length bytes → Broken ≡ turn s (get_or bytes at 0) → with_front out at (decode s (drop at bytes)) ≡ Scan.Torn
torn_here out bytes at s h e = ap (with_front out at) (at_step bytes at s Broken h e)

pub torn_end : (out bytes : List ℕ) (at : ℕ) (s : State) → length bytes ≤ at → with_front out at (decode s (drop at bytes)) ≡ Scan.Torn
torn_end out bytes at s h = ap (with_front out at) (at_drop_all (decode s) bytes at h)

pub with_none : (s : Scan) → with_front [] 0 s ≡ s
with_none (Scan.Ends s n) = ap (λ z. Scan.Ends s z) (omega arith)
with_none Scan.Torn = refl

pub ruleset quote_rules = (go_on, push_on, ends_here, torn_here, torn_end, with_none)
