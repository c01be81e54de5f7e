-- What the machine by bytes tells is framed, and what it begins has its header.
use Rattle.std.proofs.Common.{◌≡◌, ℕ, zero, suc, ◌-◌, ◌==◌, nat_le, Bool, true, false, List, [], ◌∷◌, ◌++◌, length, Option, None, Some, IfSome, IsSome, refl, if◌then◌else◌}
use Rattle.std.specs.Prelude.{nat_lt}
use Rattle.gl_calculus.specs.Grid.Limits.{max_line}
use Rattle.gl_protocol.specs.Framing.Header.{payload_len}
use Rattle.gl_protocol.specs.Framing.Framing.{Item, Kind, past_limit, plain, header, drop_cr, kind_by, kind_of, last_item}
use Rattle.gl_protocol.specs.Framing.Stream.{Stream, nothing, in_line, skipped, in_payload, close_by, step_line, step, after, closing}
use Rattle.gl_run.specs.Framed.{IsFramed, HasHeader}

-- what a kind says of its line
abbrev IsKindOf : Kind → List ℕ → Type 0
IsKindOf past_limit line = Unit {0}
IsKindOf plain line = payload_len line ≡ None
IsKindOf (header n) line = IsSome (payload_len line)

kind_is_by : (line : List ℕ) (b : Bool) (o : Option ℕ) → payload_len line ≡ o → IsKindOf (kind_by b o) line
kind_is_by line true o e = tt
kind_is_by line false None e = e
kind_is_by line false (Some n) e = rw e refl

kind_is : (line : List ℕ) → IsKindOf (kind_of line) line
unfolding kind_of
kind_is line = kind_is_by line (nat_lt max_line (length line)) (payload_len line) refl

-- a step: what it begins has its header, and what it ends is framed
abbrev IsGood : Stream × Option Item → Type 0
IsGood p = HasHeader p.0 × IfSome p.1 IsFramed

close_good : (k : Kind) (line : List ℕ) → IsKindOf k line → IsGood (close_by k line)
close_good past_limit line h = (tt, tt)
close_good plain line h = (tt, h)
close_good (header n) line h =
    let P : Bool → Type 0 = λ b. IsGood (if b then (nothing, Some (Item.Import line [])) else (in_payload line [] n, None)) in
    elim (n == 0) as P [ true ↦ (tt, h) | false ↦ (h, tt) ]

line_good : (bs : List ℕ) (b : ℕ) → IsGood (step_line bs b)
line_good bs b =
    let P : Bool → Type 0 = λ c. IsGood (if c then close_by (kind_of (drop_cr bs)) (drop_cr bs) else (if nat_le (length bs) max_line then in_line (bs ++ b ∷ []) else skipped, None)) in
    let Q : Bool → Type 0 = λ c. IsGood (if c then in_line (bs ++ b ∷ []) else skipped, None) in
    elim (b == 10) as P [
      | true ↦ close_good (kind_of (drop_cr bs)) (drop_cr bs) (kind_is (drop_cr bs))
      | false ↦ elim (nat_le (length bs) max_line) as Q [ true ↦ (tt, tt) | false ↦ (tt, tt) ]
    ]

step_good : (s : Stream) (b : ℕ) → HasHeader s → IsGood (step s b)
step_good nothing b h = line_good [] b
step_good (in_line bs) b h = line_good bs b
step_good skipped b h =
    let P : Bool → Type 0 = λ c. IsGood (if c then (nothing, Some Item.Long) else (skipped, None)) in
    elim (b == 10) as P [ true ↦ (tt, tt) | false ↦ (tt, tt) ]
step_good (in_payload heading part due) b h =
    let P : Bool → Type 0 = λ c. IsGood (if c then (nothing, Some (Item.Import heading (part ++ b ∷ []))) else (in_payload heading (part ++ b ∷ []) (due - 1), None)) in
    elim (nat_le due 1) as P [ true ↦ (tt, h) | false ↦ (h, tt) ]

pub step_framed : (s : Stream) (b : ℕ) → HasHeader s → IfSome (step s b).1 IsFramed
step_framed s b h = (step_good s b h).1

pub step_header : (s : Stream) (b : ℕ) → HasHeader s → HasHeader (step s b).0
step_header s b h = (step_good s b h).0

pub after_header : (s : Stream) (bs : List ℕ) → HasHeader s → HasHeader (after s bs)
after_header s [] h = h
after_header s (b ∷ bs) h = after_header (step s b).0 bs (step_header s b h)

last_framed : (k : Kind) (line : List ℕ) → IsKindOf k line → IsFramed (last_item k line)
last_framed past_limit line h = tt
last_framed plain line h = h
last_framed (header zero) line h = h
last_framed (header (suc n)) line h = tt

pub closing_framed : (s : Stream) → HasHeader s → IfSome (closing s) IsFramed
closing_framed nothing h = tt
closing_framed (in_line bs) h = last_framed (kind_of (drop_cr bs)) (drop_cr bs) (kind_is (drop_cr bs))
closing_framed skipped h = tt
closing_framed (in_payload heading part due) h = tt
