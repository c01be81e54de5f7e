-- What a feed says after a byte is what the stream does.
use Rattle.std.proofs.Common.{◌≡◌, ℕ, Bool, true, false, cond, eqb, ltb, leb, List, [], ◌∷◌, ◌++◌, ◌-◌, length, Option, None, Some, refl, ap, sym, subst, ◌∙◌, zero, suc, arith}
use Rattle.std.proofs.lemmas.Bool.Decides.{nat_tests}
use Rattle.gl_protocol.specs.Framing.Header.{payload_len}
use Rattle.gl_calculus.specs.Grid.Limits.{max_line}
use Rattle.gl_protocol.specs.Framing.Framing.{Item, Kind, past_limit, plain, header, last_item, kind_by, kind_of, drop_cr}
use Rattle.gl_protocol.specs.Framing.Stream.{Stream, nothing, in_line, skipped, in_payload, step, step_line, close_by, closing}
use Rattle.gl_script.specs.Feed.{Begun, idle, some_line, skipping, some_payload, Seen, quiet, line_done, line_pushed, pushed, finished}
use Rattle.gl_script.specs.FeedView.{begun_of, piece_of, seen_of}
use Rattle.gl_script.specs.Framer.{stream_by, told}
use Rattle.gl_script.specs.declared.framer.Ended.{Ended}
use Rattle.gl_script.specs.declared.framer.Framer.{Framer}
use Rattle.gl_script.specs.declared.framer.Ended.TheVariants as ended
use Rattle.gl_script.specs.declared.feed.Event.{Event}
use Rattle.gl_script.specs.declared.feed.Event.TheVariants.{More, Line, Long, Payload, Truncated}
use Rattle.gl_script.specs.declared.feed.Feed.{Feed}

abbrev Agrees_by : Event → Seen → Stream × Option Item → Type 0
Agrees_by More s r = Unit {0}
Agrees_by Line s r = r ≡ close_by (kind_by false (payload_len s.piece)) s.piece
Agrees_by Long s r = (s.begun ≡ idle) × (r ≡ (nothing, Some Item.Long))
Agrees_by Payload s r = Unit {0}
Agrees_by Truncated s r = Unit {0}

abbrev Agrees : Seen → Stream × Option Item → Type 0
Agrees s r = Agrees_by s.event s r

Agrees-line : (bs : List ℕ) (b : ℕ) → Agrees (line_pushed bs b) (step_line bs b)
unfolding kind_of
Agrees-line bs b =
    let l = drop_cr bs in
    let long : Seen = record { begun = idle; event = Long; piece = [] } in
    let short : Seen = record { begun = idle; event = Line; piece = l } in
    let Q : Bool → Type 0 = λ d. Agrees (cond d long short) (close_by (kind_by d (payload_len l)) l) in
    let done : Q (ltb max_line (length l)) = elim (ltb max_line (length l)) as Q [ true ↦ (refl, refl) | false ↦ refl ] in
    let P : Bool → Type 0 = λ c. Agrees (cond c (line_done l) (quiet (cond (leb (length bs) max_line) (some_line (bs ++ b ∷ [])) skipping)))
    (cond c (close_by (kind_of l) l) (cond (leb (length bs) max_line) (in_line (bs ++ b ∷ [])) skipped, None)) in
    elim (eqb b 10) as P [ true ↦ done | false ↦ tt ]

Agrees-pushed : (begun : Begun) (b : ℕ) (heading : List ℕ) → Agrees (pushed begun b) (step (stream_by begun heading) b)
Agrees-pushed idle b heading = Agrees-line [] b
Agrees-pushed (some_line bs) b heading = Agrees-line bs b
Agrees-pushed skipping b heading =
    let P : Bool → Type 0 = λ c. Agrees (cond c (record { begun = idle; event = Long; piece = [] }) (quiet skipping)) (cond c (nothing, Some Item.Long) (skipped, None)) in
    elim (eqb b 10) as P [ true ↦ (refl, refl) | false ↦ tt ]
Agrees-pushed (some_payload bs due) b heading =
    let P : Bool → Type 0 = λ c. Agrees (cond c (record { begun = idle; event = Payload; piece = bs ++ b ∷ [] }) (quiet (some_payload (bs ++ b ∷ []) (due - 1))))
    (cond c (nothing, Some (Item.Import heading (bs ++ b ∷ []))) (in_payload heading (bs ++ b ∷ []) (due - 1), None)) in
    elim (leb due 1) as P [ true ↦ tt | false ↦ tt ]

agrees_at : (f : Feed) (begun : Begun) (b : ℕ) (heading : List ℕ) (e : Event) → seen_of f ≡ pushed begun b → f.event ≡ e → Agrees_by e (seen_of f) (step (stream_by begun heading) b)
agrees_at f begun b heading e s t =
    let r = step (stream_by begun heading) b in
    let a : Agrees (seen_of f) r = subst (λ (x : Seen). Agrees x r) (sym s) (Agrees-pushed begun b heading) in
    subst (λ (x : Event). Agrees_by x (seen_of f) r) t a

pub at_line : (f : Feed) (begun : Begun) (b : ℕ) (heading : List ℕ) → seen_of f ≡ pushed begun b → f.event ≡ Line → step (stream_by begun heading) b ≡ close_by (kind_by false (payload_len (piece_of f))) (piece_of f)
at_line f begun b heading s t = agrees_at f begun b heading Line s t

pub at_long : (f : Feed) (begun : Begun) (b : ℕ) (heading : List ℕ) → seen_of f ≡ pushed begun b → f.event ≡ Long → step (stream_by begun heading) b ≡ (stream_by (begun_of f) heading, Some Item.Long)
at_long f begun b heading s t =
    let a = agrees_at f begun b heading Long s t in
    rw a.0 a.1

-- The end of input.

abbrev Ends_by : Event → Seen → Option Item → Type 0
Ends_by More s o = Unit {0}
Ends_by Line s o = o ≡ Some (last_item (kind_by false (payload_len s.piece)) s.piece)
Ends_by Long s o = o ≡ Some Item.Long
Ends_by Payload s o = Unit {0}
Ends_by Truncated s o = Unit {0}

Ends-line : (bs : List ℕ) → Ends_by (line_done (drop_cr bs)).event (line_done (drop_cr bs)) (closing (in_line bs))
unfolding kind_of
Ends-line bs =
    let l = drop_cr bs in
    let long : Seen = record { begun = idle; event = Long; piece = [] } in
    let short : Seen = record { begun = idle; event = Line; piece = l } in
    let Q : Bool → Type 0 = λ d. Ends_by (cond d long short).event (cond d long short) (Some (last_item (kind_by d (payload_len l)) l)) in
    elim (ltb max_line (length l)) as Q [ true ↦ refl | false ↦ refl ]

Ends-finished : (begun : Begun) (heading : List ℕ) → Ends_by (finished begun).event (finished begun) (closing (stream_by begun heading))
Ends-finished idle heading = tt
Ends-finished (some_line bs) heading = Ends-line bs
Ends-finished skipping heading = refl
Ends-finished (some_payload bs due) heading = tt

ends_at : (f : Feed) (begun : Begun) (heading : List ℕ) (e : Event) → seen_of f ≡ finished begun → f.event ≡ e → Ends_by e (seen_of f) (closing (stream_by begun heading))
ends_at f begun heading e s t =
    let o = closing (stream_by begun heading) in
    let a : Ends_by f.event (seen_of f) o = subst (λ (x : Seen). Ends_by x.event x o) (sym s) (Ends-finished begun heading) in
    subst (λ (x : Event). Ends_by x (seen_of f) o) t a

pub ends_long : (f : Feed) (begun : Begun) (heading : List ℕ) → seen_of f ≡ finished begun → f.event ≡ Long → closing (stream_by begun heading) ≡ Some Item.Long
ends_long f begun heading s t = ends_at f begun heading Long s t

abbrev pub or_truncated : Option Item → Item
or_truncated None = Item.Truncated
or_truncated (Some i) = i

close_last : (k : Kind) (l : List ℕ) (s : Stream) (o : Option Item) → close_by k l ≡ (s, o) → last_item k l ≡ or_truncated o
close_last past_limit l s o h = let e : Some Item.Long ≡ o = ap (λ (p : Stream × Option Item). p.1) h in ap or_truncated e
close_last plain l s o h = let e : Some (Item.Line l) ≡ o = ap (λ (p : Stream × Option Item). p.1) h in ap or_truncated e
close_last (header zero) l s o h = let e : Some (Item.Import l []) ≡ o = ap (λ (p : Stream × Option Item). p.1) h in ap or_truncated e
close_last (header (suc n)) l s o h =
    let z : eqb (suc n) 0 ≡ false = grind (arith, nat_tests) in
    let g = rw z at h in
    let e : None ≡ o = ap (λ (p : Stream × Option Item). p.1) g in
    ap or_truncated e

-- the line that the end of input ended was an item, or is a heading whose payload does not come
pub ends_line : (f : Feed) (begun : Begun) (heading : List ℕ) (s : Stream) (o : Option Item) → seen_of f ≡ finished begun → f.event ≡ Line
    → close_by (kind_by false (payload_len (piece_of f))) (piece_of f) ≡ (s, o) → closing (stream_by begun heading) ≡ Some (or_truncated o)
ends_line f begun heading s o e t h = ends_at f begun heading Line e t ∙ ap (λ (i : Item). Some i) (close_last (kind_by false (payload_len (piece_of f))) (piece_of f) s o h)

pub or_truncated-told : (e : Ended) (f : Framer) → (e ≡ ended.Nothing → ⊥) → Some (or_truncated (told e f)) ≡ told e f
or_truncated-told ended.Nothing f h = absurd (h refl)
or_truncated-told ended.Line f h = refl
or_truncated-told ended.Import f h = refl
or_truncated-told ended.Long f h = refl
or_truncated-told ended.Truncated f h = refl
