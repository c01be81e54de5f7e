-- A session that is fed: how its history goes on, and how it ends.
use Rattle.std.proofs.Common.{◌≡◌, ◌∙◌, ℕ, ◌+◌, ◌≤◌, ◌<◌, Bool, true, false, IsTrue, List, [], ◌++◌, length, take, drop, Option, Some, refl, ap, sym, subst, arith, append-nil, append_assoc, length-append}
use Rattle.std.specs.Prelude.{⊤}
use Rattle.std.proofs.lemmas.List.{drop-append-le, take_at}
use Rattle.std.proofs.KnownBytes.{Appends-nil, Keeps-refl}
use Rattle.std.specs.List.{concat}
use Rattle.std.specs.Option.{option_to_list}
use Rattle.gl_calculus.specs.Grid.Limits.{max_script}
use Rattle.gl_language.specs.Texts.Text.{Bytes}
use Rattle.gl_protocol.specs.Framing.Framing.{Item, ended, has_quit}
use Rattle.gl_protocol.specs.Framing.Stream.{Stream, nothing, in_line, skipped, in_payload, gained, after, closing}
use Rattle.gl_protocol.specs.Scripts.Output.{is_within_limit, items_of}
use Rattle.gl_protocol.specs.Run.Out.{WroteAll, WroteAllTelling, WroteSome}
use Rattle.laws_protocol.specs.FramingLaw.{up_to_quit}
use Rattle.gl_script.specs.Framer.{stream_at}
use Rattle.gl_run.specs.State.{State, state_of, start}
use Rattle.gl_run.specs.Emitted.{Emitted, EmittedPart}
use Rattle.gl_run.specs.Framed.{HasHeader}
use Rattle.gl_run.specs.Reads.{ReadsOn, is_headed}
use Rattle.gl_run.specs.declared.session.Session.{Session}
use Rattle.gl_run.specs.declared.session.Stop.TheVariants.{NoMemory}
use Rattle.gl_run.specs.declared.top.Status.{Status}
use Rattle.gl_run.specs.declared.top.Status.TheVariants.{Done, Usage, ReadFault, WriteFault, InputLimit}
use Rattle.gl_run.specs.declared.top.Status.TheVariants as status
use Rattle.gl_run.proofs.Faults.{stays_none}
use Rattle.gl_run.proofs.Runs.{Emitted-none}
use Rattle.gl_run.proofs.Headers.{after_header}
use Rattle.gl_run.proofs.Taking.{Taking, Taking-more}
use Rattle.gl_run.proofs.Ends.{Reading, breaks_off, done_at_quit, stops_in_chunk, too_long, done_at_end, stops_at_end}

-- no room is told
abbrev pub never : ℕ → Type 0
never n = ⊥

abbrev Taken : Session → ℕ → Bytes → Bytes → Type 0
Taken s n fed out = Taking nothing (stream_at s.framer) (start 0) (state_of s n) false s.refused (Some []) (Some out) never never ⊤ ⊤ 0 0 fed

taken : {s : Session} {n : ℕ} {fed out : Bytes} → ReadsOn s n fed out → Taken s n fed out
taken h = record { begun = h.begun; no_quit = h.no_quit; emitted = h.answered; stays = stays_none ⊤ 0 }

-- the same as a run over a source that has this text
abbrev ReadsOf : Session → ℕ → ℕ → Bytes → Bytes → Bytes → Type 0
ReadsOf s n count text rest out = Reading 0 (Some text) (Some rest) ⊤ ⊤ 0 0 (stream_at s.framer) (state_of s n) s.refused (Some []) (Some out) never never ⊤ ⊤ 0 0 count

reading : (s : Session) (n : ℕ) {fed out : Bytes} (rest : Bytes) → Taken s n fed out → length fed ≤ max_script → ReadsOf s n (length fed) (fed ++ rest) rest out
reading s n {fed = fed} rest t limit = record { bytes = fed; taking = t; consumed = refl; counted = refl; limit = limit; stays = stays_none ⊤ 0 }

-- and has nothing else
reading_all : (s : Session) (n : ℕ) {fed out : Bytes} → Taken s n fed out → length fed ≤ max_script → ReadsOf s n (length fed) fed [] out
reading_all s n {fed = fed} t limit = record { bytes = fed; taking = t; consumed = sym (append-nil fed); counted = refl; limit = limit; stays = stays_none ⊤ 0 }

reads_on : (s : Session) (n : ℕ) {fed out : Bytes} → Taken s n fed out → length fed ≤ max_script → ReadsOn s n fed out
reads_on s n {out = out} t limit =
    let b = breaks_off (reading_all s n t limit) (Some []) (Keeps-refl (Some [])) in
    record {
      limit = limit;
      no_quit = t.no_quit;
      wrote = subst (λ (q : Bytes). WroteAll (Some []) (Some out) (ended q)) (sym (b.consumed ∙ append-nil b.read)) b.wrote;
      begun = t.begun;
      answered = t.emitted;
    }

-- ---- the start

pub reads_none : (s : Session) (n : ℕ) → stream_at s.framer ≡ nothing → state_of s n ≡ start 0 → s.refused ≡ false → ReadsOn s n [] []
reads_none s n begun state refused =
    let P : State → Type 0 = λ x. Emitted (start 0) x false false (Some []) (Some []) never never [] in
    let Q : Bool → Type 0 = λ r. Emitted (start 0) (state_of s n) false r (Some []) (Some []) never never [] in
    let none : Q s.refused = subst Q (sym refused) (subst P (sym state) (Emitted-none (start 0) false (Some []) never)) in
    reads_on s n (record { begun = begun; no_quit = refl; emitted = none; stays = stays_none ⊤ 0 }) (omega arith)

-- what is begun has its header
pub headed : (s : Stream) → is_headed s ≡ true → HasHeader s
headed nothing e = tt
headed (in_line bs) e = tt
headed skipped e = tt
headed (in_payload heading part due) e = e

pub is_headed_of : (s : Stream) → HasHeader s → is_headed s ≡ true
is_headed_of nothing h = refl
is_headed_of (in_line bs) h = refl
is_headed_of skipped h = refl
is_headed_of (in_payload heading part due) h = h

-- and keeps it
pub headed_after : (s t : Stream) (c : Bytes) → is_headed s ≡ true → t ≡ after s c → is_headed t ≡ true
headed_after s t c e a = is_headed_of t (subst HasHeader (sym a) (after_header s c (headed s e)))

-- ---- replies behind those that were taken

pub waiting_more : (given bytes more : Bytes) (at : ℕ) → at ≤ length bytes → given ++ drop at (bytes ++ more) ≡ (given ++ drop at bytes) ++ more
waiting_more given bytes more at le = ap (λ (l : Bytes). given ++ l) (drop-append-le at bytes more le) ∙ sym (append_assoc given (drop at bytes) more)

module _ (given a b : Bytes) (at : ℕ) (le : at ≤ length a) where
  grown : (w : Bytes) → b ≡ a ++ w → given ++ drop at b ≡ (given ++ drop at a) ++ w
  grown w e = ap (λ (l : Bytes). given ++ drop at l) e ∙ waiting_more given a w at le

  pub emitted_behind : (x z : State) (r v : Bool) (is : List Item) → Emitted x z r v (Some a) (Some b) never never is → Emitted x z r v (Some (given ++ drop at a)) (Some (given ++ drop at b)) never never is
  emitted_behind x z r v is e = record {
    replies = e.replies;
    answers = e.answers;
    written = grown (concat e.replies) e.written;
    refused = e.refused;
    left_room = λ n h. absurd h;
  }

  pub part_behind : (x : State) (is : List Item) → EmittedPart x (Some a) (Some b) is → EmittedPart x (Some (given ++ drop at a)) (Some (given ++ drop at b)) is
  part_behind x is e = record {
    part = e.part;
    is_part = e.is_part;
    end = e.end;
    replies = e.replies;
    answers = e.answers;
    written = grown (concat e.replies) e.written;
  }

part_none : (x : State) (k : Option Bytes) (is : List Item) → EmittedPart x k k is
part_none x k is = record { part = []; is_part = (is, refl); end = x; replies = []; answers = (refl, refl); written = Appends-nil k }

-- ---- bytes that are read within the limit, and more that come behind

module _ {s : Session} {n : ℕ} {fed out : Bytes} (h : ReadsOn s n fed out) (c more : Bytes) (le : length fed + length c ≤ max_script) where
  abbrev S : Stream
  S = stream_at s.framer

  abbrev all : Bytes
  all = fed ++ (c ++ more)

  of_text : (P : Bytes → Type 0) (y : Bytes) → P (fed ++ ((c ++ more) ++ y)) → P (all ++ y)
  of_text P y = subst P (sym (append_assoc fed (c ++ more) y))

  pub quits : (z : State) (v : Bool) (out' : Bytes) → Emitted (state_of s n) z s.refused v (Some out) (Some out') never never (up_to_quit (gained S c)) → true ≡ has_quit (gained S c)
      → (y : Bytes) → IsTrue (is_within_limit (all ++ y)) × WroteAllTelling (Some []) (Some out') (items_of (all ++ y)) v
  quits z v out' e some y =
      let d = done_at_quit (reading s n ((c ++ more) ++ y) (taken h) h.limit) (Some y) c more refl le z v (Some out') never e some in
      of_text (λ t. IsTrue (is_within_limit t) × WroteAllTelling (Some []) (Some out') (items_of t) v) y (d.0, d.1.wrote)

  pub stops : (out' : Bytes) → EmittedPart (state_of s n) (Some out) (Some out') (up_to_quit (gained S c)) → (y : Bytes) → WroteSome (Some []) (Some out') (items_of (all ++ y))
  stops out' e y =
      of_text (λ t. WroteSome (Some []) (Some out') (items_of t)) y
      (stops_in_chunk (reading s n ((c ++ more) ++ y) (taken h) h.limit) (Some y) c more refl le NoMemory (Some out') ⊤ 0 (e, stays_none ⊤ 0))

  -- nothing of it was answered
  pub stops_before : (y : Bytes) → WroteSome (Some []) (Some out) (items_of (all ++ y))
  stops_before = stops out (part_none (state_of s n) (Some out) (up_to_quit (gained S c)))

  pub exceeds : (z : State) (v : Bool) (out' : Bytes) → Emitted (state_of s n) z s.refused v (Some out) (Some out') never never (up_to_quit (gained S c)) → false ≡ has_quit (gained S c)
      → length fed + length c ≡ max_script → 0 < length more → (y : Bytes) → (is_within_limit (all ++ y) ≡ false) × WroteAll (Some []) (Some out') (items_of (all ++ y))
  exceeds z v out' e none full some y =
      of_text (λ t. (is_within_limit t ≡ false) × WroteAll (Some []) (Some out') (items_of t)) y
      (too_long (reading s n ((c ++ more) ++ y) (taken h) h.limit) (Some y) c more refl le (after S c) z v (Some out') never ⊤ 0 refl e none (stays_none ⊤ 0) full some)

  pub goes_on : (s' : Session) (m : ℕ) (out' : Bytes) → stream_at s'.framer ≡ after S c → Emitted (state_of s n) (state_of s' m) s.refused s'.refused (Some out) (Some out') never never (up_to_quit (gained S c)) → false ≡ has_quit (gained S c)
      → more ≡ [] → ReadsOn s' m all out'
  goes_on s' m out' begun e none nil =
      let t = Taking-more fed (taken h) (stream_at s'.framer) (state_of s' m) s'.refused (Some out') never ⊤ 0 c begun e (sym none) (stays_none ⊤ 0) in
      let size : length (fed ++ c) ≤ max_script = omega (arith, le, length-append fed c) in
      subst (λ (q : Bytes). ReadsOn s' m (fed ++ q) out') (sym (ap (λ (w : Bytes). c ++ w) nil ∙ append-nil c)) (reads_on s' m t size)

-- ---- the end of the input

module _ {s : Session} {n : ℕ} {fed out : Bytes} (h : ReadsOn s n fed out) where
  pub ends : (z : State) (v : Bool) (out' : Bytes) → Emitted (state_of s n) z s.refused v (Some out) (Some out') never never (option_to_list (closing (stream_at s.framer)))
      → IsTrue (is_within_limit fed) × WroteAllTelling (Some []) (Some out') (items_of fed) v
  ends z v out' e =
      let d = done_at_end (reading_all s n (taken h) h.limit) z v (Some out') never refl e in (d.0, d.1.wrote)

  pub ends_short : (out' : Bytes) → EmittedPart (state_of s n) (Some out) (Some out') (option_to_list (closing (stream_at s.framer))) → WroteSome (Some []) (Some out') (items_of fed)
  ends_short out' e = stops_at_end (reading_all s n (taken h) h.limit) NoMemory (Some out') ⊤ 0 refl (e, stays_none ⊤ 0)

  pub ends_before : WroteSome (Some []) (Some out) (items_of fed)
  ends_before = ends_short out (part_none (state_of s n) (Some out) (option_to_list (closing (stream_at s.framer))))

-- ---- replies that are let go again

pub in_more : (a b w : Bytes) (at : ℕ) → b ≡ a ++ w → at ≤ length a → at ≤ length b
in_more a b w at e le = omega (arith, ap length e, length-append a w, le)

pub truncated : (a b w c : Bytes) (n : ℕ) → b ≡ a ++ w → n ≡ length a → c ≡ take n b → c ≡ a
truncated a b w c n e size cut = cut ∙ (ap (take n) e ∙ take_at a w n (sym size))

-- ---- statuses

abbrev fault_of : Status → ℕ
fault_of (Done refused) = 0
fault_of Usage = 0
fault_of status.NoMemory = 0
fault_of ReadFault = 0
fault_of WriteFault = 1
fault_of InputLimit = 0

pub no_fault_done : (refused : Bool) → Done refused ≡ WriteFault → ⊥
no_fault_done refused e = omega (arith, ap fault_of e)

pub no_fault_memory : status.NoMemory ≡ WriteFault → ⊥
no_fault_memory e = omega (arith, ap fault_of e)

pub no_fault_limit : InputLimit ≡ WriteFault → ⊥
no_fault_limit e = omega (arith, ap fault_of e)
