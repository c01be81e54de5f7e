-- Replies that are collected, and then written together.
use Rattle.std.proofs.Common.{◌≡◌, ℕ, ◌+◌, ◌-◌, ◌<◌, ◌≤◌, Bool, true, false, List, [], ◌++◌, length, take, get_or, Option, Some, Result, Ok, Err, IfOk, inl, inr, refl, sym, subst, ap, ◌∙◌, arith, append-nil, append_assoc, length-append}
use Rattle.std.specs.Option.{option_to_list}
use Rattle.std.specs.Io.KnownBytes.{Appends}
use Rattle.std.proofs.KnownBytes.{Appends-nil, Appends-trans}
use Rattle.gl_protocol.specs.Framing.Framing.{Item, has_quit}
use Rattle.gl_protocol.specs.Framing.Stream.{Stream, step, gained}
use Rattle.laws_protocol.specs.FramingLaw.{up_to_quit}
use Rattle.gl_run.specs.State.{State, state_of}
use Rattle.gl_run.specs.Emitted.{Emitted, EmittedPart, EmittedCut, Leaves}
use Rattle.gl_run.specs.Sending.{WroteWhole, WroteFront, Sends, Passes, full}
use Rattle.gl_run.specs.Serving.{Serves}
use Rattle.gl_run.specs.declared.session.Session.{Session}
use Rattle.gl_run.specs.declared.session.Stop.{Stop}
use Rattle.gl_run.specs.declared.session.Stop.TheVariants.{NoMemory, WriteFault}
use Rattle.gl_run.proofs.Faults.{stays_none, stays_then, rose_then}
use Rattle.gl_run.proofs.Runs.{room-then, no_room-then, take-past}
use Rattle.gl_run.proofs.Taking.{Taking, Taking-none, Byte-more, Byte-quits, Byte-stops}

-- no room is told
abbrev pub untold : ℕ → Type 0
untold n = ⊥

pub wrote_none : (k : Option (List ℕ)) (room : ℕ → Type 0) (F : Type 0) (f : ℕ) → WroteWhole k k room room F F f f []
wrote_none k room F f = record {
  written = Appends-nil k;
  left_room = λ n h le. let e : n ≡ n - 0 = omega arith in subst room e h;
  stays = stays_none F f;
}

module _ {k l m : Option (List ℕ)} {room rest : ℕ → Type 0} {F G : Type 0} {f g h : ℕ} (a b : List ℕ) (w : WroteWhole k l room rest F G f g a) where
  pub whole_then : {last : ℕ → Type 0} {H : Type 0} → WroteWhole l m rest last G H g h b → WroteWhole k m room last F H f h (a ++ b)
  whole_then {last = last} v = record {
    written = Appends-trans k l m a b w.written v.written;
    left_room = room-then a b room rest last w.left_room v.left_room;
    stays = stays_then w.stays v.stays;
  }

  pub front_then : WroteFront l m rest g h b → WroteFront k m room f h (a ++ b)
  front_then v = record {
    count = length a + v.count;
    short = omega (arith, length-append a b, v.short);
    written = subst (Appends k m) (take-past a b v.count) (Appends-trans k l m a (take v.count b) w.written v.written);
    no_room = no_room-then a b room rest w.left_room v.no_room;
    later = omega (arith, w.stays.later, v.later);
    rose = rose_then w.stays.later v.rose;
  }

-- ---- what was collected, as it is written

part_of : {x z : State} {r v : Bool} {k k' : Option (List ℕ)} {room room' : ℕ → Type 0} {is : List Item} → Emitted x z r v k k' room room' is → EmittedPart x k k' is
part_of {z = z} {is = is} e = record { part = is; is_part = ([], sym (append-nil is)); end = z; replies = e.replies; answers = e.answers; written = e.written }

module _ {k l : Option (List ℕ)} {room : ℕ → Type 0} {f g : ℕ} {all : List ℕ} {x : State} {is : List Item} where
  emitted_out : {z : State} {r v : Bool} {rest : ℕ → Type 0} {F G : Type 0} → Emitted x z r v (Some []) (Some all) untold untold is → WroteWhole k l room rest F G f g all → Emitted x z r v k l room rest is
  emitted_out {rest = rest} e w = record {
    replies = e.replies;
    answers = e.answers;
    written = subst (Appends k l) e.written w.written;
    refused = e.refused;
    left_room = subst (λ ys. (n : ℕ) → room n → length ys ≤ n → rest (n - length ys)) e.written w.left_room;
  }

  part_out : {rest : ℕ → Type 0} {F G : Type 0} → EmittedPart x (Some []) (Some all) is → WroteWhole k l room rest F G f g all → EmittedPart x k l is
  part_out e w = record { part = e.part; is_part = e.is_part; end = e.end; replies = e.replies; answers = e.answers; written = subst (Appends k l) e.written w.written }

  front_out : EmittedPart x (Some []) (Some all) is → WroteFront k l room f g all → EmittedCut x k l room is
  front_out e w =
      let P : List ℕ → Type 0 = λ ys. w.count < length ys in
      record {
        part = e.part;
        is_part = e.is_part;
        end = e.end;
        replies = e.replies;
        answers = e.answers;
        count = w.count;
        short = subst P e.written w.short;
        written = subst (λ ys. Appends k l (take w.count ys)) e.written w.written;
        no_room = subst (λ ys. (n : ℕ) → room n → length ys ≤ n → ⊥) e.written w.no_room;
      }

  stopped_front : (F G : Type 0) → EmittedPart x (Some []) (Some all) is → WroteFront k l room f g all → Leaves WriteFault x k l room F G f g is
  stopped_front F G e w = (front_out e w, w.later, w.rose)

  stopped_whole : {rest : ℕ → Type 0} {F G : Type 0} → EmittedPart x (Some []) (Some all) is → WroteWhole k l room rest F G f g all → Leaves NoMemory x k l room F G f g is
  stopped_whole e w = (part_out e w, w.stays)

-- ---- the answer to a write of what was collected

module _ {X : Type 0} {k l : Option (List ℕ)} {room rest : ℕ → Type 0} {F G : Type 0} {f g : ℕ} {out : List ℕ} (r : Result X Stop) where
  pub sent_is : (x : X) (P : X → Type 0) → Sends k l room rest F G f g out (Ok x) r → P x → IfOk r P
  sent_is x P (inl (e, w)) p = subst (λ q. IfOk q P) (sym e) p
  sent_is x P (inr (e, w)) p = subst (λ q. IfOk q P) (sym e) tt

  pub sent_stop : (stop : Stop) (P : X → Type 0) → Sends k l room rest F G f g out (Err stop) r → IfOk r P
  sent_stop stop P (inl (e, w)) = subst (λ q. IfOk q P) (sym e) tt
  sent_stop stop P (inr (e, w)) = subst (λ q. IfOk q P) (sym e) tt

pub passes_none : (k : Option (List ℕ)) (room : ℕ → Type 0) (F : Type 0) (f : ℕ) (out : List ℕ) (u : Unit {0}) → length out < full → Passes k k room room F F f f out out (Ok u)
passes_none k room F f out u few = record { ok = ([], refl, wrote_none k room F f); left = few; err = tt }

pub passes_all : (k l : Option (List ℕ)) (room rest : ℕ → Type 0) (F G : Type 0) (f g : ℕ) (out new : List ℕ) (u : Unit {0}) (r : Result (Unit {0}) Stop) → new ≡ [] → Sends k l room rest F G f g out (Ok u) r → Passes k l room rest F G f g out new r
passes_all k l room rest F G f g out new u r n (inl (e, w)) = subst (Passes k l room rest F G f g out new) (sym e) (record { ok = (out, sym (append-nil out) ∙ ap (λ ys. out ++ ys) (sym n), w); left = omega (arith, ap length n); err = tt })
passes_all k l room rest F G f g out new u r n (inr (e, w)) = subst (Passes k l room rest F G f g out new) (sym e) (record { ok = tt; left = tt; err = (refl, w) })

abbrev PartFor : Session → ℕ → List ℕ → List Item → Type 0
PartFor old n all is = EmittedPart (state_of old n) (Some []) (Some all) is

module _ {K X : Type 0} (taken : K → Option (List ℕ)) (takes : K → ℕ → Type 0) (is_exact : K → Type 0) (faults : K → ℕ) (k l m : K) (old new : Session) (n n' : ℕ) (is : List Item) (sent out : List ℕ) (w : WroteWhole (taken k) (taken l) (takes k) (takes l) (is_exact k) (is_exact l) (faults k) (faults l) sent) where
  abbrev Served : Result X Stop → Type 0
  Served r = Serves taken takes is_exact faults k m r old n new n' is

  abbrev SendsOut : Result X Stop → Result X Stop → Type 0
  SendsOut = Sends (taken l) (taken m) (takes l) (takes m) (is_exact l) (is_exact m) (faults l) (faults m) out

  serves_front : PartFor old n (sent ++ out) is → WroteFront (taken l) (taken m) (takes l) (faults l) (faults m) out → Served (Err WriteFault)
  serves_front e v = record { ok = tt; err = stopped_front (is_exact k) (is_exact m) e (front_then sent out w v); count = tt }

  -- the session goes on
  pub serves_all : (x : X) (r : Result X Stop) → Emitted (state_of old n) (state_of new n') old.refused new.refused (Some []) (Some (sent ++ out)) untold untold is → SendsOut (Ok x) r → Served r
  serves_all x r e (inl (p, v)) = subst Served (sym p) (let all = whole_then sent out w v in record { ok = emitted_out e all; err = tt; count = all.stays })
  serves_all x r e (inr (p, v)) = subst Served (sym p) (serves_front (part_of e) v)

  -- it stops for want of memory
  pub serves_stop : (r : Result X Stop) → PartFor old n (sent ++ out) is → SendsOut (Err NoMemory) r → Served r
  serves_stop r e (inl (p, v)) = subst Served (sym p) (record { ok = tt; err = stopped_whole e (whole_then sent out w v); count = tt })
  serves_stop r e (inr (p, v)) = subst Served (sym p) (serves_front e v)

  -- a write failed
  pub serves_cut : (stop : Stop) → PartFor old n (sent ++ out) is → (stop ≡ WriteFault) × WroteFront (taken l) (taken m) (takes l) (faults l) (faults m) out → Served (Err stop)
  serves_cut stop e (p, v) = subst (λ s. Served (Err s)) (sym p) (serves_front e v)

-- ---- a session that collects

pub record Collecting (s s' : Stream) (x x' : State) (r r' : Bool) (k k' : Option (List ℕ)) (room room' : ℕ → Type 0) (F F' : Type 0) (f f' : ℕ) (out : List ℕ) (bytes : List ℕ) : Type 0 where
  pub sent : List ℕ
  pub taking : Taking s s' x x' r r' (Some []) (Some (sent ++ out)) untold untold (Unit {0}) (Unit {0}) 0 0 bytes
  pub whole : WroteWhole k k' room room' F F' f f' sent

pub collecting_none : (s : Stream) (x : State) (r : Bool) (k : Option (List ℕ)) (room : ℕ → Type 0) (F : Type 0) (f : ℕ) (out : List ℕ) → out ≡ [] → Collecting s s x x r r k k room room F F f f out []
collecting_none s x r k room F f out e = record {
  sent = [];
  taking = subst (λ ys. Taking s s x x r r (Some []) (Some ys) untold untold (Unit {0}) (Unit {0}) 0 0 []) (sym e) (Taking-none s x r (Some []) untold (Unit {0}) 0);
  whole = wrote_none k room F f;
}

module _ {s m : Stream} {x y : State} {r q : Bool} {k l : Option (List ℕ)} {room rest : ℕ → Type 0} {F G : Type 0} {f g : ℕ} {out : List ℕ} (chunk : List ℕ) (i : ℕ) (t : Collecting s m x y r q k l room rest F G f g out (take i chunk)) (in_chunk : i < length chunk) where
  abbrev item : List Item
  item = option_to_list (step m (get_or chunk i 0)).1

  module _ (z : State) (v : Bool) (out' : List ℕ) (e : (before : List ℕ) → Emitted y z q v (Some (before ++ out)) (Some (before ++ out')) untold untold item) where
    -- the next byte, and what was passed on behind it
    pub collecting_more : (n : Stream) → n ≡ (step m (get_or chunk i 0)).0 → false ≡ has_quit item
        → (l' : Option (List ℕ)) (rest' : ℕ → Type 0) (H : Type 0) (h : ℕ) (new : List ℕ) → (front : List ℕ) × (out' ≡ front ++ new) × WroteWhole l l' rest rest' G H g h front
        → Collecting s n x z r v k l' room rest' F H f h new (take (i + 1) chunk)
    collecting_more n a none l' rest' H h new (front, p, w) =
        let P : List ℕ → Type 0 = λ ys. Taking s n x z r v (Some []) (Some ys) untold untold (Unit {0}) (Unit {0}) 0 0 (take (i + 1) chunk) in
        record {
          sent = t.sent ++ front;
          taking = subst P (ap (λ ys. t.sent ++ ys) p ∙ sym (append_assoc t.sent front new))
              (Byte-more chunk i t.taking in_chunk n z v (Some (t.sent ++ out')) untold (Unit {0}) 0 a (e t.sent) none (stays_none (Unit {0}) 0));
          whole = whole_then t.sent front t.whole w;
        }

    -- a `quit` ended with it
    pub collected_quit : true ≡ has_quit item → Emitted x z r v (Some []) (Some (t.sent ++ out')) untold untold (up_to_quit (gained s chunk))
    collected_quit some = Byte-quits chunk i t.taking in_chunk z v (Some (t.sent ++ out')) untold (e t.sent) some

    -- the session stops behind it
    pub collected_item : EmittedPart x (Some []) (Some (t.sent ++ out')) (up_to_quit (gained s chunk))
    collected_item = (Byte-stops chunk i t.taking in_chunk NoMemory (Some (t.sent ++ out')) (Unit {0}) 0 (part_of (e t.sent), stays_none (Unit {0}) 0)).0

  -- the session stops before it
  pub collected_before : EmittedPart x (Some []) (Some (t.sent ++ out)) (up_to_quit (gained s chunk))
  collected_before =
      let none : EmittedPart y (Some (t.sent ++ out)) (Some (t.sent ++ out)) item =
      record { part = []; is_part = (item, refl); end = y; replies = []; answers = (refl, refl); written = Appends-nil (Some (t.sent ++ out)) } in
      (Byte-stops chunk i t.taking in_chunk NoMemory (Some (t.sent ++ out)) (Unit {0}) 0 (none, stays_none (Unit {0}) 0)).0
