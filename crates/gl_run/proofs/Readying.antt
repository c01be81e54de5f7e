-- What an edit of the sheet becomes: what must hold before it, and what it comes to.
use Rattle.std.proofs.Common.{◌≡◌, ◌∙◌, ◌⊎◌, inl, inr, ℕ, ◌+◌, ◌<◌, ◌≤◌, true, false, List, [], ◌∷◌, length, Option, Some, None, IsSome, option_map, Err, refl, sym, ap, subst, arith}
use Rattle.gl_calculus.specs.Grid.Grid.{Addr, AreInOrder}
use Rattle.gl_calculus.specs.Formulas.Formula.{Cells}
use Rattle.gl_calculus.specs.Edits.Limits.{max_registers}
use Rattle.gl_calculus.specs.Edits.Replicas.{Stamp, Edit, Changes, Replica, IsJudged, IsTakeable, Wins, IsOlder, AreOlder, register_at, with_edit, next_stamp, taking, taking_all, stamped, missing, has_room}
use Rattle.gl_calculus.specs.Edits.Steps.{Step, step_of, pushed}
use Rattle.gl_language.specs.Texts.Text.{Bytes}
use Rattle.gl_protocol.specs.Scripts.Commands.{Read, Is, Not, error_line, ok_line}
use Rattle.gl_protocol.specs.Scripts.Script as P
use Rattle.gl_protocol.specs.Scripts.Script.{edited}
use Rattle.laws_protocol.proofs.Scripts.Edited.{alone_done, alone_over, no_stamp, no_room, replica_done}
use Rattle.laws_calculus.proofs.SheetEdits.Own.{edit_of, judged, still_older, tail_order}
use Rattle.gl_cells.specs.declared.fault.PutFault.{PutFault}
use Rattle.gl_cells.specs.declared.fault.PutFault.TheVariants as put
use Rattle.gl_calc.specs.View.{View, sheet_of}
use Rattle.gl_merge.specs.Edit.{EditValue, edit_tree}
use Rattle.gl_merge.specs.Index.{trees}
use Rattle.gl_merge.specs.Replica.{ReplicaValue, registers_of, register_of, replica_tree, spare_after, IsLatest, AreOrdered}
use Rattle.gl_run.specs.Changed.{IsChanged, Puts}
use Rattle.gl_run.specs.Ready.{places, CanTake, CanTakeThese, AreOwn, Stamps, IsReady, local_word, IsRefusedBy, HasRoomFor, TakesAll, CanCommit, Commits}
use Rattle.gl_run.specs.Replies.{IsRefusal, put_word}
use Rattle.gl_run.specs.Script.{script_of, known_of}
use Rattle.gl_run.specs.declared.script.Script.{Script}
use Rattle.gl_run.specs.declared.local.LocalFault.{LocalFault}
use Rattle.gl_run.specs.declared.local.LocalFault.TheVariants as fault
use Rattle.gl_run.specs.declared.local.Ready.{Ready}
use Rattle.gl_run.specs.declared.local.Ready.TheVariants as ready
use Rattle.gl_run.proofs.OwnEdits.{one_if_none, missing_more, one_by_test, missing_after, length_taken, room_there, room_gone}

-- ---- taking edits of its own, one after the other

-- what holds of the first of such edits
pub record First (r : ReplicaValue) (e : EditValue) (es : List EditValue) : Type 0 where
  pub takeable : IsTakeable (register_of r e.place) (edit_tree e)
  pub room : IsSome (register_of r e.place) ⊎ (1 ≤ r.spare)
  pub rest : (q : ReplicaValue) → replica_tree q ≡ taking (replica_tree r) (edit_tree e) → q.spare ≡ spare_after r e.place → CanTakeThese q es

room_by : (o : Option Edit) (n s : ℕ) → one_if_none o + n ≤ s → IsSome o ⊎ (1 ≤ s)
room_by (Some r) n s h = inl refl
room_by None n s h = inr (omega (arith, h))

first_by : (r : ReplicaValue) (e : EditValue) (es : List EditValue) (t : Stamp) (cs : Changes) → trees (e ∷ es) ≡ stamped t cs → CanTake t cs r → First r e es
first_by r e es t [] eq h = absurd (cc eq)
first_by r e es t (c ∷ cs) eq h =
    let rs = registers_of r in
    let head : edit_tree e ≡ edit_of t c = cc eq in
    let more : trees es ≡ stamped t cs = cc eq in
    let here : e.place ≡ c.0 = ap (λ (x : Edit). x.place) head in
    let same : one_if_none (register_at rs e.place) ≡ one_if_none (register_at rs c.0) = ap (λ (a : Addr). one_if_none (register_at rs a)) here in
    let w : IsJudged (register_at rs c.0) (edit_of t c) Wins = judged (register_at rs c.0) (edit_of t c) h.older.0 in
    let first = missing_more rs c.0 (places cs) in
    let test = one_by_test (register_at rs e.place) in
    record {
      takeable = subst (λ (x : Edit). IsTakeable (register_at rs x.place) x) (sym head) (Wins, w, λ k. cc k);
      room = room_by (register_at rs e.place) (missing rs (places cs)) r.spare (omega (arith, h.room, first, same));
      rest = λ q k s.
          let regs : registers_of q ≡ with_edit rs (edit_of t c) = ap (λ (x : Replica). x.registers) k ∙ ap (with_edit rs) head in
          let left : missing (registers_of q) (places cs) ≡ missing rs (places cs) = ap (λ (xs : List Edit). missing xs (places cs)) regs ∙ missing_after rs (edit_of t c) (places cs) w h.ordered in (
            t,
            cs,
            more,
            record {
              ordered = tail_order c cs h.ordered;
              older = subst (λ (xs : List Edit). AreOlder xs t cs) (sym regs) (still_older rs t c cs h.older.0 h.ordered h.older.1);
              room = omega (arith, h.room, first, same, test, left, s);
            },
          );
    }

pub first_of : (r : ReplicaValue) (e : EditValue) (es : List EditValue) → CanTakeThese r (e ∷ es) → First r e es
first_of r e es h = first_by r e es h.0 h.1 h.2 h.3

-- ---- the edits of a replica

older_all : (rs : List Edit) (t : Stamp) (cs : Changes) → ((a : Addr) → IsOlder (register_at rs a) t) → AreOlder rs t cs
older_all rs t [] h = tt
older_all rs t (c ∷ cs) h = (h c.0, older_all rs t cs h)

module _ (r q : ReplicaValue) (t : Stamp) (cs : Changes) (same : replica_tree q ≡ replica_tree r) (next : next_stamp (replica_tree r) ≡ Some t) (latest : IsLatest r t) (o : AreOrdered r) (rise : AreInOrder (places cs)) where
  long : length (taking_all (replica_tree r) (stamped t cs)).registers ≡ length (registers_of r) + missing (registers_of r) (places cs)
  long = length_taken (replica_tree r) t cs o rise (older_all (registers_of r) t cs latest)

  pub own_ready : (es : List EditValue) → trees es ≡ stamped t cs → length (registers_of r) + missing (registers_of r) (places cs) ≤ max_registers → missing (registers_of r) (places cs) ≤ q.spare → AreOwn q cs es
  own_ready es edits fits room =
      let regs : registers_of q ≡ registers_of r = ap (λ (x : Replica). x.registers) same in
      record {
        stamp = t;
        next = ap next_stamp same ∙ next;
        edits = edits;
        takes = record {
          ordered = rise;
          older = subst (λ (xs : List Edit). AreOlder xs t cs) (sym regs) (older_all (registers_of r) t cs latest);
          room = subst (λ (xs : List Edit). missing xs (places cs) ≤ q.spare) (sym regs) room;
        };
        few = subst (λ (x : Replica). has_room (taking_all x (stamped t cs)) ≡ true) (sym same) (room_there (taking_all (replica_tree r) (stamped t cs)) (length (registers_of r)) (missing (registers_of r) (places cs)) long fits);
      }

  pub own_full : max_registers < length (registers_of r) + missing (registers_of r) (places cs) → (u : Stamp) × (next_stamp (replica_tree q) ≡ Some u) × (has_room (taking_all (replica_tree q) (stamped u cs)) ≡ false)
  own_full past =
      (t, ap next_stamp same ∙ next, subst (λ (x : Replica). has_room (taking_all x (stamped t cs)) ≡ false) (sym same) (room_gone (taking_all (replica_tree r) (stamped t cs)) (length (registers_of r)) (missing (registers_of r) (places cs)) long past))

-- ---- what is known of a script

pub same_known : (x : Script) (r q : ReplicaValue) → x.replica ≡ Some r → replica_tree q ≡ replica_tree r → known_of (record x { replica = Some q }) ≡ known_of x
same_known x r q is same =
    let e : option_map replica_tree (Some q) ≡ option_map replica_tree x.replica = ap (λ (z : Replica). Some z) same ∙ sym (ap (option_map replica_tree) is) in
    ap (λ (o : Option Replica). record (known_of x) { script = record (script_of x) { replica = o } }) e

pub same_sheet : (x : Script) (c : View) → sheet_of c ≡ sheet_of x.calc → script_of (record x { calc = c }) ≡ script_of x
same_sheet x c e = ap (λ (S : Cells). record (script_of x) { sheet = S }) e

-- ---- refusals

pub refused_by : {Z : Type 0} (f : Z → List EditValue) (x : Script) (cs : Changes) (r : ReplicaValue) → x.replica ≡ Some r → (e : LocalFault) → Stamps f (Err e) r cs → IsRefusedBy (local_word e) (script_of x) cs
refused_by f x cs r is fault.Stamp h = λ goal. no_stamp (script_of x) cs (replica_tree r) (ap (option_map replica_tree) is) goal h
refused_by f x cs r is fault.Edits h = λ goal. no_room (script_of x) cs (replica_tree r) (ap (option_map replica_tree) is) goal h.0 h.1 h.2
refused_by f x cs r is fault.NoMemory h = tt

pub changed_to : (r : Read P.Script) (s s' : P.Script) (reply : Bytes) → r ≡ Is s' → reply ≡ ok_line → IsChanged r s s' reply
changed_to r s s' reply e p = subst (λ (z : Read P.Script). IsChanged z s s' reply) (sym e) (refl, p)

pub changed_not : (r : Read P.Script) (s s' : P.Script) (reply : Bytes) (w : Bytes) → r ≡ Not w → s' ≡ s → reply ≡ error_line w → IsChanged r s s' reply
changed_not r s s' reply w e k p = subst (λ (z : Read P.Script). IsChanged z s s' reply) (sym e) (k, p)

-- an edit that is refused for what it becomes
pub refused_changed : (o : Option Bytes) (s s' : P.Script) (cs : Changes) (goal : Read Cells) (reply : Bytes) → s' ≡ s → IsRefusedBy o s' cs → IsRefusal o reply → IsChanged (edited s cs goal) s s' reply
refused_changed (Some w) s s' cs goal reply e h p = changed_not (edited s cs goal) s s' reply w (ap (λ (z : P.Script). edited z cs goal) (sym e) ∙ h goal) e p
refused_changed None s s' cs goal reply e h p = absurd p

-- ---- what is committed

module _ (x : Script) (cs : Changes) (c : View) where
  pub can_commit : (z : Ready) → IsReady x cs z → CanCommit (record x { calc = c }) z
  can_commit (ready.Step d) h = tt
  can_commit (ready.Edits es) h = (h.0, h.1, (h.2.stamp, cs, h.2.edits, h.2.takes))

  pub committed : (z : Ready) (goal : Read Cells) (s' : P.Script) → IsReady x cs z → goal ≡ Is (sheet_of c) → Commits (record x { calc = c }) z s' → edited (script_of x) cs goal ≡ Is s'
  committed (ready.Step d) goal s' h e k =
      let s = script_of x in
      let whole : s' ≡ record s { sheet = sheet_of c; history = pushed s.history (step_of s.sheet cs) } = k ∙ ap (λ (y : Step). record s { sheet = sheet_of c; history = pushed s.history y }) h.1 in
      alone_done s cs (sheet_of c) goal (ap (option_map replica_tree) h.0) e ∙ ap (λ (z : P.Script). Is z) (sym whole)
  committed (ready.Edits es) goal s' h e k =
      let s = script_of x in
      let r = replica_tree h.0 in
      let own = h.2 in
      let whole : s' ≡ record s { sheet = sheet_of c; replica = Some (taking_all r (stamped own.stamp cs)) } = k h.0 h.1 ∙ ap (λ (y : List Edit). record s { sheet = sheet_of c; replica = Some (taking_all r y) }) own.edits in
      replica_done s cs r (ap (option_map replica_tree) h.1) goal own.stamp (sheet_of c) own.next own.few e ∙ ap (λ (z : P.Script). Is z) (sym whole)

  over : (z : Ready) (goal : Read Cells) (w : Bytes) → IsReady x cs z → goal ≡ Not w → edited (script_of x) cs goal ≡ Not w
  over (ready.Step d) goal w h e = alone_over (script_of x) cs w goal (ap (option_map replica_tree) h.0) e
  over (ready.Edits es) goal w h e = in_replica (script_of x) (replica_tree h.0) (ap (option_map replica_tree) h.1) h.2.stamp h.2.next h.2.few
    where
      in_replica : (s : P.Script) (r : Replica) → s.replica ≡ Some r → (t : Stamp) → next_stamp r ≡ Some t → has_room (taking_all r (stamped t cs)) ≡ true → edited s cs goal ≡ Not w
      in_replica s r i t n f = rw (i, n, f, e) refl

  -- an edit that the sheet refuses
  pub put_changed : (z : Ready) (goal : Read Cells) (f : PutFault) (reply : Bytes) → IsReady x cs z → Puts (Err f) goal (sheet_of x.calc) (sheet_of c) → IsRefusal (put_word f) reply
      → IsChanged (edited (script_of x) cs goal) (script_of x) (script_of (record x { calc = c })) reply
  put_changed z goal put.Formulas reply h k p = changed_not (edited (script_of x) cs goal) (script_of x) (script_of (record x { calc = c })) reply _ (over z goal _ h k.1) (same_sheet x c k.0) p
  put_changed z goal put.Contents reply h k p = changed_not (edited (script_of x) cs goal) (script_of x) (script_of (record x { calc = c })) reply _ (over z goal _ h k.1) (same_sheet x c k.0) p
  put_changed z goal put.NoMemory reply h k p = absurd p

-- ---- the replica takes its own edits

pub own_there : (x : Script) (es : List EditValue) (r : ReplicaValue) → x.replica ≡ Some r → HasRoomFor x es → CanTakeThese r es
own_there x es r is h =
    let some : Some h.0 ≡ Some r = sym h.1 ∙ is in
    let same : h.0 ≡ r = cc some in
    subst (λ (z : ReplicaValue). CanTakeThese z es) same h.2

pub own_taken : (x : Script) (es : List EditValue) (r q : ReplicaValue) → x.replica ≡ Some r → replica_tree q ≡ taking_all (replica_tree r) (trees es) → TakesAll x es (script_of (record x { replica = Some q }))
own_taken x es r q is taken p h =
    let some : Some r ≡ Some p = sym is ∙ h in
    let same : r ≡ p = cc some in
    ap (λ (z : Replica). record (script_of x) { replica = Some z }) (taken ∙ ap (λ (z : ReplicaValue). taking_all (replica_tree z) (trees es)) same)

pub own_gone : (x : Script) (es : List EditValue) (s' : P.Script) → x.replica ≡ None → TakesAll x es s'
own_gone x es s' is p h = let no : None ≡ Some p = sym is ∙ h in cc no
