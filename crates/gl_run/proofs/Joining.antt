-- What edits of other replicas come to.
use Rattle.std.specs.Prelude.{codes}
use Rattle.std.proofs.Common.{◌≡◌, ◌∙◌, ◌⊎◌, inl, inr, ℕ, ◌+◌, ◌<◌, ◌≤◌, true, false, Bool, cond, List, [], ◌∷◌, length, Option, Some, None, IsSome, option_map, ◌++◌, take, slice_get, append-nil, append_assoc, IsTrue, Result, Ok, Err, refl, sym, ap, subst, arith}
use Rattle.std.proofs.lemmas.Grind.{common_steps}
use Rattle.gl_calculus.specs.Grid.Grid.{Addr, AreInOrder}
use Rattle.gl_calculus.specs.Formulas.Formula.{Cells}
use Rattle.gl_calculus.specs.Edits.Limits.{max_registers}
use Rattle.gl_calculus.specs.Edits.Replicas as R
use Rattle.gl_calculus.specs.Edits.Replicas.{Stamp, Edit, Replica, Judged, IsJudged, IsTakeable, register_at, taking, missing, has_room, is_earlier}
use Rattle.gl_language.specs.Texts.Text.{Bytes}
use Rattle.gl_protocol.specs.Scripts.Commands as C
use Rattle.gl_protocol.specs.Scripts.Commands.{Is, Not, error_line, ok_line}
use Rattle.gl_protocol.specs.Scripts.Script as P
use Rattle.gl_protocol.specs.Scripts.Script.{register_of, merge, allowed_change}
use Rattle.gl_protocol.specs.Replies.Tables.{line, edit_text, export_text}
use Rattle.gl_calculus.specs.Edits.Steps.{History, no_history}
use Rattle.gl_language.specs.Reading.Content.{IsProperContent}
use Rattle.gl_cells.specs.Content.{content_tree}
use Rattle.gl_cells.specs.declared.content.Content.{Content as Code}
use Rattle.gl_calc.proofs.Marks.{take_more}
use Rattle.gl_cells.specs.declared.fault.PutFault.{PutFault}
use Rattle.gl_cells.specs.declared.fault.PutFault.TheVariants as put
use Rattle.gl_calc.specs.View.{View, sheet_of}
use Rattle.gl_merge.specs.Edit.{EditValue, IsProperOption, edit_tree}
use Rattle.gl_merge.specs.Replica.{ReplicaValue, registers_of, replica_tree, AreOrdered, Makes}
use Rattle.gl_merge.specs.Judging.{IsFor}
use Rattle.gl_merge.specs.declared.fault.RoomFault.{RoomFault}
use Rattle.gl_merge.specs.declared.fault.RoomFault.TheVariants as room
use Rattle.gl_merge.specs.declared.judging.Judged.{Judged as CodeJudged}
use Rattle.gl_merge.specs.Replica as replica
use Rattle.gl_run.specs.Changed.{IsChanged, Puts}
use Rattle.gl_run.specs.Merged.{IsMerged, IsJudgedIn, IsLater, IsKnown, Judges, HasRoom, IsFull, Rooms, CanTakeOne, Takes, IsExport}
use Rattle.gl_run.specs.Replies.{IsRefusal, put_word, edit_lines}
use Rattle.gl_run.specs.Script.{script_of}
use Rattle.gl_protocol.specs.Run.Touched.{is_later, touched_by, touched_by_one}
use Rattle.gl_run.specs.declared.script.Script.{Script}
use Rattle.gl_run.proofs.OwnEdits.{places_of, one_if_none, missing_one, length_with, room_there, room_gone}
use Rattle.gl_run.proofs.Readying.{changed_to, changed_not, same_sheet}

-- ---- the words of `merge`

module _ (s : P.Script) (e : Edit) (r : Replica) (is : s.replica ≡ Some r) where
  register_there : register_of s e.place ≡ register_at r.registers e.place
  register_there = rw is refl

  judged_there : (j : Judged) → IsJudged (register_at r.registers e.place) e j → IsJudged (register_of s e.place) e j
  judged_there j h = subst (λ (o : Option Edit). IsJudged o e j) (sym register_there) h

  conflicts : merge s e R.Judged.Conflict ≡ Not (codes "conflict")
  conflicts = rw is refl

  loses : merge s e R.Judged.Loses ≡ Is (record s { replica = Some (taking r e) })
  loses = rw is refl

  repeats : merge s e R.Judged.Same ≡ Is (record s { replica = Some (taking r e) })
  repeats = rw is refl

  wins : (T : Cells) → has_room (taking r e) ≡ true → allowed_change s.sheet e.place e.content ≡ Is T → merge s e R.Judged.Wins ≡ Is (record s { sheet = T; replica = Some (taking r e) })
  wins T f k = rw (is, f, k) refl

  wins_over : (w : Bytes) → has_room (taking r e) ≡ true → allowed_change s.sheet e.place e.content ≡ Not w → merge s e R.Judged.Wins ≡ Not w
  wins_over w f k = rw (is, f, k) refl

  wins_full : has_room (taking r e) ≡ false → merge s e R.Judged.Wins ≡ Not (codes "edits")
  wins_full f = rw (is, f) refl

-- ---- refusals

pub alone_merged : (s : P.Script) (e : Edit) (reply : Bytes) → s.replica ≡ None → reply ≡ error_line (codes "site") → IsMerged s e s reply
alone_merged s e reply is p =
    let none : register_of s e.place ≡ None = rw is refl in
    let not_one : merge s e R.Judged.Wins ≡ Not (codes "site") = rw is refl in
    (R.Judged.Wins, subst (λ (o : Option Edit). IsJudged o e R.Judged.Wins) (sym none) tt, changed_not (merge s e R.Judged.Wins) s s reply (codes "site") not_one refl p)

pub conflict_merged : (s : P.Script) (e : Edit) (reply : Bytes) → IsJudgedIn s e R.Judged.Conflict → reply ≡ error_line (codes "conflict") → IsMerged s e s reply
conflict_merged s e reply h p =
    (R.Judged.Conflict, judged_there s e h.0 h.1 R.Judged.Conflict h.2, changed_not (merge s e R.Judged.Conflict) s s reply (codes "conflict") (conflicts s e h.0 h.1) refl p)

-- ---- what the replica takes

loses_some : (o : Option Edit) (e : Edit) → IsJudged o e R.Judged.Loses → IsSome o
loses_some (Some r) e h = refl
loses_some None e h = absurd h

same_some : (o : Option Edit) (e : Edit) → IsJudged o e R.Judged.Same → IsSome o
same_some (Some r) e h = refl
same_some None e h = absurd h

pub some_there : (x : Script) (r : Replica) → (script_of x).replica ≡ Some r → (q : ReplicaValue) × (x.replica ≡ Some q) × (replica_tree q ≡ r)
some_there x r h = by x.replica refl h
  where
    by : (o : Option ReplicaValue) → x.replica ≡ o → option_map replica_tree o ≡ Some r → (q : ReplicaValue) × (x.replica ≡ Some q) × (replica_tree q ≡ r)
    by (Some q) e k = (q, e, (let same : replica_tree q ≡ r = cc k in same))
    by None e k = absurd (cc k)

module _ (x : Script) (e : EditValue) where
  can_take : (j : Judged) → IsJudgedIn (script_of x) (edit_tree e) j → (j ≡ R.Judged.Conflict → ⊥) → ((o : Option Edit) → IsJudged o (edit_tree e) j → IsSome o) → CanTakeOne x e
  can_take j h apart some =
      let q = some_there x h.0 h.1 in
      let here : IsJudged (register_at (registers_of q.0) e.place) (edit_tree e) j = subst (λ (z : Replica). IsJudged (register_at z.registers e.place) (edit_tree e) j) (sym q.2) h.2 in
      (q.0, q.1, (j, here, apart), inl (some (register_at (registers_of q.0) e.place) here))

  pub known_takes : IsKnown (script_of x) (edit_tree e) → CanTakeOne x e
  known_takes (inl h) = can_take R.Judged.Loses h (λ k. cc k) (λ o j. loses_some o (edit_tree e) j)
  known_takes (inr h) = can_take R.Judged.Same h (λ k. cc k) (λ o j. same_some o (edit_tree e) j)

  room_or : (o : Option Edit) (s : ℕ) → one_if_none o ≤ s → IsSome o ⊎ (1 ≤ s)
  room_or (Some r) s h = inl refl
  room_or None s h = inr h

  -- there is room for a later one
  pub later_takes : (c : View) → IsLater (script_of x) (edit_tree e) → HasRoom x e.place → CanTakeOne (record x { calc = c }) e
  later_takes c h room =
      let q = room.replica in
      let some : Some h.0 ≡ Some (replica_tree q) = sym h.1 ∙ ap (option_map replica_tree) room.is in
      let same : h.0 ≡ replica_tree q = cc some in
      let here : IsJudged (register_at (registers_of q) e.place) (edit_tree e) R.Judged.Wins = subst (λ (z : Replica). IsJudged (register_at z.registers e.place) (edit_tree e) R.Judged.Wins) same h.2 in
      let one = missing_one (registers_of q) e.place in
      (q, room.is, (R.Judged.Wins, here, λ k. cc k), room_or (register_at (registers_of q) e.place) q.spare (omega (arith, room.spare, one)))

-- ---- what is left

pub known_merged : (s s' : P.Script) (e : Edit) (reply : Bytes) → IsKnown s e → Takes s e s' → reply ≡ ok_line → IsMerged s e s' reply
known_merged s s' e reply (inl h) t p =
    (R.Judged.Loses, judged_there s e h.0 h.1 R.Judged.Loses h.2, changed_to (merge s e R.Judged.Loses) s s' reply (loses s e h.0 h.1 ∙ ap (λ (z : P.Script). Is z) (sym (t h.0 h.1))) p)
known_merged s s' e reply (inr h) t p =
    (R.Judged.Same, judged_there s e h.0 h.1 R.Judged.Same h.2, changed_to (merge s e R.Judged.Same) s s' reply (repeats s e h.0 h.1 ∙ ap (λ (z : P.Script). Is z) (sym (t h.0 h.1))) p)

module _ (x : Script) (e : EditValue) (h : IsLater (script_of x) (edit_tree e)) where
  -- the registers with one edit more
  count_with : (q : ReplicaValue) → x.replica ≡ Some q → AreOrdered q → length (taking h.0 (edit_tree e)).registers ≡ length (registers_of q) + missing (registers_of q) (e.place ∷ [])
  count_with q is o =
      let some : Some h.0 ≡ Some (replica_tree q) = sym h.1 ∙ ap (option_map replica_tree) is in
      let same : replica_tree q ≡ h.0 = cc some in
      let one = missing_one (registers_of q) e.place in
      let long : length (taking (replica_tree q) (edit_tree e)).registers ≡ length (registers_of q) + one_if_none (register_at (registers_of q) e.place) = length_with (registers_of q) (edit_tree e) o in
      let there = ap (λ (z : Replica). length (taking z (edit_tree e)).registers) same in
      omega (arith, one, long, there)

  pub full_merged : (reply : Bytes) → IsFull x e.place → reply ≡ error_line (codes "edits") → IsMerged (script_of x) (edit_tree e) (script_of x) reply
  full_merged reply f p =
      let s = script_of x in
      let gone = room_gone (taking h.0 (edit_tree e)) (length (registers_of f.replica)) (missing (registers_of f.replica) (e.place ∷ [])) (count_with f.replica f.is f.ordered) f.many in
      (R.Judged.Wins, judged_there s (edit_tree e) h.0 h.1 R.Judged.Wins h.2, changed_not (merge s (edit_tree e) R.Judged.Wins) s s reply (codes "edits") (wins_full s (edit_tree e) h.0 h.1 gone) refl p)

  module _ (c : View) (reply : Bytes) (room : HasRoom x e.place) where
    there : has_room (taking h.0 (edit_tree e)) ≡ true
    there = room_there (taking h.0 (edit_tree e)) (length (registers_of room.replica)) (missing (registers_of room.replica) (e.place ∷ [])) (count_with room.replica room.is room.ordered) room.few

    pub later_merged : (s' : P.Script) → allowed_change (sheet_of x.calc) e.place (edit_tree e).content ≡ Is (sheet_of c) → Takes (script_of (record x { calc = c })) (edit_tree e) s' → reply ≡ ok_line → IsMerged (script_of x) (edit_tree e) s' reply
    later_merged s' k t p =
        let s = script_of x in (
          R.Judged.Wins,
          judged_there s (edit_tree e) h.0 h.1 R.Judged.Wins h.2,
          changed_to (merge s (edit_tree e) R.Judged.Wins) s s' reply (wins s (edit_tree e) h.0 h.1 (sheet_of c) there k ∙ ap (λ (z : P.Script). Is z) (sym (t h.0 h.1))) p,
        )

    over_merged : (w : Bytes) → allowed_change (sheet_of x.calc) e.place (edit_tree e).content ≡ Not w → sheet_of c ≡ sheet_of x.calc → reply ≡ error_line w → IsMerged (script_of x) (edit_tree e) (script_of (record x { calc = c })) reply
    over_merged w k same p =
        let s = script_of x in (
          R.Judged.Wins,
          judged_there s (edit_tree e) h.0 h.1 R.Judged.Wins h.2,
          changed_not (merge s (edit_tree e) R.Judged.Wins) s (script_of (record x { calc = c })) reply w (wins_over s (edit_tree e) h.0 h.1 w there k) (same_sheet x c same) p,
        )

    pub put_merged : (f : PutFault) → Puts (Err f) (allowed_change (sheet_of x.calc) e.place (edit_tree e).content) (sheet_of x.calc) (sheet_of c) → IsRefusal (put_word f) reply → IsMerged (script_of x) (edit_tree e) (script_of (record x { calc = c })) reply
    put_merged put.Formulas k p = over_merged (codes "formulas") k.1 k.0 p
    put_merged put.Contents k p = over_merged (codes "contents") k.1 k.0 p
    put_merged put.NoMemory k p = absurd p

-- ---- room

pub rooms_of : (x : Script) (r q : ReplicaValue) (a : Addr) (u : Result (Unit {0}) RoomFault) → replica_tree q ≡ replica_tree r → AreOrdered r → Makes u r (a ∷ []) q.spare → Rooms u (record x { replica = Some q }) a
rooms_of x r q a (Ok y) same o h =
    let regs : registers_of q ≡ registers_of r = ap (λ (z : Replica). z.registers) same in
    record {
      replica = q;
      is = refl;
      ordered = subst (λ (zs : List Edit). AreInOrder (places_of zs)) (sym regs) o;
      few = subst (λ (zs : List Edit). length zs + missing zs (a ∷ []) ≤ max_registers) (sym regs) h.0;
      spare = subst (λ (zs : List Edit). missing zs (a ∷ []) ≤ q.spare) (sym regs) h.1;
    }
rooms_of x r q a (Err room.Edits) same o h =
    let regs : registers_of q ≡ registers_of r = ap (λ (z : Replica). z.registers) same in
    record {
      replica = q;
      is = refl;
      ordered = subst (λ (zs : List Edit). AreInOrder (places_of zs)) (sym regs) o;
      many = subst (λ (zs : List Edit). max_registers < length zs + missing zs (a ∷ [])) (sym regs) h;
    }
rooms_of x r q a (Err room.NoMemory) same o h = tt

-- ---- what is touched

later_test : (o : Option Edit) (e : Edit) → IsJudged o e R.Judged.Wins → is_later o e ≡ true
later_test None e h = refl
later_test (Some r) e h = h

not_both : (s t : Stamp) → IsTrue (is_earlier t s) → is_earlier s t ≡ false
not_both s t h = grind (arith, common_steps)

not_itself : (s : Stamp) → is_earlier s s ≡ false
not_itself s = grind (arith, common_steps)

known_test : (o : Option Edit) (e : Edit) → IsJudged o e R.Judged.Loses ⊎ IsJudged o e R.Judged.Same → is_later o e ≡ false
known_test None e (inl h) = absurd h
known_test None e (inr h) = absurd h
known_test (Some r) e (inl h) = not_both r.stamp e.stamp h
known_test (Some r) e (inr h) = ap (λ (t : Stamp). is_earlier t e.stamp) h.0 ∙ not_itself e.stamp

module _ (s : P.Script) (e : Edit) where
  pub later_touches : IsLater s e → touched_by s (C.Request.Merge e) ≡ touched_by_one s.sheet e.place e.content
  later_touches h = ap (λ (b : Bool). cond b (touched_by_one s.sheet e.place e.content) []) (later_test (register_of s e.place) e (judged_there s e h.0 h.1 R.Judged.Wins h.2))

  pub known_touches : IsKnown s e → touched_by s (C.Request.Merge e) ≡ []
  known_touches (inl h) = ap (λ (b : Bool). cond b (touched_by_one s.sheet e.place e.content) []) (known_test (register_of s e.place) e (inl (judged_there s e h.0 h.1 R.Judged.Loses h.2)))
  known_touches (inr h) = ap (λ (b : Bool). cond b (touched_by_one s.sheet e.place e.content) []) (known_test (register_of s e.place) e (inr (judged_there s e h.0 h.1 R.Judged.Same h.2)))

-- ---- what an edit is to a replica

pub judges_by : (x : Script) (q : ReplicaValue) (e : EditValue) (j : CodeJudged) → x.replica ≡ Some q → IsFor (replica.register_of q e.place) (edit_tree e) j → Judges (script_of x) (edit_tree e) (Some j)
judges_by x q e j is h = (replica_tree q, ap (option_map replica_tree) is, h)

-- ---- the replica takes one

pub takes_of : (x : Script) (r q : ReplicaValue) (e : EditValue) → x.replica ≡ Some r → replica_tree q ≡ taking (replica_tree r) (edit_tree e) → Takes (script_of x) (edit_tree e) (script_of (record x { replica = Some q }))
takes_of x r q e is taken p h =
    let some : Some p ≡ Some (replica_tree r) = sym h ∙ ap (option_map replica_tree) is in
    let same : replica_tree r ≡ p = cc some in
    ap (λ (z : Replica). record (script_of x) { replica = Some z }) (taken ∙ ap (λ (z : Replica). taking z (edit_tree e)) same)

pub no_takes : (x : Script) (e : EditValue) → x.replica ≡ None → Takes (script_of x) (edit_tree e) (script_of x)
no_takes x e is p h = let no : Some p ≡ None = sym h ∙ ap (option_map replica_tree) is in cc no

pub can_take_at : (x : Script) (e : EditValue) (r : ReplicaValue) → x.replica ≡ Some r → CanTakeOne x e → IsTakeable (replica.register_of r e.place) (edit_tree e) × (IsSome (replica.register_of r e.place) ⊎ (1 ≤ r.spare))
can_take_at x e r is h =
    let some : Some h.0 ≡ Some r = sym h.1 ∙ is in
    let same : h.0 ≡ r = cc some in
    subst (λ (z : ReplicaValue). IsTakeable (replica.register_of z e.place) (edit_tree e) × (IsSome (replica.register_of z e.place) ⊎ (1 ≤ z.spare))) same (h.2, h.3)

pub proper_shared : (o p : Option Code) → option_map content_tree o ≡ option_map content_tree p → IsProperOption p → IsProperOption o
proper_shared None p e h = tt
proper_shared (Some c) None e h = cc e
proper_shared (Some c) (Some d) e h = let same : content_tree c ≡ content_tree d = cc e in subst IsProperContent (sym same) h

-- ---- a script becomes a replica

pub site_in_replica : (s : P.Script) (n : ℕ) (r : Replica) (reply : Bytes) → s.replica ≡ Some r → reply ≡ error_line (codes "site") → IsChanged (P.sited s n) s s reply
site_in_replica s n r reply is p = let no : P.sited s n ≡ Not (codes "site") = rw is refl in changed_not (P.sited s n) s s reply (codes "site") no refl p

pub site_too_late : (s : P.Script) (n : ℕ) (reply : Bytes) → s.replica ≡ None → 0 < length s.sheet → reply ≡ error_line (codes "site") → IsChanged (P.sited s n) s s reply
site_too_late s n reply is some p = by s.sheet refl some
  where
    by : (S : Cells) → s.sheet ≡ S → 0 < length S → IsChanged (P.sited s n) s s reply
    by [] e l = absurd (omega (arith, l))
    by (c ∷ S) e l = let no : P.sited s n ≡ Not (codes "site") = rw (is, e) refl in changed_not (P.sited s n) s s reply (codes "site") no refl p

pub site_done : (s : P.Script) (n : ℕ) (q : Replica) (h : History) (reply : Bytes) → s.replica ≡ None → length s.sheet ≡ 0 → q ≡ R.new_replica n → h ≡ no_history → reply ≡ ok_line → IsChanged (P.sited s n) s (record s { replica = Some q; history = h }) reply
site_done s n q h reply is none e f p = by s.sheet refl none
  where
    by : (S : Cells) → s.sheet ≡ S → length S ≡ 0 → IsChanged (P.sited s n) s (record s { replica = Some q; history = h }) reply
    by (c ∷ S) g l = absurd (omega (arith, l))
    by [] g l =
        let yes : P.sited s n ≡ Is (record { sheet = []; replica = Some (R.new_replica n); history = no_history }) = rw (is, g) refl in
        changed_to (P.sited s n) s (record s { replica = Some q; history = h }) reply
        (yes ∙ ap (λ (Z : Cells). Is (record { sheet = Z; replica = Some (R.new_replica n); history = no_history })) (sym g)
        ∙ ap (λ (z : Replica). Is (record { sheet = s.sheet; replica = Some z; history = no_history })) (sym e)
        ∙ ap (λ (z : History). Is (record { sheet = s.sheet; replica = Some q; history = z })) (sym f)) p

-- ---- what is told of it

pub export_some : (s : P.Script) (r : Replica) (reply : Bytes) → s.replica ≡ Some r → reply ≡ export_text r.registers → IsExport s reply
export_some s r reply is p = rw is p

pub export_none : (s : P.Script) (reply : Bytes) → s.replica ≡ None → reply ≡ error_line (codes "site") → IsExport s reply
export_none s reply is p = rw is p

pub lines_more : (xs : List Edit) (e : Edit) → edit_lines (xs ++ e ∷ []) ≡ edit_lines xs ++ line (edit_text e)
lines_more [] e = append-nil (line (edit_text e))
lines_more (x ∷ xs) e = ap (λ (t : Bytes). line (edit_text x) ++ t) (lines_more xs e) ∙ sym (append_assoc (line (edit_text x)) (edit_lines xs) (line (edit_text e)))

pub told_there : (rs : List Edit) (i : ℕ) (e : Edit) → Some e ≡ slice_get rs i → take (i + 1) rs ≡ take i rs ++ e ∷ []
told_there rs i e h = take_more rs i e (sym h)
