-- Each item leaves a state in which no undo and no redo passes a limit.
use Rattle.std.specs.Prelude.{codes}
use Rattle.std.proofs.Common.{◌≡◌, ◌∙◌, ℕ, zero, suc, Bool, true, false, cond, List, [], ◌∷◌, take, Option, Some, None, IfSome, refl, sym, ap, subst}
use Rattle.std.specs.List.{AllByRecursion, list_all}
use Rattle.std.specs.Str.{is_utf8}
use Rattle.gl_calculus.specs.Grid.Grid.{Addr}
use Rattle.gl_calculus.specs.Formulas.Formula.{Version, Cells}
use Rattle.gl_language.specs.Texts.Text.{Bytes}
use Rattle.gl_calculus.specs.Edits.Limits.{max_steps}
use Rattle.gl_calculus.specs.Edits.Replicas.{Stamp, Edit, Changes, Replica, Judged, next_stamp, taking, taking_all, stamped, has_room}
use Rattle.gl_calculus.specs.Edits.Replicas as R
use Rattle.gl_calculus.specs.Edits.Steps.{Step, step_of, befores, afters, History, no_history, pushed}
use Rattle.gl_protocol.specs.Framing.Framing.{Item}
use Rattle.gl_protocol.specs.Scripts.Commands as C
use Rattle.gl_protocol.specs.Scripts.Commands.{Read, Is, Not, Request, allowed, without_mark, field_fault, contents, fields, imported}
use Rattle.gl_calculus.specs.Edits.Sheets.{with_content, with_contents, without}
use Rattle.gl_protocol.specs.Scripts.Script.{Script, is_change, change, edited, sited, undone, redone, merge, allowed_change}
use Rattle.gl_calculus.specs.Edits.Sheets.{with_changes, settings, removals}
use Rattle.gl_protocol.specs.Scripts.Acts as T
use Rattle.gl_protocol.specs.Scripts.Acts.{Does, Acts}
use Rattle.laws_protocol.proofs.Scripts.Edited.{is_script, not_script, alone_done, no_stamp, no_room, replica_done, edited_sheet}
use Rattle.laws_protocol.proofs.Scripts.Rising.{contents_by, then_contents}
use Rattle.laws_calculus.proofs.SheetEdits.TakenBack.{taken_back, contents_are_changes, cleared_by_removals}
use Rattle.laws_protocol.specs.Rooms.{HasRoom, RoomBack, RoomOn, IsRoomy, ActsKeepRooms}
use Rattle.laws_protocol.specs.States.{IsState, IsReplicaOf, LeadBack, LeadOn}
use Rattle.laws_protocol.proofs.Scripts.Counts.{IsConst}
use Rattle.laws_protocol.proofs.Scripts.Rooms.{Rooms, rooms_set, rooms_clear, rooms_import}
use Rattle.laws_protocol.proofs.Scripts.Sizes.{allowed_is}

-- ---- what is imported is constant

is_cells : (A B : Cells) → Is A ≡ Is B → A ≡ B
is_cells A B h = cc h

no_cells : (w : Bytes) (A : Cells) → Not w ≡ Is A → ⊥
no_cells w A h = cc h

abbrev AllConst : Read Cells → Type 0
AllConst (Is cs) = AllByRecursion IsConst cs
AllConst (Not w) = Unit {0}

then_const : (o : Option Bytes) (x : Addr × Bytes) (r : Read Cells) → AllConst r → AllConst (then_contents o x r)
then_const (Some w) x r h = tt
then_const None x (Is cs) h = (tt, h)
then_const None x (Not w) h = tt

contents_const : (xs : List (Addr × Bytes)) → AllConst (contents xs)
contents_const [] = tt
contents_const (x ∷ xs) = subst AllConst (sym (contents_by x xs (field_fault x) (contents xs) refl refl)) (then_const (field_fault x) x (contents xs) (contents_const xs))

imported_const : (a : Addr) (rs : List (List Bytes)) (cs : Cells) → imported a rs ≡ Is cs → AllByRecursion IsConst cs
imported_const a rs cs h = by (list_all (list_all is_utf8) rs) h
  where
    by : (b : Bool) → cond b (contents (fields a rs)) (Not (codes "utf8")) ≡ Is cs → AllByRecursion IsConst cs
    by true k = subst AllConst k (contents_const (fields a rs))
    by false k = absurd (no_cells (codes "utf8") cs k)

-- ---- an edit of the sheet

room_fewer : (n : ℕ) (S : Cells) (ds : List Step) → RoomBack S ds → RoomBack S (take n ds)
room_fewer zero S ds h = tt
room_fewer (suc n) S [] h = tt
room_fewer (suc n) S (d ∷ ds) h = (h.0, h.1, room_fewer n (with_changes S (befores d)) ds h.2)

module _ (s : Script) (cs : Changes) (goal : Read Cells) (s' : Script) (h : IsState s) (k : IsRoomy s) where
  edited_roomy : ((A : Cells) → goal ≡ Is A → Rooms s.sheet A cs × (A ≡ with_changes s.sheet cs)) → edited s cs goal ≡ Is s' → IsRoomy s'
  edited_roomy rooms m = by s.replica refl
    where
      e : goal ≡ Is s'.sheet
      e = edited_sheet s cs goal s' m

      empty : (r : Replica) (made : Script) → s.replica ≡ Some r → made.history ≡ s.history → made ≡ s' → IsRoomy s'
      empty r made is f same =
          let was = subst (λ (o : Option Replica). IfSome o (λ r. IsReplicaOf s.sheet r × (s.history.done ≡ []) × (s.history.undone ≡ []))) is h.replica in
          let done : made.history.done ≡ [] = ap (λ (z : History). z.done) f ∙ was.1 in
          let undone : made.history.undone ≡ [] = ap (λ (z : History). z.undone) f ∙ was.2 in
          subst IsRoomy same (record { back = subst (RoomBack made.sheet) (sym done) tt; on = subst (RoomOn made.sheet) (sym undone) tt })

      roomy : (r : Replica) (t : Stamp) (b : Bool) → s.replica ≡ Some r → next_stamp r ≡ Some t → has_room (taking_all r (stamped t cs)) ≡ b → IsRoomy s'
      roomy r t true is next f =
          let made : Script = record s { sheet = s'.sheet; replica = Some (taking_all r (stamped t cs)) } in
          empty r made is refl (is_script made s' (sym (replica_done s cs r is goal t s'.sheet next f e) ∙ m))
      roomy r t false is next f = absurd (not_script (codes "edits") s' (sym (no_room s cs r is goal t next f) ∙ m))

      stamped_by : (r : Replica) (o : Option Stamp) → s.replica ≡ Some r → next_stamp r ≡ o → IsRoomy s'
      stamped_by r (Some t) is next = roomy r t (has_room (taking_all r (stamped t cs))) is next refl
      stamped_by r None is next = absurd (not_script (codes "stamp") s' (sym (no_stamp s cs r is goal next) ∙ m))

      by : (o : Option Replica) → s.replica ≡ o → IsRoomy s'
      by (Some r) is = stamped_by r (next_stamp r) is refl
      by None is =
          let A = s'.sheet in
          let d = step_of s.sheet cs in
          let q = rooms A e in
          let made : Script = record s { sheet = A; history = pushed s.history d } in
          let back : with_changes A (befores d) ≡ s.sheet = ap (λ (Z : Cells). with_changes Z (befores d)) q.1 ∙ taken_back s.sheet cs h.sheet.ordered in
          let all : RoomBack A (d ∷ s.history.done) = (q.0.back, subst (λ (Z : Cells). HasRoom Z (afters d)) (sym back) q.0.on, subst (λ (Z : Cells). RoomBack Z s.history.done) (sym back) k.back) in
          let is_roomy : IsRoomy made = record { back = room_fewer max_steps A (d ∷ s.history.done) all; on = tt } in
          subst IsRoomy (is_script made s' (sym (alone_done s cs A goal is e) ∙ m)) is_roomy

-- ---- the other commands

sited_roomy : (s : Script) (n : ℕ) (s' : Script) → sited s n ≡ Is s' → IsRoomy s'
sited_roomy s n s' m = by s.replica s.sheet refl refl
  where
    by : (o : Option Replica) (A : Cells) → s.replica ≡ o → s.sheet ≡ A → IsRoomy s'
    by (Some r) A e f = let no : sited s n ≡ Not (codes "site") = rw e refl in absurd (not_script (codes "site") s' (sym no ∙ m))
    by None (c ∷ A) e f = let no : sited s n ≡ Not (codes "site") = rw (e, f) refl in absurd (not_script (codes "site") s' (sym no ∙ m))
    by None [] e f =
        let made : Script = record { sheet = []; replica = Some (R.new_replica n); history = no_history } in
        let yes : sited s n ≡ Is made = rw (e, f) refl in
        let is_roomy : IsRoomy made = record { back = tt; on = tt } in
        subst IsRoomy (is_script made s' (sym yes ∙ m)) is_roomy

undone_roomy : (s s' : Script) → IsState s → IsRoomy s → undone s ≡ Is s' → IsRoomy s'
undone_roomy s s' h k m = by s.replica s.history.done refl refl
  where
    by : (o : Option Replica) (ds : List Step) → s.replica ≡ o → s.history.done ≡ ds → IsRoomy s'
    by (Some r) ds e f = let no : undone s ≡ Not (codes "site") = rw e refl in absurd (not_script (codes "site") s' (sym no ∙ m))
    by None [] e f = let no : undone s ≡ Not (codes "undo") = rw (e, f) refl in absurd (not_script (codes "undo") s' (sym no ∙ m))
    by None (d ∷ ds) e f =
        let A = with_changes s.sheet (befores d) in
        let made : Script = record s { sheet = A; history = record { done = ds; undone = d ∷ s.history.undone } } in
        let yes : undone s ≡ Is made = rw (e, f) refl in
        let lead : with_changes A (afters d) ≡ s.sheet = (subst (LeadBack s.sheet) f h.back).1 in
        let room = subst (RoomBack s.sheet) f k.back in
        let is_roomy : IsRoomy made = record {
          back = room.2;
          on = (room.1, subst (λ (Z : Cells). HasRoom Z (befores d)) (sym lead) room.0, subst (λ (Z : Cells). RoomOn Z s.history.undone) (sym lead) k.on);
        } in
        subst IsRoomy (is_script made s' (sym yes ∙ m)) is_roomy

redone_roomy : (s s' : Script) → IsState s → IsRoomy s → redone s ≡ Is s' → IsRoomy s'
redone_roomy s s' h k m = by s.replica s.history.undone refl refl
  where
    by : (o : Option Replica) (us : List Step) → s.replica ≡ o → s.history.undone ≡ us → IsRoomy s'
    by (Some r) us e f = let no : redone s ≡ Not (codes "site") = rw e refl in absurd (not_script (codes "site") s' (sym no ∙ m))
    by None [] e f = let no : redone s ≡ Not (codes "redo") = rw (e, f) refl in absurd (not_script (codes "redo") s' (sym no ∙ m))
    by None (u ∷ us) e f =
        let A = with_changes s.sheet (afters u) in
        let made : Script = record s { sheet = A; history = record { done = u ∷ s.history.done; undone = us } } in
        let yes : redone s ≡ Is made = rw (e, f) refl in
        let lead : with_changes A (befores u) ≡ s.sheet = (subst (LeadOn s.sheet) f h.on).1 in
        let room = subst (RoomOn s.sheet) f k.on in
        let is_roomy : IsRoomy made = record {
          back = (room.1, subst (λ (Z : Cells). HasRoom Z (afters u)) (sym lead) room.0, subst (λ (Z : Cells). RoomBack Z s.history.done) (sym lead) k.back);
          on = room.2;
        } in
        subst IsRoomy (is_script made s' (sym yes ∙ m)) is_roomy

-- an edit that is taken leaves the history, and the script is a replica
merge_alike : (s : Script) (e : Edit) (j : Judged) (s' : Script) → merge s e j ≡ Is s' → (r : Replica) × (s.replica ≡ Some r) × (s'.history ≡ s.history)
merge_alike s e j s' m = by s.replica refl
  where
    sheeted : (r : Replica) (o : Read Cells) → s.replica ≡ Some r → has_room (taking r e) ≡ true → allowed_change s.sheet e.place e.content ≡ o → merge s e R.Judged.Wins ≡ Is s' → s'.history ≡ s.history
    sheeted r (Is A) is f a k =
        let made : Script = record s { sheet = A; replica = Some (taking r e) } in
        let yes : merge s e R.Judged.Wins ≡ Is made = rw (is, f, a) refl in
        ap (λ (z : Script). z.history) (sym (is_script made s' (sym yes ∙ k)))
    sheeted r (Not v) is f a k = let no : merge s e R.Judged.Wins ≡ Not v = rw (is, f, a) refl in absurd (not_script v s' (sym no ∙ k))

    roomy : (r : Replica) (b : Bool) → s.replica ≡ Some r → has_room (taking r e) ≡ b → merge s e R.Judged.Wins ≡ Is s' → s'.history ≡ s.history
    roomy r true is f k = sheeted r (allowed_change s.sheet e.place e.content) is f refl k
    roomy r false is f k = let no : merge s e R.Judged.Wins ≡ Not (codes "edits") = rw (is, f) refl in absurd (not_script (codes "edits") s' (sym no ∙ k))

    judged_so : (r : Replica) (j : Judged) → s.replica ≡ Some r → merge s e j ≡ Is s' → s'.history ≡ s.history
    judged_so r R.Judged.Wins is k = roomy r (has_room (taking r e)) is refl k
    judged_so r R.Judged.Loses is k =
        let made : Script = record s { replica = Some (taking r e) } in
        let yes : merge s e R.Judged.Loses ≡ Is made = rw is refl in
        ap (λ (z : Script). z.history) (sym (is_script made s' (sym yes ∙ k)))
    judged_so r R.Judged.Same is k =
        let made : Script = record s { replica = Some (taking r e) } in
        let yes : merge s e R.Judged.Same ≡ Is made = rw is refl in
        ap (λ (z : Script). z.history) (sym (is_script made s' (sym yes ∙ k)))
    judged_so r R.Judged.Conflict is k = let no : merge s e R.Judged.Conflict ≡ Not (codes "conflict") = rw is refl in absurd (not_script (codes "conflict") s' (sym no ∙ k))

    by : (o : Option Replica) → s.replica ≡ o → (r : Replica) × (s.replica ≡ Some r) × (s'.history ≡ s.history)
    by (Some r) is = (r, is, judged_so r j is m)
    by None is = let no : merge s e j ≡ Not (codes "site") = rw is refl in absurd (not_script (codes "site") s' (sym no ∙ m))

merged_roomy : (s : Script) (e : Edit) (j : Judged) (s' : Script) → IsState s → merge s e j ≡ Is s' → IsRoomy s'
merged_roomy s e j s' h m =
    let k = merge_alike s e j s' m in
    let was = subst (λ (o : Option Replica). IfSome o (λ r. IsReplicaOf s.sheet r × (s.history.done ≡ []) × (s.history.undone ≡ []))) k.1 h.replica in
    let done : s'.history.done ≡ [] = ap (λ (z : History). z.done) k.2 ∙ was.1 in
    let undone : s'.history.undone ≡ [] = ap (λ (z : History). z.undone) k.2 ∙ was.2 in
    record { back = subst (RoomBack s'.sheet) (sym done) tt; on = subst (RoomOn s'.sheet) (sym undone) tt }

-- ---- items

module _ (records : Bytes → List (List Bytes)) (version : Version) (s : Script) where
  change_roomy : (x : Request) (s' : Script) → IsState s → IsRoomy s → is_change x ≡ true → change s x ≡ Is s' → IsRoomy s'
  change_roomy (C.Request.Set a c) s' h k t m =
      edited_roomy s ((a, Some c) ∷ []) (allowed (with_content s.sheet a c)) s' h k
      (λ A e. let q = allowed_is (with_content s.sheet a c) A e in (rooms_set s.sheet A a c h.sheet.ordered h.sheet.small q.1 q.0, sym q.0)) m
  change_roomy (C.Request.Clear r) s' h k t m =
      edited_roomy s (removals s.sheet r) (Is (without s.sheet r)) s' h k
      (λ A e. let same : without s.sheet r ≡ A = is_cells (without s.sheet r) A e in (subst (λ (Z : Cells). Rooms s.sheet Z (removals s.sheet r)) same (rooms_clear s.sheet r h.sheet.ordered h.sheet.small), sym same ∙ cleared_by_removals s.sheet r h.sheet.ordered)) m
  change_roomy (C.Request.Site n) s' h k t m = sited_roomy s n s' m
  change_roomy C.Request.Undo s' h k t m = undone_roomy s s' h k m
  change_roomy C.Request.Redo s' h k t m = redone_roomy s s' h k m
  change_roomy C.Request.Nothing s' h k t m = cc t
  change_roomy C.Request.ListAll s' h k t m = cc t
  change_roomy C.Request.Calculate s' h k t m = cc t
  change_roomy C.Request.ShowOracle s' h k t m = cc t
  change_roomy C.Request.Quit s' h k t m = cc t
  change_roomy C.Request.Export s' h k t m = cc t
  change_roomy C.Request.Flow s' h k t m = cc t
  change_roomy (C.Request.View x) s' h k t m = cc t
  change_roomy (C.Request.Show a) s' h k t m = cc t
  change_roomy (C.Request.Get a) s' h k t m = cc t
  change_roomy (C.Request.Why a) s' h k t m = cc t
  change_roomy (C.Request.Explain a) s' h k t m = cc t
  change_roomy (C.Request.Merge e) s' h k t m = cc t

  does_roomy : {x : Request} {s' : Script} {r : Bytes} → IsState s → IsRoomy s → Does records version s x s' r → IsRoomy s'
  does_roomy h k T.Does.nothing = k
  does_roomy h k (T.Does.changed {x = x} t (T.Leaves.left {s' = s'} m)) = change_roomy x s' h k t m
  does_roomy h k (T.Does.changed t (T.Leaves.kept m)) = k
  does_roomy h k (T.Does.merged {e = e} j i (T.Leaves.left {s' = s'} m)) = merged_roomy s e j s' h m
  does_roomy h k (T.Does.merged j i (T.Leaves.kept m)) = k
  does_roomy h k T.Does.get = k
  does_roomy h k T.Does.list = k
  does_roomy h k (T.Does.export r e) = k
  does_roomy h k (T.Does.export_alone e) = k
  does_roomy h k (T.Does.flow f) = k
  does_roomy h k T.Does.quit = k
  does_roomy h k (T.Does.settled a m) = k
  does_roomy h k (T.Does.spent t a) = k

  acts_roomy : {x : Item} {s' : Script} {r : Bytes} → IsState s → IsRoomy s → Acts records version s x s' r → IsRoomy s'
  acts_roomy h k (T.Acts.request q d) = does_roomy h k d
  acts_roomy h k (T.Acts.refused q) = k
  acts_roomy h k T.Acts.long = k
  acts_roomy h k T.Acts.truncated = k
  acts_roomy h k (T.Acts.import {p = p} place n a ws at_place (T.Imports.contents cs read (T.Leaves.left {s' = s'} m))) =
      edited_roomy s (settings cs) (allowed (with_contents s.sheet cs)) s' h k
      (λ A e.
      let q = allowed_is (with_contents s.sheet cs) A e in
      (rooms_import s.sheet A cs h.sheet.ordered h.sheet.small q.1 (imported_const a (records (without_mark p)) cs read) q.0, sym q.0 ∙ contents_are_changes cs s.sheet)) m
  acts_roomy h k (T.Acts.import_place place n ws none) = k
  acts_roomy h k (T.Acts.import place n a ws at_place (T.Imports.fault read)) = k
  acts_roomy h k (T.Acts.import place n a ws at_place (T.Imports.contents cs read (T.Leaves.kept over))) = k

pub acts_keep_rooms : ActsKeepRooms
acts_keep_rooms records version s s' x r h k a = acts_roomy records version s h k a
