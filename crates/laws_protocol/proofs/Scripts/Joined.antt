-- What replicas took, and what they hold then.
use Rattle.std.specs.Prelude.{codes}
use Rattle.std.proofs.Common.{◌≡◌, ◌∙◌, ℕ, true, false, Bool, List, [], ◌∷◌, ◌++◌, map, Option, Some, None, IfSome, refl, sym, ap, subst, IsTrue, IsFalse, append-nil, append_assoc}
use Rattle.gl_calculus.specs.Grid.Grid.{Addr, AreInOrder}
use Rattle.gl_calculus.specs.Values.Value.{Oracle}
use Rattle.gl_calculus.specs.Formulas.Formula.{Version, Content, Cells}
use Rattle.gl_language.specs.Texts.Text.{Bytes}
use Rattle.gl_calculus.specs.Edits.Joins.{HasTaken}
use Rattle.gl_calculus.specs.Edits.Replicas as R
use Rattle.gl_calculus.specs.Edits.Replicas.{Stamp, Edit, Changes, Replica, Judged, IsJudged, IsTakeable, AreTakeable, AreOlder, register_at, contents_of, new_replica, next_stamp, taking, taking_all, stamped, has_room}
use Rattle.gl_calculus.specs.Edits.Steps.{Step, befores, afters, no_history}
use Rattle.laws_calculus.proofs.Edits.Joins.{none_taken, taken_alike}
use Rattle.laws_calculus.proofs.Edits.Taking.{one_more_taken, order_with_edit}
use Rattle.gl_protocol.specs.Framing.Framing.{Item}
use Rattle.gl_protocol.specs.Scripts.Commands as C
use Rattle.gl_protocol.specs.Scripts.Commands.{Read, Is, Not, Request, ReadsLine, ImportWords, IsAddress, imported, allowed, without_mark}
use Rattle.gl_calculus.specs.Edits.Sheets.{with_content, with_contents, without}
use Rattle.gl_protocol.specs.Scripts.Script.{Script, is_change, change, edited, sited, undone, redone, register_of, merge, allowed_change}
use Rattle.gl_calculus.specs.Edits.Sheets.{with_changes, settings, removals}
use Rattle.gl_protocol.specs.Scripts.Acts as T
use Rattle.gl_protocol.specs.Scripts.Acts.{Does, Acts}
use Rattle.gl_protocol.specs.Scripts.Output.{is_refusal}
use Rattle.laws_protocol.proofs.Scripts.Edited.{is_script, not_script, alone_done, no_stamp, no_room, replica_done, edited_sheet}
use Rattle.laws_calculus.proofs.SheetEdits.Own.{edit_of, judged, still_older, tail_order}
use Rattle.laws_protocol.proofs.Scripts.Rising.{imported_rise}
use Rattle.gl_script.proofs.Once.{one_line, same_place}
use Rattle.laws_protocol.specs.States as S
use Rattle.laws_protocol.specs.States.{IsState, IsReplicaOf, own, edits_of, Takes, Took, ReplicasJoin, ReplicasAgree}
use Rattle.laws_protocol.proofs.Scripts.Kept.{older_than_next}
use Rattle.laws_protocol.proofs.Scripts.Refusals.{refusals_leave}
use Rattle.laws_protocol.proofs.Scripts.States.{acts_keep_states, new_state, settings_rise, removals_rise}

-- ---- a replica takes edits of its own

own_takeable : (r : Replica) (t : Stamp) (cs : Changes) → AreInOrder (map (λ (e : Edit). e.place) r.registers) → AreInOrder (map (λ (d : Addr × Option Content). d.0) cs) → AreOlder r.registers t cs → AreTakeable r (stamped t cs)
own_takeable r t [] o q h = tt
own_takeable r t (c ∷ cs) o q h =
    let e = edit_of t c in
    let w : IsJudged (register_at r.registers c.0) e R.Judged.Wins = judged (register_at r.registers c.0) e h.0 in
    let can : IsTakeable (register_at r.registers c.0) e = (R.Judged.Wins, w, λ k. cc k) in
    (can, own_takeable (taking r e) t cs (order_with_edit r.registers e o can) (tail_order c cs q) (still_older r.registers t c cs h.0 q h.1))

all_from : (ds es : List Edit) (r : Replica) → HasTaken ds r → AreTakeable r es → HasTaken (ds ++ es) (taking_all r es)
all_from ds [] r h t = subst (λ (zs : List Edit). HasTaken zs r) (sym (append-nil ds)) h
all_from ds (e ∷ es) r h t =
    subst (λ (zs : List Edit). HasTaken zs (taking_all (taking r e) es)) (append_assoc ds (e ∷ []) es)
    (all_from (ds ++ e ∷ []) es (taking r e) (one_more_taken ds r e h t.0) t.1)

-- ---- what a state has taken

-- its replica has taken these edits; outside one there are none
abbrev pub Holds : Option Replica → List Edit → Type 0
Holds (Some r) ds = HasTaken ds r
Holds None ds = ds ≡ []

abbrev pub HasGot : Script → List Edit → Type 0
HasGot s ds = Holds s.replica ds

no_more : (s : Script) (ds : List Edit) → HasGot s ds → HasGot s (ds ++ [])
no_more s ds h = subst (HasGot s) (sym (append-nil ds)) h

module _ (records : Bytes → List (List Bytes)) (version : Version) where
  own_some : (s : Script) (cs : Changes) (r : Replica) (t : Stamp) → s.replica ≡ Some r → next_stamp r ≡ Some t → own records version s cs ≡ stamped t cs
  own_some s cs r t is next = rw (is, next) refl

  own_none : (s : Script) (cs : Changes) → s.replica ≡ None → own records version s cs ≡ []
  own_none s cs is = rw is refl

  edited_takes : (s : Script) (cs : Changes) (goal : Read Cells) (s' : Script) (ds : List Edit) → IsState s → AreInOrder (map (λ (d : Addr × Option Content). d.0) cs) → HasGot s ds → edited s cs goal ≡ Is s' → HasGot s' (ds ++ own records version s cs)
  edited_takes s cs goal s' ds h rise got k = by s.replica refl
    where
      e : goal ≡ Is s'.sheet
      e = edited_sheet s cs goal s' k

      roomy : (r : Replica) (t : Stamp) (b : Bool) → s.replica ≡ Some r → next_stamp r ≡ Some t → has_room (taking_all r (stamped t cs)) ≡ b → HasGot s' (ds ++ own records version s cs)
      roomy r t true is next f =
          let made : Script = record s { sheet = s'.sheet; replica = Some (taking_all r (stamped t cs)) } in
          let same : made ≡ s' = is_script made s' (sym (replica_done s cs r is goal t s'.sheet next f e) ∙ k) in
          let was = subst (λ (o : Option Replica). IfSome o (λ r. IsReplicaOf s.sheet r × (s.history.done ≡ []) × (s.history.undone ≡ []))) is h.replica in
          let older = older_than_next r t cs was.0.past next in
          let taken : HasTaken (ds ++ stamped t cs) (taking_all r (stamped t cs)) = all_from ds (stamped t cs) r (subst (λ (o : Option Replica). Holds o ds) is got) (own_takeable r t cs was.0.ordered rise older) in
          subst (λ (z : Script). HasGot z (ds ++ own records version s cs)) same (subst (λ (zs : List Edit). HasTaken (ds ++ zs) (taking_all r (stamped t cs))) (sym (own_some s cs r t is next)) taken)
      roomy r t false is next f = absurd (not_script (codes "edits") s' (sym (no_room s cs r is goal t next f) ∙ k))

      stamped_by : (r : Replica) (o : Option Stamp) → s.replica ≡ Some r → next_stamp r ≡ o → HasGot s' (ds ++ own records version s cs)
      stamped_by r (Some t) is next = roomy r t (has_room (taking_all r (stamped t cs))) is next refl
      stamped_by r None is next = absurd (not_script (codes "stamp") s' (sym (no_stamp s cs r is goal next) ∙ k))

      by : (o : Option Replica) → s.replica ≡ o → HasGot s' (ds ++ own records version s cs)
      by (Some r) is = stamped_by r (next_stamp r) is refl
      by None is =
          let same = is_script _ s' (sym (alone_done s cs s'.sheet goal is e) ∙ k) in
          let alone : s'.replica ≡ None = ap (λ (z : Script). z.replica) (sym same) ∙ is in
          let none : ds ++ own records version s cs ≡ [] = ap (λ (zs : List Edit). ds ++ zs) (own_none s cs is) ∙ append-nil ds ∙ subst (λ (o : Option Replica). Holds o ds) is got in
          subst (λ (o : Option Replica). Holds o (ds ++ own records version s cs)) (sym alone) none

  -- what keeps the replica
  keeps_replica : (s s' : Script) (ds : List Edit) → s'.replica ≡ s.replica → HasGot s ds → HasGot s' (ds ++ [])
  keeps_replica s s' ds e got = subst (λ (o : Option Replica). Holds o (ds ++ [])) (sym e) (no_more s ds got)

  undone_alike : (s s' : Script) → undone s ≡ Is s' → s'.replica ≡ s.replica
  undone_alike s s' k = by s.replica s.history.done refl refl
    where
      by : (o : Option Replica) (zs : List Step) → s.replica ≡ o → s.history.done ≡ zs → s'.replica ≡ s.replica
      by (Some r) zs e f = let no : undone s ≡ Not (codes "site") = rw e refl in absurd (not_script (codes "site") s' (sym no ∙ k))
      by None [] e f = let no : undone s ≡ Not (codes "undo") = rw (e, f) refl in absurd (not_script (codes "undo") s' (sym no ∙ k))
      by None (d ∷ zs) e f =
          let made : Script = record s { sheet = with_changes s.sheet (befores d); history = record { done = zs; undone = d ∷ s.history.undone } } in
          let yes : undone s ≡ Is made = rw (e, f) refl in
          ap (λ (z : Script). z.replica) (sym (is_script made s' (sym yes ∙ k)))

  redone_alike : (s s' : Script) → redone s ≡ Is s' → s'.replica ≡ s.replica
  redone_alike s s' k = by s.replica s.history.undone refl refl
    where
      by : (o : Option Replica) (zs : List Step) → s.replica ≡ o → s.history.undone ≡ zs → s'.replica ≡ s.replica
      by (Some r) zs e f = let no : redone s ≡ Not (codes "site") = rw e refl in absurd (not_script (codes "site") s' (sym no ∙ k))
      by None [] e f = let no : redone s ≡ Not (codes "redo") = rw (e, f) refl in absurd (not_script (codes "redo") s' (sym no ∙ k))
      by None (u ∷ zs) e f =
          let made : Script = record s { sheet = with_changes s.sheet (afters u); history = record { done = u ∷ s.history.done; undone = zs } } in
          let yes : redone s ≡ Is made = rw (e, f) refl in
          ap (λ (z : Script). z.replica) (sym (is_script made s' (sym yes ∙ k)))

  sited_takes : (s : Script) (n : ℕ) (s' : Script) (ds : List Edit) → HasGot s ds → sited s n ≡ Is s' → HasGot s' (ds ++ [])
  sited_takes s n s' ds got k = by s.replica s.sheet refl refl
    where
      by : (o : Option Replica) (A : Cells) → s.replica ≡ o → s.sheet ≡ A → HasGot s' (ds ++ [])
      by (Some r) A e f = let no : sited s n ≡ Not (codes "site") = rw e refl in absurd (not_script (codes "site") s' (sym no ∙ k))
      by None (c ∷ A) e f = let no : sited s n ≡ Not (codes "site") = rw (e, f) refl in absurd (not_script (codes "site") s' (sym no ∙ k))
      by None [] e f =
          let made : Script = record { sheet = []; replica = Some (new_replica n); history = no_history } in
          let yes : sited s n ≡ Is made = rw (e, f) refl in
          let none : ds ++ [] ≡ [] = append-nil ds ∙ subst (λ (o : Option Replica). Holds o ds) e got in
          subst (λ (z : Script). HasGot z (ds ++ [])) (is_script made s' (sym yes ∙ k)) (subst (λ (zs : List Edit). HasTaken zs (new_replica n)) (sym none) (none_taken n))

  merged_takes : (s : Script) (e : Edit) (s' : Script) (ds : List Edit) (j : Judged) → HasGot s ds → IsJudged (register_of s e.place) e j → merge s e j ≡ Is s' → HasGot s' (ds ++ e ∷ [])
  merged_takes s e s' ds j got i k = by s.replica refl
    where
      took : (r : Replica) (j : Judged) → s.replica ≡ Some r → IsJudged (register_at r.registers e.place) e j → (j ≡ R.Judged.Conflict → ⊥) → s'.replica ≡ Some (taking r e) → HasGot s' (ds ++ e ∷ [])
      took r j is w n f =
          subst (λ (o : Option Replica). Holds o (ds ++ e ∷ [])) (sym f) (one_more_taken ds r e (subst (λ (o : Option Replica). Holds o ds) is got) (j, w, n))

      sheeted : (r : Replica) (o : Read Cells) → s.replica ≡ Some r → has_room (taking r e) ≡ true → allowed_change s.sheet e.place e.content ≡ o → merge s e R.Judged.Wins ≡ Is s' → s'.replica ≡ Some (taking r e)
      sheeted r (Is A) is f a m =
          let made : Script = record s { sheet = A; replica = Some (taking r e) } in
          let yes : merge s e R.Judged.Wins ≡ Is made = rw (is, f, a) refl in
          ap (λ (z : Script). z.replica) (sym (is_script made s' (sym yes ∙ m)))
      sheeted r (Not v) is f a m = let no : merge s e R.Judged.Wins ≡ Not v = rw (is, f, a) refl in absurd (not_script v s' (sym no ∙ m))

      roomy : (r : Replica) (b : Bool) → s.replica ≡ Some r → has_room (taking r e) ≡ b → merge s e R.Judged.Wins ≡ Is s' → s'.replica ≡ Some (taking r e)
      roomy r true is f m = sheeted r (allowed_change s.sheet e.place e.content) is f refl m
      roomy r false is f m = let no : merge s e R.Judged.Wins ≡ Not (codes "edits") = rw (is, f) refl in absurd (not_script (codes "edits") s' (sym no ∙ m))

      judged_so : (r : Replica) → s.replica ≡ Some r → (j : Judged) → IsJudged (register_at r.registers e.place) e j → merge s e j ≡ Is s' → HasGot s' (ds ++ e ∷ [])
      judged_so r is R.Judged.Wins w m = took r R.Judged.Wins is w (λ f. cc f) (roomy r (has_room (taking r e)) is refl m)
      judged_so r is R.Judged.Loses w m =
          let made : Script = record s { replica = Some (taking r e) } in
          let yes : merge s e R.Judged.Loses ≡ Is made = rw is refl in
          took r R.Judged.Loses is w (λ f. cc f) (ap (λ (z : Script). z.replica) (sym (is_script made s' (sym yes ∙ m))))
      judged_so r is R.Judged.Same w m =
          let made : Script = record s { replica = Some (taking r e) } in
          let yes : merge s e R.Judged.Same ≡ Is made = rw is refl in
          took r R.Judged.Same is w (λ f. cc f) (ap (λ (z : Script). z.replica) (sym (is_script made s' (sym yes ∙ m))))
      judged_so r is R.Judged.Conflict w m = let no : merge s e R.Judged.Conflict ≡ Not (codes "conflict") = rw is refl in absurd (not_script (codes "conflict") s' (sym no ∙ m))

      by : (o : Option Replica) → s.replica ≡ o → HasGot s' (ds ++ e ∷ [])
      by (Some r) is =
          let there : register_of s e.place ≡ register_at r.registers e.place = rw is refl in
          judged_so r is j (subst (λ (o : Option Edit). IsJudged o e j) there i) k
      by None is = let no : merge s e j ≡ Not (codes "site") = rw is refl in absurd (not_script (codes "site") s' (sym no ∙ k))

  -- ---- requests

  change_takes : (s : Script) (x : Request) (s' : Script) (ds : List Edit) → IsState s → HasGot s ds → is_change x ≡ true → change s x ≡ Is s' → HasGot s' (ds ++ edits_of records version s x)
  change_takes s (C.Request.Set a c) s' ds h got t k = edited_takes s ((a, Some c) ∷ []) (allowed (with_content s.sheet a c)) s' ds h tt got k
  change_takes s (C.Request.Clear r) s' ds h got t k = edited_takes s (removals s.sheet r) (Is (without s.sheet r)) s' ds h (removals_rise s.sheet r h.sheet.ordered) got k
  change_takes s (C.Request.Site n) s' ds h got t k = sited_takes s n s' ds got k
  change_takes s C.Request.Undo s' ds h got t k = keeps_replica s s' ds (undone_alike s s' k) got
  change_takes s C.Request.Redo s' ds h got t k = keeps_replica s s' ds (redone_alike s s' k) got
  change_takes s C.Request.Nothing s' ds h got t k = cc t
  change_takes s C.Request.ListAll s' ds h got t k = cc t
  change_takes s C.Request.Calculate s' ds h got t k = cc t
  change_takes s C.Request.ShowOracle s' ds h got t k = cc t
  change_takes s C.Request.Quit s' ds h got t k = cc t
  change_takes s C.Request.Export s' ds h got t k = cc t
  change_takes s C.Request.Flow s' ds h got t k = cc t
  change_takes s (C.Request.View x) s' ds h got t k = cc t
  change_takes s (C.Request.Show a) s' ds h got t k = cc t
  change_takes s (C.Request.Get a) s' ds h got t k = cc t
  change_takes s (C.Request.Why a) s' ds h got t k = cc t
  change_takes s (C.Request.Explain a) s' ds h got t k = cc t
  change_takes s (C.Request.Merge e) s' ds h got t k = cc t

  no_error : (w : Bytes) → IsFalse (is_refusal (C.error_line w)) → ⊥
  no_error w h = cc h

  -- what asks for the calculation takes none
  settled_takes : {A : Cells} {w : Oracle} {n : ℕ} {x : Request} {r : Bytes} (s : Script) → C.SettledReply records version A w n x r → edits_of records version s x ≡ []
  settled_takes s (C.SettledReply.show k) = refl
  settled_takes s (C.SettledReply.view k) = refl
  settled_takes s C.SettledReply.calc = refl
  settled_takes s C.SettledReply.oracle = refl
  settled_takes s C.SettledReply.why_so = refl
  settled_takes s (C.SettledReply.explain k) = refl

  spent_takes : (s : Script) (A : Cells) (x : Request) → IsTrue (C.asks_calculation records version A x) → edits_of records version s x ≡ []
  spent_takes s A (C.Request.Show a) t = refl
  spent_takes s A (C.Request.View r) t = refl
  spent_takes s A C.Request.Calculate t = refl
  spent_takes s A C.Request.ShowOracle t = refl
  spent_takes s A (C.Request.Why a) t = refl
  spent_takes s A (C.Request.Explain a) t = refl
  spent_takes s A (C.Request.Set a c) t = cc t
  spent_takes s A (C.Request.Clear r) t = cc t
  spent_takes s A (C.Request.Site n) t = cc t
  spent_takes s A C.Request.Undo t = cc t
  spent_takes s A C.Request.Redo t = cc t
  spent_takes s A C.Request.Nothing t = cc t
  spent_takes s A C.Request.ListAll t = cc t
  spent_takes s A C.Request.Quit t = cc t
  spent_takes s A C.Request.Export t = cc t
  spent_takes s A C.Request.Flow t = cc t
  spent_takes s A (C.Request.Get a) t = cc t
  spent_takes s A (C.Request.Merge e) t = cc t

  stays : (s : Script) (ds es : List Edit) → es ≡ [] → HasGot s ds → HasGot s (ds ++ es)
  stays s ds es e got = subst (λ (zs : List Edit). HasGot s (ds ++ zs)) (sym e) (no_more s ds got)

  does_take : {s s' : Script} {x : Request} {r : Bytes} (ds : List Edit) → IsState s → HasGot s ds → Does records version s x s' r → IsFalse (is_refusal r) → HasGot s' (ds ++ edits_of records version s x)
  does_take {s = s} ds h got T.Does.nothing f = no_more s ds got
  does_take {s = s} ds h got (T.Does.changed {x = x} t (T.Leaves.left {s' = s'} k)) f = change_takes s x s' ds h got t k
  does_take ds h got (T.Does.changed t (T.Leaves.kept {w = w} k)) f = absurd (no_error w f)
  does_take {s = s} ds h got (T.Does.merged {e = e} j i (T.Leaves.left {s' = s'} k)) f = merged_takes s e s' ds j got i k
  does_take ds h got (T.Does.merged j i (T.Leaves.kept {w = w} k)) f = absurd (no_error w f)
  does_take {s = s} ds h got T.Does.get f = no_more s ds got
  does_take {s = s} ds h got T.Does.list f = no_more s ds got
  does_take {s = s} ds h got (T.Does.export r e) f = no_more s ds got
  does_take ds h got (T.Does.export_alone e) f = absurd (no_error (codes "site") f)
  does_take {s = s} ds h got (T.Does.flow k) f = no_more s ds got
  does_take {s = s} ds h got T.Does.quit f = no_more s ds got
  does_take {s = s} {x = x} ds h got (T.Does.settled a k) f = stays s ds (edits_of records version s x) (settled_takes s k) got
  does_take {s = s} ds h got (T.Does.spent {x = x} t a) f = stays s ds (edits_of records version s x) (spent_takes s s.sheet x t) got

  -- ---- items

  one_request : (l : Bytes) (x y : Request) → ReadsLine l (Is x) → ReadsLine l (Is y) → x ≡ y
  one_request l x y h k = let e : Is x ≡ Is y = one_line l (Is x) (Is y) h k in cc e

  same_cells : (A B : Cells) → Is A ≡ Is B → A ≡ B
  same_cells A B h = cc h

  same_words : (p q m n : Bytes) → Some (ImportWords p m) ≡ Some (ImportWords q n) → p ≡ q
  same_words p q m n h = cc h

  acts_take : {s s' : Script} {x : Item} {r : Bytes} {es : List Edit} (ds : List Edit) → IsState s → HasGot s ds → Takes records version s x es → Acts records version s x s' r → IsFalse (is_refusal r) → HasGot s' (ds ++ es)
  acts_take {s = s} {s' = s'} {r = r} ds h got (S.Takes.line {l = l} y q) (T.Acts.request {x = x} p d) f =
      does_take {x = y} ds h got (subst (λ (z : Request). Does records version s z s' r) (one_request l x y p q) d) f
  acts_take ds h got (S.Takes.line y q) (T.Acts.refused {w = w} p) f = absurd (no_error w f)
  acts_take {s = s} {s' = s'} ds h got (S.Takes.import {l = l} {p = p} q m b bs ws at_b read_b) (T.Acts.import place n a vs at_place (T.Imports.contents cs read (T.Leaves.left k))) f =
      let same = same_place q b a at_b (subst (λ (z : Bytes). IsAddress z a) (same_words place q n m (sym vs ∙ ws)) at_place) in
      let cells : bs ≡ cs = same_cells bs cs (sym read_b ∙ ap (λ (z : Addr). imported z (records (without_mark p))) same ∙ read) in
      let got_all = edited_takes s (settings cs) (allowed (with_contents s.sheet cs)) s' ds h (settings_rise cs (imported_rise a (records (without_mark p)) cs read)) got k in
      subst (λ (zs : Cells). HasGot s' (ds ++ own records version s (settings zs))) (sym cells) got_all
  acts_take ds h got (S.Takes.import q m b bs ws at_b read_b) (T.Acts.import_place place n vs nowhere) f = absurd (no_error (codes "address") f)
  acts_take ds h got (S.Takes.import q m b bs ws at_b read_b) (T.Acts.import place n a vs at_place (T.Imports.fault {w = w} read)) f = absurd (no_error w f)
  acts_take ds h got (S.Takes.import q m b bs ws at_b read_b) (T.Acts.import place n a vs at_place (T.Imports.contents cs read (T.Leaves.kept {w = w} over))) f = absurd (no_error w f)

  took_all : {s u : Script} {is : List Item} {es : List Edit} (ds : List Edit) → IsState s → HasGot s ds → Took records version s is u es → IsState u × HasGot u (ds ++ es)
  took_all {s = s} ds h got S.Took.none = (h, no_more s ds got)
  took_all {s = s} {u = u} ds h got (S.Took.refused {x = x} {es = es} t r a f more) =
      let same = refusals_leave records version s t x r a f in
      took_all {s = t} {u = u} {es = es} ds (subst IsState (sym same) h) (subst (λ (z : Script). HasGot z ds) (sym same) got) more
  took_all {s = s} {u = u} ds h got (S.Took.accepted {x = x} {ds = cs} {es = es} t r a f takes more) =
      let q = took_all {s = t} {u = u} {es = es} (ds ++ cs) (acts_keep_states records version s t x r h a) (acts_take ds h got takes a f) more in
      (q.0, subst (HasGot u) (append_assoc ds cs es) q.1)

pub replicas_join : ReplicasJoin
replicas_join records version is s es r took e =
    let q = took_all records version [] new_state refl took in
    let was = subst (λ (o : Option Replica). IfSome o (λ r. IsReplicaOf s.sheet r × (s.history.done ≡ []) × (s.history.undone ≡ []))) e q.0.replica in
    (subst (λ (o : Option Replica). Holds o es) e q.1, was.0.holds)

pub replicas_agree : ReplicasAgree
replicas_agree records v w is js s t ds es q r took_s took_t e f alike =
    let a = replicas_join records v is s ds q took_s e in
    let b = replicas_join records w js t es r took_t f in
    a.1 ∙ ap contents_of (taken_alike ds es q r alike a.0 b.0).0 ∙ sym b.1
