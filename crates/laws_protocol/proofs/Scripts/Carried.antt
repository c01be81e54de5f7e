-- What holds of each content that a line sets, an edit brings or an import gives holds of each content of the sheet, and of each that comes back.
use Rattle.std.specs.Prelude.{codes}
use Rattle.std.proofs.Common.{◌≡◌, ◌∙◌, ℕ, zero, suc, Bool, true, false, cond, not, List, [], ◌∷◌, map, take, filter, Option, Some, None, refl, sym, ap, subst}
use Rattle.std.specs.Prelude.{⊤}
use Rattle.std.specs.List.{AllByRecursion}
use Rattle.gl_calculus.specs.Grid.Grid.{Addr, Range, same_addr, is_before, single, covers}
use Rattle.gl_calculus.specs.Formulas.Formula.{Version, Content, Cells, content}
use Rattle.gl_calculus.proofs.Tests.{addr_exact}
use Rattle.gl_language.specs.Texts.Text.{Bytes}
use Rattle.gl_calculus.specs.Edits.Limits.{max_steps}
use Rattle.gl_calculus.specs.Edits.Replicas.{Stamp, Edit, Changes, Replica, Judged, Wins, Loses, Same, Conflict, new_replica, next_stamp, taking, taking_all, stamped, has_room}
use Rattle.gl_calculus.specs.Edits.Steps.{Change, Step, step_of, befores, afters, History, no_history, pushed}
use Rattle.gl_protocol.specs.Framing.Framing.{Item}
use Rattle.gl_protocol.specs.Scripts.Commands as C
use Rattle.gl_protocol.specs.Scripts.Commands.{onto, Read, Is, Not, Request, ReadsLine, allowed, imported, without_mark}
use Rattle.gl_calculus.specs.Edits.Sheets.{with_content, with_contents, without}
use Rattle.gl_protocol.specs.Scripts.Script.{Script, new_script, edited, sited, undone, redone, is_change, change, merge, allowed_change}
use Rattle.gl_calculus.specs.Edits.Sheets.{with_change, with_changes, settings, removals}
use Rattle.gl_protocol.specs.Scripts.Acts as T
use Rattle.gl_protocol.specs.Scripts.Acts.{Does, Acts}
use Rattle.gl_protocol.specs.Scripts.Output as O
use Rattle.gl_protocol.specs.Scripts.Output.{Runs}
use Rattle.laws_protocol.proofs.Scripts.Edited.{is_script, not_script, edited_sheet}
use Rattle.laws_protocol.proofs.Scripts.Sizes.{allowed_is}

is_cells : (S T : Cells) → Is S ≡ Is T → S ≡ T
is_cells S T h = cc h

module _ (P : Addr × Content → Type 0) where
  abbrev pub AllHold : Cells → Type 0
  AllHold S = AllByRecursion P S

  abbrev pub Comes : Addr → Option Content → Type 0
  Comes a (Some c) = P (a, c)
  Comes a None = ⊤

  abbrev pub AllCome : Changes → Type 0
  AllCome cs = AllByRecursion (λ (c : Addr × Option Content). Comes c.0 c.1) cs

  -- what a step takes away and what it brings
  abbrev pub StepHolds : Step → Type 0
  StepHolds d = AllByRecursion (λ (c : Change). Comes c.place c.before × Comes c.place c.after) d

  pub record Carries (s : Script) : Type 0 where
    pub sheet : AllHold s.sheet
    pub done : AllByRecursion StepHolds s.history.done
    pub undone : AllByRecursion StepHolds s.history.undone

  -- ---- sheets

  hold_with : (S : Cells) (a : Addr) (c : Content) → AllHold S → P (a, c) → AllHold (with_content S a c)
  hold_with [] a c h p = (p, tt)
  hold_with (x ∷ S) a c h p = by (same_addr a x.0) (is_before a x.0) (hold_with S a c h.1 p)
    where
      by : (t u : Bool) → AllHold (with_content S a c) → AllHold (cond t ((a, c) ∷ S) (cond u ((a, c) ∷ x ∷ S) (x ∷ with_content S a c)))
      by true u ih = (p, h.1)
      by false true ih = (p, h)
      by false false ih = (h.0, ih)

  hold_with_all : (cs S : Cells) → AllHold S → AllHold cs → AllHold (with_contents S cs)
  hold_with_all [] S h k = h
  hold_with_all (x ∷ cs) S h k = hold_with_all cs (with_content S x.0 x.1) (hold_with S x.0 x.1 h k.0) k.1

  hold_filter : (p : Addr × Content → Bool) (S : Cells) → AllHold S → AllHold (filter p S)
  hold_filter p [] h = tt
  hold_filter p (x ∷ S) h = by (p x) (hold_filter p S h.1)
    where
      by : (t : Bool) → AllHold (filter p S) → AllHold (cond t (x ∷ filter p S) (filter p S))
      by true ih = (h.0, ih)
      by false ih = ih

  hold_without : (S : Cells) (r : Range) → AllHold S → AllHold (without S r)
  hold_without S r h = hold_filter (λ x. not (covers r x.0)) S h

  hold_change : (S : Cells) (a : Addr) (o : Option Content) → AllHold S → Comes a o → AllHold (with_change S a o)
  hold_change S a (Some c) h k = hold_with S a c h k
  hold_change S a None h k = hold_without S (single a) h

  hold_changes : (cs : Changes) (S : Cells) → AllHold S → AllCome cs → AllHold (with_changes S cs)
  hold_changes [] S h k = h
  hold_changes (c ∷ cs) S h k = hold_changes cs (with_change S c.0 c.1) (hold_change S c.0 c.1 h k.0) k.1

  -- what is found holds
  comes_found : (S : Cells) (a : Addr) → AllHold S → Comes a (content S a)
  comes_found [] a h = tt
  comes_found (x ∷ S) a h = by (same_addr a x.0) refl (comes_found S a h.1)
    where
      by : (t : Bool) → same_addr a x.0 ≡ t → Comes a (content S a) → Comes a (cond t (Some x.1) (content S a))
      by true e ih = subst (λ (b : Addr). P (b, x.1)) (sym (addr_exact a x.0 e)) h.0
      by false e ih = ih

  -- ---- steps

  step_holds : (S : Cells) (cs : Changes) → AllHold S → AllCome cs → StepHolds (step_of S cs)
  step_holds S [] h k = tt
  step_holds S (c ∷ cs) h k = ((comes_found S c.0 h, k.0), step_holds S cs h k.1)

  befores_come : (d : Step) → StepHolds d → AllCome (befores d)
  befores_come [] h = tt
  befores_come (c ∷ d) h = (h.0.0, befores_come d h.1)

  afters_come : (d : Step) → StepHolds d → AllCome (afters d)
  afters_come [] h = tt
  afters_come (c ∷ d) h = (h.0.1, afters_come d h.1)

  fewer : (n : ℕ) (ds : List Step) → AllByRecursion StepHolds ds → AllByRecursion StepHolds (take n ds)
  fewer zero ds h = tt
  fewer (suc n) [] h = tt
  fewer (suc n) (d ∷ ds) h = (h.0, fewer n ds h.1)

  -- ---- edits

  -- the history behind an edit
  data IsHistory (s : Script) (cs : Changes) (h : History) : Type 0 where
    same : h ≡ s.history → IsHistory s cs h
    more : h ≡ pushed s.history (step_of s.sheet cs) → IsHistory s cs h

  onto_history : (f : Cells → Script) (goal : Read Cells) (t : Script) (h : History) → ((S : Cells) → (f S).history ≡ h) → onto f goal ≡ Is t → t.history ≡ h
  onto_history f (Is S) t h g e = ap (λ (u : Script). u.history) (sym (is_script (f S) t e)) ∙ g S
  onto_history f (Not w) t h g e = absurd (not_script w t e)

  edited_history : (s : Script) (cs : Changes) (goal : Read Cells) (t : Script) → edited s cs goal ≡ Is t → IsHistory s cs t.history
  edited_history s cs goal t h = by s.replica refl h
    where
      room : (q : Replica) (b : Bool) → cond b (onto (λ S. record s { sheet = S; replica = Some q }) goal) (Not (codes "edits")) ≡ Is t → IsHistory s cs t.history
      room q true k = same (onto_history (λ S. record s { sheet = S; replica = Some q }) goal t s.history (λ S. refl) k)
      room q false k = absurd (not_script (codes "edits") t k)

      stamped_by : (r : Replica) (o : Option Stamp) → next_stamp r ≡ o → s.replica ≡ Some r → edited s cs goal ≡ Is t → IsHistory s cs t.history
      stamped_by r (Some u) n e k = room (taking_all r (stamped u cs)) (has_room (taking_all r (stamped u cs))) (rw (e, n) at k)
      stamped_by r None n e k = absurd (not_script (codes "stamp") t (rw (e, n) at k))

      by : (o : Option Replica) → s.replica ≡ o → edited s cs goal ≡ Is t → IsHistory s cs t.history
      by (Some r) e k = stamped_by r (next_stamp r) refl e k
      by None e k =
          let step = pushed s.history (step_of s.sheet cs) in
          more (onto_history (λ S. record { sheet = S; replica = None; history = step }) goal t step (λ S. refl) (rw e at k))

  history_holds : (s : Script) (cs : Changes) (h : History) → Carries s → AllCome cs → IsHistory s cs h → AllByRecursion StepHolds h.done × AllByRecursion StepHolds h.undone
  history_holds s cs h c k (same e) = subst (λ (z : History). AllByRecursion StepHolds z.done × AllByRecursion StepHolds z.undone) (sym e) (c.done, c.undone)
  history_holds s cs h c k (more e) =
      let d = step_of s.sheet cs in
      subst (λ (z : History). AllByRecursion StepHolds z.done × AllByRecursion StepHolds z.undone) (sym e) (fewer max_steps (d ∷ s.history.done) (step_holds s.sheet cs c.sheet k, c.done), tt)

  edited_carries : (s : Script) (cs : Changes) (goal : Read Cells) (t : Script) → Carries s → AllCome cs → ((S : Cells) → goal ≡ Is S → AllHold S) → edited s cs goal ≡ Is t → Carries t
  edited_carries s cs goal t c k good e =
      let h = history_holds s cs t.history c k (edited_history s cs goal t e) in
      record { sheet = good t.sheet (edited_sheet s cs goal t e); done = h.0; undone = h.1 }

  -- ---- the other changes

  moved : (s t : Script) → Carries s → Is s ≡ Is t → Carries t
  moved s t c e = subst Carries (is_script s t e) c

  sited_carries : (s : Script) (n : ℕ) (t : Script) → sited s n ≡ Is t → Carries t
  sited_carries s n t h = by s.replica s.sheet refl refl
    where
      made : Script
      made = record { sheet = []; replica = Some (new_replica n); history = no_history }

      by : (o : Option Replica) (S : Cells) → s.replica ≡ o → s.sheet ≡ S → Carries t
      by (Some r) S e f = let no : sited s n ≡ Not (codes "site") = rw e refl in absurd (not_script (codes "site") t (sym no ∙ h))
      by None (c ∷ cs) e f = let no : sited s n ≡ Not (codes "site") = rw (e, f) refl in absurd (not_script (codes "site") t (sym no ∙ h))
      by None [] e f = let yes : sited s n ≡ Is made = rw (e, f) refl in moved made t (record { sheet = tt; done = tt; undone = tt }) (sym yes ∙ h)

  undone_carries : (s t : Script) → Carries s → undone s ≡ Is t → Carries t
  undone_carries s t c h = by s.replica s.history.done refl refl
    where
      by : (o : Option Replica) (ds : List Step) → s.replica ≡ o → s.history.done ≡ ds → Carries t
      by (Some r) ds e f = let no : undone s ≡ Not (codes "site") = rw e refl in absurd (not_script (codes "site") t (sym no ∙ h))
      by None [] e f = let no : undone s ≡ Not (codes "undo") = rw (e, f) refl in absurd (not_script (codes "undo") t (sym no ∙ h))
      by None (d ∷ ds) e f =
          let made : Script = record s { sheet = with_changes s.sheet (befores d); history = record { done = ds; undone = d ∷ s.history.undone } } in
          let yes : undone s ≡ Is made = rw (e, f) refl in
          let k : AllByRecursion StepHolds (d ∷ ds) = subst (λ (z : List Step). AllByRecursion StepHolds z) f c.done in
          moved made t (record { sheet = hold_changes (befores d) s.sheet c.sheet (befores_come d k.0); done = k.1; undone = (k.0, c.undone) }) (sym yes ∙ h)

  redone_carries : (s t : Script) → Carries s → redone s ≡ Is t → Carries t
  redone_carries s t c h = by s.replica s.history.undone refl refl
    where
      by : (o : Option Replica) (us : List Step) → s.replica ≡ o → s.history.undone ≡ us → Carries t
      by (Some r) us e f = let no : redone s ≡ Not (codes "site") = rw e refl in absurd (not_script (codes "site") t (sym no ∙ h))
      by None [] e f = let no : redone s ≡ Not (codes "redo") = rw (e, f) refl in absurd (not_script (codes "redo") t (sym no ∙ h))
      by None (u ∷ us) e f =
          let made : Script = record s { sheet = with_changes s.sheet (afters u); history = record { done = u ∷ s.history.done; undone = us } } in
          let yes : redone s ≡ Is made = rw (e, f) refl in
          let k : AllByRecursion StepHolds (u ∷ us) = subst (λ (z : List Step). AllByRecursion StepHolds z) f c.undone in
          moved made t (record { sheet = hold_changes (afters u) s.sheet c.sheet (afters_come u k.0); done = (k.0, c.done); undone = k.1 }) (sym yes ∙ h)

  hold_allowed : (S T : Cells) (a : Addr) (o : Option Content) → AllHold S → Comes a o → allowed_change S a o ≡ Is T → AllHold T
  hold_allowed S T a (Some c) h k e = subst AllHold (allowed_is (with_content S a c) T e).0 (hold_with S a c h k)
  hold_allowed S T a None h k e = subst AllHold (is_cells (without S (single a)) T e) (hold_without S (single a) h)

  merged_carries : (s : Script) (e : Edit) (j : Judged) (t : Script) → Carries s → Comes e.place e.content → merge s e j ≡ Is t → Carries t
  merged_carries s e j t c k h = by s.replica j refl h
    where
      won : (q : Replica) (o : Read Cells) → allowed_change s.sheet e.place e.content ≡ o → onto (λ S. record s { sheet = S; replica = Some q }) o ≡ Is t → Carries t
      won q (Is S) a m = moved (record s { sheet = S; replica = Some q }) t (record { sheet = hold_allowed s.sheet S e.place e.content c.sheet k a; done = c.done; undone = c.undone }) m
      won q (Not w) a m = absurd (not_script w t m)

      room : (q : Replica) (b : Bool) → cond b (onto (λ S. record s { sheet = S; replica = Some q }) (allowed_change s.sheet e.place e.content)) (Not (codes "edits")) ≡ Is t → Carries t
      room q true m = won q (allowed_change s.sheet e.place e.content) refl m
      room q false m = absurd (not_script (codes "edits") t m)

      kept : (q : Replica) → Is (record s { replica = Some q }) ≡ Is t → Carries t
      kept q m = moved (record s { replica = Some q }) t (record { sheet = c.sheet; done = c.done; undone = c.undone }) m

      by : (o : Option Replica) (j : Judged) → s.replica ≡ o → merge s e j ≡ Is t → Carries t
      by (Some r) Wins f m = room (taking r e) (has_room (taking r e)) (rw f at m)
      by (Some r) Loses f m = kept (taking r e) (rw f at m)
      by (Some r) Same f m = kept (taking r e) (rw f at m)
      by (Some r) Conflict f m = absurd (not_script (codes "conflict") t (rw f at m))
      by None j f m = absurd (not_script (codes "site") t (rw f at m))

  -- ---- items

  settings_come : (cs : Cells) → AllHold cs → AllCome (settings cs)
  settings_come [] h = tt
  settings_come (c ∷ cs) h = (h.0, settings_come cs h.1)

  removals_come : (S : Cells) → AllCome (map (λ (c : Addr × Content). (c.0, None)) S)
  removals_come [] = tt
  removals_come (c ∷ S) = (tt, removals_come S)

  -- what holds of all that comes into a sheet
  pub record HoldsOfAll : Type 0 where
    pub sets : (l : Bytes) (a : Addr) (c : Content) → ReadsLine l (Is (C.Request.Set a c)) → P (a, c)
    pub merges : (l : Bytes) (e : Edit) → ReadsLine l (Is (C.Request.Merge e)) → Comes e.place e.content
    pub imports : (a : Addr) (rs : List (List Bytes)) (cs : Cells) → imported a rs ≡ Is cs → AllHold cs

  module _ (all : HoldsOfAll) (records : Bytes → List (List Bytes)) (version : Version) where
    change_carries : (s : Script) (l : Bytes) (x : Request) (t : Script) → Carries s → ReadsLine l (Is x) → is_change x ≡ true → change s x ≡ Is t → Carries t
    change_carries s l (C.Request.Set a c) t h q i k =
        let p = all.sets l a c q in
        edited_carries s ((a, Some c) ∷ []) (allowed (with_content s.sheet a c)) t h (p, tt) (λ S e. subst AllHold (allowed_is (with_content s.sheet a c) S e).0 (hold_with s.sheet a c h.sheet p)) k
    change_carries s l (C.Request.Clear r) t h q i k =
        edited_carries s (removals s.sheet r) (Is (without s.sheet r)) t h (removals_come (filter (λ (c : Addr × Content). covers r c.0) s.sheet))
        (λ S e. subst AllHold (is_cells (without s.sheet r) S e) (hold_without s.sheet r h.sheet)) k
    change_carries s l (C.Request.Site n) t h q i k = sited_carries s n t k
    change_carries s l C.Request.Undo t h q i k = undone_carries s t h k
    change_carries s l C.Request.Redo t h q i k = redone_carries s t h k
    change_carries s l C.Request.Nothing t h q i k = cc i
    change_carries s l C.Request.ListAll t h q i k = cc i
    change_carries s l C.Request.Calculate t h q i k = cc i
    change_carries s l C.Request.ShowOracle t h q i k = cc i
    change_carries s l C.Request.Quit t h q i k = cc i
    change_carries s l C.Request.Export t h q i k = cc i
    change_carries s l C.Request.Flow t h q i k = cc i
    change_carries s l (C.Request.View x) t h q i k = cc i
    change_carries s l (C.Request.Show a) t h q i k = cc i
    change_carries s l (C.Request.Get a) t h q i k = cc i
    change_carries s l (C.Request.Why a) t h q i k = cc i
    change_carries s l (C.Request.Explain a) t h q i k = cc i
    change_carries s l (C.Request.Merge e) t h q i k = cc i

    does_carry : {s : Script} (l : Bytes) {x : Request} {t : Script} {r : Bytes} → Carries s → ReadsLine l (Is x) → Does records version s x t r → Carries t
    does_carry l h q T.Does.nothing = h
    does_carry {s} l h q (T.Does.changed {x = x} i (T.Leaves.left {s' = t} k)) = change_carries s l x t h q i k
    does_carry l h q (T.Does.changed t (T.Leaves.kept k)) = h
    does_carry {s} l h q (T.Does.merged {e = e} j i (T.Leaves.left {s' = t} k)) = merged_carries s e j t h (all.merges l e q) k
    does_carry l h q (T.Does.merged j i (T.Leaves.kept k)) = h
    does_carry l h q T.Does.get = h
    does_carry l h q T.Does.list = h
    does_carry l h q (T.Does.export r e) = h
    does_carry l h q (T.Does.export_alone e) = h
    does_carry l h q (T.Does.flow f) = h
    does_carry l h q T.Does.quit = h
    does_carry l h q (T.Does.settled a k) = h
    does_carry l h q (T.Does.spent t a) = h

    acts_carry : {s : Script} {x : Item} {t : Script} {r : Bytes} → Carries s → Acts records version s x t r → Carries t
    acts_carry h (T.Acts.request {l = l} q d) = does_carry l h q d
    acts_carry h (T.Acts.refused q) = h
    acts_carry h T.Acts.long = h
    acts_carry h T.Acts.truncated = h
    acts_carry {s} h (T.Acts.import {p = p} place n a ws at_place (T.Imports.contents cs read (T.Leaves.left {s' = t} k))) =
        let given = all.imports a (records (without_mark p)) cs read in
        edited_carries s (settings cs) (allowed (with_contents s.sheet cs)) t h (settings_come cs given) (λ S e. subst AllHold (allowed_is (with_contents s.sheet cs) S e).0 (hold_with_all cs s.sheet h.sheet given)) k
    acts_carry h (T.Acts.import_place place n ws none) = h
    acts_carry h (T.Acts.import place n a ws at_place (T.Imports.fault read)) = h
    acts_carry h (T.Acts.import place n a ws at_place (T.Imports.contents cs read (T.Leaves.kept over))) = h

    run_carries : {s t : Script} {is : List Item} {rs : List Bytes} → Carries s → Runs records version s is t rs → Carries t
    run_carries h O.Runs.no_more = h
    run_carries h (O.Runs.item a r) = run_carries (acts_carry h a) r

    -- so it holds of each content of every sheet that a script leads to
    pub sheets_hold : {s : Script} {is : List Item} {rs : List Bytes} → Runs records version new_script is s rs → AllHold s.sheet
    sheets_hold r = (run_carries (record { sheet = tt; done = tt; undone = tt }) r).sheet
