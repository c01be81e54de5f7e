-- As many undos as there were edits lead back, and as many redos on again.
use Rattle.std.proofs.Common.{◌≡◌, ◌∙◌, ℕ, ◌+◌, ◌≤◌, zero, suc, List, [], ◌∷◌, take, replicate, Some, None, refl, sym, ap, subst, arith, IsTrue, IsFalse}
use Rattle.std.specs.Prelude.{codes}
use Rattle.std.specs.Str.{is_utf8, chars}
use Rattle.gl_calculus.specs.Values.Value.{Oracle}
use Rattle.gl_calculus.specs.Formulas.Formula.{Version, Cells}
use Rattle.gl_language.specs.Texts.Text.{Bytes}
use Rattle.gl_calculus.specs.Edits.Limits.{max_steps}
use Rattle.gl_calculus.specs.Edits.Replicas.{Changes}
use Rattle.gl_calculus.specs.Edits.Steps.{Step, step_of, befores, afters, pushed}
use Rattle.gl_protocol.specs.Framing.Framing.{Item, Line}
use Rattle.gl_protocol.specs.Scripts.Commands as C
use Rattle.gl_protocol.specs.Scripts.Commands.{Read, Is, Request, ReadsLine, ok_line, allowed}
use Rattle.gl_calculus.specs.Edits.Sheets.{with_content, with_contents, without}
use Rattle.gl_protocol.specs.Scripts.Script.{Script, change, edited, undone, redone}
use Rattle.gl_calculus.specs.Edits.Sheets.{with_changes, settings, removals}
use Rattle.gl_protocol.specs.Scripts.Acts as T
use Rattle.gl_protocol.specs.Scripts.Acts.{Does, Acts}
use Rattle.gl_protocol.specs.Scripts.Output as O
use Rattle.gl_protocol.specs.Scripts.Output.{Runs, is_refusal}
use Rattle.laws_protocol.proofs.Scripts.Edited.{is_script, alone_done, edited_sheet}
use Rattle.laws_calculus.proofs.SheetEdits.TakenBack.{taken_back, contents_are_changes, cleared_by_removals}
use Rattle.gl_script.proofs.Once.{one_line}
use Rattle.laws_protocol.specs.States.{IsState, LeadBack, IsEditItem, Edits, is_edit, UndoTakesBack, UndosRun}
use Rattle.laws_protocol.specs.States as S
use Rattle.laws_protocol.proofs.Scripts.Outputs.{one_act}
use Rattle.laws_protocol.proofs.Scripts.Sizes.{allowed_is}
use Rattle.laws_protocol.proofs.Scripts.States.{acts_keep_states}

-- the first so many steps lead back from this sheet to that one, or on
abbrev pub BackBy : ℕ → Cells → List Step → Cells → Type 0
BackBy zero A ds B = A ≡ B
BackBy (suc n) A [] B = ⊥
BackBy (suc n) A (d ∷ ds) B = BackBy n (with_changes A (befores d)) ds B

abbrev pub OnBy : ℕ → Cells → List Step → Cells → Type 0
OnBy zero A us B = A ≡ B
OnBy (suc n) A [] B = ⊥
OnBy (suc n) A (u ∷ us) B = OnBy n (with_changes A (afters u)) us B

back_fewer : (m k : ℕ) (A B : Cells) (ds : List Step) → m ≤ k → BackBy m A ds B → BackBy m A (take k ds) B
back_fewer zero k A B ds h b = b
back_fewer (suc m) zero A B ds h b = absurd (omega (arith, h))
back_fewer (suc m) (suc k) A B [] h b = b
back_fewer (suc m) (suc k) A B (d ∷ ds) h b = back_fewer m k (with_changes A (befores d)) B ds (omega (arith, h)) b

-- ---- one edit

-- what an edit leaves outside a replica
pub record OneMore (s t : Script) : Type 0 where
  pub alone : t.replica ≡ None
  pub step : Step
  pub done : t.history.done ≡ take max_steps (step ∷ s.history.done)
  pub back : with_changes t.sheet (befores step) ≡ s.sheet

edit_more : (s : Script) (cs : Changes) (goal : Read Cells) (t : Script) → IsState s → s.replica ≡ None → ((A : Cells) → goal ≡ Is A → A ≡ with_changes s.sheet cs) → edited s cs goal ≡ Is t → OneMore s t
edit_more s cs goal t h none changes k =
    let e = edited_sheet s cs goal t k in
    let d = step_of s.sheet cs in
    let made : Script = record s { sheet = t.sheet; history = pushed s.history d } in
    let is : made ≡ t = is_script made t (sym (alone_done s cs t.sheet goal none e) ∙ k) in
    record {
      alone = ap (λ (z : Script). z.replica) (sym is) ∙ none;
      step = d;
      done = ap (λ (z : Script). z.history.done) (sym is);
      back = ap (λ (Z : Cells). with_changes Z (befores d)) (changes t.sheet e) ∙ taken_back s.sheet cs h.sheet.ordered;
    }

is_cells : (A B : Cells) → Is A ≡ Is B → A ≡ B
is_cells A B h = cc h

one_request : (l : Bytes) (x y : Request) → ReadsLine l (Is x) → ReadsLine l (Is y) → x ≡ y
one_request l x y h k = let e : Is x ≡ Is y = one_line l (Is x) (Is y) h k in cc e

module _ (records : Bytes → List (List Bytes)) (version : Version) where
  change_more : (s t : Script) (x : Request) → IsState s → s.replica ≡ None → IsTrue (is_edit records version x) → change s x ≡ Is t → OneMore s t
  change_more s t (C.Request.Set a c) h none i k = edit_more s ((a, Some c) ∷ []) (allowed (with_content s.sheet a c)) t h none (λ A e. sym (allowed_is (with_content s.sheet a c) A e).0) k
  change_more s t (C.Request.Clear r) h none i k = edit_more s (removals s.sheet r) (Is (without s.sheet r)) t h none (λ A e. sym (is_cells (without s.sheet r) A e) ∙ cleared_by_removals s.sheet r h.sheet.ordered) k
  change_more s t (C.Request.Site n) h none i k = cc i
  change_more s t C.Request.Undo h none i k = cc i
  change_more s t C.Request.Redo h none i k = cc i
  change_more s t C.Request.Nothing h none i k = cc i
  change_more s t C.Request.ListAll h none i k = cc i
  change_more s t C.Request.Calculate h none i k = cc i
  change_more s t C.Request.ShowOracle h none i k = cc i
  change_more s t C.Request.Quit h none i k = cc i
  change_more s t C.Request.Export h none i k = cc i
  change_more s t C.Request.Flow h none i k = cc i
  change_more s t (C.Request.View x) h none i k = cc i
  change_more s t (C.Request.Show a) h none i k = cc i
  change_more s t (C.Request.Get a) h none i k = cc i
  change_more s t (C.Request.Why a) h none i k = cc i
  change_more s t (C.Request.Explain a) h none i k = cc i
  change_more s t (C.Request.Merge e) h none i k = cc i

  edit_or_asks : (A : Cells) (x : Request) → IsTrue (is_edit records version x) → IsTrue (C.asks_calculation records version A x) → ⊥
  edit_or_asks A (C.Request.Set a c) i t = cc t
  edit_or_asks A (C.Request.Clear r) i t = cc t
  edit_or_asks A (C.Request.Site n) i t = cc i
  edit_or_asks A C.Request.Undo i t = cc i
  edit_or_asks A C.Request.Redo i t = cc i
  edit_or_asks A C.Request.Nothing i t = cc i
  edit_or_asks A C.Request.ListAll i t = cc i
  edit_or_asks A C.Request.Calculate i t = cc i
  edit_or_asks A C.Request.ShowOracle i t = cc i
  edit_or_asks A C.Request.Quit i t = cc i
  edit_or_asks A C.Request.Export i t = cc i
  edit_or_asks A C.Request.Flow i t = cc i
  edit_or_asks A (C.Request.View x) i t = cc i
  edit_or_asks A (C.Request.Show a) i t = cc i
  edit_or_asks A (C.Request.Get a) i t = cc i
  edit_or_asks A (C.Request.Why a) i t = cc i
  edit_or_asks A (C.Request.Explain a) i t = cc i
  edit_or_asks A (C.Request.Merge e) i t = cc i

  no_settled : {A : Cells} {w : Oracle} {n : ℕ} {x : Request} {r : Bytes} → C.SettledReply records version A w n x r → IsTrue (is_edit records version x) → ⊥
  no_settled (C.SettledReply.show k) i = cc i
  no_settled (C.SettledReply.view k) i = cc i
  no_settled C.SettledReply.calc i = cc i
  no_settled C.SettledReply.oracle i = cc i
  no_settled C.SettledReply.why_so i = cc i
  no_settled (C.SettledReply.explain k) i = cc i

  no_error : (w : Bytes) → IsFalse (is_refusal (C.error_line w)) → ⊥
  no_error w h = cc h

  does_more : {s t : Script} {x : Request} {r : Bytes} → IsState s → s.replica ≡ None → IsTrue (is_edit records version x) → Does records version s x t r → IsFalse (is_refusal r) → OneMore s t
  does_more h none i T.Does.nothing f = cc i
  does_more {s = s} h none i (T.Does.changed {x = x} c (T.Leaves.left {s' = t} k)) f = change_more s t x h none i k
  does_more h none i (T.Does.changed c (T.Leaves.kept {w = w} k)) f = absurd (no_error w f)
  does_more h none i (T.Does.merged j d (T.Leaves.left k)) f = cc i
  does_more h none i (T.Does.merged j d (T.Leaves.kept k)) f = cc i
  does_more h none i T.Does.get f = cc i
  does_more h none i T.Does.list f = cc i
  does_more h none i (T.Does.export r e) f = cc i
  does_more h none i (T.Does.export_alone e) f = cc i
  does_more h none i (T.Does.flow k) f = cc i
  does_more h none i T.Does.quit f = cc i
  does_more h none i (T.Does.settled a k) f = absurd (no_settled k i)
  does_more {s = s} h none i (T.Does.spent {x = x} t a) f = absurd (edit_or_asks s.sheet x i t)

  acts_more : {s t : Script} {x : Item} {r : Bytes} → IsState s → s.replica ≡ None → IsEditItem records version x → Acts records version s x t r → IsFalse (is_refusal r) → OneMore s t
  acts_more {s = s} {t = t} {r = r} h none (S.IsEditItem.line {l = l} y q i) (T.Acts.request {x = x} p d) f =
      does_more {x = y} h none i (subst (λ (z : Request). Does records version s z t r) (one_request l x y p q) d) f
  acts_more h none (S.IsEditItem.line y q i) (T.Acts.refused {w = w} p) f = absurd (no_error w f)
  acts_more {s = s} {t = t} h none S.IsEditItem.import (T.Acts.import place n a ws at_place (T.Imports.contents cs read (T.Leaves.left k))) f =
      edit_more s (settings cs) (allowed (with_contents s.sheet cs)) t h none (λ A e. sym (allowed_is (with_contents s.sheet cs) A e).0 ∙ contents_are_changes cs s.sheet) k
  acts_more h none S.IsEditItem.import (T.Acts.import_place place n ws nowhere) f = absurd (no_error (codes "address") f)
  acts_more h none S.IsEditItem.import (T.Acts.import place n a ws at_place (T.Imports.fault {w = w} read)) f = absurd (no_error w f)
  acts_more h none S.IsEditItem.import (T.Acts.import place n a ws at_place (T.Imports.contents cs read (T.Leaves.kept {w = w} over))) f = absurd (no_error w f)

  -- ---- several

  pub record LeftBehind (n : ℕ) (B : Cells) (u : Script) : Type 0 where
    pub back : BackBy n u.sheet u.history.done B
    pub alone : u.replica ≡ None
    pub state : IsState u

  edits_back : (m n : ℕ) {t u : Script} (B : Cells) → m + n ≤ max_steps → IsState t → t.replica ≡ None → BackBy m t.sheet t.history.done B → Edits records version n t u → LeftBehind (m + n) B u
  edits_back m zero {t = t} B l h none b S.Edits.none =
      let e : m ≡ m + 0 = omega arith in
      record { back = subst (λ (k : ℕ). BackBy k t.sheet t.history.done B) e b; alone = none; state = h }
  edits_back m (suc n) {t = t} {u = u} B l h none b (S.Edits.edit v x r i a f more) =
      let o = acts_more h none i a f in
      let few : suc m ≤ max_steps = omega (arith, l) in
      let first : BackBy (suc m) v.sheet (o.step ∷ t.history.done) B = subst (λ (A : Cells). BackBy m A t.history.done B) (sym o.back) b in
      let kept = subst (λ (ds : List Step). BackBy (suc m) v.sheet ds B) (sym o.done) (back_fewer (suc m) max_steps v.sheet B (o.step ∷ t.history.done) few first) in
      let k = edits_back (suc m) n {t = v} {u = u} B (omega (arith, l)) (acts_keep_states records version t v x r h a) o.alone kept more in
      let e : suc m + n ≡ m + suc n = omega arith in
      record { back = subst (λ (j : ℕ). BackBy j u.sheet u.history.done B) e k.back; alone = k.alone; state = k.state }

  -- ---- undos

  undo_reads : ReadsLine (codes "undo") (Is C.Request.Undo)
  unfolding is_utf8 chars lib.Utf8.encode
  undo_reads = C.ReadsLine.words {ws = C.UndoWords} refl refl refl C.ReadsWords.undo

  redo_reads : ReadsLine (codes "redo") (Is C.Request.Redo)
  unfolding is_utf8 chars lib.Utf8.encode
  redo_reads = C.ReadsLine.words {ws = C.RedoWords} refl refl refl C.ReadsWords.redo

  abbrev after_undo : Script → Step → List Step → Script
  after_undo s d ds = record s { sheet = with_changes s.sheet (befores d); history = record { done = ds; undone = d ∷ s.history.undone } }

  abbrev after_redo : Script → Step → List Step → Script
  after_redo s u us = record s { sheet = with_changes s.sheet (afters u); history = record { done = u ∷ s.history.done; undone = us } }

  undo_one : (s s' : Script) (r : Bytes) (d : Step) (ds : List Step) → s.replica ≡ None → s.history.done ≡ d ∷ ds → Acts records version s (Line (codes "undo")) s' r → (s' ≡ after_undo s d ds) × (r ≡ ok_line)
  undo_one s s' r d ds none e a =
      let yes : undone s ≡ Is (after_undo s d ds) = rw (none, e) refl in
      one_act records version s s' (after_undo s d ds) (Line (codes "undo")) r ok_line a (T.Acts.request undo_reads (T.Does.changed refl (T.Leaves.left yes)))

  redo_one : (s s' : Script) (r : Bytes) (u : Step) (us : List Step) → s.replica ≡ None → s.history.undone ≡ u ∷ us → Acts records version s (Line (codes "redo")) s' r → (s' ≡ after_redo s u us) × (r ≡ ok_line)
  redo_one s s' r u us none e a =
      let yes : redone s ≡ Is (after_redo s u us) = rw (none, e) refl in
      one_act records version s s' (after_redo s u us) (Line (codes "redo")) r ok_line a (T.Acts.request redo_reads (T.Does.changed refl (T.Leaves.left yes)))

  pub record Undid (n m : ℕ) (A B : Cells) (u : Script) (rs : List Bytes) : Type 0 where
    pub sheet : u.sheet ≡ A
    pub replies : rs ≡ replicate n ok_line
    pub on : OnBy (m + n) u.sheet u.history.undone B
    pub alone : u.replica ≡ None

  undo_runs : (n m : ℕ) {s u : Script} {rs : List Bytes} (A B : Cells) → IsState s → s.replica ≡ None → BackBy n s.sheet s.history.done A → OnBy m s.sheet s.history.undone B
      → Runs records version s (replicate n (Line (codes "undo"))) u rs → Undid n m A B u rs
  undo_runs zero m {s = s} A B h none b o O.Runs.no_more =
      let e : m ≡ m + 0 = omega arith in
      record { sheet = b; replies = refl; on = subst (λ (k : ℕ). OnBy k s.sheet s.history.undone B) e o; alone = none }
  undo_runs (suc n) m {s = s} {u = u} A B h none b o (O.Runs.item {s' = s'} {reply = r} {replies = rs} a more) = by s.history.done refl b (λ v i j k l w. undo_runs n (suc m) {s = v} {u = u} {rs = rs} A B i j k l w)
    where
      Rest : Type 0
      Rest =
          (v : Script) → IsState v → v.replica ≡ None → BackBy n v.sheet v.history.done A → OnBy (suc m) v.sheet v.history.undone B → Runs records version v (replicate n (Line (codes "undo"))) u rs → Undid n (suc m) A B u rs

      by : (ds : List Step) → s.history.done ≡ ds → BackBy (suc n) s.sheet ds A → Rest → Undid (suc n) m A B u (r ∷ rs)
      by [] e k ih = absurd k
      by (d ∷ ds) e k ih =
          let one = undo_one s s' r d ds none e a in
          let made = after_undo s d ds in
          let lead = (subst (LeadBack s.sheet) e h.back).1 in
          let rest : Runs records version made (replicate n (Line (codes "undo"))) u rs = subst (λ (z : Script). Runs records version z (replicate n (Line (codes "undo"))) u rs) one.0 more in
          let state : IsState made = subst IsState one.0 (acts_keep_states records version s s' (Line (codes "undo")) r h a) in
          let on : OnBy (suc m) made.sheet made.history.undone B = subst (λ (Z : Cells). OnBy m Z s.history.undone B) (sym lead) o in
          let q = ih made state none k on rest in
          let f : suc m + n ≡ m + suc n = omega arith in
          record {
            sheet = q.sheet;
            replies = ap (λ (z : Bytes). z ∷ rs) one.1 ∙ ap (λ (zs : List Bytes). ok_line ∷ zs) q.replies;
            on = subst (λ (j : ℕ). OnBy j u.sheet u.history.undone B) f q.on;
            alone = q.alone;
          }

  redo_runs : (n : ℕ) {s v : Script} {qs : List Bytes} (B : Cells) → s.replica ≡ None → OnBy n s.sheet s.history.undone B → Runs records version s (replicate n (Line (codes "redo"))) v qs → (v.sheet ≡ B) × (qs ≡ replicate n ok_line)
  redo_runs zero B none o O.Runs.no_more = (o, refl)
  redo_runs (suc n) {s = s} {v = v} B none o (O.Runs.item {s' = s'} {reply = r} {replies = qs} a more) = by s.history.undone refl o (λ z i j w. redo_runs n {s = z} {v = v} {qs = qs} B i j w)
    where
      Rest : Type 0
      Rest = (z : Script) → z.replica ≡ None → OnBy n z.sheet z.history.undone B → Runs records version z (replicate n (Line (codes "redo"))) v qs → (v.sheet ≡ B) × (qs ≡ replicate n ok_line)

      by : (us : List Step) → s.history.undone ≡ us → OnBy (suc n) s.sheet us B → Rest → (v.sheet ≡ B) × (r ∷ qs ≡ replicate (suc n) ok_line)
      by [] e k ih = absurd k
      by (u ∷ us) e k ih =
          let one = redo_one s s' r u us none e a in
          let made = after_redo s u us in
          let rest : Runs records version made (replicate n (Line (codes "redo"))) v qs = subst (λ (z : Script). Runs records version z (replicate n (Line (codes "redo"))) v qs) one.0 more in
          let q = ih made none k rest in
          (q.0, ap (λ (z : Bytes). z ∷ qs) one.1 ∙ ap (λ (zs : List Bytes). ok_line ∷ zs) q.1)

  -- ---- the runs themselves

  undos_are : (n : ℕ) (s : Script) (A : Cells) → s.replica ≡ None → BackBy n s.sheet s.history.done A → (u : Script) × Runs records version s (replicate n (Line (codes "undo"))) u (replicate n ok_line)
  undos_are zero s A none b = (s, O.Runs.no_more)
  undos_are (suc n) s A none b = by s.history.done refl b (λ z i j. undos_are n z A i j)
    where
      by : (ds : List Step) → s.history.done ≡ ds → BackBy (suc n) s.sheet ds A
          → ((z : Script) → z.replica ≡ None → BackBy n z.sheet z.history.done A → (u : Script) × Runs records version z (replicate n (Line (codes "undo"))) u (replicate n ok_line))
          → (u : Script) × Runs records version s (replicate (suc n) (Line (codes "undo"))) u (replicate (suc n) ok_line)
      by [] e k ih = absurd k
      by (d ∷ ds) e k ih =
          let yes : undone s ≡ Is (after_undo s d ds) = rw (none, e) refl in
          let q = ih (after_undo s d ds) none k in
          (q.0, O.Runs.item (T.Acts.request undo_reads (T.Does.changed refl (T.Leaves.left yes))) q.1)

  redos_are : (n : ℕ) (s : Script) (B : Cells) → s.replica ≡ None → OnBy n s.sheet s.history.undone B → (v : Script) × Runs records version s (replicate n (Line (codes "redo"))) v (replicate n ok_line)
  redos_are zero s B none o = (s, O.Runs.no_more)
  redos_are (suc n) s B none o = by s.history.undone refl o (λ z i j. redos_are n z B i j)
    where
      by : (us : List Step) → s.history.undone ≡ us → OnBy (suc n) s.sheet us B
          → ((z : Script) → z.replica ≡ None → OnBy n z.sheet z.history.undone B → (v : Script) × Runs records version z (replicate n (Line (codes "redo"))) v (replicate n ok_line))
          → (v : Script) × Runs records version s (replicate (suc n) (Line (codes "redo"))) v (replicate (suc n) ok_line)
      by [] e k ih = absurd k
      by (u ∷ us) e k ih =
          let yes : redone s ≡ Is (after_redo s u us) = rw (none, e) refl in
          let q = ih (after_redo s u us) none k in
          (q.0, O.Runs.item (T.Acts.request redo_reads (T.Does.changed refl (T.Leaves.left yes))) q.1)

pub undos_run : UndosRun
undos_run records version n s t h none few edits =
    let zero_n : 0 + n ≡ n = omega arith in
    let behind = edits_back records version zero n {t = s} {u = t} s.sheet (omega (arith, few)) h none refl edits in
    let back : BackBy n t.sheet t.history.done s.sheet = subst (λ (k : ℕ). BackBy k t.sheet t.history.done s.sheet) zero_n behind.back in
    let p = undos_are records version n t s.sheet behind.alone back in
    let q = undo_runs records version n zero {s = t} {u = p.0} {rs = replicate n ok_line} s.sheet t.sheet behind.state behind.alone back refl p.1 in
    let on : OnBy n (p.0).sheet (p.0).history.undone t.sheet = subst (λ (k : ℕ). OnBy k (p.0).sheet (p.0).history.undone t.sheet) zero_n q.on in
    let r = redos_are records version n p.0 t.sheet q.alone on in
    (p.0, r.0, p.1, r.1)

pub undo_takes_back : UndoTakesBack
undo_takes_back records version n s t u v rs qs h none few edits undos redos =
    let zero_n : 0 + n ≡ n = omega arith in
    let behind = edits_back records version zero n {t = s} {u = t} s.sheet (omega (arith, few)) h none refl edits in
    let back : BackBy n t.sheet t.history.done s.sheet = subst (λ (k : ℕ). BackBy k t.sheet t.history.done s.sheet) zero_n behind.back in
    let q = undo_runs records version n zero {s = t} {u = u} {rs = rs} s.sheet t.sheet behind.state behind.alone back refl undos in
    let on : OnBy n u.sheet u.history.undone t.sheet = subst (λ (k : ℕ). OnBy k u.sheet u.history.undone t.sheet) zero_n q.on in
    let p = redo_runs records version n {s = u} {v = v} {qs = qs} t.sheet q.alone on redos in
    (q.sheet, p.0, q.replies, p.1)
