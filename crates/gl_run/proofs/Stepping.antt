-- Steps that are undone and done again.
use Rattle.std.specs.Prelude.{codes}
use Rattle.std.proofs.Common.{◌≡◌, ◌∙◌, true, false, List, [], ◌∷◌, ◌++◌, map, Option, Some, None, option_map, is_some, refl, sym, ap, append_assoc, append-nil}
use Rattle.gl_calculus.specs.Computation.Lists.{AreDistinct}
use Rattle.gl_calculus.specs.Grid.Grid.{Addr, single}
use Rattle.gl_calculus.specs.Formulas.Formula.{Content, Cells, IsSheet}
use Rattle.gl_calculus.specs.Edits.Replicas.{Changes, Replica}
use Rattle.gl_calculus.specs.Edits.Steps.{Step, History, befores, afters, latest_step, MovesBack, MovesForward}
use Rattle.gl_language.specs.Texts.Text.{Bytes}
use Rattle.gl_protocol.specs.Scripts.Commands.{Is, Not, error_line, ok_line}
use Rattle.gl_calculus.specs.Edits.Sheets.{places_in, with_contents, without}
use Rattle.gl_protocol.specs.Scripts.Script as P
use Rattle.gl_protocol.specs.Scripts.Script.{undone, redone}
use Rattle.gl_calculus.specs.Edits.Sheets.{with_changes}
use Rattle.gl_calc.specs.View.{View, sheet_of}
use Rattle.gl_merge.specs.Replica.{ReplicaValue, replica_tree}
use Rattle.gl_run.specs.Changed.{IsChanged, Marks}
use Rattle.gl_run.specs.Script.{script_of}
use Rattle.gl_run.specs.declared.script.Script.{Script}
use Rattle.gl_calculus.specs.Edits.Sheets.{and_content, coming}
use Rattle.gl_run.specs.Going.{and_address}
use Rattle.gl_protocol.specs.Run.Touched.{going, without_these, cleared, touched_by_all, latest_changes}
use Rattle.gl_run.proofs.Readying.{changed_to, changed_not}
use Rattle.gl_run.proofs.Restoring.{plain_places, put_and_cleared}

-- ---- refusals

pub undo_in_replica : (s : P.Script) (r : Replica) (reply : Bytes) → s.replica ≡ Some r → reply ≡ error_line (codes "site") → IsChanged (undone s) s s reply
undo_in_replica s r reply is p = let no : undone s ≡ Not (codes "site") = rw is refl in changed_not (undone s) s s reply (codes "site") no refl p

pub redo_in_replica : (s : P.Script) (r : Replica) (reply : Bytes) → s.replica ≡ Some r → reply ≡ error_line (codes "site") → IsChanged (redone s) s s reply
redo_in_replica s r reply is p = let no : redone s ≡ Not (codes "site") = rw is refl in changed_not (redone s) s s reply (codes "site") no refl p

pub undo_nothing : (s : P.Script) (reply : Bytes) → s.replica ≡ None → s.history.done ≡ [] → reply ≡ error_line (codes "undo") → IsChanged (undone s) s s reply
undo_nothing s reply is none p = let no : undone s ≡ Not (codes "undo") = rw (is, none) refl in changed_not (undone s) s s reply (codes "undo") no refl p

pub redo_nothing : (s : P.Script) (reply : Bytes) → s.replica ≡ None → s.history.undone ≡ [] → reply ≡ error_line (codes "redo") → IsChanged (redone s) s s reply
redo_nothing s reply is none p = let no : redone s ≡ Not (codes "redo") = rw (is, none) refl in changed_not (redone s) s s reply (codes "redo") no refl p

-- ---- a step

pub undo_done : (s : P.Script) (T : Cells) (h : History) (cs : Changes) (reply : Bytes) → s.replica ≡ None → cs ≡ latest_changes befores s.history.done → T ≡ with_changes s.sheet cs → MovesBack s.history h → reply ≡ ok_line
    → IsChanged (undone s) s (record s { sheet = T; history = h }) reply
undo_done s T h cs reply is e t m p =
    let d = m.0 in
    let ds = m.1 in
    let step : cs ≡ befores d = e ∙ ap (latest_changes befores) m.2 in
    let yes : undone s ≡ Is (record s { sheet = with_changes s.sheet (befores d); history = record { done = ds; undone = d ∷ s.history.undone } }) = rw (is, m.2) refl in
    let sheet : with_changes s.sheet (befores d) ≡ T = sym (t ∙ ap (with_changes s.sheet) step) in
    changed_to (undone s) s (record s { sheet = T; history = h }) reply
    (yes ∙ ap (λ (Z : Cells). Is (record s { sheet = Z; history = record { done = ds; undone = d ∷ s.history.undone } })) sheet ∙ ap (λ (k : History). Is (record s { sheet = T; history = k })) (sym m.3)) p

pub redo_done : (s : P.Script) (T : Cells) (h : History) (cs : Changes) (reply : Bytes) → s.replica ≡ None → cs ≡ latest_changes afters s.history.undone → T ≡ with_changes s.sheet cs → MovesForward s.history h → reply ≡ ok_line
    → IsChanged (redone s) s (record s { sheet = T; history = h }) reply
redo_done s T h cs reply is e t m p =
    let u = m.0 in
    let us = m.1 in
    let step : cs ≡ afters u = e ∙ ap (latest_changes afters) m.2 in
    let yes : redone s ≡ Is (record s { sheet = with_changes s.sheet (afters u); history = record { done = u ∷ s.history.done; undone = us } }) = rw (is, m.2) refl in
    let sheet : with_changes s.sheet (afters u) ≡ T = sym (t ∙ ap (with_changes s.sheet) step) in
    changed_to (redone s) s (record s { sheet = T; history = h }) reply
    (yes ∙ ap (λ (Z : Cells). Is (record s { sheet = Z; history = record { done = u ∷ s.history.done; undone = us } })) sheet ∙ ap (λ (k : History). Is (record s { sheet = T; history = k })) (sym m.3)) p

-- ---- what is told of the latest step

pub told_first : (f : Step → Changes) (ds : List Step) (cs : Changes) → Some cs ≡ option_map f (latest_step ds) → cs ≡ latest_changes f ds
told_first f [] cs h = cc h
told_first f (d ∷ ds) cs h = let e : cs ≡ f d = cc h in e

pub told_nothing : (f : Step → Changes) (ds : List Step) → None ≡ option_map f (latest_step ds) → ds ≡ []
told_nothing f [] h = refl
told_nothing f (d ∷ ds) h = cc h

-- ---- what comes and what goes

pub coming_first : (a : Addr) (o : Option Content) (S : Cells) → and_content a o S ≡ and_content a o [] ++ S
coming_first a (Some c) S = refl
coming_first a None S = refl

pub going_first : (a : Addr) (o : Option Content) (ps : List Addr) → and_address a o ps ≡ and_address a o [] ++ ps
going_first a (Some c) ps = refl
going_first a None ps = refl

-- ---- the others are cleared one by one

-- so many are cleared, and the others are left
pub record Clearing (places rest : List Addr) (old new : View) : Type 0 where
  pub sheet : without_these (sheet_of new) rest ≡ without_these (sheet_of old) places
  pub touched : new.touched ++ cleared (sheet_of new) rest ≡ old.touched ++ cleared (sheet_of old) places
  pub tables : new.tables ≡ old.tables
  pub made_for : new.version ≡ old.version

pub one_cleared : (places rest : List Addr) (a : Addr) (old mid new : View) → Clearing places (a ∷ rest) old mid → sheet_of new ≡ without (sheet_of mid) (single a) → new.touched ≡ mid.touched ++ places_in (sheet_of mid) (single a)
    → new.tables ≡ mid.tables → new.version ≡ mid.version → Clearing places rest old new
one_cleared places rest a old mid new h s t b v = record {
  sheet = ap (λ (S : Cells). without_these S rest) s ∙ h.sheet;
  touched =
      ap (λ (ps : List Addr). ps ++ cleared (sheet_of new) rest) t ∙ append_assoc mid.touched (places_in (sheet_of mid) (single a)) (cleared (sheet_of new) rest)
      ∙ ap (λ (S : Cells). mid.touched ++ (places_in (sheet_of mid) (single a) ++ cleared S rest)) s ∙ h.touched;
  tables = b ∙ h.tables;
  made_for = v ∙ h.made_for;
}

pub all_cleared : (places : List Addr) (old new : View) → Clearing places [] old new → Marks (cleared (sheet_of old) places) old new
all_cleared places old new h = record { tables = h.tables; made_for = h.made_for; touched = sym (append-nil new.touched) ∙ h.touched }

-- ---- both

module _ (cs : Changes) (old mid new : View) (o : IsSheet (sheet_of old)) (d : AreDistinct (plain_places cs)) (put : sheet_of mid ≡ with_contents (sheet_of old) (coming cs)) (gone : sheet_of new ≡ without_these (sheet_of mid) (going cs)) where
  pub restored_sheet : sheet_of new ≡ with_changes (sheet_of old) cs
  restored_sheet = gone ∙ ap (λ (S : Cells). without_these S (going cs)) put ∙ put_and_cleared (sheet_of old) cs o d

  pub restored_marks : mid.tables ≡ old.tables → mid.version ≡ old.version → mid.touched ≡ old.touched ++ map (λ (c : Addr × Content). c.0) (coming cs) → Marks (cleared (sheet_of mid) (going cs)) mid new → Marks (touched_by_all (sheet_of old) cs) old new
  restored_marks b v t m = record {
    tables = m.tables ∙ b;
    made_for = m.made_for ∙ v;
    touched =
        m.touched ∙ ap (λ (ps : List Addr). ps ++ cleared (sheet_of mid) (going cs)) t ∙ append_assoc old.touched (map (λ (c : Addr × Content). c.0) (coming cs)) (cleared (sheet_of mid) (going cs))
        ∙ ap (λ (S : Cells). old.touched ++ (map (λ (c : Addr × Content). c.0) (coming cs) ++ cleared S (going cs))) put;
  }

-- ---- whether it is a replica

pub alone : (x : Script) → is_some x.replica ≡ false → x.replica ≡ None
alone x h = by x.replica refl h
  where
    by : (o : Option ReplicaValue) → x.replica ≡ o → is_some o ≡ false → x.replica ≡ None
    by None e k = e
    by (Some r) e k = absurd (cc k)

pub some_replica : (x : Script) → is_some x.replica ≡ true → (r : Replica) × ((script_of x).replica ≡ Some r)
some_replica x h = by x.replica refl h
  where
    by : (o : Option ReplicaValue) → x.replica ≡ o → is_some o ≡ true → (r : Replica) × ((script_of x).replica ≡ Some r)
    by None e k = absurd (cc k)
    by (Some r) e k = (replica_tree r, ap (option_map replica_tree) e)
