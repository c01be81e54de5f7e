-- Every state that a script leads to is kept so.
use Rattle.std.proofs.Common.{◌≡◌, ◌∙◌, ℕ, ◌≤◌, true, List, [], ◌∷◌, map, filter, Option, Some, None, refl, sym, subst, ap, arith, IsTrue}
use Rattle.std.proofs.lemmas.Bool.Decides.{nat_tests}
use Rattle.std.proofs.lemmas.Grind.{common_steps}
use Rattle.gl_calculus.specs.Grid.Grid.{Addr, Range, covers, AreInOrder}
use Rattle.gl_calculus.specs.Formulas.Formula.{Version, Content, Cells, IsSheet}
use Rattle.gl_language.specs.Texts.Text.{Bytes}
use Rattle.gl_calculus.specs.Edits.Limits.{max_time}
use Rattle.gl_calculus.specs.Edits.Replicas.{Changes, is_stamp}
use Rattle.gl_protocol.specs.Framing.Framing.{Item}
use Rattle.gl_protocol.specs.Scripts.Commands as C
use Rattle.gl_protocol.specs.Scripts.Commands.{Is, Request, ReadsLine, allowed, without_mark}
use Rattle.gl_calculus.specs.Edits.Sheets.{with_content, with_contents, without}
use Rattle.gl_protocol.specs.Scripts.Script.{Script, new_script, is_change, change}
use Rattle.gl_calculus.specs.Edits.Sheets.{settings, removals}
use Rattle.gl_protocol.specs.Scripts.Acts as T
use Rattle.gl_protocol.specs.Scripts.Acts.{Does, Acts}
use Rattle.gl_protocol.specs.Scripts.Output as O
use Rattle.gl_protocol.specs.Scripts.Output.{Runs}
use Rattle.laws_protocol.proofs.Scripts.Rising.{imported_rise}
use Rattle.laws_calculus.proofs.SheetEdits.SheetOrders.{order_filter}
use Rattle.laws_calculus.proofs.SheetEdits.TakenBack.{contents_are_changes, cleared_by_removals}
use Rattle.laws_protocol.specs.Replies.{ScriptsKeepSheets}
use Rattle.laws_protocol.specs.States.{IsGood, IsState, ActsKeepStates, ScriptsKeepStates}
use Rattle.laws_protocol.proofs.Scripts.Contents.{set_proper, merged_proper, imported_proper}
use Rattle.laws_protocol.proofs.Scripts.Kept.{good_set, good_sets, good_without, edited_state, sited_state, undone_state, redone_state, merged_state}
use Rattle.laws_protocol.proofs.Scripts.Sizes.{allowed_is}

is_cells : (S T : Cells) → Is S ≡ Is T → S ≡ T
is_cells S T h = cc h

-- ---- the addresses of an edit rise

abbrev change_places : Changes → List Addr
change_places cs = map (λ (c : Addr × Option Content). c.0) cs

set_rise : (cs : Cells) → change_places (settings cs) ≡ map (λ (c : Addr × Content). c.0) cs
set_rise [] = refl
set_rise (c ∷ cs) = ap (λ (bs : List Addr). c.0 ∷ bs) (set_rise cs)

removed_rise : (S : Cells) → change_places (map (λ (c : Addr × Content). (c.0, None)) S) ≡ map (λ (c : Addr × Content). c.0) S
removed_rise [] = refl
removed_rise (c ∷ S) = ap (λ (bs : List Addr). c.0 ∷ bs) (removed_rise S)

pub settings_rise : (cs : Cells) → IsSheet cs → AreInOrder (change_places (settings cs))
settings_rise cs o = subst AreInOrder (sym (set_rise cs)) o

pub removals_rise : (S : Cells) (r : Range) → IsSheet S → AreInOrder (change_places (removals S r))
removals_rise S r o = subst AreInOrder (sym (removed_rise (filter (λ (c : Addr × Content). covers r c.0) S))) (order_filter (λ (c : Addr × Content). covers r c.0) S o)

stamp_time : (t n : ℕ) → IsTrue (is_stamp t n) → t ≤ max_time
stamp_time t n h = grind (arith, common_steps, nat_tests)

module _ (records : Bytes → List (List Bytes)) (version : Version) (s : Script) where
  change_keeps : (l : Bytes) (x : Request) (s' : Script) → IsState s → ReadsLine l (Is x) → is_change x ≡ true → change s x ≡ Is s' → IsState s'
  change_keeps l (C.Request.Set a c) s' h q t k =
      edited_state s ((a, Some c) ∷ []) (allowed (with_content s.sheet a c)) s' h tt
      (λ U e. (good_set s.sheet U a c h.sheet (set_proper l a c q) e, sym (allowed_is (with_content s.sheet a c) U e).0)) k
  change_keeps l (C.Request.Clear r) s' h q t k =
      edited_state s (removals s.sheet r) (Is (without s.sheet r)) s' h (removals_rise s.sheet r h.sheet.ordered)
      (λ U e. let same : without s.sheet r ≡ U = is_cells (without s.sheet r) U e in (subst IsGood same (good_without s.sheet r h.sheet), sym same ∙ cleared_by_removals s.sheet r h.sheet.ordered)) k
  change_keeps l (C.Request.Site n) s' h q t k = sited_state s n s' k
  change_keeps l C.Request.Undo s' h q t k = undone_state s s' h k
  change_keeps l C.Request.Redo s' h q t k = redone_state s s' h k
  change_keeps l C.Request.Nothing s' h q t k = cc t
  change_keeps l C.Request.ListAll s' h q t k = cc t
  change_keeps l C.Request.Calculate s' h q t k = cc t
  change_keeps l C.Request.ShowOracle s' h q t k = cc t
  change_keeps l C.Request.Quit s' h q t k = cc t
  change_keeps l C.Request.Export s' h q t k = cc t
  change_keeps l C.Request.Flow s' h q t k = cc t
  change_keeps l (C.Request.View x) s' h q t k = cc t
  change_keeps l (C.Request.Show a) s' h q t k = cc t
  change_keeps l (C.Request.Get a) s' h q t k = cc t
  change_keeps l (C.Request.Why a) s' h q t k = cc t
  change_keeps l (C.Request.Explain a) s' h q t k = cc t
  change_keeps l (C.Request.Merge e) s' h q t k = cc t

  does_keep : (l : Bytes) {x : Request} {s' : Script} {r : Bytes} → IsState s → ReadsLine l (Is x) → Does records version s x s' r → IsState s'
  does_keep l h q T.Does.nothing = h
  does_keep l h q (T.Does.changed {x = x} t (T.Leaves.left {s' = s'} k)) = change_keeps l x s' h q t k
  does_keep l h q (T.Does.changed t (T.Leaves.kept k)) = h
  does_keep l h q (T.Does.merged {e = e} j i (T.Leaves.left {s' = s'} k)) =
      let p = merged_proper l e q in
      merged_state s e s' h (stamp_time e.stamp.time e.stamp.site p.0) j p.1 i k
  does_keep l h q (T.Does.merged j i (T.Leaves.kept k)) = h
  does_keep l h q T.Does.get = h
  does_keep l h q T.Does.list = h
  does_keep l h q (T.Does.export r e) = h
  does_keep l h q (T.Does.export_alone e) = h
  does_keep l h q (T.Does.flow f) = h
  does_keep l h q T.Does.quit = h
  does_keep l h q (T.Does.settled a k) = h
  does_keep l h q (T.Does.spent t a) = h

  acts_keep : {x : Item} {s' : Script} {r : Bytes} → IsState s → Acts records version s x s' r → IsState s'
  acts_keep h (T.Acts.request {l = l} q d) = does_keep l h q d
  acts_keep h (T.Acts.refused q) = h
  acts_keep h T.Acts.long = h
  acts_keep h T.Acts.truncated = h
  acts_keep h (T.Acts.import {p = p} place n a ws at_place (T.Imports.contents cs read (T.Leaves.left {s' = s'} k))) =
      edited_state s (settings cs) (allowed (with_contents s.sheet cs)) s' h (settings_rise cs (imported_rise a (records (without_mark p)) cs read))
      (λ U e. (good_sets s.sheet U cs h.sheet (imported_proper a (records (without_mark p)) cs read) e, sym (allowed_is (with_contents s.sheet cs) U e).0 ∙ contents_are_changes cs s.sheet)) k
  acts_keep h (T.Acts.import_place place n ws none) = h
  acts_keep h (T.Acts.import place n a ws at_place (T.Imports.fault read)) = h
  acts_keep h (T.Acts.import place n a ws at_place (T.Imports.contents cs read (T.Leaves.kept over))) = h

pub acts_keep_states : ActsKeepStates
acts_keep_states records version s s' x r h a = acts_keep records version s h a

-- ---- scripts

pub run_keeps : (records : Bytes → List (List Bytes)) (version : Version) {s t : Script} {is : List Item} {rs : List Bytes} → IsState s → Runs records version s is t rs → IsState t
run_keeps records version h O.Runs.no_more = h
run_keeps records version {s = s} h (O.Runs.item a r) = run_keeps records version (acts_keep records version s h a) r

pub new_state : IsState new_script
new_state = record {
  sheet = record { ordered = tt; proper = λ a c e. cc e; small = (omega arith, omega arith) };
  back = tt;
  on = tt;
  few = omega arith;
  replica = tt;
}

pub scripts_keep_states : ScriptsKeepStates
scripts_keep_states records version is s rs r = run_keeps records version new_state r

pub scripts_keep_sheets : ScriptsKeepSheets
scripts_keep_sheets records version is s rs r = let g = (run_keeps records version new_state r).sheet in (g.ordered, g.proper, g.small)
