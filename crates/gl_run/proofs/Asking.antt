-- What is asked of a line, and what is done.
use Rattle.std.proofs.Common.{◌≡◌, ◌∙◌, ℕ, [], true, Result, IfOk, Vec, Global, Option, Some, None, refl, sym, ap, subst}
use Rattle.std.specs.Prelude.{codes}
use Rattle.std.proofs.lemmas.Result.{IfOk-weaker}
use Rattle.gl_calculus.specs.Grid.Grid.{Addr}
use Rattle.gl_calculus.specs.Formulas.Formula.{Version, Cells, content}
use Rattle.gl_language.specs.Texts.Text.{Bytes}
use Rattle.gl_protocol.specs.Framing.Framing.{Line}
use Rattle.gl_protocol.specs.Framing.Header.{payload_len}
use Rattle.gl_protocol.specs.Replies.Tables.{line}
use Rattle.gl_protocol.specs.Scripts.Commands as C
use Rattle.gl_protocol.specs.Scripts.Commands.{Read, Is, Not, ReadsLine, error_line, get_text, list_text}
use Rattle.gl_protocol.specs.Scripts.Script.{Script, change, is_change, merge}
use Rattle.gl_calculus.specs.Forecast.{IsForecast}
use Rattle.gl_protocol.specs.Scripts.Acts as T
use Rattle.gl_protocol.specs.Scripts.Acts.{Does, Acts}
use Rattle.gl_protocol.specs.Run.Records.{csv_records}
use Rattle.gl_calculus.specs.Edits.Replicas.{Edit, Replica}
use Rattle.gl_run.specs.Changed.{IsChanged}
use Rattle.gl_run.specs.Merged.{IsMerged, IsExport}
use Rattle.gl_run.specs.Replies.{IsProperRequest, TellsForecast}
use Rattle.gl_script.specs.Command.{Asks}
use Rattle.gl_script.specs.declared.requests.Request.{Request}
use Rattle.gl_script.specs.declared.requests.Request.TheVariants as r

-- each line that asks this is answered so
abbrev pub AnswersAll : Version → Script → Script → Request → Bytes → Type 0
AnswersAll version s s' q reply = (l : Bytes) → payload_len l ≡ None → Asks l q → Acts csv_records version s (Line l) s' reply

module _ (version : Version) (s s' : Script) (q z : Request) (x : C.Request) (is : q ≡ z) (reads : (l : Bytes) → Asks l z → ReadsLine l (Is x)) where
  pub answers_all : (reply : Bytes) → Does csv_records version s x s' reply → AnswersAll version s s' q reply
  answers_all reply does l none h = T.Acts.request (reads l (subst (λ (y : Request). Asks l y) is h)) does

  pub if_done : {E : Type 0} (result : Result (Vec ℕ Global) E) → IfOk result (λ reply. Does csv_records version s x s' reply.items) → IfOk result (λ reply. AnswersAll version s s' q reply.items)
  if_done {E} result h =
      let P : Vec ℕ Global → Type 0 = λ reply. Does csv_records version s x s' reply.items in
      let Q : Vec ℕ Global → Type 0 = λ reply. AnswersAll version s s' q reply.items in
      IfOk-weaker result P Q (λ reply d. answers_all reply.items d) h

  -- what is done in every version
  pub if_done_always : {E : Type 0} (result : Result (Vec ℕ Global) E) → IfOk result (λ reply. (v : Version) → Does csv_records v s x s' reply.items) → IfOk result (λ reply. AnswersAll version s s' q reply.items)
  if_done_always {E} result h =
      let P : Vec ℕ Global → Type 0 = λ reply. (v : Version) → Does csv_records v s x s' reply.items in
      let Q : Vec ℕ Global → Type 0 = λ reply. AnswersAll version s s' q reply.items in
      IfOk-weaker result P Q (λ reply d. answers_all reply.items (d version)) h

  -- what is said of the reply alone
  pub if_said : {E : Type 0} (result : Result (Vec ℕ Global) E) (said : Bytes) → Does csv_records version s x s' said → IfOk result (λ reply. reply.items ≡ said) → IfOk result (λ reply. AnswersAll version s s' q reply.items)
  if_said {E} result said does h =
      let P : Vec ℕ Global → Type 0 = λ reply. reply.items ≡ said in
      let Q : Vec ℕ Global → Type 0 = λ reply. AnswersAll version s s' q reply.items in
      IfOk-weaker result P Q (λ reply e. answers_all reply.items (subst (λ y. Does csv_records version s x s' y) (sym e) does)) h

pub nothing_done : (version : Version) (s : Script) (reply : Bytes) → reply ≡ [] → Does csv_records version s C.Request.Nothing s reply
nothing_done version s reply e = subst (λ y. Does csv_records version s C.Request.Nothing s y) (sym e) T.Does.nothing

pub get_done : (version : Version) (s : Script) (U : Cells) (a : Addr) → U ≡ s.sheet → Does csv_records version s (C.Request.Get a) s (line (get_text (content U a)))
get_done version s U a e = subst (λ Z. Does csv_records version s (C.Request.Get a) s (line (get_text (content Z a)))) (sym e) T.Does.get

pub list_done : (version : Version) (s : Script) (U : Cells) → U ≡ s.sheet → Does csv_records version s C.Request.ListAll s (list_text version U)
list_done version s U e = subst (λ Z. Does csv_records version s C.Request.ListAll s (list_text version Z)) (sym e) T.Does.list

pub quit_done : (version : Version) (s : Script) → Does csv_records version s C.Request.Quit s (line (codes "bye"))
quit_done version s = T.Does.quit

pub flow_done : (version : Version) (s : Script) (S : Cells) (reply : Bytes) → S ≡ s.sheet → TellsForecast S reply → Does csv_records version s C.Request.Flow s reply
flow_done version s S reply e (f, is, r) = subst (λ y. Does csv_records version s C.Request.Flow s y) (sym r) (T.Does.flow (subst (λ Z. IsForecast Z f) e is))

-- ---- what may change the state

pub changed_does : (version : Version) (s s' : Script) (x : C.Request) (reply : Bytes) → is_change x ≡ true → IsChanged (change s x) s s' reply → Does csv_records version s x s' reply
changed_does version s s' x reply is h = by (change s x) refl h
  where
    by : (r : Read Script) → change s x ≡ r → IsChanged r s s' reply → Does csv_records version s x s' reply
    by (Is t) e k = subst (λ y. Does csv_records version s x s' y) (sym k.1) (T.Does.changed is (T.Leaves.left (e ∙ ap (λ (z : Script). Is z) (sym k.0))))
    by (Not w) e k =
        subst (λ y. Does csv_records version s x s' y) (sym k.1)
        (subst (λ z. Does csv_records version s x z (error_line w)) (sym k.0) (T.Does.changed is (T.Leaves.kept e)))

pub merged_does : (version : Version) (s s' : Script) (d : Edit) (reply : Bytes) → IsMerged s d s' reply → Does csv_records version s (C.Request.Merge d) s' reply
merged_does version s s' d reply h = by (merge s d h.0) refl h.2
  where
    by : (r : Read Script) → merge s d h.0 ≡ r → IsChanged r s s' reply → Does csv_records version s (C.Request.Merge d) s' reply
    by (Is t) e k = subst (λ y. Does csv_records version s (C.Request.Merge d) s' y) (sym k.1) (T.Does.merged h.0 h.1 (T.Leaves.left (e ∙ ap (λ (z : Script). Is z) (sym k.0))))
    by (Not w) e k =
        subst (λ y. Does csv_records version s (C.Request.Merge d) s' y) (sym k.1)
        (subst (λ z. Does csv_records version s (C.Request.Merge d) z (error_line w)) (sym k.0) (T.Does.merged h.0 h.1 (T.Leaves.kept e)))

pub export_does : (version : Version) (s : Script) (reply : Bytes) → IsExport s reply → Does csv_records version s C.Request.Export s reply
export_does version s reply h = by s.replica refl h
  where
    by : (o : Option Replica) → s.replica ≡ o → IsExport (record s { replica = o }) reply → Does csv_records version s C.Request.Export s reply
    by (Some r) e k = subst (λ y. Does csv_records version s C.Request.Export s y) (sym k) (T.Does.export r e)
    by None e k = subst (λ y. Does csv_records version s C.Request.Export s y) (sym k) (T.Does.export_alone e)

-- the version line is refused
pub version_refused : {E : Type 0} (version : Version) (s : Script) (q : Request) (result : Result (Vec ℕ Global) E) → q ≡ r.Version → IfOk result (λ reply. reply.items ≡ error_line (codes "command")) → IfOk result (λ reply. AnswersAll version s s q reply.items)
version_refused {E} version s q result is h =
    let P : Vec ℕ Global → Type 0 = λ reply. reply.items ≡ error_line (codes "command") in
    let Q : Vec ℕ Global → Type 0 = λ reply. AnswersAll version s s q reply.items in
    IfOk-weaker result P Q (λ reply e l none k. subst (λ y. Acts csv_records version s (Line l) s y) (sym e) (T.Acts.refused (subst (λ (y : Request). Asks l y) is k).1)) h

-- ---- the same of a reply, where there is one

module _ {E : Type 0} (version : Version) (s s' : Script) (q z : Request) (result : Result (Vec ℕ Global) E) (is : q ≡ z) where
  pub if_changed : (x : C.Request) → ((l : Bytes) → Asks l z → ReadsLine l (Is x)) → is_change x ≡ true → IfOk result (λ reply. IsChanged (change s x) s s' reply.items) → IfOk result (λ reply. AnswersAll version s s' q reply.items)
  if_changed x reads one h =
      let P : Vec ℕ Global → Type 0 = λ reply. IsChanged (change s x) s s' reply.items in
      let Q : Vec ℕ Global → Type 0 = λ reply. AnswersAll version s s' q reply.items in
      IfOk-weaker result P Q (λ reply d. answers_all version s s' q z x is reads reply.items (changed_does version s s' x reply.items one d)) h

  pub if_merged : (d : Edit) → ((l : Bytes) → Asks l z → ReadsLine l (Is (C.Request.Merge d))) → IfOk result (λ reply. IsMerged s d s' reply.items) → IfOk result (λ reply. AnswersAll version s s' q reply.items)
  if_merged d reads h =
      let P : Vec ℕ Global → Type 0 = λ reply. IsMerged s d s' reply.items in
      let Q : Vec ℕ Global → Type 0 = λ reply. AnswersAll version s s' q reply.items in
      IfOk-weaker result P Q (λ reply k. answers_all version s s' q z (C.Request.Merge d) is reads reply.items (merged_does version s s' d reply.items k)) h

pub if_exported : {E : Type 0} (version : Version) (s : Script) (q z : Request) (result : Result (Vec ℕ Global) E) → q ≡ z → ((l : Bytes) → Asks l z → ReadsLine l (Is C.Request.Export)) → IfOk result (λ reply. IsExport s reply.items) → IfOk result (λ reply. AnswersAll version s s q reply.items)
if_exported {E} version s q z result is reads h =
    let P : Vec ℕ Global → Type 0 = λ reply. IsExport s reply.items in
    let Q : Vec ℕ Global → Type 0 = λ reply. AnswersAll version s s q reply.items in
    IfOk-weaker result P Q (λ reply k. answers_all version s s q z C.Request.Export is reads reply.items (export_does version s reply.items k)) h

-- what is asked is proper
pub asked_proper : (l : Bytes) (q : Request) → Asks l q → IsProperRequest q
asked_proper l (r.Set a c) h = h.1
asked_proper l (r.Edit t n a c) h = (h.1, h.2)
asked_proper l r.Nothing h = tt
asked_proper l (r.Clear x) h = tt
asked_proper l (r.Show a) h = tt
asked_proper l (r.View x) h = tt
asked_proper l (r.Get a) h = tt
asked_proper l r.List h = tt
asked_proper l r.Calc h = tt
asked_proper l r.Oracle h = tt
asked_proper l (r.Why a) h = tt
asked_proper l (r.Explain a) h = tt
asked_proper l (r.Import a n) h = tt
asked_proper l r.Version h = tt
asked_proper l r.Quit h = tt
asked_proper l (r.Site n) h = tt
asked_proper l r.Export h = tt
asked_proper l r.Undo h = tt
asked_proper l r.Redo h = tt
asked_proper l r.Flow h = tt
