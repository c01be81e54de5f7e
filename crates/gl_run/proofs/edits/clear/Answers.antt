use Rattle.std.proofs.Common.{rules, ◌≡◌, ◌∙◌, ℕ, Vec, Global, IfOk, sym, ap, subst}
use Rattle.std.proofs.lemmas.Result.{IfOk-weaker}
use Rattle.gl_calculus.specs.Formulas.Formula.{Cells}
use Rattle.gl_calculus.specs.Grid.Grid.{AreInOrder}
use Rattle.gl_calculus.specs.Edits.Replicas.{Changes}
use Rattle.gl_protocol.specs.Scripts.Commands as C
use Rattle.gl_protocol.specs.Scripts.Commands.{Is}
use Rattle.gl_calculus.specs.Edits.Sheets.{places_in, without}
use Rattle.gl_protocol.specs.Scripts.Script as P
use Rattle.gl_protocol.specs.Scripts.Script.{change}
use Rattle.gl_calculus.specs.Edits.Sheets.{removals}
use Rattle.gl_cells.specs.Sheet.{sheet}
use Rattle.gl_calc.specs.View.{sheet_of}
use Rattle.gl_run.specs.Changed.{IsChanged}
use Rattle.gl_protocol.specs.Run.Known.{Known}
use Rattle.gl_run.specs.Ready.{IsReady, IsRefusedBy, local_word, places}
use Rattle.gl_run.specs.Replies.{IsRefusal}
use Rattle.gl_run.specs.Script.{known_of, script_of}
use Rattle.gl_protocol.specs.Run.Spends.{Touches}
use Rattle.gl_run.proofs.Readying.{refused_changed}
use Rattle.gl_run.proofs.Spending.{touches_kept}
use Rattle.gl_run.proofs.edits.clear.Goals as goal

pub prepare-requires-clause-ordered : goal.prepare-requires-clause-ordered
prepare-requires-clause-ordered c = subst (λ (cs : Changes). AreInOrder (places cs)) (sym c.in_ok-list.ensures.value) c.in_ok-list.ensures.ordered

pub clear_ready-requires : goal.clear_ready-requires
clear_ready-requires c =
    let r = c.args.range.now in
    let mid = c.prepare.new.script in
    let same : sheet c.cells.result.now ≡ sheet_of mid.calc = c.cells.ensures ∙ sym (ap (λ (K : Known). K.script.sheet) c.in-Ok.ensures.known) in
    let value = c.in_ok-list.ensures.value ∙ ap (λ (Z : Cells). removals Z r) same in
    subst (λ (cs : Changes). IsReady mid cs c.in-Ok.ready) value c.in-Ok.ensures.ready

pub returns-in-Ok : goal.returns-in-Ok
returns-in-Ok c =
    let x = C.Request.Clear c.args.range.now in
    let same = ap (λ (K : Known). K.script) c.in-Ok.ensures.known in
    record {
      does = subst (λ (s : P.Script). IfOk c.clear_ready.result (λ reply. IsChanged (change s x) s (script_of c.clear_ready.new.script) reply.items)) same c.clear_ready.ensures.does;
      touches = subst (λ (K : Known). IfOk c.clear_ready.result (λ reply. Touches reply.items (places_in K.script.sheet c.args.range.now) K (known_of c.clear_ready.new.script))) c.in-Ok.ensures.known c.clear_ready.ensures.touches;
      err = search rules;
    }

pub returns-in-Err : goal.returns-in-Err
returns-in-Err c =
    let s = script_of c.args.script.now in
    let s' = script_of c.prepare.new.script in
    let r = c.args.range.now in
    let o = local_word c.in-Err.fault in
    let value = c.in_ok-list.ensures.value ∙ ap (λ (Z : Cells). removals Z r) c.cells.ensures in
    let refused : IsRefusedBy o s' (removals s.sheet r) = subst (λ (cs : Changes). IsRefusedBy o s' cs) value c.in-Err.ensures.ready in
    let W : Vec ℕ Global → Type 0 = λ reply. IsRefusal o reply.items in
    let Q : Vec ℕ Global → Type 0 = λ reply. IsChanged (change s (C.Request.Clear r)) s s' reply.items in
    let K = known_of c.args.script.now in
    let K' = known_of c.prepare.new.script in
    let ps = places_in K.script.sheet c.args.range.now in
    let T : Vec ℕ Global → Type 0 = λ reply. Touches reply.items ps K K' in
    record {
      does = IfOk-weaker c.local_refusal.result W Q
          (λ reply p. refused_changed o s s' (removals s.sheet r) (Is (without s.sheet r)) reply.items (ap (λ (K : Known). K.script) c.in-Err.ensures.known) refused p) c.local_refusal.ensures;
      touches = IfOk-weaker c.local_refusal.result W T (λ reply p. touches_kept ps K K' c.in-Err.ensures.known o reply.items p) c.local_refusal.ensures;
      err = search rules;
    }
