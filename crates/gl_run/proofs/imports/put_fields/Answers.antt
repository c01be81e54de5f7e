use Rattle.std.proofs.Common.{rules, ℕ, map, Vec, Global, IfOk, sym, ap, subst}
use Rattle.std.proofs.lemmas.Result.{IfOk-weaker}
use Rattle.gl_calculus.specs.Grid.Grid.{AreInOrder}
use Rattle.gl_calculus.specs.Edits.Replicas.{Changes}
use Rattle.gl_protocol.specs.Scripts.Commands.{allowed}
use Rattle.gl_calculus.specs.Edits.Sheets.{with_contents}
use Rattle.gl_protocol.specs.Scripts.Script as P
use Rattle.gl_calculus.specs.Edits.Sheets.{settings}
use Rattle.gl_cells.specs.Sheet.{sheet}
use Rattle.gl_run.specs.Changed.{IsChanged, imported_state}
use Rattle.gl_protocol.specs.Run.Known.{Known}
use Rattle.gl_run.specs.Ready.{IsReady, IsRefusedBy, local_word, places}
use Rattle.gl_run.specs.Replies.{IsRefusal}
use Rattle.gl_run.specs.Script.{known_of, script_of}
use Rattle.gl_protocol.specs.Run.Spends.{Touches}
use Rattle.gl_run.proofs.Listed.{order_of_settings}
use Rattle.gl_run.proofs.Readying.{refused_changed}
use Rattle.gl_run.proofs.Spending.{touches_kept}
use Rattle.gl_run.proofs.imports.put_fields.Goals as goal

pub settings-requires : goal.settings-requires
settings-requires c = rw c.deref.ensures.value c.requires.proper

pub prepare-requires-clause-ordered : goal.prepare-requires-clause-ordered
prepare-requires-clause-ordered c = subst (λ (cs : Changes). AreInOrder (places cs)) (sym c.in_ok-changes.ensures.value) (rw c.deref.ensures.value (order_of_settings (sheet c.args.list.items) c.requires.ordered))

pub put_all_ready-requires-clause-ready : goal.put_all_ready-requires-clause-ready
put_all_ready-requires-clause-ready c = subst (λ (cs : Changes). IsReady c.prepare.new.script cs c.in-Ok.ready) (rw c.deref.ensures.value at c.in_ok-changes.ensures.value) c.in-Ok.ensures.ready

pub returns-in-Ok : goal.returns-in-Ok
returns-in-Ok c =
    let same = ap (λ (K : Known). K.script) c.in-Ok.ensures.known in
    record {
      does = subst (λ (s : P.Script). IfOk c.put_all_ready.result (λ reply. IsChanged (imported_state s (sheet c.args.list.items)) s (script_of c.put_all_ready.new.script) reply.items)) same c.put_all_ready.ensures.does;
      touches = subst (λ (K : Known). IfOk c.put_all_ready.result (λ reply. Touches reply.items (map (λ e. e.0) (sheet c.args.list.items)) K (known_of c.put_all_ready.new.script))) c.in-Ok.ensures.known c.put_all_ready.ensures.touches;
      err = search rules;
    }

pub returns-in-Err : goal.returns-in-Err
returns-in-Err c =
    let s = script_of c.args.script.now in
    let s' = script_of c.prepare.new.script in
    let cs = sheet c.args.list.items in
    let o = local_word c.in-Err.fault in
    let value = rw c.deref.ensures.value at c.in_ok-changes.ensures.value in
    let refused : IsRefusedBy o s' (settings cs) = subst (λ (ds : Changes). IsRefusedBy o s' ds) value c.in-Err.ensures.ready in
    let W : Vec ℕ Global → Type 0 = λ reply. IsRefusal o reply.items in
    let Q : Vec ℕ Global → Type 0 = λ reply. IsChanged (imported_state s cs) s s' reply.items in
    let K = known_of c.args.script.now in
    let K' = known_of c.prepare.new.script in
    let ps = map (λ e. e.0) (sheet c.args.list.items) in
    let T : Vec ℕ Global → Type 0 = λ reply. Touches reply.items ps K K' in
    record {
      does = IfOk-weaker c.local_refusal.result W Q
          (λ reply p. refused_changed o s s' (settings cs) (allowed (with_contents s.sheet cs)) reply.items (ap (λ (K : Known). K.script) c.in-Err.ensures.known) refused p) c.local_refusal.ensures;
      touches = IfOk-weaker c.local_refusal.result W T (λ reply p. touches_kept ps K K' c.in-Err.ensures.known o reply.items p) c.local_refusal.ensures;
      err = search rules;
    }
