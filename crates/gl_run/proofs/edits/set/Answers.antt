use Rattle.std.proofs.Common.{rules, ℕ, [], ◌∷◌, Some, Vec, Global, IfOk, sym, ap, subst}
use Rattle.std.proofs.lemmas.Result.{IfOk-weaker}
use Rattle.gl_calculus.specs.Grid.Grid.{AreInOrder}
use Rattle.gl_calculus.specs.Edits.Replicas.{Changes}
use Rattle.gl_protocol.specs.Scripts.Commands as C
use Rattle.gl_protocol.specs.Scripts.Commands.{allowed}
use Rattle.gl_calculus.specs.Edits.Sheets.{with_content}
use Rattle.gl_protocol.specs.Scripts.Script as P
use Rattle.gl_protocol.specs.Scripts.Script.{change}
use Rattle.gl_cells.specs.Content.{content_tree}
use Rattle.gl_run.specs.Changed.{IsChanged}
use Rattle.gl_protocol.specs.Run.Known.{Known}
use Rattle.gl_run.specs.Ready.{IsReady, IsRefusedBy, local_word, places}
use Rattle.gl_run.specs.Replies.{IsRefusal}
use Rattle.gl_run.specs.Script.{known_of, script_of}
use Rattle.gl_protocol.specs.Run.Spends.{Touches}
use Rattle.gl_run.proofs.Readying.{refused_changed}
use Rattle.gl_run.proofs.Spending.{touches_kept}
use Rattle.gl_run.proofs.edits.set.Goals as goal

pub prepare-requires-clause-ordered : goal.prepare-requires-clause-ordered
prepare-requires-clause-ordered c = subst (λ (cs : Changes). AreInOrder (places cs)) (sym c.in_ok-list.ensures.value) tt

pub put_ready-requires-clause-ready : goal.put_ready-requires-clause-ready
put_ready-requires-clause-ready c = subst (λ (cs : Changes). IsReady c.prepare.new.script cs c.in-Ok.ready) c.in_ok-list.ensures.value c.in-Ok.ensures.ready

pub returns-in-Ok : goal.returns-in-Ok
returns-in-Ok c =
    let x = C.Request.Set c.args.a (content_tree c.args.content) in
    let same = ap (λ (K : Known). K.script) c.in-Ok.ensures.known in
    record {
      does = subst (λ (s : P.Script). IfOk c.put_ready.result (λ reply. IsChanged (change s x) s (script_of c.put_ready.new.script) reply.items)) same c.put_ready.ensures.does;
      touches = subst (λ (K : Known). IfOk c.put_ready.result (λ reply. Touches reply.items (c.args.a ∷ []) K (known_of c.put_ready.new.script))) c.in-Ok.ensures.known c.put_ready.ensures.touches;
      err = search rules;
    }

pub returns-in-Err : goal.returns-in-Err
returns-in-Err c =
    let s = script_of c.args.script.now in
    let s' = script_of c.prepare.new.script in
    let tree = content_tree c.args.content in
    let o = local_word c.in-Err.fault in
    let refused : IsRefusedBy o s' ((c.args.a, Some tree) ∷ []) = subst (λ (cs : Changes). IsRefusedBy o s' cs) c.in_ok-list.ensures.value c.in-Err.ensures.ready in
    let W : Vec ℕ Global → Type 0 = λ reply. IsRefusal o reply.items in
    let Q : Vec ℕ Global → Type 0 = λ reply. IsChanged (change s (C.Request.Set c.args.a tree)) s s' reply.items in
    let K = known_of c.args.script.now in
    let K' = known_of c.prepare.new.script in
    let T : Vec ℕ Global → Type 0 = λ reply. Touches reply.items (c.args.a ∷ []) K K' in
    record {
      does = IfOk-weaker c.local_refusal.result W Q
          (λ reply p. refused_changed o s s' ((c.args.a, Some tree) ∷ []) (allowed (with_content s.sheet c.args.a tree)) reply.items (ap (λ (K : Known). K.script) c.in-Err.ensures.known) refused p) c.local_refusal.ensures;
      touches = IfOk-weaker c.local_refusal.result W T (λ reply p. touches_kept (c.args.a ∷ []) K K' c.in-Err.ensures.known o reply.items p) c.local_refusal.ensures;
      err = search rules;
    }
