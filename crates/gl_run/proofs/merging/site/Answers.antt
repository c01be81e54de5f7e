use Rattle.std.specs.Prelude.{codes}
use Rattle.std.proofs.Common.{rules, ◌≡◌, ◌∙◌, ℕ, length, [], Some, Vec, Global, option_map, refl, sym, ap, arith}
use Rattle.std.proofs.lemmas.Result.{IfOk-weaker}
use Rattle.gl_protocol.specs.Scripts.Commands as C
use Rattle.gl_protocol.specs.Scripts.Commands.{error_line}
use Rattle.gl_protocol.specs.Scripts.Script.{change}
use Rattle.gl_merge.specs.Replica.{replica_tree}
use Rattle.gl_undo.specs.History.{history_tree}
use Rattle.gl_run.specs.Changed.{IsChanged}
use Rattle.gl_run.specs.Script.{known_of, script_of}
use Rattle.gl_protocol.specs.Run.Spends.{Touches}
use Rattle.gl_run.proofs.Joining.{site_in_replica, site_too_late, site_done}
use Rattle.gl_run.proofs.Spending.{touches_kept, touches_marks, marks_nothing}
use Rattle.gl_run.proofs.Stepping.{alone, some_replica}
use Rattle.gl_run.proofs.merging.site.Goals as goal

pub returns-then-is_some : goal.returns-then-is_some
returns-then-is_some c =
    let x = c.args.script.now in
    let s = script_of x in
    let r = some_replica x (sym c.is_some.ensures ∙ c.if-is_some.true) in
    let W : Vec ℕ Global → Type 0 = λ reply. reply.items ≡ error_line (codes "site") in
    let Q : Vec ℕ Global → Type 0 = λ reply. IsChanged (change s (C.Request.Site c.args.site)) s s reply.items in
    let K = known_of c.args.script.now in
    let T : Vec ℕ Global → Type 0 = λ reply. Touches reply.items [] K K in
    record {
      does = IfOk-weaker c.error_line.result W Q (λ reply p. site_in_replica s c.args.site r.0 reply.items r.1 p) c.error_line.ensures;
      touches = IfOk-weaker c.error_line.result W T (λ reply p. touches_kept [] K K refl (Some (codes "site")) reply.items p) c.error_line.ensures;
      err = search rules;
    }

pub returns : goal.returns
returns c =
    let x = c.args.script.now in
    let none = alone x (sym c.is_some.ensures ∙ c.if-is_some.false) in
    let z = record x { replica = Some c.new.result; history = c.clear.new.self } in
    record {
      does = site_done (script_of x) c.args.site (replica_tree c.new.result) (history_tree c.clear.new.self) c.in_ok-reply.reply.items (ap (option_map replica_tree) none)
          (omega (arith, c.contents.ensures.count, ap length c.cells.ensures, c.if-contents-gt0.false)) c.new.ensures c.clear.ensures c.in_ok-reply.ensures;
      touches = touches_marks x z [] c.in_ok-reply.reply.items c.in_ok-reply.ensures (marks_nothing x.calc x.calc refl);
      err = tt;
    }

pub returns-then-contents-gt0 : goal.returns-then-contents-gt0
returns-then-contents-gt0 c =
    let x = c.args.script.now in
    let s = script_of x in
    let none = alone x (sym c.is_some.ensures ∙ c.if-is_some.false) in
    let W : Vec ℕ Global → Type 0 = λ reply. reply.items ≡ error_line (codes "site") in
    let Q : Vec ℕ Global → Type 0 = λ reply. IsChanged (change s (C.Request.Site c.args.site)) s s reply.items in
    let K = known_of c.args.script.now in
    let T : Vec ℕ Global → Type 0 = λ reply. Touches reply.items [] K K in
    record {
      does = IfOk-weaker c.error_line-then-contents-gt0.result W Q (λ reply p. site_too_late s c.args.site reply.items (ap (option_map replica_tree) none) (omega (arith, c.contents.ensures.count, ap length c.cells.ensures, c.if-contents-gt0.true)) p) c.error_line-then-contents-gt0.ensures;
      touches = IfOk-weaker c.error_line-then-contents-gt0.result W T (λ reply p. touches_kept [] K K refl (Some (codes "site")) reply.items p) c.error_line-then-contents-gt0.ensures;
      err = search rules;
    }
