use Rattle.std.specs.Prelude.{codes}
use Rattle.std.proofs.Common.{rules, ◌≡◌, ◌∙◌, ℕ, Some, Vec, Global, option_map, refl, sym, ap, subst}
use Rattle.std.proofs.lemmas.Result.{IfOk-weaker}
use Rattle.gl_calculus.specs.Edits.Steps.{afters}
use Rattle.gl_protocol.specs.Scripts.Commands as C
use Rattle.gl_protocol.specs.Scripts.Commands.{error_line}
use Rattle.gl_protocol.specs.Scripts.Script.{change}
use Rattle.gl_merge.specs.Replica.{replica_tree}
use Rattle.gl_calc.specs.View.{sheet_of}
use Rattle.laws_protocol.specs.Rooms.{HasRoom}
use Rattle.gl_undo.specs.View.{changes_tree}
use Rattle.gl_undo.specs.History.{undone}
use Rattle.gl_run.specs.Changed.{IsChanged}
use Rattle.gl_run.specs.Script.{known_of, script_of}
use Rattle.gl_protocol.specs.Run.Spends.{Touches}
use Rattle.gl_protocol.specs.Run.Touched.{touched_by}
use Rattle.gl_run.proofs.Keeping.{can_redo}
use Rattle.gl_run.proofs.Spending.{touches_kept}
use Rattle.gl_run.proofs.Stepping.{alone, some_replica, told_first, told_nothing, redo_in_replica, redo_nothing}
use Rattle.gl_run.proofs.undoing.redo.Goals as goal

pub returns-then-is_some : goal.returns-then-is_some
returns-then-is_some c =
    let x = c.args.script.now in
    let s = script_of x in
    let r = some_replica x (sym c.is_some.ensures ∙ c.if-is_some.true) in
    let W : Vec ℕ Global → Type 0 = λ reply. reply.items ≡ error_line (codes "site") in
    let Q : Vec ℕ Global → Type 0 = λ reply. IsChanged (change s C.Request.Redo) s s reply.items in
    let K = known_of c.args.script.now in
    let ps = touched_by K.script C.Request.Redo in
    let T : Vec ℕ Global → Type 0 = λ reply. Touches reply.items ps K K in
    record {
      does = IfOk-weaker c.error_line.result W Q (λ reply p. redo_in_replica s r.0 reply.items r.1 p) c.error_line.ensures;
      touches = IfOk-weaker c.error_line.result W T (λ reply p. touches_kept ps K K refl (Some (codes "site")) reply.items p) c.error_line.ensures;
      err = search rules;
    }

pub redo_step-requires : goal.redo_step-requires
redo_step-requires c =
    let x = c.args.script.now in
    record {
      alone = alone x (sym c.is_some.ensures ∙ c.if-is_some.false);
      left = rw c.in-Ok-Some.field-0-is at c.in-Ok-Some.ensures.left;
      changes = told_first afters (undone x.history) (changes_tree c.in-Ok-Some.list.items) (rw c.in-Ok-Some.field-0-is at c.in-Ok-Some.ensures.value);
      apart = rw c.in-Ok-Some.field-0-is at c.in-Ok-Some.ensures.apart;
      proper = rw c.in-Ok-Some.field-0-is at c.in-Ok-Some.ensures.proper;
      room = subst (HasRoom (sheet_of x.calc)) (sym (told_first afters (undone x.history) (changes_tree c.in-Ok-Some.list.items) (rw c.in-Ok-Some.field-0-is at c.in-Ok-Some.ensures.value))) (can_redo (script_of x) c.requires (rw c.in-Ok-Some.field-0-is at c.in-Ok-Some.ensures.left));
    }

pub returns-in-Ok-None : goal.returns-in-Ok-None
returns-in-Ok-None c =
    let x = c.args.script.now in
    let s = script_of x in
    let none = told_nothing afters (undone x.history) (rw c.in-Ok-None.field-0-is at c.in-Ok-None.ensures.value) in
    let W : Vec ℕ Global → Type 0 = λ reply. reply.items ≡ error_line (codes "redo") in
    let Q : Vec ℕ Global → Type 0 = λ reply. IsChanged (change s C.Request.Redo) s s reply.items in
    let K = known_of c.args.script.now in
    let ps = touched_by K.script C.Request.Redo in
    let T : Vec ℕ Global → Type 0 = λ reply. Touches reply.items ps K K in
    record {
      does = IfOk-weaker c.error_line-in-Ok-None.result W Q (λ reply p. redo_nothing s reply.items (ap (option_map replica_tree) (alone x (sym c.is_some.ensures ∙ c.if-is_some.false))) none p) c.error_line-in-Ok-None.ensures;
      touches = IfOk-weaker c.error_line-in-Ok-None.result W T (λ reply p. touches_kept ps K K refl (Some (codes "redo")) reply.items p) c.error_line-in-Ok-None.ensures;
      err = search rules;
    }
