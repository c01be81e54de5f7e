use Rattle.std.proofs.Common.{rules, ℕ, map, Err, Ok, Vec, Global, sym, subst}
use Rattle.std.proofs.lemmas.Result.{IfOk-weaker}
use Rattle.gl_protocol.specs.Scripts.Commands.{allowed}
use Rattle.gl_calculus.specs.Edits.Sheets.{with_contents}
use Rattle.gl_calculus.specs.Edits.Sheets.{settings}
use Rattle.gl_cells.specs.Sheet.{sheet}
use Rattle.gl_calc.specs.View.{View, sheet_of}
use Rattle.gl_run.specs.Changed.{IsChanged, imported_state, Marks}
use Rattle.gl_run.specs.Replies.{IsRefusal, put_word}
use Rattle.gl_run.specs.Script.{known_of, script_of}
use Rattle.gl_protocol.specs.Run.Spends.{Touches}
use Rattle.gl_run.proofs.Editing.{puts_of}
use Rattle.gl_run.proofs.Readying.{can_commit, committed, changed_to, put_changed}
use Rattle.gl_run.proofs.Spending.{touches_by_word, touches_marks}
use Rattle.gl_run.proofs.imports.put_all_ready.Goals as goal

pub commit-requires : goal.commit-requires
commit-requires c = can_commit c.args.script.now (settings (sheet c.args.list.items)) c.put_all.new.self c.args.ready c.requires.ready

pub returns-in-Ok : goal.returns-in-Ok
returns-in-Ok c =
    let x = c.args.script.now in
    let cs = sheet c.args.list.items in
    let S = sheet_of x.calc in
    let goal_sheet = with_contents S cs in
    let s' = script_of c.commit.new.script in
    let done = committed x (settings cs) c.put_all.new.self c.args.ready (allowed goal_sheet) s' c.requires.ready (puts_of S goal_sheet (sheet_of c.put_all.new.self) (Ok tt) c.in-Ok.ensures.sheet) c.commit.ensures.commits in
    let h = c.in-Ok.ensures in
    let ps = map (λ e. e.0) (sheet c.args.list.items) in
    let marks : Marks ps x.calc c.put_all.new.self = record { tables = h.tables; made_for = h.version; touched = h.touched } in
    record {
      does = changed_to (imported_state (script_of x) cs) (script_of x) s' c.in_ok-reply.reply.items done c.in_ok-reply.ensures;
      touches = touches_marks x c.commit.new.script ps c.in_ok-reply.reply.items c.in_ok-reply.ensures (subst (λ (y : View). Marks ps x.calc y) (sym c.commit.ensures.calc) marks);
      err = tt;
    }

pub returns-in-Err : goal.returns-in-Err
returns-in-Err c =
    let x = c.args.script.now in
    let cs = sheet c.args.list.items in
    let S = sheet_of x.calc in
    let goal_sheet = with_contents S cs in
    let y = c.put_all.new.self in
    let W : Vec ℕ Global → Type 0 = λ reply. IsRefusal (put_word c.in-Err.fault) reply.items in
    let Q : Vec ℕ Global → Type 0 = λ reply. IsChanged (imported_state (script_of x) cs) (script_of x) (script_of (record x { calc = y })) reply.items in
    let h = c.in-Err.ensures in
    let K = known_of x in
    let K' = known_of (record x { calc = c.put_all.new.self }) in
    let ps = map (λ e. e.0) (sheet c.args.list.items) in
    let T : Vec ℕ Global → Type 0 = λ reply. Touches reply.items ps K K' in
    record {
      does = IfOk-weaker c.put_refusal.result W Q
          (λ reply p. put_changed x (settings cs) y c.args.ready (allowed goal_sheet) c.in-Err.fault reply.items c.requires.ready (puts_of S goal_sheet (sheet_of y) (Err c.in-Err.fault) c.in-Err.ensures.sheet) p) c.put_refusal.ensures;
      touches = IfOk-weaker c.put_refusal.result W T (λ reply p. touches_by_word ps K K' h.tables h.version reply.items (put_word c.in-Err.fault) p h.untouched) c.put_refusal.ensures;
      err = search rules;
    }
