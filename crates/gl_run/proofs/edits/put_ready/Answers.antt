use Rattle.std.proofs.Common.{rules, ℕ, [], ◌∷◌, Some, Err, Ok, Vec, Global, sym, subst}
use Rattle.std.proofs.lemmas.Result.{IfOk-weaker}
use Rattle.gl_protocol.specs.Scripts.Commands as C
use Rattle.gl_protocol.specs.Scripts.Commands.{allowed}
use Rattle.gl_calculus.specs.Edits.Sheets.{with_content}
use Rattle.gl_protocol.specs.Scripts.Script.{change}
use Rattle.gl_cells.specs.Content.{content_tree}
use Rattle.gl_calc.specs.View.{View, sheet_of}
use Rattle.gl_run.specs.Changed.{IsChanged, Marks}
use Rattle.gl_run.specs.Replies.{IsRefusal, put_word}
use Rattle.gl_run.specs.Script.{known_of, script_of}
use Rattle.gl_protocol.specs.Run.Spends.{Touches}
use Rattle.gl_run.proofs.Editing.{puts_of}
use Rattle.gl_run.proofs.Readying.{can_commit, committed, changed_to, put_changed}
use Rattle.gl_run.proofs.Spending.{touches_by_word, touches_marks}
use Rattle.gl_run.proofs.edits.put_ready.Goals as goal

pub commit-requires : goal.commit-requires
commit-requires c = can_commit c.args.script.now ((c.args.a, Some (content_tree c.args.content)) ∷ []) c.put.new.self c.args.ready c.requires.ready

pub returns-in-Ok : goal.returns-in-Ok
returns-in-Ok c =
    let x = c.args.script.now in
    let tree = content_tree c.args.content in
    let S = sheet_of x.calc in
    let goal_sheet = with_content S c.args.a tree in
    let s' = script_of c.commit.new.script in
    let done = committed x ((c.args.a, Some tree) ∷ []) c.put.new.self c.args.ready (allowed goal_sheet) s' c.requires.ready (puts_of S goal_sheet (sheet_of c.put.new.self) (Ok tt) c.in-Ok.ensures.sheet) c.commit.ensures.commits in
    let h = c.in-Ok.ensures in
    let marks : Marks (c.args.a ∷ []) x.calc c.put.new.self = record { tables = h.tables; made_for = h.version; touched = h.touched } in
    record {
      does = changed_to (change (script_of x) (C.Request.Set c.args.a tree)) (script_of x) s' c.in_ok-reply.reply.items done c.in_ok-reply.ensures;
      touches = touches_marks x c.commit.new.script (c.args.a ∷ []) c.in_ok-reply.reply.items c.in_ok-reply.ensures (subst (λ (y : View). Marks (c.args.a ∷ []) x.calc y) (sym c.commit.ensures.calc) marks);
      err = tt;
    }

pub returns-in-Err : goal.returns-in-Err
returns-in-Err c =
    let x = c.args.script.now in
    let tree = content_tree c.args.content in
    let S = sheet_of x.calc in
    let goal_sheet = with_content S c.args.a tree in
    let y = c.put.new.self in
    let W : Vec ℕ Global → Type 0 = λ reply. IsRefusal (put_word c.in-Err.fault) reply.items in
    let Q : Vec ℕ Global → Type 0 = λ reply. IsChanged (change (script_of x) (C.Request.Set c.args.a tree)) (script_of x) (script_of (record x { calc = y })) reply.items in
    let h = c.in-Err.ensures in
    let K = known_of x in
    let K' = known_of (record x { calc = c.put.new.self }) in
    let T : Vec ℕ Global → Type 0 = λ reply. Touches reply.items (c.args.a ∷ []) K K' in
    record {
      does = IfOk-weaker c.put_refusal.result W Q
          (λ reply p. put_changed x ((c.args.a, Some tree) ∷ []) y c.args.ready (allowed goal_sheet) c.in-Err.fault reply.items c.requires.ready (puts_of S goal_sheet (sheet_of y) (Err c.in-Err.fault) c.in-Err.ensures.sheet) p) c.put_refusal.ensures;
      touches = IfOk-weaker c.put_refusal.result W T (λ reply p. touches_by_word (c.args.a ∷ []) K K' h.tables h.version reply.items (put_word c.in-Err.fault) p h.untouched) c.put_refusal.ensures;
      err = search rules;
    }
