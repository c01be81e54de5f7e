use Rattle.std.proofs.Common.{sym, ap, subst}
use Rattle.gl_calculus.specs.Formulas.Formula.{Cells}
use Rattle.gl_protocol.specs.Scripts.Commands as C
use Rattle.gl_protocol.specs.Scripts.Commands.{Is}
use Rattle.gl_calculus.specs.Edits.Sheets.{places_in, without}
use Rattle.gl_protocol.specs.Scripts.Script.{change}
use Rattle.gl_calculus.specs.Edits.Sheets.{removals}
use Rattle.gl_calc.specs.View.{View, sheet_of}
use Rattle.gl_run.specs.Changed.{Marks}
use Rattle.gl_run.specs.Script.{script_of}
use Rattle.gl_run.proofs.Readying.{can_commit, committed, changed_to}
use Rattle.gl_run.proofs.Spending.{touches_marks}
use Rattle.gl_run.proofs.edits.clear_ready.Goals as goal

pub commit-requires : goal.commit-requires
commit-requires c = can_commit c.args.script.now (removals (sheet_of c.args.script.now.calc) c.args.range.now) c.clear.new.self c.args.ready c.requires

pub returns : goal.returns
returns c =
    let x = c.args.script.now in
    let r = c.args.range.now in
    let S = sheet_of x.calc in
    let s' = script_of c.commit.new.script in
    let done = committed x (removals S r) c.clear.new.self c.args.ready (Is (without S r)) s' c.requires (ap (λ (Z : Cells). Is Z) (sym c.clear.ensures.cleared)) c.commit.ensures.commits in
    let h = c.clear.ensures in
    let ps = places_in (sheet_of x.calc) c.args.range.now in
    let marks : Marks ps x.calc c.clear.new.self = record { tables = h.tables; made_for = h.version; touched = h.touched } in
    record {
      does = changed_to (change (script_of x) (C.Request.Clear r)) (script_of x) s' c.in_ok-reply.reply.items done c.in_ok-reply.ensures;
      touches = touches_marks x c.commit.new.script ps c.in_ok-reply.reply.items c.in_ok-reply.ensures (subst (λ (y : View). Marks ps x.calc y) (sym c.commit.ensures.calc) marks);
      err = tt;
    }
