use Rattle.std.proofs.Common.{rules, inl, inr, refl, subst}
use Rattle.gl_machine.specs.Machine.{at, table}
use Rattle.gl_calculus.specs.Evaluation.Key.{same_key}
use Rattle.gl_calculus.specs.Evaluation.World.{world}
use Rattle.gl_calculus.specs.Evaluation.Evaluation.{program}
use Rattle.gl_ast.specs.View.{version_tree}
use Rattle.gl_cells.specs.Sheet.{sheet}
use Rattle.gl_demand.specs.View.{key_tree}
use Rattle.gl_machine.specs.Ahead.Reading.{keys_from}
use Rattle.gl_demand.specs.Lacking.{IsNext}
use Rattle.gl_core.specs.Answers.{picked_tree}
use Rattle.gl_core.specs.Ledger.{written}
use Rattle.gl_demand.specs.Marks.{mark_trees}
use Rattle.gl_core.specs.Table.{table_of}
use Rattle.gl_core.proofs.Places.{on_ok, if_ok}
use Rattle.gl_core.proofs.Turns.{on_err, any_err}
use Rattle.gl_core.proofs.Marking.{mark_there, mark_turn, mark_answer, mark_moved, needs_not_resolved}
use Rattle.gl_core.proofs.picking.pick_unnoted.Goals as goal

pub go_by_mark-requires-clause-sound : goal.go_by_mark-requires-clause-sound
go_by_mark-requires-clause-sound g c =
    let (m, em) = mark_there c.args.ledger.now c.args.entries.now c.requires.pickable.place.core c.args.p c.requires.pickable.place.there in
    let st = table_of c.args.ledger.now c.args.entries.now in
    let is = subst (IsNext (table same_key st) (keys_from (sheet c.args.evaluator.now.cells.now) c.args.evaluator.now.oracle.now m.0) m.1) c.in-Some.is (c.in_ok-next.ensures m em) in
    is.2

pub returns-in-Some-clause-picked : goal.returns-in-Some-clause-picked
returns-in-Some-clause-picked g c =
    let l = c.args.ledger.now in
    let e = c.args.entries.now in
    let S = sheet c.args.evaluator.now.cells.now in
    let w = c.args.evaluator.now.oracle.now in
    let st = table_of l e in
    let p = program (world (version_tree c.args.evaluator.now.version) S w) in
    let r = c.go_by_mark.result in
    let needs = c.go_by_mark.ensures.needs in
    let (m, em) = mark_there l e c.requires.pickable.place.core c.args.p c.requires.pickable.place.there in
    let is = subst (IsNext (table same_key st) (keys_from S w m.0) m.1) c.in-Some.is (c.in_ok-next.ensures m em) in
    record {
      state = on_ok r needs.state (λ s k ek. mark_turn S w p st k m c.in-Some.next (c.requires.ahead k m ek em) is (table_of c.go_by_mark.new.ledger c.go_by_mark.new.entries) (s k ek));
      answer = if_ok r needs.answer (λ picked a k ek. mark_answer S w p st k m c.in-Some.next (c.requires.ahead k m ek em) is (picked_tree picked) (written l) (written c.go_by_mark.new.ledger) a needs.notes);
      err = on_err r needs.err (λ d. (d, needs.notes));
      core = needs.core;
      marks = on_ok r c.go_by_mark.ensures.marks (λ b k ek. mark_moved S w p st k m c.in-Some.next (c.requires.ahead k m ek em) is c.args.p (mark_trees e.marks.items) (mark_trees c.go_by_mark.new.entries.marks.items) (b m em));
      marks_err = needs.marks_err;
      marks_full = needs.marks_full;
    }

pub returns-in-Some-clause-evaluated : goal.returns-in-Some-clause-evaluated
returns-in-Some-clause-evaluated g c =
    let st = table_of c.args.ledger.now c.args.entries.now in
    if_ok c.go_by_mark.result c.go_by_mark.ensures.needs.answer (λ picked a e. absurd (needs_not_resolved st (at same_key st (key_tree c.in-Some.next.key)) picked a e))

pub returns-in-None-clause-counted : goal.returns-in-None-clause-counted
returns-in-None-clause-counted g c = inr c.go_by_step.ensures.counted

pub next_need-requires-clause-core : goal.next_need-requires-clause-core
next_need-requires-clause-core g c = c.requires.pickable.place.core

pub next_need-requires-clause-there : goal.next_need-requires-clause-there
next_need-requires-clause-there g c = c.requires.pickable.place.there

pub go_by_mark-requires-clause-place : goal.go_by_mark-requires-clause-place
go_by_mark-requires-clause-place g c = c.requires.pickable.place

pub go_by_step-requires-clause-pickable : goal.go_by_step-requires-clause-pickable
go_by_step-requires-clause-pickable g c = c.requires.pickable

pub go_by_step-requires-clause-new : goal.go_by_step-requires-clause-new
go_by_step-requires-clause-new g c = c.requires.new

pub returns-in_err-next-clause-picked : goal.returns-in_err-next-clause-picked
returns-in_err-next-clause-picked g c =
    let r = c.from_residual.result in
    record {
      state = search rules;
      answer = search rules;
      err = any_err r (refl, refl);
      core = c.requires.pickable.place.core;
      marks = search rules;
      marks_err = any_err r refl;
      marks_full = search rules;
    }

pub returns-in_err-next-clause-counted : goal.returns-in_err-next-clause-counted
returns-in_err-next-clause-counted g c = inl refl

pub returns-in_err-next-clause-evaluated : goal.returns-in_err-next-clause-evaluated
returns-in_err-next-clause-evaluated g c = search rules

pub returns-in-Some-clause-counted : goal.returns-in-Some-clause-counted
returns-in-Some-clause-counted g c = inl refl

pub returns-in-None-clause-picked : goal.returns-in-None-clause-picked
returns-in-None-clause-picked g c = c.go_by_step.ensures.picked
