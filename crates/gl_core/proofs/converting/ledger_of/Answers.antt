use Rattle.std.proofs.Common.{◌++◌, List, ap, sym, ◌∙◌, arith, append-nil}
use Rattle.gl_calculus.specs.Grid.Grid.{Range}
use Rattle.gl_calculus.specs.Calculation.Memory.{Notes}
use Rattle.gl_memo.specs.Notes.{notes_of}
use Rattle.gl_support.specs.declared.row.Row.{Row}
use Rattle.gl_demand.specs.declared.outcome.Outcome.{Outcome}
use Rattle.gl_core.specs.State.{note_tree, note_trees}
use Rattle.gl_core.specs.Numbers.{row_notes}
use Rattle.gl_core.specs.Ledger.{written}
use Rattle.gl_core.proofs.Wakes.{get_there}
use Rattle.gl_core.proofs.Copied.{trees_apart, more_copied, next_none, note_tree_at, none_left}
use Rattle.gl_core.proofs.converting.ledger_of.Goals as goal

pub add_note_at-requires-clause-new : goal.add_note_at-requires-clause-new
add_note_at-requires-clause-new c = λ e d.
    let es = notes_of c.args.notes.now in
    next_none (note_trees es) (written c.loop-i.ledger) c.loop-i.i (note_tree e) (trees_apart es c.len-i-end.ensures.distinct) (note_tree_at es c.loop-i.i e d) c.loop-i.invariant.notes

pub loop-i-init : goal.loop-i-init
loop-i-init c = record {
  notes = ap (λ (rs : List (Row Outcome Range)). row_notes c.new-ledger.result.book rs ++ note_trees (notes_of c.args.notes.now)) c.new-ledger.ensures.rows;
  kept = c.new-ledger.ensures.kept;
}

pub loop-i-preserved : goal.loop-i-preserved
loop-i-preserved c =
    let es = notes_of c.args.notes.now in
    let i = c.loop-i.i in
    let (e, d) = get_there es i (omega (arith, c.loop-i-test.true, c.len-i-end.ensures.count)) in
    record {
      notes = more_copied (note_trees es) (written c.loop-i.ledger) (written c.add_note_at.new.ledger) i (note_tree e) (trees_apart es c.len-i-end.ensures.distinct) (note_tree_at es i e d) c.loop-i.invariant.notes (λ none. c.in_ok-add_note_at.ensures.ok e d);
      kept = c.add_note_at.ensures.kept;
    }

pub returns-clause-notes : goal.returns-clause-notes
returns-clause-notes c =
    let es = notes_of c.args.notes.now in
    sym (append-nil (written c.loop-i.ledger)) ∙ ap (λ (ns : Notes). written c.loop-i.ledger ++ ns) (sym (none_left es c.loop-i.i (omega (arith, c.loop-i-test.false, c.len-i-end.ensures.count)))) ∙ c.loop-i.invariant.notes
