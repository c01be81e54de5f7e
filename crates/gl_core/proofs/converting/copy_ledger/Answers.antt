use Rattle.std.proofs.Common.{◌++◌, List, length, ap, sym, ◌∙◌, arith, append-nil}
use Rattle.gl_calculus.specs.Grid.Grid.{Range}
use Rattle.gl_calculus.specs.Calculation.Memory.{Notes}
use Rattle.gl_support.specs.declared.row.Row.{Row}
use Rattle.gl_support.specs.Rows.{note_of}
use Rattle.gl_demand.specs.declared.outcome.Outcome.{Outcome}
use Rattle.gl_core.specs.Numbers.{named, row_notes, IsBelow}
use Rattle.gl_core.specs.Ledger.{written}
use Rattle.gl_core.proofs.Numbered.{all_at, item_at, row_note_at}
use Rattle.gl_core.proofs.Filtered.{notes_apart, length-written}
use Rattle.gl_core.proofs.Copied.{more_copied, next_none, all_gone}
use Rattle.gl_core.proofs.Places.{member_at}
use Rattle.gl_core.proofs.converting.copy_ledger.Goals as goal

pub add_row-requires-clause-below : goal.add_row-requires-clause-below
add_row-requires-clause-below c =
    let l = c.args.ledger.now in
    all_at (IsBelow (length l.book)) l.rows.items c.requires.below c.loop-i.i c.index.result.now (item_at l.rows.items c.loop-i.i c.index.result.now c.index.ensures (omega (arith, c.loop-i-test.true, c.len-i-end.ensures, l.rows.ok.0)))

pub add_row-requires-clause-kept : goal.add_row-requires-clause-kept
add_row-requires-clause-kept c = c.loop-i.invariant.kept

pub add_row-requires-clause-new : goal.add_row-requires-clause-new
add_row-requires-clause-new c =
    let l = c.args.ledger.now in
    let x = c.index.result.now in
    let at = item_at l.rows.items c.loop-i.i x c.index.ensures (omega (arith, c.loop-i-test.true, c.len-i-end.ensures, l.rows.ok.0)) in
    next_none (written l) (written c.loop-i.copy) c.loop-i.i (named l.book (note_of x)) (notes_apart l c.requires) (row_note_at l.book l.rows.items c.loop-i.i x at) c.loop-i.invariant.notes

pub add_row-requires-clause-sound : goal.add_row-requires-clause-sound
add_row-requires-clause-sound c =
    let l = c.args.ledger.now in
    let x = c.index.result.now in
    let at = item_at l.rows.items c.loop-i.i x c.index.ensures (omega (arith, c.loop-i-test.true, c.len-i-end.ensures, l.rows.ok.0)) in
    c.requires.sound (named l.book (note_of x)) (member_at (written l) c.loop-i.i (named l.book (note_of x)) (row_note_at l.book l.rows.items c.loop-i.i x at))

pub loop-i-init : goal.loop-i-init
loop-i-init c = record {
  notes = ap (λ (rs : List (Row Outcome Range)). row_notes c.new-copy.result.book rs ++ written c.args.ledger.now) c.new-copy.ensures.rows;
  kept = c.new-copy.ensures.kept;
}

pub loop-i-preserved : goal.loop-i-preserved
loop-i-preserved c =
    let l = c.args.ledger.now in
    let x = c.index.result.now in
    let at = item_at l.rows.items c.loop-i.i x c.index.ensures (omega (arith, c.loop-i-test.true, c.len-i-end.ensures, l.rows.ok.0)) in
    record {
      notes = more_copied (written l) (written c.loop-i.copy) (written c.add_row.new.copy) c.loop-i.i (named l.book (note_of x)) (notes_apart l c.requires) (row_note_at l.book l.rows.items c.loop-i.i x at) c.loop-i.invariant.notes (λ none. c.in_ok-add_row.ensures.ok);
      kept = c.add_row.ensures.kept;
    }

pub returns-clause-notes : goal.returns-clause-notes
returns-clause-notes c =
    let l = c.args.ledger.now in
    let n = length-written l in
    let m = written c.loop-i.copy in
    sym (append-nil m) ∙ ap (λ (ns : Notes). m ++ ns) (sym (all_gone (written l) c.loop-i.i (omega (arith, n, c.loop-i-test.false, c.len-i-end.ensures, l.rows.ok.0)))) ∙ c.loop-i.invariant.notes

pub returns-clause-kept : goal.returns-clause-kept
returns-clause-kept c = c.loop-i.invariant.kept
