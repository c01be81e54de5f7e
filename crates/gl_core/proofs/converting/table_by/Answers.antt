use Rattle.std.proofs.Common.{◌++◌, length, ap, sym, ◌∙◌, arith, append-nil}
use Rattle.gl_calculus.specs.Calculation.Memory.{Notes}
use Rattle.gl_memo.specs.Notes.{notes_of}
use Rattle.gl_support.specs.Rows.{note_of}
use Rattle.gl_core.specs.State.{note_trees}
use Rattle.gl_core.specs.Numbers.{named, IsBelow}
use Rattle.gl_core.specs.Ledger.{written}
use Rattle.gl_core.proofs.Numbered.{all_at, item_at, row_note_at}
use Rattle.gl_core.proofs.Filtered.{notes_apart, length-written}
use Rattle.gl_core.proofs.Copied.{more_copied, all_gone}
use Rattle.gl_core.proofs.converting.table_by.Goals as goal

pub insert_row-requires : goal.insert_row-requires
insert_row-requires c =
    let l = c.args.ledger.now in
    all_at (IsBelow (length l.book)) l.rows.items c.requires.below c.loop-i.i c.index.result.now (item_at l.rows.items c.loop-i.i c.index.result.now c.index.ensures (omega (arith, c.loop-i-test.true, c.len-i-end.ensures, l.rows.ok.0)))

pub loop-i-init : goal.loop-i-init
loop-i-init c = ap (λ es. note_trees es ++ written c.args.ledger.now) c.new-notes.ensures

pub loop-i-preserved : goal.loop-i-preserved
loop-i-preserved c =
    let l = c.args.ledger.now in
    let x = c.index.result.now in
    let at = item_at l.rows.items c.loop-i.i x c.index.ensures (omega (arith, c.loop-i-test.true, c.len-i-end.ensures, l.rows.ok.0)) in
    more_copied (written l) (note_trees (notes_of c.loop-i.notes)) (note_trees (notes_of c.insert_row.new.notes)) c.loop-i.i (named l.book (note_of x)) (notes_apart l c.requires) (row_note_at l.book l.rows.items c.loop-i.i x at) c.loop-i.invariant c.in_ok-insert_row.ensures

pub returns : goal.returns
returns c =
    let l = c.args.ledger.now in
    let n = length-written l in
    let m = note_trees (notes_of c.loop-i.notes) in
    sym (append-nil m) ∙ ap (λ (ns : Notes). m ++ ns) (sym (all_gone (written l) c.loop-i.i (omega (arith, n, c.loop-i-test.false, c.len-i-end.ensures, l.rows.ok.0)))) ∙ c.loop-i.invariant
