use Rattle.std.proofs.Common.{◌≡◌, Some, sym, ◌∙◌, subst, arith}
use Rattle.gl_machine.specs.Machine.{table}
use Rattle.gl_calculus.specs.Evaluation.Key.{same_key}
use Rattle.gl_cells.specs.Sheet.{sheet}
use Rattle.gl_machine.specs.Ahead.Reading.{keys_from}
use Rattle.gl_demand.specs.Lacking.{IsNext}
use Rattle.gl_demand.specs.Marks.{PlainMark, mark_tree}
use Rattle.gl_core.specs.Table.{table_of}
use Rattle.gl_core.proofs.Places.{if_ok}
use Rattle.gl_core.proofs.Numbered.{get_map, item_at}
use Rattle.gl_core.proofs.Cores.{readable}
use Rattle.gl_core.proofs.picking.next_need.Goals as goal

pub invariant_of-known : goal.invariant_of-known
invariant_of-known c = record { core = readable c.args.ledger.now c.args.entries.now c.requires.core }

pub returns : goal.returns
returns c =
    let ms = c.args.entries.now.marks.items in
    let x = c.index-mark.result.now in
    let there = item_at ms c.args.p x c.index-mark.ensures (omega (arith, c.requires.core.table.marks, c.requires.there)) in
    if_ok c.next_lacked.result c.next_lacked.ensures (λ next is m d.
    let e : Some (mark_tree x) ≡ Some m = sym (get_map mark_tree ms c.args.p x there) ∙ d in
    let f : mark_tree x ≡ m = cc in
    subst (λ (y : PlainMark). IsNext (table same_key (table_of c.args.ledger.now c.args.entries.now)) (keys_from (sheet c.args.cells.now) c.args.w.now y.0) y.1 next) f is)
