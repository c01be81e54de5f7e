use Rattle.std.proofs.Common.{◌∙◌, sym, arith}
use Rattle.gl_value.specs.View.{value_tree}
use Rattle.gl_arrays.specs.Parts.{keeps_row}
use Rattle.gl_arrays.proofs.Listed.{filter_kept, filter_left}
use Rattle.gl_arrays.proofs.filters.kept_rows.Goals as goal
use Rattle.gl_arrays.proofs.filters.kept_rows.Goals.{then-keeps_at+in_ok-push, else-keeps_at}

pub loop-i-preserved : goal.loop-i-preserved
loop-i-preserved c =
    let p = keeps_row (value_tree c.args.keep.now) in
    elim c.if-keeps_at.branch [
      | then-keeps_at+in_ok-push w ↦ (rw (w.kept-is, w.in_ok-push.ensures.items) (filter_kept p c.loop-i.i c.loop-i.kept.items c.loop-i.invariant.0 (sym c.keeps_at.ensures ∙ w.if-keeps_at.true)), rw w.kept-is (omega (arith, w.in_ok-push.ensures.len)))
      | else-keeps_at w ↦ (rw w.kept-is (filter_left p c.loop-i.i c.loop-i.kept.items c.loop-i.invariant.0 (sym c.keeps_at.ensures ∙ w.if-keeps_at.false)), rw w.kept-is (omega arith))
    ]
