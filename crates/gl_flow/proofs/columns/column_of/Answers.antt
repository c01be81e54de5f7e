use Rattle.std.proofs.Common.{sym, subst}
use Rattle.gl_flow.specs.Columns.{IsGreatest, IsDown}
use Rattle.gl_flow.proofs.Stacking.{top_small, pass_on}
use Rattle.gl_flow.proofs.columns.column_of.Goals as goal

pub top-requires : goal.top-requires
top-requires c =
    top_small c.args.places.now c.args.areas.now c.args.column c.loop-row.row c.in_ok-next.next c.cut.new.stack.items c.requires.few c.in_ok-next.ensures.above.few
    (c.cut.ensures.stack c.args.column c.in_ok-next.next c.in_ok-next.ensures.stack)

pub loop-row-preserved : goal.loop-row-preserved
loop-row-preserved c =
    pass_on c.args.places.now c.args.areas.now c.args.column c.requires.rooted c.loop-row.row c.in_ok-next.next c.in_ok-next.ensures.above c.in_ok-next.ensures.below
    c.top.result c.loop-row.next c.loop-row.stack.items c.cut.new.stack.items c.loop-row.numbers.items c.push.new.self.items
    (subst (λ t. IsGreatest (IsDown c.args.areas.now c.args.column c.loop-row.row c.in_ok-next.next) t) (sym c.top.ensures) (c.cut.ensures.top c.args.column c.in_ok-next.next c.in_ok-next.ensures.stack))
    (c.cut.ensures.stack c.args.column c.in_ok-next.next c.in_ok-next.ensures.stack)
    c.in_ok-push.ensures.items c.loop-row.invariant
