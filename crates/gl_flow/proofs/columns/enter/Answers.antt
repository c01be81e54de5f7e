use Rattle.std.proofs.Common.{sym, arith}
use Rattle.gl_flow.proofs.Stacking.{enter_start, enter_within, enter_on, enter_done}
use Rattle.gl_flow.proofs.columns.enter.Goals as goal

pub loop-stack-init : goal.loop-stack-init
loop-stack-init c = enter_start c.args.places.now c.args.areas.now c.args.column c.args.row c.args.from c.args.stack.now.items c.requires.above c.requires.stack

pub cover-requires : goal.cover-requires
cover-requires c =
    let l = enter_within c.args.places.now c.args.areas.now c.args.column c.args.row c.loop-stack.next (sym c.loop-stack-test.ensures) in
    let m = c.requires.few in
    omega (arith, l, m)

pub loop-stack-preserved : goal.loop-stack-preserved
loop-stack-preserved c =
    enter_on c.args.places.now c.args.areas.now c.args.column c.args.row c.loop-stack.next c.loop-stack.stack.items c.cover.new.stack.items (sym c.loop-stack-test.ensures) c.in_ok-cover.ensures c.loop-stack.invariant

pub returns-clause-above : goal.returns-clause-above
returns-clause-above c = c.loop-stack.invariant.above

pub returns-clause-below : goal.returns-clause-below
returns-clause-below c = enter_done c.args.places.now c.args.areas.now c.args.column c.args.row c.loop-stack.next c.requires.ordered (sym c.loop-stack-test.ensures)

pub returns-clause-stack : goal.returns-clause-stack
returns-clause-stack c = c.loop-stack.invariant.stacked
