use Rattle.std.proofs.Common.{sym}
use Rattle.gl_flow.proofs.Stacking.{cut_on, cut_top}
use Rattle.gl_flow.proofs.columns.cut.Goals as goal

pub loop-stack-preserved : goal.loop-stack-preserved
loop-stack-preserved c = λ column next s.
    cut_on c.args.areas.now column c.args.row next c.loop-stack.stack.items c.pop.new.self.items c.pop.result c.pop.ensures.items (sym c.loop-stack-test.ensures) (c.loop-stack.invariant column next s)

pub returns-clause-top : goal.returns-clause-top
returns-clause-top c = λ column next s.
    cut_top c.args.areas.now column c.args.row next c.loop-stack.stack.items (sym c.loop-stack-test.ensures) (c.loop-stack.invariant column next s)
