use Rattle.std.proofs.Common.{sym, ◌∙◌, arith}
use Rattle.gl_flow.proofs.Rivaling.{block_passed, next_yes, next_no}
use Rattle.gl_flow.proofs.rivals.rival.Goals as goal

pub loop-j-preserved-then-is_passed : goal.loop-j-preserved-then-is_passed
loop-j-preserved-then-is_passed c =
    let p = c.is_passed.ensures c.if-is_passed.true in
    c.loop-j.invariant ∙ block_passed c.args.areas.now c.args.area.now c.args.k c.args.bottoms.now c.loop-j.j c.requires.bottoms p.0 p.1

pub returns-then-meets_box-clause-some : goal.returns-then-meets_box-clause-some
returns-then-meets_box-clause-some c =
    c.loop-j.invariant ∙ next_yes c.args.areas.now c.args.area.now c.args.k c.loop-j.j (omega (arith, c.loop-j-test.true)) (sym c.meets_box.ensures ∙ c.if-meets_box.true)

pub loop-j-preserved : goal.loop-j-preserved
loop-j-preserved c = c.loop-j.invariant ∙ next_no c.args.areas.now c.args.area.now c.args.k c.loop-j.j (sym c.meets_box.ensures ∙ c.if-meets_box.false)
