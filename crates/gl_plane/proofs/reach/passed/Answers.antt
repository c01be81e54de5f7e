use Rattle.std.proofs.Common.{refl}
use Rattle.gl_plane.proofs.Meetings.{near_passed, far_passed}
use Rattle.gl_plane.proofs.reach.passed.Goals as goal

pub returns-then-fall_short-clause-passed : goal.returns-then-fall_short-clause-passed
returns-then-fall_short-clause-passed c =
    let far = c.args.far.now in
    far_passed c.args.range.now c.args.entries.now far.rows.items far.columns.items c.args.i c.requires.far c.if-i-eq0.true (c.if-fall_short.ensures refl)

pub returns-then-fall_short-2-clause-passed : goal.returns-then-fall_short-2-clause-passed
returns-then-fall_short-2-clause-passed c =
    let near = c.args.near.now in
    near_passed c.args.range.now c.args.entries.now near.rows.items near.columns.items c.args.i c.requires.near c.if-i-eq0-2.true (c.if-fall_short-2.ensures refl)
