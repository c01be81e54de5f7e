use Rattle.std.proofs.Common.{◌+◌, ◌*◌}
use Rattle.gl_calculus.specs.Values.Sheet.{frame_rank}
use Rattle.gl_calculus.specs.Values.Value.{rank}
use Rattle.gl_value.specs.View.{frame_tree, sheet_tree}
use Rattle.gl_demand.proofs.filling.+outward.Given as goal

-- the rank of a frame is below that of the sheet values made in it
abbrev pub decreases-soonest : goal.decreases-soonest
decreases-soonest l = 2 * rank (sheet_tree l.s.now)

abbrev pub decreases-outward : goal.decreases-outward
decreases-outward l = 2 * frame_rank (frame_tree l.env.now) + 1
