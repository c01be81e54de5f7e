use Rattle.std.proofs.Common.{◌≡◌, ◌++◌, ◌-◌, ◌≤◌, true, length, take, drop}
use Rattle.std.specs.List.{list_all}
use Rattle.gl_calculus.specs.Evaluation.Oracle.{grant_beside, grant}
use Rattle.gl_grant.specs.Granted.{taken_by, fits_grid}
use Rattle.gl_grant.proofs.consistency.is_consistent.Given as goal

-- The first entries are those of the first arrays.
abbrev pub invariant-loop-array : goal.invariant-loop-array
invariant-loop-array g l = record {
  within : l.i ≤ length l.w;
  same : take l.i l.w ++ grant_beside l.bound (g.B.Blocks.held l.blocks) (taken_by (take l.i l.w)) (drop l.i l.sizes) ≡ grant l.bound (g.B.Blocks.held l.blocks) l.sizes;
  fits : list_all fits_grid (take l.i l.w) ≡ true;
}

abbrev pub decreases-loop-array : goal.decreases-loop-array
decreases-loop-array g l = length l.sizes - l.i
