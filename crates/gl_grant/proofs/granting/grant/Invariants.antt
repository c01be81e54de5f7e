use Rattle.std.proofs.Common.{◌≡◌, ◌++◌, ◌-◌, true, length, drop}
use Rattle.std.specs.List.{list_all}
use Rattle.gl_calculus.specs.Evaluation.Oracle.{grant_beside, grant}
use Rattle.gl_grant.specs.Granted.{taken_by, fits_grid}
use Rattle.gl_grant.proofs.granting.grant.Given as goal

-- The entries so far, with those of the arrays that are left, are what is granted.
abbrev pub invariant-loop-array : goal.invariant-loop-array
invariant-loop-array g l = record {
  same : l.granted ++ grant_beside l.bound (g.B.Blocks.held l.blocks) (taken_by l.granted) (drop (length l.granted) l.sizes) ≡ grant l.bound (g.B.Blocks.held l.blocks) l.sizes;
  fits : list_all fits_grid l.granted ≡ true;
}

abbrev pub decreases-loop-array : goal.decreases-loop-array
decreases-loop-array g l = length l.sizes - length l.granted
