use Rattle.std.proofs.Common.{rules, ◌∙◌}
use Rattle.gl_calculus.proofs.Addresses.{meets_at}
use Rattle.gl_plane.proofs.Ranges.{first_covered}
use Rattle.gl_plane.proofs.changes.overlap.Goals as goal

pub returns : goal.returns
returns c =
    let r = c.args.r.now in
    let s = c.args.c.now in
    c.meets.ensures ∙ meets_at r s (first_covered r (search rules) (search rules)) (first_covered s (search rules) (search rules))
