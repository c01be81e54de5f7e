use Rattle.std.proofs.Common.{Some, ◌∙◌, ap, sym}
use Rattle.gl_plane.specs.Permit.{permit_tree}
use Rattle.gl_grant.specs.Obstacle.{obstacle_tree}
use Rattle.gl_grant.proofs.Refused.{none_where_permitted}
use Rattle.gl_grant.proofs.obstacles.blocker.Goals as goal

pub returns-in-Refused-clause-permitted : goal.returns-in-Refused-clause-permitted
returns-in-Refused-clause-permitted g c =
    let inside = c.entry-in-Some.inside in
    none_where_permitted c.args.bound.now (g.B.Blocks.held c.args.blocks.now) c.args.w.now c.requires.consistent obstacle_tree c.first_obstacle.result c.args.root
    (record { root = inside.root; size = inside.size; permit = permit_tree inside.permit })
    (sym c.entry.ensures ∙ c.in-Some.is ∙ ap Some (sym c.entry-in-Some.view_is)) (ap permit_tree c.in-Refused.is) c.first_obstacle.ensures
