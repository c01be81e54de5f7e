use Rattle.gl_cells.specs.Sheet.{sheet}
use Rattle.gl_value.specs.View.{frame_tree}
use Rattle.gl_demand.specs.Walk.{inputs}
use Rattle.gl_demand.proofs.KeptRoots.{kept_is, covered_read}
use Rattle.gl_demand.proofs.covering.covered.Goals as goal

pub returns-in-Some-clause-read : goal.returns-in-Some-clause-read
returns-in-Some-clause-read g c =
    let w = inputs (sheet c.args.ctx.now.cells.now) c.args.ctx.now.w.now (g.K.Numbered.outcomes c.args.ctx.now.known.now) (g.K.Numbered.number c.args.ctx.now.known.now) in
    let kept = kept_is w (frame_tree c.args.env.now) (frame_tree c.args.home.now) c.args.cover.0 c.args.roots.now c.args.trail.now c.in-Some.k.now c.requires.kept c.in-Some.ensures.last c.in-Some.ensures.root c.in-Some.ensures.home in
    λ s h. covered_read w (frame_tree c.args.home.now) s c.args.cover.0 c.args.cover.1 c.args.cover.2 c.in-Some.k.now.value c.args.roots.now.seen.keys c.args.trail.now c.spilled.result kept h c.spilled.ensures.value c.spilled.ensures.err
