use Rattle.std.proofs.Common.{◌∙◌, sym, subst}
use Rattle.gl_calculus.specs.Evaluation.Facts.{fact}
use Rattle.gl_calculus.specs.Evaluation.Key.{Cell}
use Rattle.gl_cells.specs.Sheet.{sheet}
use Rattle.gl_value.specs.View.{frame_tree}
use Rattle.gl_demand.specs.Seen.{ReadsOne, deref_in}
use Rattle.gl_demand.specs.Walk.{inputs}
use Rattle.gl_demand.proofs.References.{known_read, none_gives}
use Rattle.gl_demand.proofs.KeptRoots.{anyway, kept_later}
use Rattle.gl_demand.proofs.ranges.filled_at.Goals as goal

pub returns-in-Some-clause-read : goal.returns-in-Some-clause-read
returns-in-Some-clause-read g c =
    let w = inputs (sheet c.args.ctx.now.cells.now) c.args.ctx.now.w.now (g.K.Numbered.outcomes c.args.ctx.now.known.now) (g.K.Numbered.number c.args.ctx.now.known.now) in
    let x = fact (sheet c.args.ctx.now.cells.now) c.args.ctx.now.w.now c.args.a in
    let t = c.args.trail.now in
    let formula = rw c.in-Some.is at c.in_ok-x.ensures.formula in
    let known = rw c.in-Some.is at c.in_ok-x.ensures.read in
    λ s h. known_read w (frame_tree c.args.home.now) s x c.args.carried.now.roots.seen.keys t t c.known_at.new.trail formula.0 c.in-Some.x h (sym formula.1 ∙ c.requires.held) known

pub returns-in-Some-clause-kept : goal.returns-in-Some-clause-kept
returns-in-Some-clause-kept g c =
    let w = inputs (sheet c.args.ctx.now.cells.now) c.args.ctx.now.w.now (g.K.Numbered.outcomes c.args.ctx.now.known.now) (g.K.Numbered.number c.args.ctx.now.known.now) in
    let known = rw c.in-Some.is at c.in_ok-x.ensures.read in
    kept_later w (frame_tree c.args.env.now) c.args.carried.now.roots c.args.trail.now c.known_at.new.trail (Cell (frame_tree c.args.home.now) c.args.a) known.read c.requires.kept

pub returns-in-None-clause-read : goal.returns-in-None-clause-read
returns-in-None-clause-read g c =
    let w = inputs (sheet c.args.ctx.now.cells.now) c.args.ctx.now.w.now (g.K.Numbered.outcomes c.args.ctx.now.known.now) (g.K.Numbered.number c.args.ctx.now.known.now) in
    let x = fact (sheet c.args.ctx.now.cells.now) c.args.ctx.now.w.now c.args.a in
    λ s h. subst (λ t. ReadsOne w (deref_in (frame_tree c.args.home.now) s x) t c.shown_at.result c.shown_at.new.seen.keys c.shown_at.new.trail) (none_gives c.in_ok-x.field-0 c.in-None.is c.in_ok-x.ensures.none) (c.shown_at.ensures.read s h)

pub returns-in-None-clause-kept : goal.returns-in-None-clause-kept
returns-in-None-clause-kept g c = anyway c.shown_at.result tt
