use Rattle.gl_calculus.specs.Evaluation.Facts.{fact}
use Rattle.gl_cells.specs.Sheet.{sheet}
use Rattle.gl_value.specs.View.{frame_tree}
use Rattle.gl_demand.specs.Walk.{inputs}
use Rattle.std.proofs.Common.{subst, ap, sym, Ok}
use Rattle.gl_calculus.specs.Computation.Query.{Ready}
use Rattle.gl_value.specs.Forms.{scalar_tree-Blank}
use Rattle.gl_value.specs.declared.Scalar.{Blank}
use Rattle.gl_demand.specs.Walks.{trail_tree}
use Rattle.gl_calculus.specs.Evaluation.Reference.{cover_in}
use Rattle.gl_machine.specs.Seen.{covered_seen}
use Rattle.gl_demand.specs.Seen.{ReadsOne}
use Rattle.gl_demand.proofs.References.{cover_some, cover_none}
use Rattle.gl_demand.proofs.covering.blank_at.Goals as goal

pub returns-in-Some-clause-read : goal.returns-in-Some-clause-read
returns-in-Some-clause-read g c =
    let w = inputs (sheet c.args.ctx.now.cells.now) c.args.ctx.now.w.now (g.K.Numbered.outcomes c.args.ctx.now.known.now) (g.K.Numbered.number c.args.ctx.now.known.now) in
    let same = cover_some w (cover_in (fact (sheet c.args.ctx.now.cells.now) c.args.ctx.now.w.now c.args.a) (frame_tree c.args.home.now)) c.in-Some.cover (c.in-Some.ensures (sheet c.args.ctx.now.cells.now)) in
    λ s h. subst (λ o. ReadsOne w (covered_seen (frame_tree c.args.home.now) s o) c.args.trail.now c.covered.result c.covered.new.roots.seen.keys c.covered.new.trail) same (c.covered.ensures.read s h)

pub returns-in-None-clause-read : goal.returns-in-None-clause-read
returns-in-None-clause-read g c =
    let w = inputs (sheet c.args.ctx.now.cells.now) c.args.ctx.now.w.now (g.K.Numbered.outcomes c.args.ctx.now.known.now) (g.K.Numbered.number c.args.ctx.now.known.now) in
    let same = cover_none w (cover_in (fact (sheet c.args.ctx.now.cells.now) c.args.ctx.now.w.now c.args.a) (frame_tree c.args.home.now)) (c.in-None.ensures (sheet c.args.ctx.now.cells.now)) in
    λ s h. subst (λ o. ReadsOne w (covered_seen (frame_tree c.args.home.now) s o) c.args.trail.now (Ok Blank) c.args.roots.now.seen.keys c.args.trail.now) same (record { seen = s; are_seen = h; walk = ap (λ x. (Ready (Ok (x, s)), trail_tree c.args.trail.now)) (sym scalar_tree-Blank) })
