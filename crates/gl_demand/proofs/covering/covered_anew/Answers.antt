use Rattle.gl_cells.specs.Sheet.{sheet}
use Rattle.gl_value.specs.View.{frame_tree}
use Rattle.gl_demand.specs.Walk.{inputs}
use Rattle.gl_demand.proofs.References.{covered_ok, covered_own_halts, covered_look_halts}
use Rattle.gl_demand.proofs.KeptRoots.{anyway, is_read, keeps}
use Rattle.gl_demand.proofs.covering.covered_anew.Goals as goal

pub returns-in-Ok-own-clause-read : goal.returns-in-Ok-own-clause-read
returns-in-Ok-own-clause-read g c =
    let w = inputs (sheet c.args.ctx.now.cells.now) c.args.ctx.now.w.now (g.K.Numbered.outcomes c.args.ctx.now.known.now) (g.K.Numbered.number c.args.ctx.now.known.now) in
    λ s h. covered_ok w (frame_tree c.args.home.now) s c.args.cover.0 c.args.cover.1 c.args.cover.2 c.look_once.new.seen.keys c.args.trail.now c.look_once.new.trail c.own.new.trail c.in-Ok-own.value c.spilled-shown.result (c.in-Ok.ensures.walk w s h) (c.in-Ok.ensures.seen w s h) c.in-Ok-own.ensures.walk c.spilled-shown.ensures.value c.spilled-shown.ensures.err

pub returns-in-Ok-own-clause-kept : goal.returns-in-Ok-own-clause-kept
returns-in-Ok-own-clause-kept g c =
    let w = inputs (sheet c.args.ctx.now.cells.now) c.args.ctx.now.w.now (g.K.Numbered.outcomes c.args.ctx.now.known.now) (g.K.Numbered.number c.args.ctx.now.known.now) in
    λ s h. anyway c.spilled-shown.result
    (keeps w (frame_tree c.args.env.now) (frame_tree c.args.home.now) c.args.cover.0 c.in-Ok-own.value c.keep.result c.look_once.new.seen.keys c.own.new.trail
    (is_read w (frame_tree c.args.home.now) c.args.cover.0 c.in-Ok-own.value c.look_once.new.seen.keys s c.look_once.new.trail c.own.new.trail (c.in-Ok.ensures.seen w s h) c.in-Ok-own.ensures.walk c.in-Ok-own.ensures.sound)
    c.keep.ensures.root c.keep.ensures.value c.keep.ensures.home)

pub returns-in-Err-own-clause-read : goal.returns-in-Err-own-clause-read
returns-in-Err-own-clause-read g c =
    let w = inputs (sheet c.args.ctx.now.cells.now) c.args.ctx.now.w.now (g.K.Numbered.outcomes c.args.ctx.now.known.now) (g.K.Numbered.number c.args.ctx.now.known.now) in
    λ s h. covered_own_halts w (frame_tree c.args.home.now) s c.args.cover.0 c.args.cover.1 c.args.cover.2 c.look_once.new.seen.keys c.args.trail.now c.look_once.new.trail c.own.new.trail c.in-Err-own.halt (c.in-Ok.ensures.walk w s h) c.in-Err-own.ensures.walk

pub returns-in-Err-clause-read : goal.returns-in-Err-clause-read
returns-in-Err-clause-read g c =
    let w = inputs (sheet c.args.ctx.now.cells.now) c.args.ctx.now.w.now (g.K.Numbered.outcomes c.args.ctx.now.known.now) (g.K.Numbered.number c.args.ctx.now.known.now) in
    λ s h. covered_look_halts w (frame_tree c.args.home.now) s c.args.cover.0 c.args.cover.1 c.args.cover.2 c.look_once.new.seen.keys c.args.trail.now c.look_once.new.trail c.look_once.new.trail c.in-Err.halt (c.in-Err.ensures.walk w s h)
