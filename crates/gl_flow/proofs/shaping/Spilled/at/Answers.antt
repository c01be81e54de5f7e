use Rattle.std.proofs.Common.{sym, ap, ◌∙◌}
use Rattle.gl_flow.specs.Shapes.{spilled_at}
use Rattle.gl_flow.proofs.Placing.{shape_at, no_shape}
use Rattle.gl_flow.proofs.shaping.Spilled.at.Goals as goal

pub returns-in-Some : goal.returns-in-Some
returns-in-Some c =
    let s = c.args.self.now in
    c.shape_number.ensures ∙ sym (ap (λ b. spilled_at b s.places.now s.shapes.now c.args.a) c.if-self.false ∙ shape_at s.places.now s.shapes.now c.args.a c.in-Some.k s.ordered c.in-Some.ensures.found)

pub returns-in-None : goal.returns-in-None
returns-in-None c =
    let s = c.args.self.now in
    sym (ap (λ b. spilled_at b s.places.now s.shapes.now c.args.a) c.if-self.false ∙ no_shape s.places.now s.shapes.now c.args.a c.in-None.ensures.none)
