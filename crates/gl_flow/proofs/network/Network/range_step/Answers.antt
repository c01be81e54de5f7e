use Rattle.std.proofs.Common.{◌+◌, ◌-◌, ◌∷◌, ◌∙◌, sym, ap, drop, arith}
use Rattle.std.specs.List.{flat_map}
use Rattle.gl_calculus.specs.Grid.Grid.{addresses}
use Rattle.gl_flow.specs.Pieces.{rows_read}
use Rattle.gl_flow.specs.Network.{address_steps}
use Rattle.gl_flow.specs.Plans.{plan}
use Rattle.gl_flow.proofs.Stepping.{lies_in_rows, address_taken, address_passed}
use Rattle.gl_flow.proofs.network.Network.range_step.Goals as goal

pub source-n-requires : goal.source-n-requires
source-n-requires c = lies_in_rows c.args.r.now c.loop-i.i (rows_read (plan c.args.self.now).pieces) c.place.result c.requires.read c.requires.last c.place.ensures

pub returns-then-n-gt0-clause-some : goal.returns-then-n-gt0-clause-some
returns-then-n-gt0-clause-some c =
    let p = plan c.args.self.now in
    c.loop-i.invariant
    ∙ address_taken p (addresses c.args.r.now) c.loop-i.i (c.source-n.result - 1) c.source-n.result c.place.result c.place.ensures c.source-n.ensures.value (omega (arith, c.if-n-gt0.true))
    ∙ ap (λ t. t ∷ flat_map (address_steps p) (drop (c.loop-i.i + 1) (addresses c.args.r.now))) (sym c.top.ensures.value)

pub loop-i-preserved : goal.loop-i-preserved
loop-i-preserved c =
    c.loop-i.invariant ∙ address_passed (plan c.args.self.now) (addresses c.args.r.now) c.loop-i.i c.source-n.result c.place.result c.place.ensures c.source-n.ensures.value (omega (arith, c.if-n-gt0.false))
