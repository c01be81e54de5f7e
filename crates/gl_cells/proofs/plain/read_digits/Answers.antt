use Rattle.std.proofs.Common.{◌≡◌, length, arith, subst}
use Rattle.std.proofs.lemmas.Grind.{common_steps}
use Rattle.gl_cells.proofs.Digits.{Read, read_all, read_stops}
use Rattle.gl_cells.proofs.plain.read_digits.Goals as goal

pub returns-in-None : goal.returns-in-None
returns-in-None c = read_stops c.args.bytes.now c.loop-b.n c.loop-b.b-index c.loop-b.invariant (omega arith) c.in-None.ensures

pub returns : goal.returns
returns c =
    let e : c.loop-b.b-index ≡ length c.args.bytes.now = omega arith in
    read_all c.args.bytes.now c.loop-b.n (subst (λ i. Read c.args.bytes.now c.loop-b.n i) e c.loop-b.invariant)

pub loop-b-preserved : goal.loop-b-preserved
loop-b-preserved c = grind (arith, common_steps)
