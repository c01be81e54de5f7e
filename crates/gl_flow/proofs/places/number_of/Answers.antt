use Rattle.std.proofs.Common.{◌+◌, ◌-◌, ◌/◌, sym, ◌∙◌, arith}
use Rattle.gl_flow.proofs.Placing.{above, below, here}
use Rattle.gl_flow.proofs.places.number_of.Goals as goal

pub loop-low-preserved-then-is_before : goal.loop-low-preserved-then-is_before
loop-low-preserved-then-is_before c = record {
  high = c.loop-low.invariant.high;
  between = λ k s. (
    above c.args.places.now c.args.a c.index-places-middle.result (c.loop-low.low + (c.loop-low.high - c.loop-low.low) / 2) k c.requires
        (omega (arith, c.loop-low-test.true, c.loop-low.invariant.high)) c.index-places-middle.is (sym c.is_before.ensures ∙ c.if-is_before.true) s,
    (c.loop-low.invariant.between k s).1,
  );
}

pub loop-low-preserved : goal.loop-low-preserved
loop-low-preserved c = record {
  high = omega (arith, c.loop-low-test.true, c.loop-low.invariant.high);
  between = λ k s. (
    (c.loop-low.invariant.between k s).0,
    below c.args.places.now c.args.a c.index-places-middle.result (c.loop-low.low + (c.loop-low.high - c.loop-low.low) / 2) k c.requires
        (omega (arith, c.loop-low-test.true, c.loop-low.invariant.high)) c.index-places-middle.is (sym c.is_before-else-is_before.ensures ∙ c.if-is_before-2.true) s,
  );
}

pub returns-else-is_before-2-clause-found : goal.returns-else-is_before-2-clause-found
returns-else-is_before-2-clause-found c =
    here c.args.places.now c.args.a c.index-places-middle.result (c.loop-low.low + (c.loop-low.high - c.loop-low.low) / 2)
    (omega (arith, c.loop-low-test.true, c.loop-low.invariant.high)) c.index-places-middle.is (sym c.is_before.ensures ∙ c.if-is_before.false) (sym c.is_before-else-is_before.ensures ∙ c.if-is_before-2.false)
