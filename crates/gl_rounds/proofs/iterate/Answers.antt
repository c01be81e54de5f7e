use Rattle.std.proofs.Common.{◌≢◌, ◌+◌, refl, ◌∙◌, sym, subst, arith}
use Rattle.gl_rounds.proofs.Steps.{begins, goes_on, settles, runs_out, breaks_off}
use Rattle.gl_rounds.proofs.iterate.Goals as goal

pub loop-next-init : goal.loop-next-init
loop-next-init g c = record {
  reached = begins (g.R.Round.gives c.args.round.now) (g.R.Round.fails c.args.round.now) g.R.Round.calls c.args.bound.now (g.B.Blocks.held c.args.blocks.now) c.args.budget c.args.round.now c.args.count.now c.new-oracle.result c.new-oracle.ensures;
  few = omega arith;
  can = c.requires.can;
  under = subst (g.R.Round.under c.args.round.now) (sym c.new-oracle.ensures) c.requires.first;
  under_kept = λ v h. h;
  gives_kept = λ v zs. (λ h. h, λ h. h);
  fails_kept = λ v e. (λ h. h, λ h. h);
}

pub returns-in-Err : goal.returns-in-Err
returns-in-Err g c =
    breaks_off (g.R.Round.gives c.args.round.now) (g.R.Round.fails c.args.round.now) g.R.Round.calls c.args.bound.now (g.B.Blocks.held c.args.blocks.now) c.args.budget c.args.round.now c.args.count.now
    c.loop-next.rounds c.loop-next.oracle c.loop-next.round c.loop-next.count c.loop-next.invariant.reached (g.R.Round.gives c.loop-next.round) (g.R.Round.fails c.loop-next.round) c.loop-next.invariant.gives_kept c.loop-next.invariant.fails_kept c.next_oracle.new.round c.next_oracle.new.count
    c.in-Err.fault c.in-Err.ensures.once

pub overflow_add-rounds : goal.overflow_add-rounds
overflow_add-rounds g c = omega (arith, c.loop-next.invariant.few)

pub returns-in-None : goal.returns-in-None
returns-in-None g c =
    settles (g.R.Round.gives c.args.round.now) (g.R.Round.fails c.args.round.now) g.R.Round.calls c.args.bound.now (g.B.Blocks.held c.args.blocks.now) c.args.budget c.args.round.now c.args.count.now
    c.loop-next.rounds c.loop-next.oracle c.loop-next.round c.loop-next.count c.loop-next.invariant.reached (g.R.Round.gives c.loop-next.round) (g.R.Round.fails c.loop-next.round) c.loop-next.invariant.gives_kept c.loop-next.invariant.fails_kept c.next_oracle.new.round c.next_oracle.new.count
    c.in-Ok.next (c.loop-next.rounds + 1) c.in-Ok.ensures.once (c.first_difference.ensures.none.0 c.in-None.is) refl

pub returns-then-rounds-budget : goal.returns-then-rounds-budget
returns-then-rounds-budget g c =
    runs_out (g.R.Round.gives c.args.round.now) (g.R.Round.fails c.args.round.now) g.R.Round.calls c.args.bound.now (g.B.Blocks.held c.args.blocks.now) c.args.budget c.args.round.now c.args.count.now
    c.loop-next.rounds c.loop-next.oracle c.loop-next.round c.loop-next.count c.loop-next.invariant.reached (g.R.Round.gives c.loop-next.round) (g.R.Round.fails c.loop-next.round) c.loop-next.invariant.gives_kept c.loop-next.invariant.fails_kept c.next_oracle.new.round c.next_oracle.new.count
    c.in-Ok.next (c.loop-next.rounds + 1) c.in-Some.a c.in-Ok.ensures.once (sym c.in-Some.is ∙ c.first_difference.ensures.value) refl c.if-rounds-budget.true

pub loop-next-smaller : goal.loop-next-smaller
loop-next-smaller g c = omega (arith, c.loop-next.invariant.few)

pub loop-next-preserved : goal.loop-next-preserved
loop-next-preserved g c =
    let moves : c.loop-next.oracle ≢ c.in-Ok.next = λ e. (let both = sym c.in-Some.is ∙ c.first_difference.ensures.none.1 e in absurd (cc both)) in
    record {
      reached = goes_on (g.R.Round.gives c.args.round.now) (g.R.Round.fails c.args.round.now) g.R.Round.calls c.args.bound.now (g.B.Blocks.held c.args.blocks.now) c.args.budget c.args.round.now c.args.count.now
          c.loop-next.rounds c.loop-next.oracle c.loop-next.round c.loop-next.count c.loop-next.invariant.reached (g.R.Round.gives c.loop-next.round) (g.R.Round.fails c.loop-next.round) c.loop-next.invariant.gives_kept c.loop-next.invariant.fails_kept c.next_oracle.new.round c.next_oracle.new.count
          c.in-Ok.next (c.loop-next.rounds + 1) c.in-Ok.ensures.once moves refl c.if-rounds-budget.false;
      few = omega (arith, c.loop-next.invariant.few, c.if-rounds-budget.false);
      can = c.next_oracle.ensures.can_again;
      under = c.next_oracle.ensures.under_kept c.in-Ok.next (c.loop-next.invariant.under_kept c.in-Ok.next (c.requires.next c.in-Ok.next c.in-Ok.ensures.permits));
      under_kept = λ v h. c.next_oracle.ensures.under_kept v (c.loop-next.invariant.under_kept v h);
      gives_kept = λ v zs. (
        λ h. (c.loop-next.invariant.gives_kept v zs).0 ((c.next_oracle.ensures.gives_kept v zs).0 h),
        λ h. (c.next_oracle.ensures.gives_kept v zs).1 ((c.loop-next.invariant.gives_kept v zs).1 h),
      );
      fails_kept = λ v e. (
        λ h. (c.loop-next.invariant.fails_kept v e).0 ((c.next_oracle.ensures.fails_kept v e).0 h),
        λ h. (c.next_oracle.ensures.fails_kept v e).1 ((c.loop-next.invariant.fails_kept v e).1 h),
      );
    }
