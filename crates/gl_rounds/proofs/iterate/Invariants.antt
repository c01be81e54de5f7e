use Rattle.std.proofs.Common.{◌↔◌, ◌<◌, ◌-◌}
use Rattle.gl_calculus.specs.Values.Value.{Oracle}
use Rattle.gl_calculus.specs.Evaluation.Oracle.{Sizes}
use Rattle.gl_rounds.specs.Rounds.{Reaches}
use Rattle.gl_rounds.proofs.iterate.Given as goal

-- The rounds so far have gone on, and each call kept what oracles give.
abbrev pub invariant-loop-next : goal.invariant-loop-next
invariant-loop-next g l = record {
  reached : Reaches (g.R.Round.gives l.fn.round) g.R.Round.calls l.bound (g.B.Blocks.held l.blocks) l.budget l.fn.round l.fn.count l.rounds l.oracle l.round l.count;
  few : l.rounds < l.budget;
  can : g.R.Round.can l.round;
  under : g.R.Round.under l.round l.oracle;
  under_kept : (v : Oracle) → g.R.Round.under l.fn.round v → g.R.Round.under l.round v;
  gives_kept : (v : Oracle) (zs : Sizes) → g.R.Round.gives l.round v zs ↔ g.R.Round.gives l.fn.round v zs;
  fails_kept : (v : Oracle) (e : _) → g.R.Round.fails l.round v e ↔ g.R.Round.fails l.fn.round v e;
}

abbrev pub decreases-loop-next : goal.decreases-loop-next
decreases-loop-next g l = l.budget - l.rounds
