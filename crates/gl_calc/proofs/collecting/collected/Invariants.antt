use Rattle.std.proofs.Common.{◌≡◌, ◌++◌, map, drop}
use Rattle.gl_calculus.specs.Computation.Lists.{Member, AreDistinct}
use Rattle.gl_machine.specs.Machine.{keys}
use Rattle.gl_calculus.specs.Grid.Grid.{Addr, AreInOrder}
use Rattle.gl_calculus.specs.Values.Value.{Oracle, Top}
use Rattle.gl_calculus.specs.Formulas.Formula.{Version, Cells}
use Rattle.gl_calculus.specs.Evaluation.Key.{Cell}
use Rattle.gl_calculus.specs.Calculation.Calculation.{DemandedIn}
use Rattle.gl_calculus.specs.Evaluation.World.{world}
use Rattle.gl_core.specs.State.{state_of}
use Rattle.gl_calc.specs.Shown.{IsRound}
use Rattle.gl_calc.specs.Visits.{StandFirst}
use Rattle.gl_calc.proofs.Arrays.{Goes}
use Rattle.gl_calc.proofs.collecting.collected.Given as goal

-- What was found so far goes on with the formulas that are left, and stays in order before them.
abbrev pub invariant-loop-a : goal.invariant-loop-a
invariant-loop-a l = record {
  goes : (version : Version) (S : Cells) (w : Oracle) → IsRound (world version S w) (state_of l.quiet) → StandFirst l.places (state_of l.quiet) → AreDistinct (keys (state_of l.quiet)) → ((a : Addr) → Member a l.places → DemandedIn (world version S w) (Cell Top a)) → Goes (world version S w) l.places l.sizes (drop l.a-index l.places);
  count : l.i ≡ l.a-index;
  ordered : AreInOrder (map (λ x. x.0) l.sizes ++ drop l.a-index l.places);
}
