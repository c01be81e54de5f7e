-- The settling of a sheet value, and what is read in it.
use Rattle.gl_calculus.specs.Computation.Evaluation.{Demand}
use Rattle.gl_calculus.specs.Values.Value as V
use Rattle.gl_calculus.specs.Values.Value.{Oracle, SheetValue, In}
use Rattle.gl_calculus.specs.Formulas.Formula.{Formula}
use Rattle.gl_calculus.specs.Evaluation.Key.{Settle, Eval, ◌>>=◌, settled_oracle}
use Rattle.gl_calculus.specs.Evaluation.Evaluation.{at_written}

-- the oracle to which a sheet value settles
abbrev pub settling : SheetValue → Eval Oracle
settling s = Demand (Settle s) settled_oracle

-- a place read in the settled sheet value
abbrev pub read_in : Formula → SheetValue → Eval V.Value
read_in f s = Demand (Settle s) (λ x. settled_oracle x >>= λ o. at_written (In s o) f)
