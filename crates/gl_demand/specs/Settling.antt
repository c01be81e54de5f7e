-- The rounds of a sheet value as walks: what a round sees, and what it comes to.
use Rattle.std.specs.Prelude.{◌≡◌, List, ◌∷◌, [], Result, Ok, Err}
use Rattle.gl_calculus.specs.Computation.Query.{Ready, Need, found}
use Rattle.gl_calculus.specs.Computation.Evaluation.{given}
use Rattle.gl_calculus.specs.Values.Value.{Oracle, SheetValue, Frame, In, region}
use Rattle.gl_calculus.specs.Evaluation.Oracle.{Sizes}
use Rattle.gl_calculus.specs.Evaluation.Facts.{Fact, facts}
use Rattle.gl_calculus.specs.Evaluation.Key.{Eval}
use Rattle.gl_calculus.specs.Evaluation.Evaluation.{arrays, rounds, copy_budget}
use Rattle.gl_demand.specs.View.{key_tree, budget_tree}
use Rattle.gl_demand.specs.Walk.{Inputs, walk, behind}
use Rattle.gl_demand.specs.Walks.{EndsWalk, trail_tree}
use Rattle.gl_demand.specs.declared.trail.Trail.{Trail}
use Rattle.gl_demand.specs.declared.trail.Halt.{Halt}
use Rattle.gl_demand.specs.declared.trail.Halt.TheVariants as halt
use Rattle.gl_demand.specs.declared.outcome.Budget.TheVariants as spent
use Rattle.gl_rounds.specs.declared.IterFault.{IterFault}
use Rattle.gl_rounds.specs.declared.IterFault.TheVariants as fault

-- what the sheet and the oracle of the top say of the region
abbrev pub region_facts : Inputs → SheetValue → List Fact
region_facts w s = facts w.cells w.oracle (region s)

-- the arrays of the round under an oracle
abbrev pub round_arrays : Inputs → SheetValue → Oracle → Eval Sizes
round_arrays w s o = arrays (In s o) (region_facts w s)

-- all rounds
abbrev pub all_rounds : Inputs → SheetValue → Eval Oracle
all_rounds w s = rounds s (region_facts w s) (copy_budget s (region_facts w s)) []

-- a round under the oracle finds these arrays
abbrev pub Gives : Inputs → SheetValue → Oracle → Sizes → Type 0
Gives w s o zs = found w.known (given (facts w.cells w.oracle) (round_arrays w s o)) ≡ Ready (Ok zs)

-- a round under the oracle halts like this
abbrev pub Fails : Inputs → SheetValue → Oracle → Halt → Type 0
Fails w s o (halt.Need k a) = found w.known (given (facts w.cells w.oracle) (round_arrays w s o)) ≡ Need (key_tree k)
Fails w s o (halt.Spent b) = found w.known (given (facts w.cells w.oracle) (round_arrays w s o)) ≡ Ready (Err (budget_tree b))
Fails w s o halt.NoMemory = Unit {0}

-- A visit of an address adds its array, if its own value is one: then a walk through it and any further addresses goes on with those, else it halts.
abbrev pub Visits : Inputs → Frame → Fact → Sizes → Trail → Result (Unit {0}) Halt → Sizes → Trail → Type 0
Visits w e x zs old (Ok u) zs' new = (rest : List Fact) → behind zs (walk w (arrays e (x ∷ rest)) (trail_tree old)) ≡ behind zs' (walk w (arrays e rest) (trail_tree new))
Visits w e x zs old (Err h) zs' new = (rest : List Fact) → EndsWalk {T = Sizes} w (arrays e (x ∷ rest)) (λ ys. ys) old (Err h) new

-- why a walk halts whose rounds end with this fault
abbrev pub halt_of : IterFault Halt → Halt
halt_of (fault.Rounds a) = halt.Spent spent.CopyRounds
halt_of (fault.Round h) = h
halt_of fault.NoMemory = halt.NoMemory
