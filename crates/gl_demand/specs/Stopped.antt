-- What is found where an evaluation ends, and where it stops before its result.
use Rattle.std.specs.Prelude.{◌≡◌, Result, Ok, Err}
use Rattle.gl_calculus.specs.Computation.Query.{Ready, Need}
use Rattle.gl_calculus.specs.Evaluation.Key as K
use Rattle.gl_machine.specs.Ahead.Reading as A
use Rattle.gl_plane.specs.declared.NoMemory.{NoMemory}
use Rattle.gl_demand.specs.View.{key_tree, budget_tree, found_tree}
use Rattle.gl_demand.specs.Reading.{ahead_tree}
use Rattle.gl_demand.specs.declared.evaluating.Ended.{Ended}
use Rattle.gl_demand.specs.declared.trail.Halt.{Halt}
use Rattle.gl_demand.specs.declared.trail.Halt.TheVariants as halt

-- it ends with this outcome
abbrev pub IsReady : K.Outcome → Ended → Type 0
IsReady o x = (found_tree x.found ≡ Ready o) × (ahead_tree x.ahead ≡ A.Nothing)

abbrev pub IsStopped : Halt → Result Ended NoMemory → Type 0
IsStopped (halt.Need k a) (Ok x) = (found_tree x.found ≡ Need (key_tree k)) × (ahead_tree x.ahead ≡ ahead_tree a)
IsStopped (halt.Spent b) (Ok x) = IsReady (K.Outcome.Abort (budget_tree b)) x
IsStopped halt.NoMemory (Ok x) = ⊥
IsStopped h (Err e) = Unit {0}

-- the halt of a part, where this was being read; or there is no memory
abbrev pub IsHaltIn : A.Ahead → Halt → Halt → Type 0
IsHaltIn a (halt.Need k x) (halt.Need j y) = (key_tree j ≡ key_tree k) × (ahead_tree y ≡ a)
IsHaltIn a (halt.Need k x) (halt.Spent b) = ⊥
IsHaltIn a (halt.Need k x) halt.NoMemory = Unit {0}
IsHaltIn a (halt.Spent b) h = h ≡ halt.Spent b
IsHaltIn a halt.NoMemory h = h ≡ halt.NoMemory
