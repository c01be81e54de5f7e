use Rattle.std.proofs.Common.{◌≡◌, ◌++◌, map, drop}
use Rattle.gl_calculus.specs.Values.Value.{Top}
use Rattle.gl_calculus.specs.Evaluation.Key.{Cell}
use Rattle.gl_demand.specs.View.{key_tree}
use Rattle.gl_core.proofs.machine.top_keys.Given as goal

abbrev pub invariant-loop-a : goal.invariant-loop-a
invariant-loop-a l = map key_tree l.keys.items ++ map (Cell Top) (drop l.a-index l.places) ≡ map (Cell Top) l.places
