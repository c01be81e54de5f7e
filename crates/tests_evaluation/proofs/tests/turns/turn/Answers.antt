-- The table is sound: each of its entries says so of itself.
use Rattle.gl_demand.specs.View.{key_tree, outcome_tree}
use Rattle.tests_evaluation.specs.declared.tests.table.Told.{Told}
use Rattle.tests_evaluation.proofs.Told.{sound_told}
use Rattle.tests_evaluation.proofs.tests.turns.turn.Goals as goal

pub step-requires-clause-known : goal.step-requires-clause-known
step-requires-clause-known g c = sound_told {A = Told} (λ x. key_tree x.key) (λ x. outcome_tree x.outcome) (λ x. x.sound) c.args.table.now.told.items
