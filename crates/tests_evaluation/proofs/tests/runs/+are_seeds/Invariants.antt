use Rattle.std.proofs.Common.{length}
use Rattle.tests_evaluation.proofs.tests.runs.+are_seeds.Given as goal

abbrev pub decreases-are_seeds : goal.decreases-are_seeds
decreases-are_seeds l = length l.keys.now
