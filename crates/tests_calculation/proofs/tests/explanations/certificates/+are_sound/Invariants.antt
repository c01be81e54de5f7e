use Rattle.std.proofs.Common.{length}
use Rattle.tests_calculation.proofs.tests.explanations.certificates.+are_sound.Given as goal

abbrev pub decreases-are_sound : goal.decreases-are_sound
decreases-are_sound l = length l.keys.now
