use Rattle.std.proofs.Common.{length}
use Rattle.tests_calculation.proofs.tests.explanations.certificates.+are_of_sound_keys.Given as goal

abbrev pub decreases-are_of_sound_keys : goal.decreases-are_of_sound_keys
decreases-are_of_sound_keys l = length l.notes.now
