use Rattle.tests_evaluation.proofs.tests.results.kept_after.Goals as goal

pub returns : goal.returns
returns c = λ n m. c.requires n (c.in_ok-keep.ensures.the.0 n m).0
