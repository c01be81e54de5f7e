use Rattle.gl_cells.specs.Sheet.{sheet}
use Rattle.gl_demand.specs.View.{key_tree}
use Rattle.laws_calculus.proofs.Explanation.Judging.{proper_is}
use Rattle.gl_cert.proofs.stepping.is_proper.Goals as goal

pub returns-clause-test : goal.returns-clause-test
returns-clause-test c = proper_is (sheet c.args.cells.now) (key_tree c.args.key.now) c.proper.result c.proper.ensures.yes c.proper.ensures.no
