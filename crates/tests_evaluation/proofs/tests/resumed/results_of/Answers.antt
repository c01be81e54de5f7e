use Rattle.gl_ast.specs.View.{version_tree}
use Rattle.gl_cells.specs.Sheet.{sheet}
use Rattle.tests_evaluation.proofs.tests.resumed.results_of.Goals as goal

pub returns : goal.returns
returns c = λ n m.
    let e = c.args.at.now in
    ((c.into_results.ensures.notes (version_tree e.version) (sheet e.cells.now) e.oracle.now c.requires.for_it c.requires.quiet).each n m).1
