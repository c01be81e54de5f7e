use Rattle.std.proofs.Common.{◌≡◌, map, take}
use Rattle.gl_calculus.specs.Formulas.Formula.{content}
use Rattle.gl_cells.specs.Sheet.{sheet}
use Rattle.gl_flow.specs.Contents.{formula_in}
use Rattle.gl_flow.specs.Pieces.{piece_lists, pieces_in}
use Rattle.gl_flow.proofs.reading.pieces_of.Given as goal

abbrev pub invariant-loop-a : goal.invariant-loop-a
invariant-loop-a l = piece_lists l.all.items ≡ map (λ a. pieces_in (formula_in (content (sheet l.cells) a))) (take l.a-index l.places)
