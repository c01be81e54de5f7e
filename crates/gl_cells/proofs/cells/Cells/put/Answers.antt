use Rattle.gl_cells.proofs.TableLemmas.{within_answer}
use Rattle.gl_cells.proofs.cells.Cells.put.Goals as goal

pub invariant_of-self : goal.invariant_of-self
invariant_of-self c = within_answer c.put_one.result c.self.inside.map c.put_one.new.map c.self.inside.forms c.put_one.new.forms _ c.self.invariant c.put_one.ensures.table c.put_one.ensures.answers
