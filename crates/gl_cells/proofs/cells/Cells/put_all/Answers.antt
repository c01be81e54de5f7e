use Rattle.gl_cells.proofs.TableLemmas.{within_answer}
use Rattle.gl_cells.proofs.cells.Cells.put_all.Goals as goal

pub invariant_of-self : goal.invariant_of-self
invariant_of-self c = within_answer c.put_list.result c.self.inside.map c.put_list.new.map c.self.inside.forms c.put_list.new.forms _ c.self.invariant c.put_list.ensures.table c.put_list.ensures.answers
