use Rattle.std.proofs.Common.{◌∙◌, ap, sym, subst, Option, IfSome, option_map}
use Rattle.gl_calculus.specs.Formulas.Formula.{content}
use Rattle.gl_language.specs.Reading.Content.{IsProperContent}
use Rattle.gl_cells.specs.declared.content.Content.{Content}
use Rattle.gl_cells.specs.Content.{content_tree}
use Rattle.gl_cells.specs.Sheet.{Table, sheet}
use Rattle.gl_cells.proofs.TableLemmas.{content_sheet, proper_at, proper_copied}
use Rattle.gl_cells.proofs.cells.Cells.content.Goals as goal

pub returns-clause-found : goal.returns-clause-found
returns-clause-found c = ap (option_map content_tree) c.get.ensures.value ∙ sym (content_sheet c.self.inside.map c.args.a) ∙ ap (λ (es : Table). content (sheet es) c.args.a) c.self.view_is

pub returns-clause-proper : goal.returns-clause-proper
returns-clause-proper c = proper_copied c.get.result (subst (λ (o : Option Content). IfSome o (λ x. IsProperContent (content_tree x))) (sym c.get.ensures.value) (proper_at _ c.self.inside.map c.self.invariant.table.proper))
