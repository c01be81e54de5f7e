use Rattle.std.proofs.Common.{subst, sym}
use Rattle.gl_language.specs.Reading.Content.{IsProperContent}
use Rattle.gl_language.specs.Reading.Grammar.{IsWellFormed}
use Rattle.gl_ast.specs.View.{formula_tree}
use Rattle.gl_cells.specs.Content.{content_tree}
use Rattle.laws_calculus.proofs.Sound.WellFormed.{well_formed_is_fit}
use Rattle.gl_demand.proofs.held.held_top.Goals as goal

pub returns-in-Form-clause-sound : goal.returns-in-Form-clause-sound
returns-in-Form-clause-sound c h =
    well_formed_is_fit (formula_tree c.deref.result.now)
    (subst (λ f. IsWellFormed (formula_tree f)) (sym c.deref.ensures) (subst (λ k. IsProperContent (content_tree k)) c.in-Form.is h))
