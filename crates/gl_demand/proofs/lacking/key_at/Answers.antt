use Rattle.std.proofs.Common.{IfOk, option_map, subst, ◌≡◌}
use Rattle.gl_calculus.specs.Evaluation.Facts.{fact}
use Rattle.gl_calculus.specs.Formulas.Formula.{content}
use Rattle.gl_calculus.specs.Evaluation.Reference.{own_content}
use Rattle.gl_cells.specs.Sheet.{sheet}
use Rattle.gl_machine.specs.Ahead.Demands.{shown_keys}
use Rattle.gl_demand.specs.View.{key_tree}
use Rattle.gl_demand.specs.Reading.{one_key}
use Rattle.gl_demand.proofs.lacking.key_at.Goals as goal

pub returns-clause-keys : goal.returns-clause-keys
returns-clause-keys c =
    let S = sheet c.args.cells.now in
    let at = fact S c.args.w.now in
    subst (λ h. IfOk c.home_key.result (λ k. one_key (option_map key_tree k) ≡ shown_keys at h (at c.args.a) (own_content (content S c.args.a) h c.args.a))) c.sound_home.ensures.value c.home_key.ensures.keys
