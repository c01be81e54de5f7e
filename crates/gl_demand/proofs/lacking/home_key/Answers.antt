use Rattle.std.proofs.Common.{IfOk, option_map, subst, ◌≡◌}
use Rattle.gl_calculus.specs.Evaluation.Facts.{fact}
use Rattle.gl_cells.specs.Sheet.{sheet}
use Rattle.gl_value.specs.View.{frame_tree}
use Rattle.gl_machine.specs.Ahead.Demands.{shown_keys}
use Rattle.gl_demand.specs.View.{key_tree}
use Rattle.gl_demand.specs.Reading.{one_key}
use Rattle.gl_demand.proofs.lacking.home_key.Goals as goal

pub returns-in-Some-clause-keys : goal.returns-in-Some-clause-keys
returns-in-Some-clause-keys c =
    let at = fact (sheet c.args.cells.now) c.args.w.now in
    subst (λ h. IfOk c.held_key.result (λ k. one_key (option_map key_tree k) ≡ shown_keys at (frame_tree c.args.env.now) (at c.args.a) h)) c.in-Some.ensures.value c.held_key.ensures.keys

pub returns-in-None-clause-keys : goal.returns-in-None-clause-keys
returns-in-None-clause-keys c =
    let at = fact (sheet c.args.cells.now) c.args.w.now in
    subst (λ h. IfOk c.cover_key.result (λ k. one_key (option_map key_tree k) ≡ shown_keys at (frame_tree c.args.env.now) (at c.args.a) h)) c.in-None.ensures.value c.cover_key.ensures.keys
