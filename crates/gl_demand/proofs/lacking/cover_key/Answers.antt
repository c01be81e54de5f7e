use Rattle.std.proofs.Common.{IfOk, option_map, ap, subst, ◌≡◌}
use Rattle.gl_calculus.specs.Evaluation.Facts.{fact}
use Rattle.gl_calculus.specs.Evaluation.Reference.{cover_in}
use Rattle.gl_cells.specs.Sheet.{sheet}
use Rattle.gl_value.specs.View.{frame_tree}
use Rattle.gl_machine.specs.Ahead.Demands.{cover_keys}
use Rattle.gl_demand.specs.View.{key_tree}
use Rattle.gl_demand.specs.Reading.{one_key}
use Rattle.gl_demand.proofs.Needing.{cover_found, cover_lacks}
use Rattle.gl_demand.proofs.lacking.cover_key.Goals as goal

pub returns-in-Some-clause-keys : goal.returns-in-Some-clause-keys
returns-in-Some-clause-keys c =
    let S = sheet c.args.cells.now in
    let e = frame_tree c.args.env.now in
    subst (λ o. IfOk c.own_key.result (λ k. one_key (option_map key_tree k) ≡ cover_keys (fact S c.args.w.now) e o))
    (cover_found (cover_in (fact S c.args.w.now c.args.a) e) c.in-Some.cover (c.in-Some.ensures S)) (c.own_key.ensures.keys c.args.w.now)

pub returns-in-None-clause-keys : goal.returns-in-None-clause-keys
returns-in-None-clause-keys c =
    let S = sheet c.args.cells.now in
    let e = frame_tree c.args.env.now in
    ap (cover_keys (fact S c.args.w.now) e) (cover_lacks (cover_in (fact S c.args.w.now c.args.a) e) (c.in-None.ensures S))
