use Rattle.std.proofs.Common.{◌<◌, Some, length, option_map, IfSome, ap, sym, subst, ◌∙◌}
use Rattle.gl_core.specs.Numbers.{outcome_at}
use Rattle.gl_core.proofs.Numbered.{item_at, outcome_is}
use Rattle.gl_core.proofs.outcomes.row_outcome.Goals as goal

pub returns-in-Some : goal.returns-in-Some
returns-in-Some c =
    let rs = c.args.ledger.now.rows.items in
    let h = subst (λ v. IfSome v (λ r. r < length rs)) c.in-Some.is c.requires in
    ap Some (sym (outcome_is rs c.in-Some.r c.index.result.now (item_at rs c.in-Some.r c.index.result.now c.index.ensures h))) ∙ ap (option_map (outcome_at rs)) (sym c.in-Some.is)
