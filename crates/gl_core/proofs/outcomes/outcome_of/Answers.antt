use Rattle.std.proofs.Common.{ap, sym, subst, ◌∙◌}
use Rattle.gl_machine.specs.Machine.{table, outcome_of}
use Rattle.gl_calculus.specs.Evaluation.Key.{same_key}
use Rattle.gl_demand.specs.View.{key_tree}
use Rattle.gl_core.specs.Numbers.{IsNumber}
use Rattle.gl_core.specs.Table.{table_of}
use Rattle.gl_core.proofs.Wakes.{get_within}
use Rattle.gl_core.proofs.Numbered.{key_is}
use Rattle.gl_core.proofs.Cores.{outcome_there, absent, resolved_within}
use Rattle.gl_core.proofs.outcomes.outcome_of.Goals as goal

pub row_outcome-requires : goal.row_outcome-requires
row_outcome-requires c = resolved_within c.args.ledger.now c.args.entries.now c.requires.core c.in-Some.n c.resolved.result c.resolved.ensures

pub returns-in-Some : goal.returns-in-Some
returns-in-Some c =
    let l = c.args.ledger.now in
    let e = c.args.entries.now in
    let n = c.in-Some.n in
    let k = key_tree c.args.k.now in
    let number = subst (IsNumber l.book k) c.in-Some.is c.requires.number in
    c.row_outcome.ensures ∙ sym (outcome_there l e c.requires.core n c.resolved.result (get_within l.book n k number) c.resolved.ensures) ∙ ap (table same_key (table_of l e)) (key_is l.book n k number)

pub returns-in-None : goal.returns-in-None
returns-in-None c =
    let k = key_tree c.args.k.now in
    let number = subst (IsNumber c.args.ledger.now.book k) c.in-None.is c.requires.number in
    sym (ap outcome_of (absent c.args.ledger.now c.args.entries.now c.requires.core k number))
