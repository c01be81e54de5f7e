use Rattle.std.proofs.Common.{ap, sym, ◌∙◌}
use Rattle.gl_calculus.specs.Calculation.Memory.{Notes}
use Rattle.gl_demand.specs.View.{key_tree}
use Rattle.gl_core.specs.Ledger.{written}
use Rattle.gl_core.specs.Results.{outcome_in}
use Rattle.gl_core.proofs.Wakes.{get_within}
use Rattle.gl_core.proofs.Numbered.{key_is}
use Rattle.gl_core.proofs.Filtered.{numbers_apart}
use Rattle.gl_core.proofs.ByRow.{by_row, none_by, found_sound, has_row}
use Rattle.gl_core.proofs.results.Results.outcome.Goals as goal

pub row_outcome-requires : goal.row_outcome-requires
row_outcome-requires c = has_row c.self.inside.ledger.rows.items c.in-Some.n c.row.result c.row.ensures

pub returns-in-Some-clause-value : goal.returns-in-Some-clause-value
returns-in-Some-clause-value c =
    let l = c.self.inside.ledger in
    let h = c.self.invariant.0 in
    let k = key_tree c.args.k.now in
    c.row_outcome.ensures ∙ by_row l.book h.book.apart l.rows.items h.below (numbers_apart l h) c.in-Some.n c.row.result (get_within l.book c.in-Some.n k c.in-Some.ensures) c.row.ensures
    ∙ ap (outcome_in (written l)) (key_is l.book c.in-Some.n k c.in-Some.ensures) ∙ ap (λ (ns : Notes). outcome_in ns k) c.self.view_is

pub returns-in-Some-clause-sound : goal.returns-in-Some-clause-sound
returns-in-Some-clause-sound c =
    let l = c.self.inside.ledger in
    let h = c.self.invariant.0 in
    let k = key_tree c.args.k.now in
    found_sound (written l) k c.row_outcome.result h.sound (c.row_outcome.ensures ∙ by_row l.book h.book.apart l.rows.items h.below (numbers_apart l h) c.in-Some.n c.row.result (get_within l.book c.in-Some.n k c.in-Some.ensures) c.row.ensures ∙ ap (outcome_in (written l)) (key_is l.book c.in-Some.n k c.in-Some.ensures))

pub returns-in-None-clause-value : goal.returns-in-None-clause-value
returns-in-None-clause-value c =
    let l = c.self.inside.ledger in
    let k = key_tree c.args.k.now in
    sym (none_by l.book l.rows.items c.self.invariant.0.below k c.in-None.ensures) ∙ ap (λ (ns : Notes). outcome_in ns k) c.self.view_is
