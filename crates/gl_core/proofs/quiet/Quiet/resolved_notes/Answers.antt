use Rattle.std.proofs.Common.{◌≡◌, ◌+◌, List, filter, length, nat_eq, refl, ap, sym, subst, ◌∙◌, eqb-true, arith}
use Rattle.gl_calculus.specs.Grid.Grid.{Range}
use Rattle.gl_support.specs.declared.row.Row.{Row}
use Rattle.gl_demand.specs.declared.outcome.Outcome.{Outcome}
use Rattle.gl_core.specs.Held.{Held}
use Rattle.gl_core.specs.State.{state_of, notes_in, AreSoundNotes}
use Rattle.gl_core.specs.Statuses.{count_idle}
use Rattle.gl_core.specs.Table.{has_outcome}
use Rattle.gl_core.specs.Kept.{is_resolved}
use Rattle.gl_core.proofs.Resolved.{resolved_written}
use Rattle.gl_core.proofs.Counted.{rest_core, rest_filter, counted_rested, counted_kept}
use Rattle.gl_core.proofs.quiet.Quiet.resolved_notes.Goals as goal

pub rest-requires : goal.rest-requires
rest-requires c = c.self.invariant.0.table

pub are_all-requires : goal.are_all-requires
are_all-requires c = rest_core c.self.inside.ledger c.self.inside.entries c.rest.new.self c.self.invariant.0 c.rest.ensures

pub keep_known-requires : goal.keep_known-requires
keep_known-requires c = rest_core c.self.inside.ledger c.self.inside.entries c.rest.new.self c.self.invariant.0 c.rest.ensures

pub returns-then-are_all-clause-kept : goal.returns-then-are_all-clause-kept
returns-then-are_all-clause-kept c =
    let l = c.self.inside.ledger in
    let e = c.self.inside.entries in
    let e' = c.rest.new.self in
    let r = c.rest.ensures in
    let core = rest_core l e e' c.self.invariant.0 r in
    let count : length l.rows.items + count_idle e'.statuses.items.items ≡ length e'.known.items = eqb-true _ _ (sym c.are_all.ensures ∙ c.if-are_all.true) in
    resolved_written l e c.self.invariant.0 l refl (counted_kept l e' core r.none count ∙ rest_filter e e' r l.rows.items)
    ∙ ap (λ (h : Held). filter (λ n. is_resolved (state_of h) n.key) (notes_in h)) c.self.view_is

pub returns-then-are_all-clause-ledger : goal.returns-then-are_all-clause-ledger
returns-then-are_all-clause-ledger c = c.self.invariant.0.ledger

pub returns-then-are_all-clause-carry : goal.returns-then-are_all-clause-carry
returns-then-are_all-clause-carry c =
    let l = c.self.inside.ledger in
    let e' = c.rest.new.self in
    let r = c.rest.ensures in
    let core = rest_core l c.self.inside.entries e' c.self.invariant.0 r in
    let count : length l.rows.items + count_idle e'.statuses.items.items ≡ length e'.known.items = eqb-true _ _ (sym c.are_all.ensures ∙ c.if-are_all.true) in
    c.of.ensures l (counted_rested l e' core r.none count r.marks)

pub returns-then-are_all-clause-sound : goal.returns-then-are_all-clause-sound
returns-then-are_all-clause-sound c = subst (λ (h : Held). AreSoundNotes (notes_in h)) c.self.view_is c.self.invariant.0.ledger.sound

pub returns-clause-kept : goal.returns-clause-kept
returns-clause-kept c =
    let l = c.self.inside.ledger in
    let e = c.self.inside.entries in
    resolved_written l e c.self.invariant.0 c.keep_known.new.ledger c.keep_known.ensures.book (c.keep_known.ensures.rows ∙ rest_filter e c.rest.new.self c.rest.ensures l.rows.items)
    ∙ ap (λ (h : Held). filter (λ n. is_resolved (state_of h) n.key) (notes_in h)) c.self.view_is

pub returns-clause-carry : goal.returns-clause-carry
returns-clause-carry c = tt

pub returns-clause-sound : goal.returns-clause-sound
returns-clause-sound c = subst (λ (h : Held). AreSoundNotes (notes_in h)) c.self.view_is c.self.invariant.0.ledger.sound
