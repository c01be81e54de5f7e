use Rattle.std.proofs.Common.{◌∙◌, ◌+◌, ◌≤◌, ◌<◌, List, length, sym, ap, subst}
use Rattle.gl_calculus.specs.Grid.Grid.{Addr}
use Rattle.gl_calculus.specs.Edits.Limits.{max_registers}
use Rattle.gl_calculus.specs.Edits.Replicas.{missing}
use Rattle.gl_merge.specs.Replica.{registers_of}
use Rattle.gl_undo.specs.View.{changes_tree}
use Rattle.gl_undo.specs.View as undo
use Rattle.gl_run.proofs.Listed.{listed_places}
use Rattle.gl_run.proofs.Readying.{own_ready, own_full}
use Rattle.gl_run.proofs.local.own_edits.Goals as goal

pub returns-in-Ok-clause-edits : goal.returns-in-Ok-clause-edits
returns-in-Ok-clause-edits c =
    let r = c.args.replica.now in
    let rs = registers_of r in
    let q = c.make_room.new.self in
    let vs = c.args.list.items in
    let at_these = c.deref-2.ensures.value ∙ c.in_ok-at.ensures ∙ ap undo.places c.deref.ensures.value ∙ sym (listed_places vs) in
    let room = subst (λ (ps : List Addr). (length rs + missing rs ps ≤ max_registers) × (missing rs ps ≤ q.spare)) at_these c.in-Ok.ensures.answer in
    own_ready r q c.in-Some.stamp (changes_tree vs) c.make_room.ensures.same (sym c.next.ensures.value ∙ c.in-Some.is) c.in-Some.ensures.latest c.are_ordered.ensures c.requires.ordered
    c.in_ok-stamped-in-Ok.field-0.items c.in_ok-stamped-in-Ok.ensures room.0 room.1

pub returns-in-Err-Edits-clause-edits : goal.returns-in-Err-Edits-clause-edits
returns-in-Err-Edits-clause-edits c =
    let r = c.args.replica.now in
    let rs = registers_of r in
    let vs = c.args.list.items in
    let at_these = c.deref-2.ensures.value ∙ c.in_ok-at.ensures ∙ ap undo.places c.deref.ensures.value ∙ sym (listed_places vs) in
    let many = subst (λ (ps : List Addr). max_registers < length rs + missing rs ps) at_these (rw c.in-Err-Edits.field-0-is at c.in-Err-Edits.ensures.answer) in
    own_full r c.make_room.new.self c.in-Some.stamp (changes_tree vs) c.make_room.ensures.same (sym c.next.ensures.value ∙ c.in-Some.is) c.in-Some.ensures.latest c.are_ordered.ensures c.requires.ordered many
