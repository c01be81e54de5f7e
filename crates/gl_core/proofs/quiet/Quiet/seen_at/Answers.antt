use Rattle.std.proofs.Common.{◌≡◌, slice_get, subst, MatchOption, None, Some, IfSome}
use Rattle.gl_machine.specs.Machine as Machine
use Rattle.gl_calculus.specs.Evaluation.Key as K
use Rattle.gl_core.specs.Held.{Held}
use Rattle.gl_core.specs.State.{state_of}
use Rattle.gl_core.specs.Table.{known_keys}
use Rattle.gl_core.specs.Answers.{IsSeenAt, IsSoundSeen, IsSeenStatus}
use Rattle.gl_core.proofs.Cores.{readable, known_statuses, known_below, rows_there, row_within, place_sound}
use Rattle.gl_core.proofs.Seeing.{seen_place, seen_place_sound}
use Rattle.gl_core.proofs.quiet.Quiet.seen_at.Goals as goal

pub seen_status-requires : goal.seen_status-requires
seen_status-requires c = row_within c.self.inside.ledger c.self.inside.entries c.self.invariant.0 c.args.i c.status_at.result c.status_at.ensures

pub returns-clause-cases : goal.returns-clause-cases
returns-clause-cases c =
    let l = c.self.inside.ledger in
    let e = c.self.inside.entries in
    let t = c.self.invariant.0 in
    let i = c.args.i in
    let seen = subst (IsSeenStatus l.rows.items c.seen_status.result) c.status_at.ensures c.seen_status.ensures in
    subst (λ (h : Held). MatchOption c.seen_status.result (slice_get (state_of h) i ≡ None) (IsSeenAt (slice_get (state_of h) i))) c.self.view_is
    (seen_place l.rows.items (known_keys l e) (known_keys l e) e.statuses.items.items i (known_statuses l e (readable l e t)) (known_below l e t) c.self.invariant.1 c.seen_status.result (rows_there l e t) seen)

pub returns-clause-sound : goal.returns-clause-sound
returns-clause-sound c =
    let l = c.self.inside.ledger in
    let e = c.self.inside.entries in
    let t = c.self.invariant.0 in
    let i = c.args.i in
    let seen = subst (IsSeenStatus l.rows.items c.seen_status.result) c.status_at.ensures c.seen_status.ensures in
    subst (λ (h : Held). (x : Machine.Entry K.Key K.Outcome) → slice_get (state_of h) i ≡ Some x → IfSome c.seen_status.result (IsSoundSeen x.key)) c.self.view_is
    (seen_place_sound l.rows.items (known_keys l e) (known_keys l e) e.statuses.items.items i (known_statuses l e (readable l e t)) (place_sound l e t) c.seen_status.result seen)
