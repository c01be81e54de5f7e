use Rattle.std.proofs.Common.{ℕ, List, Vec, ap, sym, subst}
use Rattle.std.specs.declared.alloc.Global.{Global}
use Rattle.gl_machine.specs.Remembered.{AreClosed, AreTheKept}
use Rattle.gl_calculus.specs.Calculation.Memory.{Notes}
use Rattle.gl_calculus.specs.Grid.Grid.{Range}
use Rattle.gl_plane.specs.Changes.{reaches}
use Rattle.gl_support.specs.declared.row.Row.{Row}
use Rattle.gl_demand.specs.declared.outcome.Outcome.{Outcome}
use Rattle.gl_core.specs.Ledger.{written}
use Rattle.gl_core.specs.Carry.{CanFollow}
use Rattle.gl_core.proofs.Followed.{can_follow, same_carry}
use Rattle.gl_core.proofs.results.Results.keep.Goals as goal

pub keep-requires-clause-kept : goal.keep-requires-clause-kept
keep-requires-clause-kept c = c.self.invariant.0

pub keep-requires-clause-closed : goal.keep-requires-clause-closed
keep-requires-clause-closed c = c.self.invariant.1.closed

pub follow-requires-clause-kept : goal.follow-requires-clause-kept
follow-requires-clause-kept c = c.keep.ensures.kept

pub follow-requires-clause-begun : goal.follow-requires-clause-begun
follow-requires-clause-begun c =
    let k = c.keep.ensures in
    subst (λ (ns : List ℕ). CanFollow c.keep.new.self ns c.self.inside.carry) (sym c.deref.ensures.value)
    (can_follow c.self.inside.ledger c.keep.new.self c.self.invariant.0 k.kept k.book c.in_ok-changed.changed.items c.in_ok-changed.ensures.same k.from c.self.inside.carry c.self.invariant.2)

pub invariant_of-self : goal.invariant_of-self
invariant_of-self c =
    let k = c.keep.ensures in
    (k.kept, record { closed = k.closed; sound = k.kept.sound }, same_carry c.self.inside.ledger c.keep.new.self k.book (ap (λ (v : Vec (Row Outcome Range) Global). v.items) c.in_err-changed.ensures.rows) c.self.inside.carry c.self.invariant.2)

pub returns-clause-the : goal.returns-clause-the
returns-clause-the c = subst (λ (ns : Notes). AreTheKept (reaches c.args.changes.now) ns (written c.keep.new.self)) c.self.view_is c.in_ok-changed.ensures.the

pub returns-clause-closed : goal.returns-clause-closed
returns-clause-closed c = subst (λ (ns : Notes). AreClosed ns) c.self.view_is c.self.invariant.1.closed

pub returns-in_err-changed-clause-closed : goal.returns-in_err-changed-clause-closed
returns-in_err-changed-clause-closed c = subst (λ (ns : Notes). AreClosed ns) c.self.view_is c.self.invariant.1.closed
