use Rattle.std.proofs.Common.{List, ℕ, Some, None, slice_index, subst}
use Rattle.gl_core.specs.Numbers.{IsPlace}
use Rattle.gl_core.proofs.Cores.{indexed}
use Rattle.gl_core.proofs.Indexed.{place_there, no_place}
use Rattle.gl_core.proofs.Followed.{follows_none, follows_one}
use Rattle.gl_core.proofs.entries.Entries.reread.Goals as goal

pub begin_again-requires-clause-there : goal.begin_again-requires-clause-there
begin_again-requires-clause-there c = (place_there c.args.self.now (indexed c.args.self.now c.requires.table) c.args.n c.in-Some.p (subst (λ (xs : List ℕ). IsPlace (slice_index xs c.args.n) (Some c.in-Some.p)) c.deref.ensures.value c.in-Some.ensures)).0

pub returns-in-Some : goal.returns-in-Some
returns-in-Some c ns b =
    let e = c.args.self.now in
    let there = place_there e (indexed e c.requires.table) c.args.n c.in-Some.p (subst (λ (xs : List ℕ). IsPlace (slice_index xs c.args.n) (Some c.in-Some.p)) c.deref.ensures.value c.in-Some.ensures) in
    follows_one c.args.ledger.now e c.begin_again.new.self c.requires.table c.args.n ns b c.in-Some.p c.row.result there.1 c.row.ensures c.begin_again.ensures

pub returns-in-None : goal.returns-in-None
returns-in-None c ns b =
    let e = c.args.self.now in
    follows_none c.args.ledger.now e e c.requires.table c.args.n ns b (no_place e (indexed e c.requires.table) c.args.n (subst (λ (xs : List ℕ). IsPlace (slice_index xs c.args.n) None) c.deref.ensures.value c.in-None.ensures))
