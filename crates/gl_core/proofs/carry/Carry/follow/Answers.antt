use Rattle.std.proofs.Common.{subst}
use Rattle.gl_core.specs.Carry.{CanFollow}
use Rattle.gl_core.proofs.Followed.{followed_rested}
use Rattle.gl_core.proofs.carry.Carry.follow.Goals as goal

pub returns-in-Seeds : goal.returns-in-Seeds
returns-in-Seeds c =
    let l = c.args.ledger.now in
    let ns = c.args.changed.now in
    followed_rested l ns c.in-Seeds.entries c.follow.new.self (subst (CanFollow l ns) c.in-Seeds.is c.requires.begun) c.follow.ensures
