use Rattle.std.proofs.Common.{refl}
use Rattle.gl_core.proofs.Grown.{ledger_grown}
use Rattle.gl_core.proofs.ledger.Ledger.number.Goals as goal

pub returns-clause-kept : goal.returns-clause-kept
returns-clause-kept c =
    let l = c.args.self.now in
    ledger_grown l (record { book = c.number.new.self; rows = l.rows; row_of = l.row_of; graph = l.graph }) c.requires.kept c.number.ensures.grows refl refl refl (c.number.ensures.booked c.requires.kept.book)
