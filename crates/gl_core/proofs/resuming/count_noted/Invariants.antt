use Rattle.std.proofs.Common.{◌≡◌, length, filter, take}
use Rattle.gl_support.specs.Reach.{has}
use Rattle.gl_core.specs.Numbers.{numbers_of}
use Rattle.gl_core.proofs.resuming.count_noted.Given as goal

abbrev pub invariant-loop-i : goal.invariant-loop-i
invariant-loop-i l = l.count ≡ length (filter (has (numbers_of l.ledger.rows.items)) (take l.i l.numbers))
