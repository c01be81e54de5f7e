use Rattle.std.proofs.Common.{ap, List}
use Rattle.gl_intern.specs.Numbered.{seconds}
use Rattle.gl_core.specs.Shorts.{key_pairs}
use Rattle.gl_demand.specs.declared.key.Key.{Key}
use Rattle.gl_core.specs.declared.short.Short.{Short}
use Rattle.gl_core.proofs.Words.{nothing_worded}
use Rattle.gl_core.proofs.book.Book.new.Goals as goal

pub invariant_of-result : goal.invariant_of-result
invariant_of-result c = nothing_worded c.new.result (key_pairs c.new-2.result.entries) c.new-3.result.entries (ap key_pairs c.new-2.ensures.empty)

pub returns-clause-empty : goal.returns-clause-empty
returns-clause-empty c = ap (λ (es : List (Short × Key)). seconds (key_pairs es)) c.new-2.ensures.empty

pub returns-clause-booked : goal.returns-clause-booked
returns-clause-booked c = (invariant_of-result c).0.booked
