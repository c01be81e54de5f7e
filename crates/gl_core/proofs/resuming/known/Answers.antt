use Rattle.std.proofs.Common.{List, sym, subst}
use Rattle.gl_calculus.specs.Computation.Lists.{AreDistinct}
use Rattle.gl_machine.specs.Remembered.{AreClosed}
use Rattle.gl_calculus.specs.Evaluation.Key as K
use Rattle.gl_calculus.specs.Calculation.Memory.{Notes}
use Rattle.gl_core.proofs.Places.{if_ok}
use Rattle.gl_core.proofs.Cores.{written_grown}
use Rattle.gl_core.proofs.Seeded.{apart_back}
use Rattle.gl_core.proofs.Queued.{closed_rows}
use Rattle.gl_core.proofs.resuming.known.Goals as goal

pub reached-requires-clause-closed : goal.reached-requires-clause-closed
reached-requires-clause-closed c =
    let l = c.args.ledger.now in
    let l' = c.top_numbers.new.ledger in
    let g = c.top_numbers.ensures.grows in
    let h = c.top_numbers.ensures.kept in
    closed_rows l'.book h.book.apart l'.rows.items h.below (subst (λ (ns : Notes). AreClosed ns) (sym (written_grown l l' g.0 c.requires.kept g.1 c.top_numbers.ensures.rows)) c.requires.closed)

pub reached-requires-clause-below : goal.reached-requires-clause-below
reached-requires-clause-below c = c.in_ok-seeds.ensures.numbers.1

pub reached-requires-clause-apart : goal.reached-requires-clause-apart
reached-requires-clause-apart c = apart_back c.top_numbers.new.ledger.book c.in_ok-seeds.seeds.items (subst (λ (ks : List K.Key). AreDistinct ks) (sym c.in_ok-seeds.ensures.numbers.0) c.requires.apart)

pub returns-clause-known : goal.returns-clause-known
returns-clause-known c = if_ok c.reached.result c.reached.ensures (λ all h. record { numbers = c.in_ok-seeds.seeds.items; seeded = c.in_ok-seeds.ensures.numbers.0; closure = h })

pub returns-clause-notes : goal.returns-clause-notes
returns-clause-notes c = let g = c.top_numbers.ensures.grows in written_grown c.args.ledger.now c.top_numbers.new.ledger g.0 c.requires.kept g.1 c.top_numbers.ensures.rows

pub returns-in_err-seeds-clause-notes : goal.returns-in_err-seeds-clause-notes
returns-in_err-seeds-clause-notes c = let g = c.top_numbers.ensures.grows in written_grown c.args.ledger.now c.top_numbers.new.ledger g.0 c.requires.kept g.1 c.top_numbers.ensures.rows
