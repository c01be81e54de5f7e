use Rattle.std.proofs.Common.{List, ℕ, slice_index, subst}
use Rattle.gl_core.specs.Numbers.{IsPlace}
use Rattle.gl_core.proofs.Filtered.{row_by_place}
use Rattle.gl_core.proofs.ledger.Ledger.row.Goals as goal

pub returns : goal.returns
returns c = row_by_place c.args.self.now c.requires c.args.n c.place_in.result (subst (λ (xs : List ℕ). IsPlace (slice_index xs c.args.n) c.place_in.result) c.deref.ensures.value c.place_in.ensures)
