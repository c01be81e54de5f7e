use Rattle.std.proofs.Common.{ℕ, List, [], length, ap, sym, subst, arith}
use Rattle.gl_core.specs.Numbers.{Each, IsBelow, IsIndex, numbers_of, row_notes}
use Rattle.gl_core.specs.State.{AreSoundNotes}
use Rattle.gl_core.proofs.ledger.Ledger.new.Goals as goal

none_indexed : IsIndex [] []
none_indexed = record { there = λ p n e. absurd (cc e); back = λ n p e. absurd (cc e) }

pub returns-clause-kept : goal.returns-clause-kept
returns-clause-kept c =
    let rows = sym c.new-2.ensures.items in
    record {
      book = c.new.ensures.booked;
      below = subst (λ rs. Each (IsBelow (length c.new.result)) rs) rows tt;
      index = subst (λ rs. IsIndex (numbers_of rs) c.new-3.result.items) rows (subst (λ (ns : List ℕ). IsIndex [] ns) (sym c.new-3.ensures.items) none_indexed);
      sound = subst (λ rs. AreSoundNotes (row_notes c.new.result rs)) rows (λ n m. absurd m);
      few = omega (arith, ap length c.new-2.ensures.items);
      graph = tt;
    }
