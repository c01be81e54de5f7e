-- Rows that a ledger lost.
use Rattle.std.specs.Prelude.{◌≡◌, ◌<◌, ℕ, List, length, slice_index, IfSome}
use Rattle.gl_calculus.specs.Computation.Lists.{Member}
use Rattle.gl_calculus.specs.Grid.Grid.{Range}
use Rattle.gl_support.specs.declared.row.Row.{Row}
use Rattle.gl_demand.specs.declared.outcome.Outcome.{Outcome}
use Rattle.gl_core.specs.Numbers.{Each}
use Rattle.gl_core.specs.Graph.{HasAll}
use Rattle.gl_core.specs.Ledger.{IsLedger}
use Rattle.gl_core.specs.declared.ledger.Ledger.{Ledger}

-- a ledger whose graph, if there is one, has all rows
abbrev pub IsSearched : Ledger → Type 0
IsSearched l = IsLedger l × IfSome l.graph (HasAll l.rows.items)

-- the new rows are the old ones but those of these numbers, in any order
abbrev pub AreWithout : List ℕ → List (Row Outcome Range) → List (Row Outcome Range) → Type 0
AreWithout ns old new =
    ((r : Row Outcome Range) → Member r new → Member r old × (Member r.by ns → ⊥)) × ((r : Row Outcome Range) → Member r old → (Member r.by ns → ⊥) → Member r new)

-- The rows of these numbers went. The numbers whose places changed are among the noted ones, which only become more.
pub record DropsRows (old new : Ledger) (ns was noted : List ℕ) : Type 0 where
  pub rows : AreWithout ns old.rows.items new.rows.items
  pub book : new.book ≡ old.book
  pub same : (n : ℕ) → (Member n noted → ⊥) → slice_index new.row_of.items n ≡ slice_index old.row_of.items n
  pub more : (n : ℕ) → Member n was → Member n noted
  pub below : Each (λ n. n < length old.book) was → Each (λ n. n < length old.book) noted
