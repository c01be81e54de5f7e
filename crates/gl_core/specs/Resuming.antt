-- What a round knows at its start.
use Rattle.std.specs.Prelude.{◌≡◌, ℕ, ◌<◌, ◌++◌, List, Bool, length, Result, IfOk, IfErr}
use Rattle.gl_calculus.specs.Computation.Lists.{Member, AreDistinct}
use Rattle.gl_calculus.specs.Computation.Notes.{Note, IsReached}
use Rattle.gl_calculus.specs.Grid.Grid.{Range}
use Rattle.gl_calculus.specs.Evaluation.Key as K
use Rattle.gl_support.specs.Reach.{is_marked, has}
use Rattle.gl_support.specs.Rows.{notes_of}
use Rattle.gl_demand.specs.declared.outcome.Outcome.{Outcome}
use Rattle.gl_calculus.specs.Grid.Limits.{max_demanded}
use Rattle.gl_core.specs.Numbers.{Each, keys_at, numbers_of}
use Rattle.gl_core.specs.Ledger.{written, IsLedger}
use Rattle.gl_core.specs.Marks.{TellNothing}
use Rattle.gl_core.specs.Table.{AreBegun, IsCore, marks_of}
use Rattle.gl_core.specs.declared.answers.CoreFault.{CoreFault}
use Rattle.gl_core.specs.declared.answers.CoreFault.TheVariants.{Work}
use Rattle.gl_core.specs.declared.entries.Entries.{Entries}
use Rattle.gl_core.specs.declared.ledger.Ledger.{Ledger}

-- distinct numbers: the seeds, and what they reach through the rows
pub record IsClosure (l : Ledger) (seeds all : List ℕ) : Type 0 where
  pub rest : List ℕ
  pub first : all ≡ seeds ++ rest
  pub below : Each (λ n. n < length l.book) all
  pub apart : AreDistinct all
  pub reached : (k : ℕ) → Member k all → (s : ℕ) × Member s seeds × IsReached (notes_of l.rows.items) s k
  pub closed : (n : Note ℕ Outcome Range) → Member n (notes_of l.rows.items) → Member n.key all → (j : ℕ) → Member j n.reads → Member j all
  pub noted : (n : Note ℕ Outcome Range) → Member n (notes_of l.rows.items) → (j : ℕ) → Member j n.reads → Member j (numbers_of l.rows.items)

-- the same of keys that are seeds
pub record IsResumed (l : Ledger) (seeds : List K.Key) (all : List ℕ) : Type 0 where
  pub numbers : List ℕ
  pub seeded : keys_at l.book numbers ≡ seeds
  pub closure : IsClosure l numbers all

-- distinct numbers below a count, of which each is marked, and no other is
pub record IsQueue (count : ℕ) (marks : List Bool) (all : List ℕ) : Type 0 where
  pub below : Each (λ n. n < count) all
  pub apart : AreDistinct all
  pub marked : (k : ℕ) → is_marked marks k ≡ has all k

-- some of the numbers came to a list, which has all of them then
pub record Gets (numbers old new : List ℕ) : Type 0 where
  pub more : List ℕ
  pub first : new ≡ old ++ more
  pub from : (k : ℕ) → Member k more → Member k numbers
  pub all : (k : ℕ) → Member k numbers → Member k new

-- the same of what a number's note read
pub record GetsReads (notes : List (Note ℕ Outcome Range)) (number : ℕ) (old new : List ℕ) : Type 0 where
  pub more : List ℕ
  pub first : new ≡ old ++ more
  pub from : (k : ℕ) → Member k more → (n : Note ℕ Outcome Range) × Member n notes × (n.key ≡ number) × Member k n.reads
  pub all : (n : Note ℕ Outcome Range) → Member n notes → n.key ≡ number → (k : ℕ) → Member k n.reads → Member k new

-- seeds and what they reach are known, each resolved by its row or idle, and no mark tells anything
pub record IsBegunCore (seeds : List K.Key) (l : Ledger) (e : Entries) : Type 0 where
  pub known : IsResumed l seeds e.known.items
  pub begun : AreBegun l.rows.items e.known.items e.statuses.items.items
  pub marks : TellNothing (marks_of e)
  pub core : IsCore l e

-- a round begins with such keys, if they are not too many, and with the notes that there were
pub record Resumes (seeds : List K.Key) (old : Ledger) (r : Result Entries CoreFault) (new : Ledger) : Type 0 where
  pub core : IfOk r (IsBegunCore seeds new)
  pub work : IfErr r (λ f. f ≡ Work → (known : List ℕ) × IsResumed new seeds known × (max_demanded < length known))
  pub notes : written new ≡ written old
  pub kept : IsLedger new
