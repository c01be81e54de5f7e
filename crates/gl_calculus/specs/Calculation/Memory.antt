-- What a calculation may keep from an earlier one: the notes of keys, and which of them still hold.
use Rattle.std.specs.Prelude.{◌≡◌, ◌≤◌, ◌<◌, ℕ, slice_get, if◌then◌else◌, Bool, true}
use Rattle.std.specs.Prelude.{false, ◌&&◌, ◌||◌, ◌==◌, not, List, [], length, Option, Some, None}
use Rattle.std.specs.List.{list_any}
use Rattle.gl_calculus.specs.Computation.Lists.{Member, AreDistinct}
use Rattle.gl_calculus.specs.Computation.Query.{Has}
use Rattle.gl_calculus.specs.Computation.Reads.{IsNote}
use Rattle.gl_calculus.specs.Computation.Notes.{Note, IsKept}
use Rattle.gl_calculus.specs.Computation.Notes.{note_keys}
use Rattle.gl_calculus.specs.Grid.Limits.{kept_rounds}
use Rattle.gl_calculus.specs.Grid.Grid.{Addr, same_addr, Range, addresses}
use Rattle.gl_calculus.specs.Values.Value.{Permit, Oracle}
use Rattle.gl_calculus.specs.Values.Same.{same_permit}
use Rattle.gl_calculus.specs.Formulas.Formula.{Version, Cells}
use Rattle.gl_calculus.specs.Formulas.Formula as F
use Rattle.gl_calculus.specs.Evaluation.Oracle.{status, Cover, cover}
use Rattle.gl_calculus.specs.Evaluation.Key.{Key, same_key, Outcome}
use Rattle.gl_calculus.specs.Evaluation.World.{World, world}
use Rattle.gl_calculus.specs.Evaluation.Evaluation.{program}
use Rattle.gl_calculus.specs.Calculation.Calculation.{DemandedIn, IsFinished}

-- the notes that a round made, each of a key: its outcome, the distinct keys that it demands, and
-- the ranges that it looks at
abbrev pub Notes : Type 0
Notes = List (Note Key Outcome Range)

pub record Table : Type 0 where
  pub oracle : Oracle
  pub notes : Notes

-- the note says what the evaluation of its key is
abbrev pub IsTrueNote : World → Note Key Outcome Range → Type 0
IsTrueNote W n = IsNote same_key (program W) n.key n.outcome n.reads n.looked

abbrev pub same_status : Option Permit → Option Permit → Bool
same_status None None = true
same_status (Some p) (Some q) = same_permit p q
same_status x y = false

abbrev pub same_cover : Option Cover → Option Cover → Bool
same_cover None None = true
same_cover (Some c) (Some d) = same_addr c.root d.root && (c.rows == d.rows) && (c.cols == d.cols)
same_cover x y = false

abbrev pub same_version : Version → Version → Bool
same_version F.Version.One F.Version.One = true
same_version F.Version.Two F.Version.Two = true
same_version u v = false

-- the address is touched, or the oracles tell it apart
abbrev pub differs_at : List Addr → Oracle → Oracle → Addr → Bool
differs_at touched w w' a =
    list_any (same_addr a) touched || not (same_status (status w' a) (status w a))
    || not (same_cover (cover w' a) (cover w a))

abbrev pub differs_in : List Addr → Oracle → Oracle → Range → Bool
differs_in touched w w' r = list_any (differs_at touched w w') (addresses r)

-- all that the key rests on has a note, and looked at nothing that differs
abbrev pub IsKeptKey : Table → List Addr → Oracle → Key → Type 0
IsKeptKey t touched w k = IsKept (differs_in touched t.oracle w) t.notes k

abbrev pub no_table : Table
no_table = record { oracle = []; notes = [] }

-- What a round begins with, and what was touched since: the table of the round, if there is one,
-- else the one that the round before it in the same calculation made.
abbrev pub base : Option Table → (touched : List Addr) → (before : Table) → Table × List Addr
base (Some t) touched before = (t, touched)
base None touched before = (before, [])

-- The table says of a round all that is to be remembered: exactly the demanded keys that have an
-- outcome, each once, each with its outcome, reads and looked ranges.
pub record IsTableOf (W : World) (t : Table) : Type 0 where
  pub oracle : t.oracle ≡ W.oracle
  pub distinct : AreDistinct (note_keys t.notes)
  pub true_notes : (n : Note Key Outcome Range) → Member n t.notes → IsTrueNote W n
  pub demanded : (k : Key) → Member k (note_keys t.notes) → DemandedIn W k
  pub complete : (k : Key) (o : Outcome) → DemandedIn W k → Has (program W) k o →
      Member k (note_keys t.notes)

-- The tables are those of the finished rounds of a calculation, in order, as far as tables are
-- kept.
pub record AreTables (version : Version) (S : Cells) (tables : List Table) : Type 0 where
  pub each : (i : ℕ) (t : Table) → slice_get tables i ≡ Some t →
      (w : Oracle) × IsFinished version S i w × IsTableOf (world version S w) t
  pub all : (i : ℕ) (w : Oracle) → IsFinished version S i w → i < kept_rounds →
      (t : Table) × (slice_get tables i ≡ Some t)
  pub few : length tables ≤ kept_rounds

-- what a calculation remembers: the sheet, the answer that it holds with the version of it, the
-- tables of the first rounds, and the addresses touched since they were made
pub record Memory : Type 0 where
  pub cells : Cells
  pub answer : Option (Version × Oracle)
  pub tables : List Table
  pub version : Version
  pub touched : List Addr

-- what a calculation begins with: the tables of another version are none
abbrev pub tables_for : Version → Memory → List Table
tables_for version m = if same_version version m.version then m.tables else []
