-- What a round begins with, and why it is true.
use Rattle.std.specs.Prelude.{◌≡◌, ◌≤◌, List, [], length, Some}
use Rattle.std.specs.List.{list_any}
use Rattle.gl_calculus.specs.Computation.Lists.{Member}
use Rattle.gl_machine.specs.Remembered.{AreTrue, AreClosed, AreSingle, AreTheKept}
use Rattle.gl_calculus.specs.Grid.Grid.{Addr, same_addr, Range}
use Rattle.gl_calculus.specs.Values.Value.{Oracle}
use Rattle.gl_calculus.specs.Formulas.Formula.{Version, Cells, IsSheet, content, formula_addresses}
use Rattle.gl_calculus.specs.Grid.Limits.{max_formulas}
use Rattle.gl_calculus.specs.Evaluation.Key.{same_key}
use Rattle.gl_calculus.specs.Evaluation.World.{world}
use Rattle.gl_calculus.specs.Evaluation.Evaluation.{program}
use Rattle.gl_calculus.specs.Calculation.Differences.{AreApart}
use Rattle.gl_calculus.specs.Calculation.Memory.{Table, Notes, IsTableOf, differs_in}
use Rattle.gl_plane.specs.Changes.{is_covered}
use Rattle.gl_calc.specs.Progress.{Progress, rest_of, made_with, beyond_with}

-- the ranges cover exactly these addresses
abbrev pub AreRanges : List Range → List Addr → Type 0
AreRanges rs touched = (a : Addr) → is_covered rs a ≡ list_any (same_addr a) touched

-- these are the notes of a table that are kept under an oracle, after these addresses were touched; the table's notes are closed, one for each key
pub record AreKept (b : Table × List Addr) (w : Oracle) (notes : Notes) : Type 0 where
  pub kept : AreTheKept (differs_in b.1 b.0.oracle w) b.0.notes notes
  pub closed : AreClosed b.0.notes
  pub single : AreSingle b.0.notes

-- the table was true for a sheet that has the same contents but for touched addresses
pub record IsEarlier (version : Version) (S : Cells) (b : Table × List Addr) : Type 0 where
  pub cells : Cells
  pub same : (a : Addr) → (Member a b.1 → ⊥) → content S a ≡ content cells a
  pub true_notes : AreTrue same_key (program (world version cells b.0.oracle)) b.0.notes
  pub apart : AreApart b.0.oracle

abbrev pub AreEarlier : Version → Cells → List Table → List Addr → Type 0
AreEarlier version S tables touched = (t : Table) → Member t tables → IsEarlier version S (t, touched)

-- so are all tables with which rounds may begin; those that were made are of this sheet
pub record IsReady (version : Version) (S : Cells) (touched : List Addr) (p : Progress) : Type 0 where
  pub earlier : AreEarlier version S p.earlier touched
  pub made : AreEarlier version S p.made []
  pub beyond : (t : Table) → p.beyond ≡ Some t → IsEarlier version S (t, [])

-- what stands behind the taking of a base
pub record IsTaken (old new : Progress) : Type 0 where
  pub earlier : new.earlier ≡ rest_of old.earlier
  pub made : new.made ≡ old.made
  pub beyond : (t : Table) → new.beyond ≡ Some t → old.beyond ≡ Some t

-- the table of a round under w is kept
pub record IsKeptBy (version : Version) (S : Cells) (old : Progress) (w : Oracle) (new : Progress) : Type 0 where
  pub table : Table
  pub is_table : IsTableOf (world version S w) table
  pub earlier : new.earlier ≡ old.earlier
  pub made : new.made ≡ made_with old.made table
  pub beyond : new.beyond ≡ beyond_with old.made table

-- what a round is given: the formulas of the sheet, what was touched, and the tables
pub record IsSet (version : Version) (S : Cells) (places touched : List Addr) (ranges : List Range) (p : Progress) : Type 0 where
  pub all : places ≡ formula_addresses S
  pub few : length (formula_addresses S) ≤ max_formulas
  pub ordered : IsSheet S
  pub covered : AreRanges ranges touched
  pub ready : IsReady version S touched p
