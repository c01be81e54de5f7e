-- The table of contents by address, and the sheet of the calculus that it stands for.
use Rattle.std.specs.Prelude.{◌≡◌, ℕ, ◌≤◌, ◌<◌, List, [], ◌∷◌, map, length, sum_by, Option, Some, None, IsSome, Result, Ok, Err}
use Rattle.std.specs.BTreeMap.{insert_entry, is_at}
use Rattle.std.specs.List.{All, AllByRecursion}
use Rattle.std.specs.List.Sorted.{IsStrictlySortedBy}
use Rattle.std.specs.Map.{keys_of, values_of, lookup, remove_entry}
use Rattle.std.specs.Ordering.{nat_cmp, ordering_then}
use Rattle.std.specs.declared.cmp.Ordering.{Ordering}
use Rattle.gl_calculus.specs.Grid.Grid.{Addr}
use Rattle.gl_calculus.specs.Formulas.Formula as F
use Rattle.gl_calculus.specs.Formulas.Formula.{formula_addresses}
use Rattle.gl_calculus.specs.Grid.Limits.{max_formulas, max_contents}
use Rattle.gl_language.specs.Reading.Content.{IsProperContent}
use Rattle.gl_plane.specs.Parts.{IsAddr}
use Rattle.gl_cells.specs.Content.{content_tree, form_weight}
use Rattle.gl_cells.specs.declared.content.Content.{Content}
use Rattle.gl_cells.specs.declared.fault.PutFault.{PutFault}
use Rattle.gl_cells.specs.declared.fault.PutFault.TheVariants as fault

-- contents by address
abbrev pub Table : Type 0
Table = List (Addr × Content)

-- the sheet that a table stands for
abbrev pub sheet : Table → F.Cells
sheet es = map {B = Addr × F.Content} (λ (e : Addr × Content). (e.0, content_tree e.1)) es

-- row-major order
abbrev pub addr_cmp : Addr → Addr → Ordering
addr_cmp a b = ordering_then (nat_cmp a.row b.row) (nat_cmp a.col b.col)

-- each content is proper
abbrev pub AreProper : Table → Type 0
AreProper es = AllByRecursion (λ e. IsProperContent (content_tree e.1)) es

-- each content is at an address of the grid
abbrev pub ArePlaced : Table → Type 0
ArePlaced es = All IsAddr (keys_of es)

-- what a table and its count of formulas keep
pub record IsTable (es : Table) (forms : ℕ) : Type 0 where
  pub ordered : IsStrictlySortedBy addr_cmp (keys_of es)
  pub counted : forms ≡ sum_by (λ c. form_weight (content_tree c)) (values_of es)
  pub proper : AreProper es
  pub placed : ArePlaced es

-- the same within the limits of a sheet
pub record IsWithin (es : Table) (forms : ℕ) : Type 0 where
  pub table : IsTable es forms
  pub few_formulas : forms ≤ max_formulas
  pub few_contents : length es ≤ max_contents

-- the table with each of the contents put in turn
abbrev pub put_each : Table → Table → Table
put_each [] es = es
put_each (p ∷ ps) es = put_each ps (insert_entry addr_cmp es p.0 p.1)

-- a step back: the content that an address had, or none
abbrev pub restored : Addr × Option Content → Table → Table
restored (a, None) es = remove_entry (is_at (addr_cmp a)) es
restored (a, Some c) es = insert_entry addr_cmp es a c

-- the steps back, from the last to the first
abbrev pub undo_all : List (Addr × Option Content) → Table → Table
undo_all [] es = es
undo_all (u ∷ us) es = restored u (undo_all us es)

-- where a content comes back, there is one
abbrev pub HasPlace : Addr × Option Content → Table → Type 0
HasPlace (a, None) es = Unit {0}
HasPlace (a, Some c) es = IsSome (lookup (is_at (addr_cmp a)) es) × IsProperContent (content_tree c)

-- each step back finds the address that it changes
abbrev pub CanUndo : List (Addr × Option Content) → Table → Type 0
CanUndo [] es = Unit {0}
CanUndo (u ∷ us) es = CanUndo us es × HasPlace u (undo_all us es)

-- what an edit of a sheet to another one answers, and leaves
abbrev pub Answers : Result (Unit {0}) PutFault → F.Cells → F.Cells → F.Cells → Type 0
Answers (Ok x) old goal new = (new ≡ goal) × (length (formula_addresses goal) ≤ max_formulas) × (length goal ≤ max_contents)
Answers (Err fault.Formulas) old goal new = (new ≡ old) × (max_formulas < length (formula_addresses goal))
Answers (Err fault.Contents) old goal new = (new ≡ old) × (length (formula_addresses goal) ≤ max_formulas) × (max_contents < length goal)
Answers (Err fault.NoMemory) old goal new = new ≡ old
