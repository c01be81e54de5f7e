-- What comes of changes of the sheet and of the state.
use Rattle.std.specs.Prelude.{codes}
use Rattle.std.specs.Prelude.{◌≡◌, List, [], ◌++◌, Result, Ok, Err}
use Rattle.gl_calculus.specs.Grid.Grid.{Addr}
use Rattle.gl_calculus.specs.Formulas.Formula.{Cells}
use Rattle.gl_language.specs.Texts.Text.{Bytes}
use Rattle.gl_protocol.specs.Scripts.Commands.{Read, Is, Not, allowed, error_line, ok_line}
use Rattle.gl_calculus.specs.Edits.Sheets.{with_contents}
use Rattle.gl_protocol.specs.Scripts.Script.{Script, edited}
use Rattle.gl_calculus.specs.Edits.Sheets.{settings}
use Rattle.gl_cells.specs.declared.fault.PutFault.{PutFault}
use Rattle.gl_cells.specs.declared.fault.PutFault.TheVariants as put
use Rattle.gl_calc.specs.View.{View}

-- what is left and replied where a command leaves this, or is refused by this word
abbrev pub IsChanged : Read Script → Script → Script → Bytes → Type 0
IsChanged (Is t) s s' reply = (s' ≡ t) × (reply ≡ ok_line)
IsChanged (Not w) s s' reply = (s' ≡ s) × (reply ≡ error_line w)

-- what an import of these contents leaves
abbrev pub imported_state : Script → Cells → Read Script
imported_state s cs = edited s (settings cs) (allowed (with_contents s.sheet cs))

-- what comes of a change of the sheet to this one, or to one that is refused
abbrev pub Puts : Result (Unit {0}) PutFault → Read Cells → Cells → Cells → Type 0
Puts (Ok x) goal old new = goal ≡ Is new
Puts (Err put.Formulas) goal old new = (new ≡ old) × (goal ≡ Not (codes "formulas"))
Puts (Err put.Contents) goal old new = (new ≡ old) × (goal ≡ Not (codes "contents"))
Puts (Err put.NoMemory) goal old new = new ≡ old

abbrev pub marked_by : Result (Unit {0}) PutFault → List Addr → List Addr
marked_by (Ok x) places = places
marked_by (Err e) places = []

-- The tables stay, and these addresses are touched.
pub record Marks (places : List Addr) (old new : View) : Type 0 where
  pub tables : new.tables ≡ old.tables
  pub made_for : new.version ≡ old.version
  pub touched : new.touched ≡ old.touched ++ places
