-- What the contents of a sheet fix.
use Rattle.std.specs.Prelude.{◌≡◌, true, false, IsTrue, List, [], ◌∷◌, ◌++◌, codes}
use Rattle.gl_calculus.specs.Formulas.Formula.{Version, One, Two, Cells}
use Rattle.gl_language.specs.Texts.Text.{Bytes}
use Rattle.gl_protocol.specs.Framing.Framing.{Item, Line}
use Rattle.gl_protocol.specs.Scripts.Commands.{Is, Request, ReadsLine}
use Rattle.gl_protocol.specs.Scripts.Script.{Script, new_script}
use Rattle.gl_protocol.specs.Scripts.Output.{is_line, Runs, AreReplies}
use Rattle.laws_protocol.specs.States.{asks_sheet}

-- a script of these items has this version, and leads to these contents
pub data LeadTo (records : Bytes → List (List Bytes)) : List Item → Version → Cells → Type 0 where
  nothing : LeadTo records [] One []
  two : {x : Item} {xs : List Item} {s : Script} {replies : List Bytes} →
      is_line (codes "gridlet 2") x ≡ true → Runs records Two new_script xs s replies →
      LeadTo records (x ∷ xs) Two s.sheet
  one : {x : Item} {xs : List Item} {s : Script} {replies : List Bytes} →
      is_line (codes "gridlet 2") x ≡ false → Runs records One new_script (x ∷ xs) s replies →
      LeadTo records (x ∷ xs) One s.sheet

-- Whatever the items of two scripts are, edits, undos, imports, merges or queries, refused or not:
-- where they have one version and lead to the same contents, a line behind them that asks for the
-- sheet has the same reply, whatever picks are made.
abbrev pub FixedByContents : Type 0
FixedByContents =
    (records : Bytes → List (List Bytes)) (version : Version) (S : Cells) (is js : List Item)
    (l : Bytes) (x : Request) (rs ss : List Bytes) →
    LeadTo records is version S → LeadTo records js version S →
    ReadsLine l (Is x) → IsTrue (asks_sheet x) →
    AreReplies records (is ++ Line l ∷ []) rs → AreReplies records (js ++ Line l ∷ []) ss →
    (r : Bytes) × (before others : List Bytes) × (rs ≡ before ++ r ∷ []) × (ss ≡ others ++ r ∷ [])
