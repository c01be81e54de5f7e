-- That the list of a sheet, fed to an empty sheet, gives this sheet again.
use Rattle.std.specs.Prelude.{◌≡◌, List, [], ◌∷◌, ◌++◌, map, codes}
use Rattle.gl_calculus.specs.Formulas.Formula.{Version, One, Two, Cells}
use Rattle.gl_language.specs.Texts.Text.{Bytes}
use Rattle.gl_protocol.specs.Framing.Framing.{Item, Line, after_line, items}
use Rattle.gl_protocol.specs.Replies.Tables.{set_text}
use Rattle.gl_protocol.specs.Scripts.Commands.{list_text, ok_line}
use Rattle.gl_protocol.specs.Scripts.Script.{Script, new_script}
use Rattle.gl_protocol.specs.Scripts.Output.{Runs, AreReplies}

-- the items that the lines of a sheet's list are, without the first line, which counts them
abbrev pub listed : Version → Cells → List Item
listed version S = items (after_line (list_text version S))

-- the line that gives a script its version, where there is one
abbrev pub version_items : Version → List Item
version_items One = []
version_items Two = Line (codes "gridlet 2") ∷ []

-- for each content the line that sets it
abbrev pub set_items : Cells → List Item
set_items S = map (λ x. Line (set_text x)) S

-- none of them is refused
abbrev pub all_ok : List Item → List Bytes
all_ok is = map (λ x. ok_line) is

-- The list's lines are a script of this version in which each line sets one content: it leads to this sheet, and each line is accepted.
pub record IsReadBack (records : Bytes → List (List Bytes)) (version : Version) (S : Cells) : Type 0 where
  pub lines : listed version S ≡ version_items version ++ set_items S
  pub last : Script
  pub run : Runs records version new_script (set_items S) last (all_ok (set_items S))
  pub same : last.sheet ≡ S
  pub replies : AreReplies records (listed version S) (all_ok (listed version S))

-- So it is of every sheet that a script leads to.
abbrev pub ListsReadBack : Type 0
ListsReadBack =
    (records : Bytes → List (List Bytes)) (version : Version) (is : List Item) (s : Script) (rs : List Bytes) →
    Runs records version new_script is s rs → IsReadBack records version s.sheet
