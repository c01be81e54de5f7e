-- What holds of the reading of contents and lines.
use Rattle.std.specs.Prelude.{◌≡◌, List, Some}
use Rattle.gl_calculus.specs.Formulas.Formula.{Cells, Content, content}
use Rattle.gl_calculus.specs.Grid.Grid.{Addr}
use Rattle.gl_language.specs.Texts.Text.{Bytes, content_text}
use Rattle.gl_protocol.specs.Scripts.Commands.{Read, Is, Request, ReadsContent, ReadsLine, imported}

-- A text is read as one content or refused by one word, and a line as one request or by one word.
abbrev pub OneContent : Type 0
OneContent = (text : Bytes) (x y : Read Content) → ReadsContent text x → ReadsContent text y → x ≡ y

abbrev pub OneRequest : Type 0
OneRequest = (l : Bytes) (x y : Read Request) → ReadsLine l x → ReadsLine l y → x ≡ y

-- The text of a content that was set or imported is read as this content again.
abbrev pub SetReadsBack : Type 0
SetReadsBack = (text : Bytes) (c : Content) → ReadsContent text (Is c) → ReadsContent (content_text c) (Is c)

abbrev pub ImportReadsBack : Type 0
ImportReadsBack =
    (at_addr a : Addr) (records : List (List Bytes)) (cs : Cells) (c : Content) →
    imported at_addr records ≡ Is cs → content cs a ≡ Some c → ReadsContent (content_text c) (Is c)
