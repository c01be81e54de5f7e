-- What holds of scripts and their replies. Each is proved as the contract of a function: in gl_script of what is read, in laws_protocol of what is replied.
use Rattle.std.specs.Prelude.{◌≡◌, List, IsTrue, Some}
use Rattle.gl_calculus.specs.Formulas.Formula.{Version, Cells, Content, content}
use Rattle.gl_calculus.specs.Grid.Grid.{Addr}
use Rattle.gl_language.specs.Texts.Text.{Bytes}
use Rattle.gl_language.specs.Reading.Content.{IsProperContent}
use Rattle.gl_protocol.specs.Framing.Framing.{Item}
use Rattle.gl_protocol.specs.Scripts.Script.{Script}
use Rattle.gl_protocol.specs.Scripts.Acts.{Acts}
use Rattle.gl_protocol.specs.Scripts.Output.{is_refusal, AreReplies}

-- An item has one effect and one reply.
abbrev pub OneAct : Type 0
OneAct =
    (records : Bytes → List (List Bytes)) (version : Version) (s s' s'' : Script) (x : Item) (r q : Bytes) →
    Acts records version s x s' r → Acts records version s x s'' q → (s' ≡ s'') × (r ≡ q)

-- So the replies to a list of items are determined, whatever picks were made.
abbrev pub OneOutput : Type 0
OneOutput = (records : Bytes → List (List Bytes)) (is : List Item) (rs ss : List Bytes) → AreReplies records is rs → AreReplies records is ss → rs ≡ ss

-- A refused item leaves the state.
abbrev pub RefusalsLeave : Type 0
RefusalsLeave =
    (records : Bytes → List (List Bytes)) (version : Version) (s s' : Script) (x : Item) (r : Bytes) →
    Acts records version s x s' r → IsTrue (is_refusal r) → s' ≡ s

-- the contents are proper
abbrev pub AreProper : Cells → Type 0
AreProper S = (a : Addr) (c : Content) → content S a ≡ Some c → IsProperContent c
