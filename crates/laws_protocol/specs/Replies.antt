-- The laws of replies and of sheets that public functions state.
use Rattle.std.specs.Prelude.{◌≡◌, ◌≤◌, length, List, ◌++◌, IsTrue}
use Rattle.gl_calculus.specs.Grid.Limits.{max_formulas, max_contents}
use Rattle.gl_calculus.specs.Formulas.Formula.{Version, Cells, IsSheet, formula_addresses}
use Rattle.gl_language.specs.Texts.Text.{Bytes}
use Rattle.gl_protocol.specs.Framing.Framing.{Item}
use Rattle.gl_protocol.specs.Scripts.Commands.{error_line}
use Rattle.gl_protocol.specs.Scripts.Script.{Script, new_script}
use Rattle.gl_protocol.specs.Scripts.Acts.{Acts}
use Rattle.gl_protocol.specs.Scripts.Output.{is_refusal, AreReplies, IsOutput, Runs}
use Rattle.laws_protocol.specs.Acts.{AreProper}

-- Whatever picks were made, a list of items has one output.
abbrev pub OneText : Type 0
OneText = (records : Bytes → List (List Bytes)) (is : List Item) (out other : Bytes) → IsOutput records is out → IsOutput records is other → out ≡ other

-- The replies to items begin with the replies to the first of them.
abbrev pub FirstRepliesFirst : Type 0
FirstRepliesFirst =
    (records : Bytes → List (List Bytes)) (is more : List Item) (rs : List Bytes) → AreReplies records (is ++ more) rs →
    (firsts behind : List Bytes) × AreReplies records is firsts × (rs ≡ firsts ++ behind)

-- An `error` line begins as one, and no other reply does.
abbrev pub ErrorsAreRefusals : Type 0
ErrorsAreRefusals = (w : Bytes) → IsTrue (is_refusal (error_line w))

abbrev pub RefusalsAreErrors : Type 0
RefusalsAreErrors =
    (records : Bytes → List (List Bytes)) (version : Version) (s s' : Script) (x : Item) (r : Bytes) →
    Acts records version s x s' r → IsTrue (is_refusal r) → (w : Bytes) × (r ≡ error_line w)

-- at most so many formulas, and so many contents
abbrev pub IsWithinLimits : Cells → Type 0
IsWithinLimits S = (length (formula_addresses S) ≤ max_formulas) × (length S ≤ max_contents)

-- Every sheet that a script leads to is in order, of proper contents, and within the limits.
abbrev pub ScriptsKeepSheets : Type 0
ScriptsKeepSheets =
    (records : Bytes → List (List Bytes)) (version : Version) (is : List Item) (s : Script) (rs : List Bytes) →
    Runs records version new_script is s rs → IsSheet s.sheet × AreProper s.sheet × IsWithinLimits s.sheet
