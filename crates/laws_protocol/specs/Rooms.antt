-- That no limit is passed where the contents of a step come before the others go.
use Rattle.std.specs.Prelude.{⊤, List, [], ◌∷◌}
use Rattle.gl_calculus.specs.Formulas.Formula.{Version, Cells}
use Rattle.gl_language.specs.Texts.Text.{Bytes}
use Rattle.gl_calculus.specs.Edits.Replicas.{Changes}
use Rattle.gl_calculus.specs.Edits.Steps.{Step, befores, afters}
use Rattle.gl_protocol.specs.Framing.Framing.{Item}
use Rattle.gl_calculus.specs.Edits.Sheets.{with_contents}
use Rattle.gl_protocol.specs.Scripts.Script.{Script}
use Rattle.gl_calculus.specs.Edits.Sheets.{coming, with_changes}
use Rattle.gl_protocol.specs.Scripts.Acts.{Acts}
use Rattle.laws_protocol.specs.Replies.{IsWithinLimits}
use Rattle.laws_protocol.specs.States.{IsState}

-- what comes with the changes has room beside all that is there
abbrev pub HasRoom : Cells → Changes → Type 0
HasRoom S cs = IsWithinLimits (with_contents S (coming cs))

-- so it is with each step that leads back, and again on the way on
abbrev pub RoomBack : Cells → List Step → Type 0
RoomBack S [] = ⊤
RoomBack S (d ∷ ds) = HasRoom S (befores d) × HasRoom (with_changes S (befores d)) (afters d) × RoomBack (with_changes S (befores d)) ds

abbrev pub RoomOn : Cells → List Step → Type 0
RoomOn S [] = ⊤
RoomOn S (u ∷ us) = HasRoom S (afters u) × HasRoom (with_changes S (afters u)) (befores u) × RoomOn (with_changes S (afters u)) us

pub record IsRoomy (s : Script) : Type 0 where
  pub back : RoomBack s.sheet s.history.done
  pub on : RoomOn s.sheet s.history.undone

-- Each item leaves a state in which no undo and no redo passes a limit.
abbrev pub ActsKeepRooms : Type 0
ActsKeepRooms =
    (records : Bytes → List (List Bytes)) (version : Version) (s s' : Script) (x : Item) (r : Bytes) →
    IsState s → IsRoomy s → Acts records version s x s' r → IsRoomy s'
