-- What every state of a script keeps.
use Rattle.gl_protocol.specs.Scripts.Script.{Script}
use Rattle.laws_protocol.specs.States.{IsState}
use Rattle.laws_protocol.specs.Rooms.{IsRoomy}

-- Its steps lead back and on, and pass no limit on the way.
pub record Keeps (s : Script) : Type 0 where
  pub state : IsState s
  pub roomy : IsRoomy s

abbrev pub IsKept : Script → Type 0
IsKept s = ∥ Keeps s ∥₁
