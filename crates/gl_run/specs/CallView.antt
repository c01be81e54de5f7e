-- What the words of a call are read as.
use Rattle.std.specs.Prelude.{◌≤◌, IfSome}
use Rattle.gl_calculus.specs.Grid.Limits.{max_generated}
use Rattle.gl_protocol.specs.Run.Words as W
use Rattle.gl_run.specs.declared.words.Call.{Call}

abbrev pub call_tree : Call → W.Call
call_tree c = record { kind = c.kind; size = c.size }

-- the kind is one of a pick rule, and the script can be generated
abbrev pub IsPossible : Call → Type 0
IsPossible c = (c.kind ≤ 2) × IfSome c.size (λ n. (1 ≤ n) × (n ≤ max_generated))
