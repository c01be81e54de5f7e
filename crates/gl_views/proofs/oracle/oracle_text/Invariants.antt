use Rattle.std.proofs.Common.{◌≡◌, ◌++◌, ◌-◌, length, drop}
use Rattle.std.specs.Prelude.{flat_map}
use Rattle.std.specs.String.{string_bytes}
use Rattle.gl_protocol.specs.Replies.Tables.{line, entry_text, oracle_text}
use Rattle.gl_views.proofs.oracle.oracle_text.Given as goal

abbrev pub invariant-loop-entry : goal.invariant-loop-entry
invariant-loop-entry l = string_bytes l.out ++ flat_map (λ x. line (entry_text x)) (drop l.i l.w) ≡ oracle_text l.w

abbrev pub decreases-loop-entry : goal.decreases-loop-entry
decreases-loop-entry l = length l.w - l.i
