use Rattle.std.proofs.Common.{◌≡◌, ◌+◌, ◌-◌, ◌++◌}
use Rattle.std.specs.Prelude.{flat_map}
use Rattle.std.specs.List.{range_with_len}
use Rattle.std.specs.String.{string_bytes}
use Rattle.gl_protocol.specs.Scripts.Output.{row_number, generated_payload}
use Rattle.gl_run.proofs.generator.payload.Given as goal

-- the rows so far, and those that are left
abbrev pub invariant-loop-i : goal.invariant-loop-i
invariant-loop-i l = string_bytes l.rows ++ flat_map row_number (range_with_len (l.i + 1) (l.n - l.i)) ≡ generated_payload l.n
