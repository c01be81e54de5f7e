use Rattle.std.proofs.Common.{◌≡◌, ◌++◌, drop}
use Rattle.std.specs.String.{string_bytes}
use Rattle.gl_cert.specs.Claims.{claim_trees}
use Rattle.gl_run.specs.Replies.{note_lines}
use Rattle.gl_run.proofs.certificates.put_notes.Given as goal

abbrev pub invariant-loop-note : goal.invariant-loop-note
invariant-loop-note l = string_bytes l.out ++ note_lines (claim_trees (drop l.note-index l.notes)) ≡ string_bytes l.fn.out ++ note_lines (claim_trees l.notes)
