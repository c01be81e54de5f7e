use Rattle.std.proofs.Common.{string_bytes, arith}
use Rattle.std.proofs.lemmas.Str.{IsUtf8-string_bytes}
use Rattle.gl_value.specs.Forms.{scalar_tree-Text, trees}
use Rattle.gl_funs.proofs.Characters.{cut_sound}
use Rattle.gl_funs.proofs.texts.part.Goals as goal

pub returns-clause-sound : goal.returns-clause-sound
returns-clause-sound c = λ h.
    rw (scalar_tree-Text, c.in_ok-from_string.ensures.ok) (cut_sound c.args.side c.args.n c.as_str.result.now (string_bytes c.in_ok-part.part) c.as_str.utf8 (rw c.as_str.ensures.value (c.in_ok-text.ensures.sound h)) (IsUtf8-string_bytes c.in_ok-part.part) c.in_ok-part.ensures)

pub returns-clause-value : goal.returns-clause-value
returns-clause-value c = grind (arith, trees)
