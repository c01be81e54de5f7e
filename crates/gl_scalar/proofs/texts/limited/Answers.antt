use Rattle.std.proofs.Common.{◌≡◌, true, length, nat_le, ◌≤◌, arith}
use Rattle.std.proofs.lemmas.Bool.{le-leb}
use Rattle.std.proofs.lemmas.Str.{IsUtf8-string_bytes}
use Rattle.std.specs.String.{string_bytes}
use Rattle.gl_value.specs.Forms.{scalar_tree-Text, trees}
use Rattle.gl_value.specs.Sound.{text_sound}
use Rattle.gl_scalar.proofs.texts.limited.Goals as goal

pub returns-clause-sound : goal.returns-clause-sound
returns-clause-sound c =
    let t = string_bytes c.args.text in
    let few : length t ≤ 4096 = omega (arith, c.if-len-gt-MAX_TEXT.false, c.len.ensures) in
    let short : nat_le (length t) 4096 ≡ true = le-leb (length t) 4096 few in
    rw (scalar_tree-Text, c.in_ok-from_string.ensures.ok, ← text_sound t (IsUtf8-string_bytes c.args.text)) short

pub returns-clause-value : goal.returns-clause-value
returns-clause-value c = grind (arith, trees)

pub returns-then-len-gt-MAX_TEXT-clause-sound : goal.returns-then-len-gt-MAX_TEXT-clause-sound
returns-then-len-gt-MAX_TEXT-clause-sound c = grind (arith, trees)

pub returns-then-len-gt-MAX_TEXT-clause-value : goal.returns-then-len-gt-MAX_TEXT-clause-value
returns-then-len-gt-MAX_TEXT-clause-value c = grind (arith, trees)
