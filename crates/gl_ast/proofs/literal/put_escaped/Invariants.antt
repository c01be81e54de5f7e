use Rattle.std.proofs.Common.{◌≡◌, ◌++◌, length, drop}
use Rattle.std.specs.Prelude.{flat_map}
use Rattle.std.specs.Str.{chars}
use Rattle.std.specs.String.{string_bytes}
use Rattle.gl_language.specs.Texts.Text.{escaped}
use Rattle.gl_ast.proofs.Escapes.{escapes}
use Rattle.gl_ast.proofs.literal.put_escaped.Given as goal

abbrev pub invariant-loop-c : goal.invariant-loop-c
invariant-loop-c l = string_bytes l.out ++ escapes (drop (length l.yielded) (chars l.t)) ≡ string_bytes l.initial.out ++ flat_map escaped l.t
