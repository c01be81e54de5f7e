use Rattle.std.proofs.lemmas.Str.{IsUtf8-from_is_utf8}
use Rattle.gl_csvin.proofs.fields.place_field.Goals as goal

pub returns-in_default-from_utf8-clause-adds : goal.returns-in_default-from_utf8-clause-adds
returns-in_default-from_utf8-clause-adds c = c.in_default-from_utf8.ensures.cases.0 (IsUtf8-from_is_utf8 c.args.field.now c.requires.text)
