use Rattle.std.proofs.Common.{◌∙◌, sym, ap, length}
use Rattle.std.specs.Str.{chars}
use Rattle.std.proofs.lemmas.Str.{Chars-Drains, encodes-chars}
use Rattle.gl_views.proofs.tables.width.Goals as goal

pub returns : goal.returns
returns c =
    let r = c.count.ensures.ran in
    r.2 ∙ ap length (Chars-Drains (chars c.args.text.now) r.0 _ (encodes-chars c.args.text.now c.utf8.text ∙ sym c.chars.ensures.rest) r.1)
