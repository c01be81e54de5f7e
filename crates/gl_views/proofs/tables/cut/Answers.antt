use Rattle.std.proofs.Common.{◌∙◌, Ok, ap}
use Rattle.std.specs.Str.Iter.{chars_rest}
use Rattle.std.specs.String.{string_bytes}
use Rattle.std.proofs.lemmas.Iterator.{YieldsList-from_chars, YieldsList-from_take, text_from_collect}
use Rattle.gl_views.proofs.Widths.{cut_text}
use Rattle.gl_views.proofs.tables.cut.Goals as goal

pub returns : goal.returns
returns c =
    let all = YieldsList-from_take 23 (YieldsList-from_chars c.args.text.now c.utf8.text (ap chars_rest c.take.ensures.source ∙ c.chars.ensures.rest)) c.take.ensures.count in
    let out = text_from_collect {E = Unit {0}} (Ok c.in_ok-out.out) c.in_ok-out.ensures.ran all in
    cut_text c.args.text.now (string_bytes c.push.new.self) (string_bytes c.in_ok-out.out) c.requires out c.in_ok-push.ensures.bytes
