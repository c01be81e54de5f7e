use Rattle.std.proofs.Common.{◌≡◌, ◌∙◌, ap, subst, take, encode_utf8_all, string_bytes, IfOk}
use Rattle.std.proofs.lemmas.Iterator.{YieldsList-from_chars, YieldsList-from_take, text_from_collect}
use Rattle.std.specs.Str.{chars}
use Rattle.std.specs.Str.Iter.{chars_rest}
use Rattle.gl_funs.proofs.texts.first.Goals as goal

pub returns : goal.returns
returns c =
    let text = c.args.text.now in
    let taken = YieldsList-from_take {s = c.take.result} c.args.n (YieldsList-from_chars text c.utf8.text (ap chars_rest c.take.ensures.source ∙ c.chars.ensures.rest)) c.take.ensures.count in
    subst (λ r. IfOk r (λ s. string_bytes s ≡ encode_utf8_all (take c.args.n (chars text)))) c.in_ok-part.was (text_from_collect c.collect.result c.collect.ensures.ran taken)
