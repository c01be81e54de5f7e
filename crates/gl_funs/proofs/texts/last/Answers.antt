use Rattle.std.proofs.Common.{◌≡◌, ◌-◌, ◌∙◌, ap, subst, length, encode_utf8_all, string_bytes, IfOk}
use Rattle.std.proofs.lemmas.Iterator.{YieldsList-from_chars, text_from_collect}
use Rattle.std.proofs.lemmas.Iterator.Adapters.{YieldsList-from_skip}
use Rattle.std.specs.Str.{chars}
use Rattle.std.specs.Str.Iter.{chars_rest}
use Rattle.gl_calculus.specs.Values.Functions.{take_last}
use Rattle.gl_funs.proofs.texts.last.Goals as goal

pub returns : goal.returns
returns c =
    let text = c.args.text.now in
    let others : c.saturating_sub-others.result ≡ length (chars text) - c.args.n = c.saturating_sub-others.ensures ∙ ap (λ k. k - c.args.n) c.characters.ensures.count in
    let left = YieldsList-from_skip {s = c.skip.result} (length (chars text) - c.args.n) (YieldsList-from_chars text c.utf8.text (ap chars_rest c.skip.ensures.source ∙ c.chars.ensures.rest)) (c.skip.ensures.count ∙ others) in
    subst (λ r. IfOk r (λ s. string_bytes s ≡ encode_utf8_all (take_last c.args.n (chars text)))) c.in_ok-part.was (text_from_collect c.collect.result c.collect.ensures.ran left)
