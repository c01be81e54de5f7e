use Rattle.std.proofs.Common.{not, false, ap, sym, ◌∙◌}
use Rattle.std.specs.Option.{option_map_or}
use Rattle.gl_language.specs.Reading.Grammar as G
use Rattle.gl_parse.specs.Raws.{raw_tree, letters, plains}
use Rattle.gl_parse.proofs.Forms.{tree-Apply}
use Rattle.gl_parse.proofs.Calls.{raws_back}
use Rattle.gl_parse.proofs.Others.{no_call}
use Rattle.gl_parse.proofs.arity.is_bad_call.Goals as goal

pub returns-in-Apply : goal.returns-in-Apply
returns-in-Apply c =
    let text = c.args.text.now in
    let word = letters text c.in-Apply.word in
    let called = c.function_of.ensures ∙ ap G.function_of c.spelling.ensures in
    let allowed = c.allows_word.ensures text ∙ ap (λ o. option_map_or (λ f. G.allows f (plains text c.deref.result.now)) o false) called ∙ ap (λ xs. option_map_or (λ f. G.allows f (plains text xs)) (G.function_of word) false) c.deref.ensures.value in
    let tree = ap (λ z. G.is_bad_call (raw_tree text z)) c.in-Apply.is ∙ ap G.is_bad_call (tree-Apply text c.in-Apply.word c.in-Apply.xs) in
    ap not allowed ∙ sym (tree ∙ ap (λ fs. not (option_map_or (λ f. G.allows f fs) (G.function_of word) false)) (raws_back (plains text c.in-Apply.xs.items)))

pub returns-in_default : goal.returns-in_default
returns-in_default c = sym (no_call c.args.text.now c.args.raw.now c.in_default.not-Apply)
