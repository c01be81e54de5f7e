use Rattle.std.proofs.Common.{◌<◌, ◌++◌, ◌∷◌, [], List, length, map, take, slice_index, ap, sym, ◌∙◌, arith}
use Rattle.std.proofs.lemmas.Grind.{common_steps}
use Rattle.gl_calculus.specs.Evaluation.Key as K
use Rattle.gl_demand.specs.View.{key_tree}
use Rattle.gl_core.specs.Numbers.{keys_at}
use Rattle.gl_core.proofs.Numbered.{all_at, get_of_index, map_push}
use Rattle.gl_core.proofs.Converted.{keys_next}
use Rattle.gl_core.proofs.converting.keys_of.Goals as goal

pub key-requires : goal.key-requires
key-requires c = all_at (λ n. n < length c.args.book.now) c.args.numbers.now c.requires c.loop-n.n-index (slice_index c.args.numbers.now c.loop-n.n-index) (get_of_index c.args.numbers.now c.loop-n.n-index c.loop-n-test.true)

pub loop-n-preserved : goal.loop-n-preserved
loop-n-preserved c =
    let ns = c.args.numbers.now in
    let i = c.loop-n.n-index in
    let k = c.in_ok-share.field-0 in
    ap (map key_tree) c.in_ok-push.ensures.items ∙ map_push key_tree c.loop-n.keys.items k ∙ ap (λ (js : List K.Key). js ++ key_tree k ∷ []) c.loop-n.invariant ∙ ap (λ (j : K.Key). keys_at c.args.book.now (take i ns) ++ j ∷ []) c.in_ok-share.ensures
    ∙ sym (keys_next c.args.book.now ns i (slice_index ns i) (key_tree c.key.result.now) (get_of_index ns i c.loop-n-test.true) c.key.ensures)

pub returns : goal.returns
returns c = grind (arith, common_steps)
