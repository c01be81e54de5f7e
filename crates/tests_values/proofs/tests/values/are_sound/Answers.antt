use Rattle.std.proofs.Common.{◌≡◌, get_or, below_more, sym, true, IsTrue}
use Rattle.std.proofs.lemmas.List.{get_or_read}
use Rattle.gl_calculus.specs.Evaluation.Sound.{is_sound_value}
use Rattle.gl_value.specs.View.{value_tree}
use Rattle.tests_values.proofs.tests.values.are_sound.Goals as goal

pub loop-v-preserved : goal.loop-v-preserved
loop-v-preserved c = λ k d h.
    let item : c.v-item.result ≡ get_or c.args.values.now c.loop-v.v-index d = get_or_read c.args.values.now c.loop-v.v-index c.v-item.result c.loop-v-test.true c.v-item.is d in
    let known : true ≡ is_sound_value (value_tree c.v-item.result) = c.if-not-is_sound.ensures in
    let here : IsTrue (is_sound_value (value_tree (get_or c.args.values.now c.loop-v.v-index d))) = rw (← item) (sym known) in
    below_more (λ j. IsTrue (is_sound_value (value_tree (get_or c.args.values.now j d)))) c.loop-v.v-index (λ j l. c.loop-v.invariant j d l) here k h
