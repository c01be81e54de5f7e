use Rattle.std.proofs.Common.{◌≡◌, ◌<◌, ◌^◌, arith, length, Some, position, slice_get, ap}
use Rattle.std.proofs.lemmas.Grind.{common_steps}
use Rattle.std.proofs.lemmas.Result.{IfOk-weaker, on_err_weaker}
use Rattle.gl_demand.specs.View.{key_tree}
use Rattle.gl_intern.specs.Numbered.{firsts, seconds}
use Rattle.gl_core.specs.Shorts.{key_pairs}
use Rattle.gl_core.specs.contracts.short.ShortPartialEq.TheImpl.{ghosts as form}
use Rattle.gl_core.proofs.Shorts.{short_grown, short_after, keys_after, members_after, key_there, entry_count}
use Rattle.gl_core.proofs.placing.place_key.Goals as goal

pub returns-in_err-short-clause-short : goal.returns-in_err-short-clause-short
returns-in_err-short-clause-short c = short_grown c.args.interner.now c.short_form.new.interner c.in_err-short.ensures.grows (key_pairs c.args.keys.now.entries) c.requires.short

pub returns-clause-short : goal.returns-clause-short
returns-clause-short c =
    let l = c.short_form.new.interner in
    let ps = key_pairs c.args.keys.now.entries in
    let es = c.place.new.keys.entries in
    let h = short_grown c.args.interner.now l c.in_ok-short.ensures.grows ps c.requires.short in
    let n = entry_count es in
    let few : length (seconds (key_pairs es)) < 2 ^ 32 = omega (arith, n, c.place.ensures.few) in
    short_after l ps h (key_tree c.args.key) c.in_ok-short.short c.in_ok-short.ensures.short c.place.result (key_pairs es) c.place.ensures.pairs (on_err_weaker c.place.result (λ e. ap key_pairs e) c.place.ensures.err) c.requires.sound few

pub returns-clause-number : goal.returns-clause-number
returns-clause-number c =
    let now = key_pairs c.place.new.keys.entries in
    let k = key_tree c.args.key in
    let s = c.in_ok-short.short in
    IfOk-weaker c.place.result (λ n. position (form.eq s) (firsts now) ≡ Some n) (λ n. slice_get (seconds now) n ≡ Some k)
    (key_there c.short_form.new.interner now (returns-clause-short c) k s c.in_ok-short.ensures.short)
    c.place.ensures.number

pub returns-clause-grows : goal.returns-clause-grows
returns-clause-grows c =
    let l = c.short_form.new.interner in
    let ps = key_pairs c.args.keys.now.entries in
    let now = key_pairs c.place.new.keys.entries in
    let h = short_grown c.args.interner.now l c.in_ok-short.ensures.grows ps c.requires.short in
    keys_after l ps h (key_tree c.args.key) c.in_ok-short.short c.in_ok-short.ensures.short c.place.result now c.place.ensures.pairs (on_err_weaker c.place.result (λ e. ap key_pairs e) c.place.ensures.err)

pub returns-clause-members : goal.returns-clause-members
returns-clause-members c =
    let l = c.short_form.new.interner in
    let ps = key_pairs c.args.keys.now.entries in
    let now = key_pairs c.place.new.keys.entries in
    let h = short_grown c.args.interner.now l c.in_ok-short.ensures.grows ps c.requires.short in
    members_after l ps h (key_tree c.args.key) c.in_ok-short.short c.in_ok-short.ensures.short c.place.result now c.place.ensures.pairs (on_err_weaker c.place.result (λ e. ap key_pairs e) c.place.ensures.err)

pub place-requires : goal.place-requires
place-requires c = grind (arith, common_steps)
