use Rattle.std.proofs.Common.{◌≡◌, List, Some, length, option_map, slice_get, ap, sym, ◌∙◌, arith}
use Rattle.gl_calculus.specs.Evaluation.Key as K
use Rattle.gl_calculus.proofs.Tests.{key_equality}
use Rattle.gl_demand.specs.View.{key_tree}
use Rattle.gl_demand.specs.Equal.{eq_is_key}
use Rattle.gl_intern.proofs.Keys.{second_at}
use Rattle.gl_intern.specs.Numbered.{seconds}
use Rattle.gl_core.specs.Shorts.{key_pairs}
use Rattle.gl_core.proofs.Wakes.{get_within}
use Rattle.gl_core.proofs.book.Book.is_at.Goals as goal

pub returns-in-Some : goal.returns-in-Some
returns-in-Some c t =
    let es = c.self.inside.keys.entries in
    let same : key_tree c.in-Some.k.now ≡ key_tree c.args.key.now = key_equality.0 _ _ (sym (eq_is_key c.in-Some.k.now c.args.key.now) ∙ sym c.eq.ensures ∙ t) in
    let at : slice_get c.args.self.now c.args.n ≡ Some (key_tree c.args.key.now) = ap (λ (xs : List K.Key). slice_get xs c.args.n) (sym c.self.view_is) ∙ second_at key_tree es c.args.n ∙ ap (option_map (λ e. key_tree e.1)) (sym c.in-Some.ensures.entry) ∙ ap Some same in
    let h = get_within c.args.self.now c.args.n (key_tree c.args.key.now) at in
    let l : length c.args.self.now ≡ length (seconds (key_pairs es)) = ap (λ (xs : List K.Key). length xs) (sym c.self.view_is) in
    (at, omega (arith, h, l, c.self.invariant.0.booked.few))
