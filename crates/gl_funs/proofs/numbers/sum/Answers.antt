use Rattle.std.proofs.Common.{◌≡◌, ◌+ℤ◌, ◌∙◌, to_z, FitsSigned, refl, arith, rules}
use Rattle.std.proofs.lemmas.Int.{to_z-of_z, fits_signed_from_abs}
use Rattle.std.specs.Int.{w64, w128}
use Rattle.std.specs.Int.Signed.{nat_abs-le}
use Rattle.gl_value.specs.Forms.{trees}
use Rattle.gl_funs.specs.Elements.{elements_of, elements_left}
use Rattle.gl_funs.proofs.Counts.{elements_few}
use Rattle.gl_funs.proofs.Folds.{total_int, sum_room}
use Rattle.gl_funs.proofs.numbers.sum.Goals as goal

pub loop-x-init : goal.loop-x-init
loop-x-init c =
    let it = c.into_iter-x-iterator.result in
    let e : elements_left it.items.now it.values.now ≡ elements_of c.args.values.now = rw c.into_iter-x-iterator.ensures.into_iter_gives c.new-x-items.ensures in
    rw e (tt, tt, refl, omega (arith, elements_few c.args.values.now c.requires.0 c.requires.1))

pub overflow_add-total : goal.overflow_add-total
overflow_add-total c =
    let n = c.in-Int.n in
    let fits : FitsSigned w64 n = search rules in
    let same : c.from-total.result ≡ n = c.from-total.ensures ∙ to_z-of_z w64 n fits in
    let small : FitsSigned w128 c.from-total.result = record { sfits = c.from-total.type_inv } in
    let room = sum_room c.in-Some.x.now _ _ (to_z w128 c.loop-x.total-bits) n c.in-Some.ensures.steps (nat_abs-le n fits.sfits) c.loop-x.invariant.3 in
    let sum : FitsSigned w128 ((to_z w128 c.loop-x.total-bits) +ℤ n) = fits_signed_from_abs w128 ((to_z w128 c.loop-x.total-bits) +ℤ n) (omega (arith, room)) in
    rw (to_z-of_z w128 c.from-total.result small, same) sum

pub loop-x-preserved-in-Int : goal.loop-x-preserved-in-Int
loop-x-preserved-in-Int c =
    let n = c.in-Int.n in
    let fits : FitsSigned w64 n = search rules in
    let same : c.from-total.result ≡ n = c.from-total.ensures ∙ to_z-of_z w64 n fits in
    let small : FitsSigned w128 c.from-total.result = record { sfits = c.from-total.type_inv } in
    let room = sum_room c.in-Some.x.now _ _ (to_z w128 c.loop-x.total-bits) n c.in-Some.ensures.steps (nat_abs-le n fits.sfits) c.loop-x.invariant.3 in
    let sum : FitsSigned w128 ((to_z w128 c.loop-x.total-bits) +ℤ n) = fits_signed_from_abs w128 ((to_z w128 c.loop-x.total-bits) +ℤ n) (omega (arith, room)) in
    rw (to_z-of_z w128 c.from-total.result small, same, to_z-of_z w128 ((to_z w128 c.loop-x.total-bits) +ℤ n) sum)
    (tt, tt, c.loop-x.invariant.2 ∙ total_int c.in-Some.x.now _ _ (to_z w128 c.loop-x.total-bits) n c.in-Some.ensures.steps c.in-Int.is, room)

pub returns-in-Err-clause-sound : goal.returns-in-Err-clause-sound
returns-in-Err-clause-sound c = grind (arith, trees)

pub returns-in-Err-clause-value : goal.returns-in-Err-clause-value
returns-in-Err-clause-value c = grind (arith, trees)

pub returns-in-Sheet-clause-sound : goal.returns-in-Sheet-clause-sound
returns-in-Sheet-clause-sound c = grind (arith, trees)

pub returns-in-Sheet-clause-value : goal.returns-in-Sheet-clause-value
returns-in-Sheet-clause-value c = grind (arith, trees)
