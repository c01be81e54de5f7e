use Rattle.std.proofs.Common.{◌≡◌, ◌<◌, ◌≤◌, ◌∙◌, List, length, IfSome, sym, subst}
use Rattle.gl_calculus.specs.Grid.Grid.{Addr, AreInOrder}
use Rattle.gl_calc.proofs.Formulas.{formulas_in_order}
use Rattle.gl_calc.proofs.Places.{put_in, found, absent}
use Rattle.gl_calc.proofs.placing.put_place.Goals as goal

pub returns-in-Ok : goal.returns-in-Ok
returns-in-Ok c = λ S x o e k.
    let xs = c.args.places.items in
    let ordered : AreInOrder xs = subst AreInOrder (sym k) (formulas_in_order S o) in
    let within : c.in-Ok.at < length xs = rw c.deref.ensures.value at c.in-Ok.ensures.bound in
    c.found_place.ensures ∙ found xs c.args.a c.in-Ok.at c.args.formula ordered within (rw c.deref.ensures.value at c.in-Ok.ensures.ok) ∙ put_in S o c.args.a x c.args.formula e xs k

pub returns-in-Err : goal.returns-in-Err
returns-in-Err c = λ S x o e k.
    let xs = c.args.places.items in
    let ordered : AreInOrder xs = subst AreInOrder (sym k) (formulas_in_order S o) in
    let within : c.in-Err.at ≤ length xs = rw c.deref.ensures.value at c.in-Err.ensures.bound in
    let put = absent xs c.args.a c.in-Err.at c.args.formula ordered within (rw c.deref.ensures.value at c.in-Err.ensures.position) ∙ put_in S o c.args.a x c.args.formula e xs k in
    subst (λ (ys : List Addr). IfSome c.new_place.result (λ v. v.items ≡ ys)) put c.new_place.ensures
