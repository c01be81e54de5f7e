use Rattle.std.proofs.Common.{List, subst, sym}
use Rattle.gl_calculus.specs.Computation.Lists.{Member}
use Rattle.gl_calculus.specs.Evaluation.Key as K
use Rattle.gl_demand.specs.View.{key_tree}
use Rattle.gl_core.specs.Numbers.{IsNumber}
use Rattle.gl_core.specs.Shorts.{key_pairs}
use Rattle.gl_core.proofs.Shorts.{is_number, unseen}
use Rattle.gl_core.proofs.book.Book.look_up.Goals as goal

pub returns-in-Some : goal.returns-in-Some
returns-in-Some c =
    let k = key_tree c.args.key.now in
    subst (λ (ks : List K.Key). IsNumber ks k c.find_place.result) c.self.view_is (is_number c.self.inside.interner (key_pairs c.self.inside.keys.entries) c.self.invariant.0 k c.in-Some.short (sym c.in-Some.ensures) c.find_place.result c.find_place.ensures)

pub returns-in-None : goal.returns-in-None
returns-in-None c m = unseen c.self.inside.interner (key_pairs c.self.inside.keys.entries) c.self.invariant.0 (key_tree c.args.key.now) (sym c.in-None.ensures) (subst (Member (key_tree c.args.key.now)) (sym c.self.view_is) m)
