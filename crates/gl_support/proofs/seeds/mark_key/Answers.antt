use Rattle.std.proofs.Common.{◌∙◌, ◌<◌, ◌||◌, length, sym, ap, arith}
use Rattle.gl_support.specs.Reach.{is_marked}
use Rattle.gl_support.proofs.Keys.{or_false}
use Rattle.gl_support.proofs.Places.{marked_set, stands-Some, stands-None}
use Rattle.gl_support.proofs.seeds.mark_key.Goals as goal

pub returns-in-Some-clause-seeds : goal.returns-in-Some-clause-seeds
returns-in-Some-clause-seeds g c =
    let old = c.args.seeds.now.items in
    let inside : c.in-Some.b < length old = omega (arith, c.in-Some.ensures.within, c.requires) in
    λ n. marked_set old c.in-Some.b n inside
    ∙ ap (λ b. is_marked old n || b) (sym (stands-Some g.K.PartialEq.eq c.args.nodes.now.keys c.args.k.now c.in-Some.b n c.in-Some.ensures.index))

pub returns-in_default-clause-seeds : goal.returns-in_default-clause-seeds
returns-in_default-clause-seeds g c = λ n.
    sym (or_false (is_marked c.args.seeds.now.items n))
    ∙ ap (λ b. is_marked c.args.seeds.now.items n || b) (sym (stands-None g.K.PartialEq.eq c.args.nodes.now.keys c.args.k.now n c.in_default.ensures.found))
