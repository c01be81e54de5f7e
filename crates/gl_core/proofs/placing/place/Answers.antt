use Rattle.std.proofs.Common.{position, sym, ap, ◌∙◌}
use Rattle.gl_demand.specs.View.{key_tree}
use Rattle.gl_intern.proofs.Keys.{firsts_of}
use Rattle.gl_intern.proofs.Pushing.{kept_pairs}
use Rattle.gl_core.specs.contracts.short.ShortPartialEq.TheImpl.{ghosts as form}
use Rattle.gl_core.proofs.Shorts.{form_equality}
use Rattle.gl_core.proofs.placing.place.Goals as goal

pub push-requires-clause-new : goal.push-requires-clause-new
push-requires-clause-new c = ap (position (form.eq c.args.short)) (firsts_of key_tree c.args.keys.now.entries) ∙ sym c.in-None.ensures.index

pub returns-in-Some-clause-number : goal.returns-in-Some-clause-number
returns-in-Some-clause-number c = ap (position (form.eq c.args.short)) (firsts_of key_tree c.args.keys.now.entries) ∙ sym c.in-Some.ensures.index

pub returns-in-Some-clause-pairs : goal.returns-in-Some-clause-pairs
returns-in-Some-clause-pairs c =
    let at = ap (position (form.eq c.args.short)) (firsts_of key_tree c.args.keys.now.entries) ∙ sym c.in-Some.ensures.index in
    kept_pairs form.eq form_equality key_tree c.args.keys.now.entries c.args.short c.args.key c.in-Some.n (key_tree c.args.key) at
