use Rattle.std.proofs.Common.{position, sym, ap, ◌∙◌}
use Rattle.gl_demand.specs.View.{key_tree}
use Rattle.gl_intern.proofs.Keys.{firsts_of}
use Rattle.gl_core.specs.contracts.short.ShortPartialEq.TheImpl.{ghosts as form}
use Rattle.gl_core.proofs.placing.find_place.Goals as goal

pub returns-in-Some : goal.returns-in-Some
returns-in-Some c = c.in-Some.ensures.index ∙ ap (position (form.eq c.args.short)) (sym (firsts_of key_tree c.args.keys.now.entries))

pub returns-in-None : goal.returns-in-None
returns-in-None c = c.in-None.ensures.index ∙ ap (position (form.eq c.args.short)) (sym (firsts_of key_tree c.args.keys.now.entries))
