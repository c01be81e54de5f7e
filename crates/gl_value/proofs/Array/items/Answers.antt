use Rattle.std.proofs.Common.{◌∙◌, ap, sym, map}
use Rattle.gl_value.specs.View.{scalar_tree}
use Rattle.gl_value.proofs.Elements.{elements_of}
use Rattle.gl_value.proofs.Array.items.Goals as goal

pub returns-clause-elements : goal.returns-clause-elements
returns-clause-elements c = ap (map scalar_tree) c.deref.ensures.value ∙ sym (elements_of c.args.self.now)
