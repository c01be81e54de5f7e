use Rattle.std.proofs.Common.{option_map, ap, ◌∙◌}
use Rattle.gl_demand.specs.View.{outcome_tree}
use Rattle.gl_cert.proofs.Tables.{lookup_noted}
use Rattle.gl_cert.proofs.noting.outcome_in.Goals as goal

pub returns : goal.returns
returns c = ap (option_map outcome_tree) c.get.ensures.value ∙ lookup_noted c.args.outcomes.now.entries c.args.key.now
