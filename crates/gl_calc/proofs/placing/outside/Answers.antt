use Rattle.std.proofs.Common.{not, rules}
use Rattle.std.proofs.lemmas.Fn.{filter_same}
use Rattle.gl_calculus.specs.Grid.Grid.{covers}
use Rattle.gl_calc.proofs.placing.outside.Goals as goal

pub returns : goal.returns
returns c = filter_same _ (λ a. not (covers c.args.r.now a)) _ (λ x b f call. search rules) _ _ c.retain.ensures.filtered
