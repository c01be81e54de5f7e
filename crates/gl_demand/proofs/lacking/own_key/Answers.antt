use Rattle.std.proofs.Common.{IfOk, option_map, ap, subst, ◌≡◌}
use Rattle.gl_value.specs.View.{frame_tree}
use Rattle.gl_machine.specs.Ahead.Demands.{held_keys}
use Rattle.gl_demand.specs.View.{key_tree}
use Rattle.gl_demand.specs.Reading.{one_key}
use Rattle.gl_demand.proofs.lacking.own_key.Goals as goal

pub returns-in-Some-clause-keys : goal.returns-in-Some-clause-keys
returns-in-Some-clause-keys c = λ w. subst (λ h. IfOk c.held_key.result (λ k. one_key (option_map key_tree k) ≡ held_keys (frame_tree c.args.env.now) c.args.a h)) c.in-Some.ensures.value c.held_key.ensures.keys

pub returns-in-None-clause-keys : goal.returns-in-None-clause-keys
returns-in-None-clause-keys c = λ w. ap (held_keys (frame_tree c.args.env.now) c.args.a) c.in-None.ensures.value
