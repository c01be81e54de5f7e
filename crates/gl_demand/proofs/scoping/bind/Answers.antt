use Rattle.std.specs.Rc.{rc_str_bytes}
use Rattle.gl_value.specs.View.{value_tree}
use Rattle.gl_demand.proofs.Bindings.{sound_more}
use Rattle.gl_demand.proofs.scoping.bind.Goals as goal

pub invariant_of-result : goal.invariant_of-result
invariant_of-result c = record { sound = sound_more c.in-Ok.bindings.items c.args.scope.now.bindings.items (rc_str_bytes c.args.name.now) (value_tree c.args.value) c.in-Ok.ensures c.requires c.args.scope.now.sound }
