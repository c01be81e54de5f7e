use Rattle.gl_value.specs.Sound.{sheet_facts}
use Rattle.gl_demand.proofs.Overridden.{in_order}
use Rattle.gl_demand.proofs.Filled.{sooner_is, stays_best}
use Rattle.gl_demand.proofs.filling.sooner.Goals as goal

pub returns-in-Some : goal.returns-in-Some
returns-in-Some c p h =
    let s = c.args.s.now in
    sooner_is p s.overrides.items c.args.r.now c.args.after.now c.args.best.now c.in-Some.a (in_order s.region s.overrides.items (sheet_facts s c.requires).inside) h c.in-Some.ensures

pub returns-in-None : goal.returns-in-None
returns-in-None c p h =
    let s = c.args.s.now in
    stays_best p s.overrides.items c.args.r.now c.args.after.now c.args.best.now (in_order s.region s.overrides.items (sheet_facts s c.requires).inside) h c.in-None.ensures
