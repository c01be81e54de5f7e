use Rattle.std.proofs.Common.{Some, None, sym, subst}
use Rattle.gl_calc.specs.Held.{Parts}
use Rattle.gl_calc.proofs.Calcs.{parts_of, parts_none}
use Rattle.gl_calc.proofs.holding.parted.Goals as goal

pub returns-in-Some : goal.returns-in-Some
returns-in-Some c =
    subst (λ h. Parts c.args.tables.now.items h c.with_own.new.tables.items (Some c.with_own.result)) (sym c.in-Some.is)
    (parts_of c.args.tables.now.items c.with_own.new.tables.items c.in-Some.answered c.with_own.result c.with_own.ensures.version c.with_own.ensures.own c.with_own.ensures.same)

pub returns-in-None : goal.returns-in-None
returns-in-None c = subst (λ h. Parts c.args.tables.now.items h c.args.tables.now.items None) (sym c.in-None.is) (parts_none c.args.tables.now.items)
