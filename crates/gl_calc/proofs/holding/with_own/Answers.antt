use Rattle.std.proofs.Common.{sym, ap, ◌∙◌, arith}
use Rattle.gl_calc.specs.Progress.{either, last_of}
use Rattle.gl_calc.proofs.Following.{popped}
use Rattle.gl_calc.proofs.holding.with_own.Goals as goal

pub returns-in-None-clause-own : goal.returns-in-None-clause-own
returns-in-None-clause-own c =
    popped c.args.tables.now.items c.pop-own.new.self.items c.pop-own.result c.pop-own.ensures.items (λ e. (let none = (rw e at c.pop-own.ensures.cases).0 in let full = c.args.tables.now.ok.0 in omega (arith, none, full)))
    ∙ sym (ap (λ o. either o (last_of c.args.tables.now.items)) c.in-None.is)
