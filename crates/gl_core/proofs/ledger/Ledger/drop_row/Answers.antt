use Rattle.std.proofs.Common.{Option, ℕ, subst, arith}
use Rattle.gl_core.specs.Numbers.{IsRowOf}
use Rattle.gl_core.proofs.Losing.{drops_absent, drops_past, drops_row, row_inside}
use Rattle.gl_core.proofs.ledger.Ledger.drop_row.Goals as goal

pub take-requires-clause-there : goal.take-requires-clause-there
take-requires-clause-there c = row_inside c.args.self.now c.args.n c.in-Some.r (subst (λ (v : Option ℕ). IsRowOf c.args.self.now.rows.items c.args.n v) c.in-Some.is c.row.ensures)

pub returns-then-n-len-clause-drops : goal.returns-then-n-len-clause-drops
returns-then-n-len-clause-drops c = drops_past c.args.self.now c.args.n c.args.moved.now.items c.requires.kept.0 (omega (arith, c.len.ensures.count, c.if-n-len.true))

pub returns-in-Some-clause-drops : goal.returns-in-Some-clause-drops
returns-in-Some-clause-drops c =
    drops_row c.args.self.now c.take.new.self c.args.n c.in-Some.r c.take.result c.args.moved.now.items c.take.new.moved.items (subst (λ (v : Option ℕ). IsRowOf c.args.self.now.rows.items c.args.n v) c.in-Some.is c.row.ensures)
    c.take.ensures.row c.take.ensures.drops

pub returns-in-None-clause-drops : goal.returns-in-None-clause-drops
returns-in-None-clause-drops c = drops_absent c.args.self.now c.args.n c.args.moved.now.items (subst (λ (v : Option ℕ). IsRowOf c.args.self.now.rows.items c.args.n v) c.in-None.is c.row.ensures)
