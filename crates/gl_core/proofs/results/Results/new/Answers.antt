use Rattle.std.proofs.Common.{◌≡◌, List, [], ap, sym, subst}
use Rattle.gl_calculus.specs.Grid.Grid.{Range}
use Rattle.gl_calculus.specs.Calculation.Memory.{Notes}
use Rattle.gl_support.specs.declared.row.Row.{Row}
use Rattle.gl_demand.specs.declared.outcome.Outcome.{Outcome}
use Rattle.gl_core.specs.Numbers.{row_notes}
use Rattle.gl_core.specs.Ledger.{written}
use Rattle.gl_core.specs.Results.{AreResults}
use Rattle.gl_core.proofs.results.Results.new.Goals as goal

pub invariant_of-result : goal.invariant_of-result
invariant_of-result c =
    let l = c.new.result in
    let none : written l ≡ [] = ap (λ (rs : List (Row Outcome Range)). row_notes l.book rs) c.new.ensures.rows in
    (c.new.ensures.kept, subst (λ (ns : Notes). AreResults ns) (sym none) (record { closed = λ n m. absurd m; sound = λ n m. absurd m }), c.new-2.ensures l)

pub returns : goal.returns
returns c = ap (λ (rs : List (Row Outcome Range)). row_notes c.new.result.book rs) c.new.ensures.rows
