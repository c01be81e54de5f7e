use Rattle.std.proofs.Common.{[], List, sym, subst}
use Rattle.gl_calculus.specs.Grid.Grid.{Addr}
use Rattle.gl_calculus.specs.Calculation.Differences.{AreApart}
use Rattle.gl_calculus.specs.Calculation.Memory.{Table}
use Rattle.std.proofs.lemmas.Result.{IfOk-weaker}
use Rattle.gl_calc.specs.Kept.{AreRanges, AreKept}
use Rattle.gl_calc.specs.Progress.{next_base, since}
use Rattle.gl_calc.proofs.keeping.begun.Goals as goal

pub kept-requires-clause-apart : goal.kept-requires-clause-apart
kept-requires-clause-apart c = subst (λ (x : Table × List Addr). AreApart x.0.oracle) (sym (c.in-Ok.ensures.base [])) (c.requires.apart [])

pub returns-in-Ok-clause-kept : goal.returns-in-Ok-clause-kept
returns-in-Ok-clause-kept c =
    IfOk-weaker c.kept.result
    (λ r. (touched : List Addr) → AreRanges c.args.ranges.now touched → AreKept (c.in-Ok.base.table, since c.in-Ok.base.is_earlier touched) c.args.w.now r)
    (λ r. (touched : List Addr) → AreRanges c.args.ranges.now touched → AreKept (next_base c.args.tables.now touched) c.args.w.now r)
    (λ r h touched a. subst (λ (x : Table × List Addr). AreKept x c.args.w.now r) (c.in-Ok.ensures.base touched) (h touched a))
    c.kept.ensures
