use Rattle.std.proofs.Common.{[], List, refl, sym, subst}
use Rattle.std.proofs.lemmas.Result.{IfOk-weaker}
use Rattle.gl_calculus.specs.Grid.Grid.{Addr}
use Rattle.gl_calc.specs.Kept.{AreRanges, AreKept}
use Rattle.gl_calc.specs.Progress.{since}
use Rattle.gl_calc.proofs.keeping.kept.Goals as goal

pub returns-then-base : goal.returns-then-base
returns-then-base c =
    IfOk-weaker c.kept_since.result
    (λ r. (touched : List Addr) → AreRanges c.args.ranges.now touched → AreKept (c.args.base.table, touched) c.args.w.now r)
    (λ r. (touched : List Addr) → AreRanges c.args.ranges.now touched → AreKept (c.args.base.table, since c.args.base.is_earlier touched) c.args.w.now r)
    (λ r h touched a. subst (λ b. AreKept (c.args.base.table, since b touched) c.args.w.now r) (sym c.if-base.true) (h touched a))
    c.kept_since.ensures

pub returns-else-base : goal.returns-else-base
returns-else-base c =
    IfOk-weaker c.kept_since-else-base.result
    (λ r. (touched : List Addr) → AreRanges [] touched → AreKept (c.args.base.table, touched) c.args.w.now r)
    (λ r. (touched : List Addr) → AreRanges c.args.ranges.now touched → AreKept (c.args.base.table, since c.args.base.is_earlier touched) c.args.w.now r)
    (λ r h touched a. subst (λ b. AreKept (c.args.base.table, since b touched) c.args.w.now r) (sym c.if-base.false) (h [] (λ p. refl)))
    c.kept_since-else-base.ensures
