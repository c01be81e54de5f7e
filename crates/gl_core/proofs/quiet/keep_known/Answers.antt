use Rattle.std.proofs.Common.{◌≡◌, ◌<◌, ◌+◌, ◌-◌, List, Option, IfSome, filter, length, sym, ap, subst, arith, ◌∙◌}
use Rattle.gl_calculus.specs.Computation.Lists.{AreDistinct}
use Rattle.gl_calculus.specs.Grid.Grid.{Range}
use Rattle.gl_support.specs.declared.row.Row.{Row}
use Rattle.gl_demand.specs.declared.outcome.Outcome.{Outcome}
use Rattle.gl_core.specs.Numbers.{Each, numbers_of}
use Rattle.gl_core.specs.Graph.{IsGraphOf}
use Rattle.gl_core.specs.Table.{has_outcome}
use Rattle.gl_core.specs.declared.graph.Graph.{Graph}
use Rattle.gl_core.proofs.Filtered.{numbers_there, numbers_apart, some_there, some_rows, filter_apart, filter_length}
use Rattle.gl_core.proofs.Cores.{indexed}
use Rattle.gl_core.proofs.Graphed.{fewer_rows}
use Rattle.gl_core.proofs.quiet.keep_known.Goals as goal

pub keep_resolved-requires : goal.keep_resolved-requires
keep_resolved-requires c = indexed c.args.entries.now c.requires.table

pub renumber-requires-clause-there : goal.renumber-requires-clause-there
renumber-requires-clause-there c =
    let l = c.args.ledger.now in
    let p = λ (r : Row Outcome Range). has_outcome c.args.entries.now r.by in
    subst (λ (rs : List (Row Outcome Range)). Each (λ n. n < length l.row_of.items) (numbers_of rs)) (sym c.keep_resolved.ensures) (some_there p l.rows.items (λ n. n < length l.row_of.items) (numbers_there l c.requires.ledger))

pub renumber-requires-clause-apart : goal.renumber-requires-clause-apart
renumber-requires-clause-apart c =
    let l = c.args.ledger.now in
    let p = λ (r : Row Outcome Range). has_outcome c.args.entries.now r.by in
    subst (λ (rs : List (Row Outcome Range)). AreDistinct (numbers_of rs)) (sym c.keep_resolved.ensures) (filter_apart p l.rows.items (numbers_apart l c.requires.ledger))

pub renumber-requires-clause-few : goal.renumber-requires-clause-few
renumber-requires-clause-few c =
    let l = c.args.ledger.now in
    let p = λ (r : Row Outcome Range). has_outcome c.args.entries.now r.by in
    let n = filter_length p l.rows.items in
    let s : length c.keep_resolved.new.rows.items ≡ length (filter p l.rows.items) = ap length c.keep_resolved.ensures in
    omega (arith, n, s, c.requires.ledger.few)

pub renumber-requires-clause-fewer : goal.renumber-requires-clause-fewer
renumber-requires-clause-fewer c =
    let l = c.args.ledger.now in
    let p = λ (r : Row Outcome Range). has_outcome c.args.entries.now r.by in
    let n = filter_length p l.rows.items in
    omega (arith, n, ap length c.keep_resolved.ensures, c.len-count.ensures, l.rows.ok.0)

pub returns-clause-rows : goal.returns-clause-rows
returns-clause-rows c = c.renumber.ensures.rows ∙ c.keep_resolved.ensures

pub returns-clause-kept : goal.returns-clause-kept
returns-clause-kept c =
    let l = c.args.ledger.now in
    let p = λ (r : Row Outcome Range). has_outcome c.args.entries.now r.by in
    let n = filter_length p l.rows.items in
    let gone = c.len-count.result - length c.keep_resolved.new.rows.items in
    let all : length l.rows.items ≡ length (filter p l.rows.items) + gone = omega (arith, n, ap length c.keep_resolved.ensures, c.len-count.ensures, l.rows.ok.0) in
    some_rows l c.renumber.new.self p c.requires.ledger c.renumber.ensures.book (c.renumber.ensures.rows ∙ c.keep_resolved.ensures) c.renumber.ensures.index
    (subst (λ (g : Option Graph). IfSome g (IsGraphOf (filter p l.rows.items))) (sym c.renumber.ensures.graph) (fewer_rows p l.rows.items l.graph gone all c.requires.ledger.graph))
