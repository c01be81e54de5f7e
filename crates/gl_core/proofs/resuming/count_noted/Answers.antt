use Rattle.std.proofs.Common.{◌≡◌, ◌+◌, ◌∙◌, ℕ, Bool, if◌then◌else◌, length, filter, take, slice_index, sym, ap, arith}
use Rattle.gl_support.specs.Reach.{has}
use Rattle.gl_core.specs.Numbers.{numbers_of}
use Rattle.gl_core.proofs.Numbered.{get_of_index}
use Rattle.gl_core.proofs.Filtered.{filter_length}
use Rattle.gl_core.proofs.Indexing.{take_length, take_whole}
use Rattle.gl_core.proofs.Whole.{count_next, has_by_row}
use Rattle.gl_core.proofs.resuming.count_noted.Goals as goal
use Rattle.gl_core.proofs.resuming.count_noted.Goals.{then-is_some, else-is_some}

pub overflow_add-count : goal.overflow_add-count
overflow_add-count c =
    let ns = numbers_of c.args.ledger.now.rows.items in
    let i = c.loop-i.i in
    let f = filter_length (has ns) (take i c.args.numbers.now) in
    let l = take_length c.args.numbers.now i (omega (arith, c.loop-i-test.true)) in
    omega (arith, f, l, c.loop-i.invariant)

pub loop-i-preserved : goal.loop-i-preserved
loop-i-preserved c =
    let ns = numbers_of c.args.ledger.now.rows.items in
    let i = c.loop-i.i in
    let n = slice_index c.args.numbers.now i in
    let at = get_of_index c.args.numbers.now i c.loop-i-test.true in
    let next = count_next ns c.args.numbers.now i n at in
    let row = has_by_row c.args.ledger.now.rows.items n c.row.result c.row.ensures in
    elim c.if-is_some.branch [
      | then-is_some w ↦ w.count-is ∙ ap (λ (k : ℕ). k + 1) c.loop-i.invariant ∙ ap (λ (b : Bool). length (filter (has ns) (take i c.args.numbers.now)) + (if b then 1 else 0)) (sym (row ∙ sym c.is_some.ensures ∙ w.if-is_some.true)) ∙ sym next
      | else-is_some w ↦ w.count-is ∙ c.loop-i.invariant ∙ (let z : length (filter (has ns) (take i c.args.numbers.now)) ≡ length (filter (has ns) (take i c.args.numbers.now)) + 0 = omega arith in z) ∙ ap (λ (b : Bool). length (filter (has ns) (take i c.args.numbers.now)) + (if b then 1 else 0)) (sym (row ∙ sym c.is_some.ensures ∙ w.if-is_some.false)) ∙ sym next
    ]

pub returns : goal.returns
returns c =
    let ns = numbers_of c.args.ledger.now.rows.items in
    c.loop-i.invariant ∙ ap (λ (ms : _). length (filter (has ns) ms)) (take_whole c.args.numbers.now c.loop-i.i c.loop-i-test.false)
