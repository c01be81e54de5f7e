use Rattle.std.proofs.Common.{◌≡◌, ℕ, List, Some, slice_get, option_map, sym, ap, ◌∙◌, arith}
use Rattle.std.proofs.lemmas.Grind.{elements}
use Rattle.gl_calculus.specs.Grid.Grid.{Range}
use Rattle.gl_support.specs.declared.row.Row.{Row}
use Rattle.gl_demand.specs.declared.outcome.Outcome.{Outcome}
use Rattle.gl_core.specs.Numbers.{key_at}
use Rattle.gl_core.proofs.Places.{got}
use Rattle.gl_core.proofs.Numbered.{index_of_get, item_at}
use Rattle.gl_core.proofs.Cores.{indexed}
use Rattle.gl_core.proofs.Firsts.{row_below, first_at}
use Rattle.gl_core.proofs.Turns.{pick_passes, same_item, some_member}
use Rattle.gl_core.proofs.picking.next_read.Goals as goal

pub first_unresolved-count-requires : goal.first_unresolved-count-requires
first_unresolved-count-requires c = indexed c.args.entries.now c.requires.core.table

pub returns-clause-first : goal.returns-clause-first
returns-clause-first c x f =
    let l = c.args.ledger.now in
    let e = c.args.entries.now in
    let (y, h, g) = c.requires.row in
    let same : Some y ≡ Some x = sym h ∙ f in
    let yx : y ≡ x = cc in
    let by : slice_get e.known.items c.args.p ≡ Some x.by = g ∙ ap (λ (z : Row Outcome Range). Some z.by) yx in
    let row : c.index.result.now ≡ x = same_item l.rows.items c.args.row c.index.result.now x c.index.ensures f in
    let is : c.deref.result.now ≡ x.reads.items = c.deref.ensures.value ∙ ap (λ (z : Row Outcome Range). z.reads.items) row in
    let is2 : c.deref-2.result.now ≡ x.reads.items = c.deref-2.ensures.value ∙ ap (λ (z : Row Outcome Range). z.reads.items) row in
    let n = c.first_unresolved-count.result in
    let from = sym (index_of_get e.passed.items c.args.p c.index-2.result.now (item_at e.passed.items c.args.p c.index-2.result.now c.index-2.ensures (omega (arith, c.requires.there, c.requires.core.table.passed)))) in
    let all = (pick_passes l e c.pass.new.self c.requires.core c.pass.ensures.table c.args.p c.args.row x f by c.deref.result.now is c.index-2.result.now n from c.first_unresolved-count.ensures.passed c.pass.ensures.keys.known c.pass.ensures.keys.statuses c.pass.ensures.passed).1 in
    let read : c.copied.result ≡ slice_get x.reads.items n = c.copied.ensures ∙ got c.get.result c.deref-2.result.now n c.get.ensures.lookup.0 c.get.ensures.lookup.1 ∙ ap (λ (ns : List ℕ). slice_get ns n) is2 in
    ap (option_map (key_at l.book)) read
    ∙ first_at l e c.requires.core x.reads.items (row_below l e c.requires.core c.args.row x f).1 n (λ i j a d. all i j a (ap (λ (ns : List ℕ). slice_get ns i) is ∙ d)) (λ j d. c.first_unresolved-count.ensures.next j (ap (λ (ns : List ℕ). slice_get ns n) is ∙ d))

pub returns-clause-member : goal.returns-clause-member
returns-clause-member c x f =
    let l = c.args.ledger.now in
    let row : c.index.result.now ≡ x = same_item l.rows.items c.args.row c.index.result.now x c.index.ensures f in
    let is2 : c.deref-2.result.now ≡ x.reads.items = c.deref-2.ensures.value ∙ ap (λ (z : Row Outcome Range). z.reads.items) row in
    let n = c.first_unresolved-count.result in
    some_member x.reads.items n c.copied.result (c.copied.ensures ∙ got c.get.result c.deref-2.result.now n c.get.ensures.lookup.0 c.get.ensures.lookup.1 ∙ ap (λ (ns : List ℕ). slice_get ns n) is2)

pub returns-clause-core : goal.returns-clause-core
returns-clause-core c =
    let l = c.args.ledger.now in
    let e = c.args.entries.now in
    let (x, f, g) = c.requires.row in
    let is : c.deref.result.now ≡ x.reads.items = c.deref.ensures.value ∙ ap (λ (y : Row Outcome Range). y.reads.items) (same_item l.rows.items c.args.row c.index.result.now x c.index.ensures f) in
    let from = sym (index_of_get e.passed.items c.args.p c.index-2.result.now (item_at e.passed.items c.args.p c.index-2.result.now c.index-2.ensures (omega (arith, c.requires.there, c.requires.core.table.passed)))) in
    (pick_passes l e c.pass.new.self c.requires.core c.pass.ensures.table c.args.p c.args.row x f g c.deref.result.now is c.index-2.result.now c.first_unresolved-count.result from c.first_unresolved-count.ensures.passed c.pass.ensures.keys.known c.pass.ensures.keys.statuses c.pass.ensures.passed).0

pub index-requires : goal.index-requires
index-requires c = grind (arith, elements)
