use Rattle.std.proofs.Common.{◌≡◌, ◌∙◌, ◌∷◌, [], ◌++◌, List, Option, map, take, slice_get, Some, sym, ap, subst, arith, rules}
use Rattle.gl_calculus.specs.Grid.Grid.{Addr}
use Rattle.gl_calculus.specs.Edits.Sheets.{places_in}
use Rattle.gl_calculus.specs.Edits.Replicas.{Changes}
use Rattle.gl_cells.specs.declared.content.Content.{Content}
use Rattle.gl_cells.specs.Sheet.{sheet}
use Rattle.gl_calc.proofs.Calcs.{clear_length}
use Rattle.gl_calc.proofs.Marks.{some_there, none_there, take_whole, take_more, next_first, next_after}
use Rattle.gl_undo.specs.View.{AreProperChanges, changes_tree}
use Rattle.gl_run.proofs.Listed.{nothing_at, removals_listed, order_of_removals, tree_more, nothing_more, proper_more}
use Rattle.gl_run.proofs.changes.removals.Goals as goal

pub loop-init : goal.loop-init
loop-init c = record { next = next_first c.args.r.now _; few = omega arith; items = search rules; proper = subst AreProperChanges (sym c.new-list.ensures.items) tt }

pub loop-preserved : goal.loop-preserved
loop-preserved c =
    let ps = places_in (sheet c.args.cells.now) c.args.r.now in
    let a = c.in-Some.a in
    let n = c.loop.counter in
    let here : slice_get ps n ≡ Some a = sym c.loop.invariant.next ∙ sym c.next_in.ensures ∙ c.in-Some.is in
    let l = some_there ps n a here in
    record {
      next = next_after c.args.r.now _ c.contents-end.ensures.ordered n a here;
      few = omega (arith, l);
      items =
          ap (λ (vs : List (Addr × Option Content)). changes_tree vs) c.in_ok-push-in-Some.ensures.items ∙ tree_more c.loop.list.items a ∙ ap (λ (cs : Changes). cs ++ nothing_at a ∷ []) c.loop.invariant.items
          ∙ sym (ap (map nothing_at) (take_more ps n a here) ∙ nothing_more (take n ps) a);
      proper = subst AreProperChanges (sym c.in_ok-push-in-Some.ensures.items) (proper_more c.loop.list.items a c.loop.invariant.proper);
    }

pub returns-in-None-clause-value : goal.returns-in-None-clause-value
returns-in-None-clause-value c =
    let S = sheet c.args.cells.now in
    let r = c.args.r.now in
    let ps = places_in S r in
    let l = none_there ps c.loop.counter (sym c.loop.invariant.next ∙ sym c.next_in.ensures ∙ c.in-None.is) in
    c.loop.invariant.items ∙ ap (map nothing_at) (take_whole ps c.loop.counter l) ∙ sym (removals_listed S r)

pub returns-in_err-push-in-Some-clause-ordered : goal.returns-in_err-push-in-Some-clause-ordered
returns-in_err-push-in-Some-clause-ordered c = order_of_removals (sheet c.args.cells.now) c.args.r.now c.contents-end.ensures.ordered

pub returns-in-None-clause-ordered : goal.returns-in-None-clause-ordered
returns-in-None-clause-ordered c = order_of_removals (sheet c.args.cells.now) c.args.r.now c.contents-end.ensures.ordered

pub returns-clause-value : goal.returns-clause-value
returns-clause-value c =
    let S = sheet c.args.cells.now in
    let r = c.args.r.now in
    let ps = places_in S r in
    let s = clear_length S r in
    c.loop.invariant.items ∙ ap (map nothing_at) (take_whole ps c.loop.counter (omega (arith, s, c.loop-test.false, c.contents-end.ensures.count))) ∙ sym (removals_listed S r)

pub returns-clause-ordered : goal.returns-clause-ordered
returns-clause-ordered c = order_of_removals (sheet c.args.cells.now) c.args.r.now c.contents-end.ensures.ordered
