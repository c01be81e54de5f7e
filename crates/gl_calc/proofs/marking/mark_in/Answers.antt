use Rattle.std.proofs.Common.{◌≡◌, ◌++◌, ◌∷◌, [], take, slice_get, Some, refl, sym, ap, ◌∙◌, append_assoc, append-nil, arith}
use Rattle.gl_calculus.specs.Edits.Sheets.{places_in}
use Rattle.gl_cells.specs.Sheet.{sheet}
use Rattle.gl_calc.proofs.Calcs.{clear_length}
use Rattle.gl_calc.proofs.Marks.{some_there, none_there, take_whole, take_more, next_first, next_after}
use Rattle.gl_calc.proofs.marking.mark_in.Goals as goal

pub loop-init : goal.loop-init
loop-init c = record {
  next = next_first c.args.r.now _;
  few = omega arith;
  items = sym (append-nil c.args.touched.now.items);
  len = omega arith;
  capacity = refl;
}

pub push_reserved-requires : goal.push_reserved-requires
push_reserved-requires c =
    let ps = places_in (sheet c.args.cells.now) c.args.r.now in
    let l = some_there ps c.loop.counter c.in-Some.a (sym c.loop.invariant.next ∙ sym c.next_in.ensures ∙ c.in-Some.is) in
    let s = clear_length (sheet c.args.cells.now) c.args.r.now in
    omega (arith, l, s, c.loop.invariant.len, c.loop.invariant.capacity, c.requires)

pub returns-in-None-clause-items : goal.returns-in-None-clause-items
returns-in-None-clause-items c =
    let ps = places_in (sheet c.args.cells.now) c.args.r.now in
    let l = none_there ps c.loop.counter (sym c.loop.invariant.next ∙ sym c.next_in.ensures ∙ c.in-None.is) in
    c.loop.invariant.items ∙ ap (λ xs. c.args.touched.now.items ++ xs) (take_whole ps c.loop.counter l)

pub returns-in-None-clause-len : goal.returns-in-None-clause-len
returns-in-None-clause-len c =
    let ps = places_in (sheet c.args.cells.now) c.args.r.now in
    let l = none_there ps c.loop.counter (sym c.loop.invariant.next ∙ sym c.next_in.ensures ∙ c.in-None.is) in
    omega (arith, l, c.loop.invariant.few, c.loop.invariant.len)

pub loop-preserved : goal.loop-preserved
loop-preserved c =
    let ps = places_in (sheet c.args.cells.now) c.args.r.now in
    let here : slice_get ps c.loop.counter ≡ Some c.in-Some.a = sym c.loop.invariant.next ∙ sym c.next_in.ensures ∙ c.in-Some.is in
    let l = some_there ps c.loop.counter c.in-Some.a here in
    record {
      next = next_after c.args.r.now _ c.contents-end.ensures.ordered c.loop.counter c.in-Some.a here;
      few = omega (arith, l);
      items = c.push_reserved.ensures.items ∙ ap (λ xs. xs ++ c.in-Some.a ∷ []) c.loop.invariant.items ∙ append_assoc c.args.touched.now.items (take c.loop.counter ps) (c.in-Some.a ∷ []) ∙ ap (λ xs. c.args.touched.now.items ++ xs) (sym (take_more ps c.loop.counter c.in-Some.a here));
      len = omega (arith, c.push_reserved.ensures.len, c.loop.invariant.len);
      capacity = c.push_reserved.ensures.capacity ∙ c.loop.invariant.capacity;
    }

pub returns-clause-items : goal.returns-clause-items
returns-clause-items c =
    let ps = places_in (sheet c.args.cells.now) c.args.r.now in
    let s = clear_length (sheet c.args.cells.now) c.args.r.now in
    c.loop.invariant.items ∙ ap (λ xs. c.args.touched.now.items ++ xs) (take_whole ps c.loop.counter (omega (arith, s, c.loop-test.false, c.contents-end.ensures.count)))

pub returns-clause-len : goal.returns-clause-len
returns-clause-len c =
    let ps = places_in (sheet c.args.cells.now) c.args.r.now in
    let s = clear_length (sheet c.args.cells.now) c.args.r.now in
    omega (arith, s, c.loop-test.false, c.contents-end.ensures.count, c.loop.invariant.few, c.loop.invariant.len)
