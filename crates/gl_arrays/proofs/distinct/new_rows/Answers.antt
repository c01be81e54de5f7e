use Rattle.std.proofs.Common.{◌∙◌, Vec, Global, Bool, ◌≤◌, length, [], List, map, sym, ap, arith}
use Rattle.std.specs.List.{list_any, range_with_len}
use lib.Pointwise.{pointwise}
use Rattle.gl_calculus.specs.Values.Value as V
use Rattle.gl_calculus.specs.Computation.Lists.{fresh}
use Rattle.gl_calculus.specs.Values.Same.{same_scalar}
use Rattle.gl_value.specs.View.{scalar_tree, value_tree}
use Rattle.gl_value.specs.declared.Scalar.{Scalar}
use Rattle.gl_value.specs.contracts.ScalarPartialEq.TheImpl.{ghosts as scalar}
use Rattle.gl_arrays.specs.Parts.{row}
use Rattle.gl_arrays.proofs.Tables.{rows_are}
use Rattle.gl_arrays.proofs.NewRows.{some_new, same_rows, row_added, row_passed, rows_done, not_on, not_off}
use Rattle.gl_arrays.proofs.distinct.new_rows.Goals as goal
use Rattle.gl_arrays.proofs.distinct.new_rows.Goals.{then-branch+in_ok-push, else-branch}

abbrev plain : Vec Scalar Global → List V.Scalar
plain r = map scalar_tree r.items

abbrev same : Vec Scalar Global → Vec Scalar Global → Bool
same x y = pointwise scalar.eq x.items y.items

pub loop-i-preserved : goal.loop-i-preserved
loop-i-preserved c =
    let f = row (value_tree c.args.v.now) in
    let n = c.extents-rows.result.0 in
    let x = c.in_ok-row_of.field-0 in
    let ks = c.loop-i.seen.keys in
    let after = c.insert.new.self.keys in
    let g = fresh (pointwise same_scalar) [] (map f (range_with_len 0 n)) in
    let seen = list_any (same x) ks in
    let keys = c.in_ok-insert.ensures.keys in
    elim c.if-branch.branch [
      | then-branch+in_ok-push w ↦ (
        (
            let off = not_on seen c.in_ok-insert.field-0 c.in_ok-insert.ensures.added w.if-branch.true in
            rw (w.new-is, w.in_ok-push.ensures.items) (row_added plain same (λ x y. same_rows x.items y.items) f ks after x c.loop-i.new.items c.loop-i.i n g c.loop-i-test.true c.in_ok-row_of.ensures off (rw off at keys) c.loop-i.invariant.0)
            ),
        rw w.new-is (omega (arith, w.in_ok-push.ensures.len)),
      )
      | else-branch w ↦ (
        (
            let on = not_off seen c.in_ok-insert.field-0 c.in_ok-insert.ensures.added w.if-branch.false in
            rw w.new-is (row_passed plain same (λ x y. same_rows x.items y.items) f ks after x c.loop-i.new.items c.loop-i.i n g c.loop-i-test.true c.in_ok-row_of.ensures on (rw on at keys) c.loop-i.invariant.0)
            ),
        rw w.new-is (omega arith),
      )
    ]

found_rows : goal.returns-clause-rows
found_rows c =
    let v = value_tree c.args.v.now in
    rows_done (row v) (map plain c.loop-i.seen.keys) c.loop-i.new.items c.loop-i.i c.extents-rows.result.0 _ c.loop-i-test.false c.loop-i.invariant.0
    ∙ ap (λ n. fresh (pointwise same_scalar) [] (map (row v) (range_with_len 0 n))) c.extents-rows.ensures.rows
    ∙ ap (fresh (pointwise same_scalar) []) (sym (rows_are v c.requires))

pub returns-clause-rows : goal.returns-clause-rows
returns-clause-rows c = found_rows c

pub returns-clause-some : goal.returns-clause-some
returns-clause-some c =
    let some : 1 ≤ length c.loop-i.new.items = some_new (value_tree c.args.v.now) c.loop-i.new.items c.requires (found_rows c) in
    omega (arith, some, c.loop-i.new.ok.0)
