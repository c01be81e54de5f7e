use Rattle.std.proofs.Common.{◌≡◌, ◌*◌, ◌++◌, ◌∙◌, ap, arith, map, sym, length, vec_len}
use Rattle.std.proofs.lemmas.Grind.{common_steps}
use Rattle.std.specs.List.{range_with_len}
use Rattle.gl_calculus.specs.Grid.Grid.{size}
use Rattle.gl_value.specs.Forms.{value_tree-Array}
use Rattle.gl_lift.proofs.Rows.{row_more, table_is}
use Rattle.gl_lift.proofs.Soundness.{array_is_sound}
use Rattle.gl_lift.proofs.build.table.Goals as goal

pub loop-i-preserved : goal.loop-i-preserved
loop-i-preserved g c = (
  omega (arith, c.in_ok-push_row-in-Some.ensures.count, c.loop-i.invariant.0),
  λ rule h.
      c.in_ok-push_row-in-Some.ensures.row rule h
      ∙ ap (λ xs. xs ++ map (rule c.loop-i.i) (range_with_len 0 c.args.cols)) (c.loop-i.invariant.1 rule h)
      ∙ sym (row_more (λ i. map (rule i) (range_with_len 0 c.args.cols)) c.loop-i.i),
  λ h. c.in_ok-push_row-in-Some.ensures.sound h (c.loop-i.invariant.2 h),
)

pub returns-in-Some : goal.returns-in-Some
returns-in-Some g c =
    let done : c.loop-i.i ≡ c.args.rows = omega arith in
    record {
      sound = λ h.
          let cells : vec_len c.loop-i.items ≡ c.loop-i.i * c.args.cols = c.loop-i.invariant.0 in
          let all : vec_len c.loop-i.items ≡ c.args.rows * c.args.cols = rw done at cells in
          let count : length c.loop-i.items.items ≡ c.args.rows * c.args.cols = omega (arith, all, c.loop-i.items.ok.0) in
          rw (value_tree-Array, c.in_ok-new-in-Some.ensures.ok, c.new-in-Some.ensures, c.in-Some.ensures.1) (array_is_sound (size c.args.rows c.args.cols) c.loop-i.items.items c.in-Some.ensures.0 count (c.loop-i.invariant.2 h));
      value = λ rule h.
          let items = rw done at (c.loop-i.invariant.1 rule h) in
          rw (value_tree-Array, c.in_ok-new-in-Some.ensures.ok, c.new-in-Some.ensures, c.in-Some.ensures.1) (table_is (size c.args.rows c.args.cols) c.loop-i.items.items rule c.in-Some.ensures.0 items);
    }

pub loop-i-init : goal.loop-i-init
loop-i-init g c = grind (arith, common_steps)
