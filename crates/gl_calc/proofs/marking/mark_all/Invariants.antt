use Rattle.std.proofs.Common.{◌≡◌, ◌+◌, ◌++◌, take, vec_len, vec_capacity}
use Rattle.gl_calc.proofs.marking.mark_all.Given as goal

abbrev pub invariant-loop-a : goal.invariant-loop-a
invariant-loop-a l = record {
  items : l.touched.items ≡ l.fn.touched.items ++ take l.a-index l.places;
  len : vec_len l.touched ≡ vec_len l.fn.touched + l.a-index;
  capacity : vec_capacity l.touched ≡ vec_capacity l.fn.touched;
}
