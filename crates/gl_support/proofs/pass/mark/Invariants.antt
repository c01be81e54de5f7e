use Rattle.std.proofs.Common.{◌≡◌, ℕ, List, [], drop, nat_eq, vec_len}
use Rattle.gl_machine.specs.InOrder.{gone_after}
use Rattle.gl_support.specs.Rows.{notes_of, AreMarked}
use Rattle.gl_support.proofs.pass.mark.Given as goal

abbrev pub invariant-loop-row : goal.invariant-loop-row
invariant-loop-row g l = record {
  gone : (ks : List ℕ) × AreMarked l.gone.items ks × (gone_after nat_eq (g.T.Touched.touches l.changed) ks (notes_of (drop l.row-index l.rows)) ≡ gone_after nat_eq (g.T.Touched.touches l.changed) [] (notes_of l.rows));
  size : vec_len l.gone ≡ l.numbers;
}
