use Rattle.std.proofs.Common.{◌≡◌, pos, ◌+ℤ◌, int_rem, int_lt, to_z, of_z, ap, false, FitsSigned, rules}
use Rattle.std.proofs.lemmas.Int.{to_z-of_z}
use Rattle.std.proofs.Math.Bool.{beq}
use Rattle.std.specs.Int.{w64}
use Rattle.gl_funs.proofs.Remainders.{added, nonzero, opposed}
use Rattle.gl_funs.proofs.numbers.remainder.Goals as goal

pub returns-else-r-n : goal.returns-else-r-n
returns-else-r-n c =
    let m = c.args.m in
    let n = c.args.n in
    let r = c.wrapping_rem-r.result in
    let fits : FitsSigned w64 r = record { sfits = c.wrapping_rem-r.type_inv } in
    let rest : r ≡ int_rem m n = rw (to_z-of_z w64 m c.ranges.m, to_z-of_z w64 n c.ranges.n) at c.wrapping_rem-r.ensures in
    let some : r ≡ pos 0 → ⊥ = λ e. c.if-r-eq0.false (ap (of_z w64) e) in
    let other : beq (int_lt r (pos 0)) (int_lt n (pos 0)) ≡ false = rw (to_z-of_z w64 r fits, to_z-of_z w64 n c.ranges.n) at c.if-r-n.false in
    let within : FitsSigned w64 (to_z w64 (of_z w64 r) +ℤ to_z w64 (of_z w64 n)) = search rules in
    let sum : FitsSigned w64 (r +ℤ n) = rw (to_z-of_z w64 r fits, to_z-of_z w64 n c.ranges.n) at within in
    rw (to_z-of_z w64 r fits, to_z-of_z w64 n c.ranges.n, to_z-of_z w64 (r +ℤ n) sum) (added m n r (nonzero n c.requires) rest (opposed r n some other) sum)
