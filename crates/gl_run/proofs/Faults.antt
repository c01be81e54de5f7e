-- Counts of faults from one call to the next.
use Rattle.std.proofs.Common.{ℕ, ◌≤◌, refl, ◌∙◌, arith}
use Rattle.gl_protocol.specs.Run.Causes.{Rose}
use Rattle.gl_port.specs.Causes.{Stays}

pub stays_none : (F : Type 0) (f : ℕ) → Stays F F f f
stays_none F f = record { later = omega arith; same = λ exact. (refl, exact) }

pub stays_then : {F G H : Type 0} {f g h : ℕ} → Stays F G f g → Stays G H g h → Stays F H f h
stays_then s t = record {
  later = omega (arith, s.later, t.later);
  same = λ exact.
      let first = s.same exact in
      let second = t.same first.1 in
      (second.0 ∙ first.0, second.1);
}

-- a count that rose later rose from the first on
pub rose_then : {f g h : ℕ} → f ≤ g → Rose g h → Rose f h
rose_then le rose = omega (arith, le, rose)
