use Rattle.std.proofs.Common.{◌≡◌, ◌+◌, ◌*◌, ◌<◌, ◌≤◌, get_or, arith, sym, ◌∙◌, ap, subst}
use Rattle.std.specs.Fmt.{decimal}
use Rattle.gl_plane.proofs.Numbers.{no_other_byte, no_fifth_digit, no_zero_first, not_empty, number_more}
use Rattle.gl_plane.proofs.text.read_number.Goals as goal
use Rattle.gl_plane.proofs.text.read_number.Goals.{then-not-is_ascii_digit-via-then-not-is_ascii_digit, then-not-is_ascii_digit-via-else-not-is_ascii_digit+then-number-ge1000}

pub returns-then-not-is_ascii_digit-clause-none : goal.returns-then-not-is_ascii_digit-clause-none
returns-then-not-is_ascii_digit-clause-none c = λ n lo hi e.
    let ds = c.args.digits.now in
    let i = c.loop-digit.digit-index in
    elim c.then-not-is_ascii_digit.branch [
      | then-not-is_ascii_digit-via-then-not-is_ascii_digit w ↦ no_other_byte n ds i hi e c.loop-digit-test.true (sym c.is_ascii_digit.ensures.value ∙ w.if-not-is_ascii_digit.true)
      | then-not-is_ascii_digit-via-else-not-is_ascii_digit+then-number-ge1000 w ↦
          let some : 0 < c.loop-digit.number = omega (arith, w.if-number-ge1000.true) in
          no_fifth_digit n c.loop-digit.number ds i hi e w.if-number-ge1000.true c.loop-digit.invariant.small (c.loop-digit.invariant.written some) c.loop-digit-test.true
    ]

pub returns-then-number-eq0-clause-none : goal.returns-then-number-eq0-clause-none
returns-then-number-eq0-clause-none c = λ n lo hi e.
    let ds = c.args.digits.now in
    let start : c.loop-digit.digit-index ≡ 0 = c.loop-digit.invariant.begun (omega arith) in
    let small : get_or ds c.loop-digit.digit-index 0 ≤ 48 = omega arith in
    no_zero_first n ds lo hi e (subst (λ i. get_or ds i 0 ≤ 48) start small)

pub loop-digit-preserved : goal.loop-digit-preserved
loop-digit-preserved c =
    let ds = c.args.digits.now in
    let digit = sym c.is_ascii_digit.ensures.value ∙ c.if-not-is_ascii_digit.false in
    let more = number_more c.loop-digit.number ds c.loop-digit.digit-index c.if-number-ge1000.false c.loop-digit.invariant.begun c.loop-digit.invariant.written c.loop-digit-test.true digit in
    record {
      small = omega (arith, more.0);
      begun = λ h. absurd (c.if-number-eq0.false h);
      written = λ h. ap (λ d. decimal (c.loop-digit.number * 10 + d)) c.from.ensures ∙ more.1;
    }

pub returns-then-number-eq0-2-clause-none : goal.returns-then-number-eq0-2-clause-none
returns-then-number-eq0-2-clause-none c = λ n lo hi e. not_empty n c.args.digits.now hi e (omega arith)
