use Rattle.std.proofs.Common.{◌≡◌, ◌∙◌, ℕ, ◌+◌, ◌-◌, ◌/◌, ◌<◌, true, false, length, sym, subst, arith}
use Rattle.gl_calculus.specs.Grid.Grid.{Addr, same_addr, is_before}
use Rattle.gl_calculus.proofs.Tests.{addr_exact}
use Rattle.gl_merge.proofs.Spots.{found_at, before_more, after_from, behind_other}
use Rattle.gl_merge.proofs.index.spot_of.Goals as goal

pub returns-then-eq : goal.returns-then-eq
returns-then-eq c =
    let m = c.loop-low.low + (c.loop-low.high - c.loop-low.low) / 2 in
    let x = c.index-index-middle.result in
    let l : m < length c.args.index.now = omega arith in
    found_at c.args.index.now c.args.a m x c.requires l c.index-index-middle.is (addr_exact x.0 c.args.a (subst (λ (z : Addr × ℕ). same_addr z.0 c.args.a ≡ true) (sym c.index-index-middle.is) (sym c.eq.ensures ∙ c.if-eq.true)))

pub loop-low-preserved-then-is_before : goal.loop-low-preserved-then-is_before
loop-low-preserved-then-is_before c =
    let m = c.loop-low.low + (c.loop-low.high - c.loop-low.low) / 2 in
    let x = c.index-index-middle.result in
    let l : m < length c.args.index.now = omega arith in
    record {
      order = omega arith;
      within = c.loop-low.invariant.within;
      before = before_more c.args.index.now c.args.a m x c.requires l c.index-index-middle.is (subst (λ (z : Addr × ℕ). is_before z.0 c.args.a ≡ true) (sym c.index-index-middle.is) (sym c.is_before.ensures ∙ c.if-is_before.true));
      after = c.loop-low.invariant.after;
    }

pub loop-low-preserved : goal.loop-low-preserved
loop-low-preserved c =
    let m = c.loop-low.low + (c.loop-low.high - c.loop-low.low) / 2 in
    let x = c.index-index-middle.result in
    let l : m < length c.args.index.now = omega arith in
    let apart : same_addr x.0 c.args.a ≡ false = subst (λ (z : Addr × ℕ). same_addr z.0 c.args.a ≡ false) (sym c.index-index-middle.is) (sym c.eq.ensures ∙ c.if-eq.false) in
    let later : is_before x.0 c.args.a ≡ false = subst (λ (z : Addr × ℕ). is_before z.0 c.args.a ≡ false) (sym c.index-index-middle.is) (sym c.is_before.ensures ∙ c.if-is_before.false) in
    record {
      order = omega arith;
      within = omega arith;
      before = c.loop-low.invariant.before;
      after = after_from c.args.index.now c.args.a m x c.requires l c.index-index-middle.is (behind_other x.0 c.args.a apart later);
    }
