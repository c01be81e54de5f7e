use Rattle.std.proofs.Common.{◌≡◌, ◌<◌, ◌∙◌, ◌&&◌, true, length, get_or, sym, subst, arith}
use Rattle.gl_calculus.specs.Grid.Grid.{covers}
use Rattle.gl_cells.specs.Search.{is_in_play, comes_after}
use Rattle.gl_value.specs.Sound.{sheet_facts}
use Rattle.gl_demand.specs.Filling.{comes_before}
use Rattle.gl_demand.proofs.Overridden.{in_order, skip, none_left, found_here, found_later, past, not_passed, first_fails, second_fails, third_fails, all_pass}
use Rattle.gl_demand.proofs.filling.next_override.Goals as goal

pub loop-i-init : goal.loop-i-init
loop-i-init c = record {
  from = omega arith;
  same = skip (λ b. is_in_play c.args.r.now c.args.after.now b && comes_before c.args.before.now b) c.args.s.now.overrides.items c.passed-first.result c.passed-first.ensures.most
      (λ k d g m. second_fails (covers c.args.r.now (get_or c.args.s.now.overrides.items k d).0) _ (comes_before c.args.before.now (get_or c.args.s.now.overrides.items k d).0) (c.passed-first.ensures.passed k d g m));
}

pub returns-then-is_past : goal.returns-then-is_past
returns-then-is_past c =
    let s = c.args.s.now in
    let os = s.overrides.items in
    let within : c.loop-i.i < length os = omega (arith, c.loop-i-test.true, c.len-i-end.ensures) in
    let late = past c.args.before.now os c.loop-i.i c.index.result.now (in_order s.region os (sheet_facts s c.requires).inside) c.index.ensures within (not_passed _ (sym c.is_past.ensures ∙ c.if-is_past.true)) in
    none_left (λ b. is_in_play c.args.r.now c.args.after.now b && comes_before c.args.before.now b) os c.loop-i.i (λ k d g m. third_fails (is_in_play c.args.r.now c.args.after.now (get_or os k d).0) _ (late k d g m))
    ∙ c.loop-i.invariant.same

pub returns-then-covers : goal.returns-then-covers
returns-then-covers c =
    let os = c.args.s.now.overrides.items in
    let x = c.index.result.now in
    let within : c.loop-i.i < length os = omega (arith, c.loop-i-test.true, c.len-i-end.ensures) in
    let after : comes_after c.args.after.now x.0 ≡ true = subst (λ z. comes_after c.args.after.now z.0 ≡ true) (sym c.index.ensures) (c.passed-first.ensures.left c.loop-i.i x c.loop-i.invariant.from within) in
    found_here (λ b. is_in_play c.args.r.now c.args.after.now b && comes_before c.args.before.now b) os c.loop-i.i x c.index.ensures within
    (all_pass (covers c.args.r.now x.0) (comes_after c.args.after.now x.0) (comes_before c.args.before.now x.0) (sym c.covers.ensures ∙ c.if-covers.true) after (sym c.is_past.ensures ∙ c.if-is_past.false))
    c.loop-i.invariant.same

pub loop-i-preserved : goal.loop-i-preserved
loop-i-preserved c = record {
  from = omega (arith, c.loop-i.invariant.from);
  same =
      let os = c.args.s.now.overrides.items in
      let x = c.index.result.now in
      let within : c.loop-i.i < length os = omega (arith, c.loop-i-test.true, c.len-i-end.ensures) in
      found_later (λ b. is_in_play c.args.r.now c.args.after.now b && comes_before c.args.before.now b) os c.loop-i.i x c.index.ensures within
      (first_fails (covers c.args.r.now x.0) (comes_after c.args.after.now x.0) (comes_before c.args.before.now x.0) (sym c.covers.ensures ∙ c.if-covers.false))
      c.loop-i.invariant.same;
}
