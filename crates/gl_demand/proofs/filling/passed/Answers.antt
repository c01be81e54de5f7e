use Rattle.std.proofs.Common.{◌≡◌, not, true, false, rules, of_calls, get_or, sym, subst}
use Rattle.std.proofs.lemmas.Fn.{always_returns_same}
use Rattle.gl_calculus.specs.Grid.Grid.{is_before}
use Rattle.gl_cells.specs.Search.{comes_after}
use Rattle.gl_value.specs.Sound.{sheet_facts}
use Rattle.gl_demand.proofs.Overridden.{partitioned, in_order, not_passed, passed_by}
use Rattle.gl_demand.proofs.filling.passed.Goals as goal

pub returns-in-Some-clause-passed : goal.returns-in-Some-clause-passed
returns-in-Some-clause-passed c k d l m =
    let s = c.args.s.now in
    let parts = c.partition_point.ensures.partitioned (λ o. not (is_before c.in-Some.a o.0)) (always_returns_same _ _ _ (λ a r f k. search (rules, of_calls))) (rw c.deref.ensures.value (partitioned c.in-Some.a s.overrides.items (in_order s.region s.overrides.items (sheet_facts s c.requires).inside))) in
    subst (λ o. comes_after o (get_or s.overrides.items k d).0 ≡ false) (sym c.in-Some.is) (not_passed (is_before c.in-Some.a (get_or s.overrides.items k d).0) ((rw c.deref.ensures.value at parts).0 k d l m))

pub returns-in-Some-clause-left : goal.returns-in-Some-clause-left
returns-in-Some-clause-left c k d l m =
    let s = c.args.s.now in
    let parts = c.partition_point.ensures.partitioned (λ o. not (is_before c.in-Some.a o.0)) (always_returns_same _ _ _ (λ a r f k. search (rules, of_calls))) (rw c.deref.ensures.value (partitioned c.in-Some.a s.overrides.items (in_order s.region s.overrides.items (sheet_facts s c.requires).inside))) in
    subst (λ o. comes_after o (get_or s.overrides.items k d).0 ≡ true) (sym c.in-Some.is) (passed_by (is_before c.in-Some.a (get_or s.overrides.items k d).0) ((rw c.deref.ensures.value at parts).1 k d l m))
