use Rattle.std.proofs.Common.{take, ◌∙◌, ap, sym, is_none, true, false, not, refl}
use Rattle.std.specs.List.{list_any}
use Rattle.gl_calculus.specs.Grid.Grid.{meets}
use Rattle.gl_grant.specs.Granted.{taken_by}
use Rattle.gl_grant.proofs.Free.{free_within}
use Rattle.gl_grant.proofs.granting.is_free.Goals as goal

pub returns-then-is_none-clause-value : goal.returns-then-is_none-clause-value
returns-then-is_none-clause-value g c =
    let within = sym c.area_within.ensures.value ∙ c.in-Some.is in
    sym (free_within c.args.bound.now (g.B.Blocks.held c.args.blocks.now) (taken_by (take c.args.before c.args.w.now)) c.args.root c.args.size c.in-Some.area true c.meets_first.result within (sym (ap is_none c.blocked.ensures) ∙ ap not c.if-is_none.ensures) (sym c.meets_first.ensures))

pub returns-else-is_none-clause-value : goal.returns-else-is_none-clause-value
returns-else-is_none-clause-value g c =
    let within = sym c.area_within.ensures.value ∙ c.in-Some.is in
    c.if-is_none.false ∙ sym (free_within c.args.bound.now (g.B.Blocks.held c.args.blocks.now) (taken_by (take c.args.before c.args.w.now)) c.args.root c.args.size c.in-Some.area false (list_any (meets c.in-Some.area) (taken_by (take c.args.before c.args.w.now))) within (sym (ap is_none c.blocked.ensures) ∙ ap not c.if-is_none.ensures) refl)
