use Rattle.std.proofs.Common.{◌≡◌, subst, ap, ◌∙◌}
use Rattle.std.specs.Prelude.{IfSome, IfNone}
use Rattle.gl_graph.specs.Searches.{known_of}
use Rattle.gl_graph.specs.declared.mark.Mark.TheVariants.{Plain, Circle}
use Rattle.gl_flow.specs.Plans.{plan}
use Rattle.gl_flow.proofs.Foretelling.{cell_low, cell_circled}
use Rattle.gl_flow.proofs.searching.height_of.Goals as goal

pub returns-in-Some-clause-some : goal.returns-in-Some-clause-some
returns-in-Some-clause-some c =
    let mark = known_of c.visit.new.self in
    cell_low (plan c.args.net.now) mark c.args.k c.height_in.result c.height_in-in-Some.result c.in-Some.field-0 c.in_ok-visit.ensures.knows.0.holds.facts c.in-Some.is
    (subst (λ t. IfSome c.height_in.result (λ h. t ≡ Plain h)) c.mark.ensures c.height_in.ensures.some)
    (subst (λ t. IfSome c.height_in-in-Some.result (λ h. t ≡ Plain h)) (c.mark-in-Some.ensures ∙ ap mark c.top-top.ensures.value) c.height_in-in-Some.ensures.some)

pub returns-in-Some-clause-none : goal.returns-in-Some-clause-none
returns-in-Some-clause-none c =
    let mark = known_of c.visit.new.self in
    cell_circled (plan c.args.net.now) mark c.args.k c.height_in-in-Some.result c.in_ok-visit.ensures.knows.0.holds.facts
    (subst (λ t. IfNone c.height_in-in-Some.result (t ≡ Circle)) (c.mark-in-Some.ensures ∙ ap mark c.top-top.ensures.value) c.height_in-in-Some.ensures.none)
