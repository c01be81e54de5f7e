use Rattle.std.proofs.Common.{Some, None, ◌∙◌, ap, sym}
use Rattle.gl_calculus.specs.Evaluation.Oracle as O
use Rattle.gl_calculus.specs.Grid.Grid.{area}
use Rattle.gl_grant.proofs.Free.{is_within}
use Rattle.gl_grant.proofs.InTheWay.{met_obstacle}
use Rattle.gl_grant.proofs.obstacles.first_obstacle.Goals as goal

pub returns-in-Some-first_meeting : goal.returns-in-Some-first_meeting
returns-in-Some-first_meeting g c =
    let within = is_within c.args.bound.now c.args.root c.args.size c.in-Some.area (sym c.area_within.ensures.value ∙ c.in-Some.is) in
    let met = met_obstacle c.args.bound.now (g.B.Blocks.held c.args.blocks.now) c.args.w.now c.args.root (area c.args.root c.args.size) c.in-Some.area (Some c.in-Some-first_meeting.found) c.area_within.ensures.on_grid c.requires within (sym c.blocked.ensures ∙ c.in-None-blocked.is) (sym c.first_meeting.ensures ∙ c.in-Some-first_meeting.is) in
    ap (λ p. Some (O.Root p.1.root)) c.found.view_is ∙ sym met

pub returns-in-None-first_meeting : goal.returns-in-None-first_meeting
returns-in-None-first_meeting g c =
    let within = is_within c.args.bound.now c.args.root c.args.size c.in-Some.area (sym c.area_within.ensures.value ∙ c.in-Some.is) in
    sym (met_obstacle c.args.bound.now (g.B.Blocks.held c.args.blocks.now) c.args.w.now c.args.root (area c.args.root c.args.size) c.in-Some.area None c.area_within.ensures.on_grid c.requires within (sym c.blocked.ensures ∙ c.in-None-blocked.is) (sym c.first_meeting.ensures ∙ c.in-None-first_meeting.is))
