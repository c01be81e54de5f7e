use Rattle.std.proofs.Common.{◌≡◌, ◌+◌, nat_lt, take, ◌∙◌, ap, sym, arith}
use Rattle.gl_plane.specs.Reach.{spills_into}
use Rattle.gl_grant.proofs.Taken.{any_taken, none_passes, some_passes}
use Rattle.gl_grant.proofs.granting.meets_first.Goals as goal

pub returns-in-None : goal.returns-in-None
returns-in-None c =
    let none = sym c.first_meeting.ensures ∙ c.in-None.is in
    sym (any_taken c.args.area.now (take c.args.before c.args.w.now) c.requires ∙ none_passes (spills_into c.args.area.now) 0 c.args.before c.args.w.now none)

pub returns-in-Some : goal.returns-in-Some
returns-in-Some c =
    let found = sym c.first_meeting.ensures ∙ c.in-Some.is in
    let from_start : c.args.before ≡ 0 + c.args.before = omega arith in
    ap (nat_lt c.in-Some.found.0) from_start
    ∙ some_passes (spills_into c.args.area.now) 0 c.args.before c.in-Some.found.0 c.in-Some.found.1 c.args.w.now found
    ∙ sym (any_taken c.args.area.now (take c.args.before c.args.w.now) c.requires)
