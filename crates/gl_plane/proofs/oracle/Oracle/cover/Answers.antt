use Rattle.std.proofs.Common.{◌∙◌, ap, sym, option_map}
use Rattle.gl_plane.specs.Entries.{offsets}
use Rattle.gl_plane.specs.Reach.{first_from, spills_into}
use Rattle.gl_plane.proofs.Covers.{first_covers, none_covers}
use Rattle.gl_plane.proofs.oracle.Oracle.cover.Goals as goal

pub returns-in-Some : goal.returns-in-Some
returns-in-Some c =
    let found = sym (ap (λ r. first_from (spills_into r) 0 c.args.self.now) c.new.ensures) ∙ sym c.first_meeting.ensures ∙ c.in-Some.is in
    c.cover.ensures ∙ ap (option_map offsets) (sym (first_covers c.args.a 0 c.in-Some.found.0 c.in-Some.found.1 c.args.self.now found))

pub returns-in-None : goal.returns-in-None
returns-in-None c =
    let found = sym (ap (λ r. first_from (spills_into r) 0 c.args.self.now) c.new.ensures) ∙ sym c.first_meeting.ensures ∙ c.in-None.is in
    ap (option_map offsets) (sym (none_covers c.args.a 0 c.args.self.now found))
