use Rattle.std.proofs.Common.{rules, ◌/◌, length, ◌∙◌, ap, sym}
use Rattle.gl_plane.specs.Digest.{stirred}
use Rattle.gl_plane.specs.Reach.{IsRaised, lowest_row, last_column}
use Rattle.gl_plane.proofs.Digests.{one_more}
use Rattle.gl_plane.proofs.Reaches.{near_more, far_more, near_kept, far_kept}
use Rattle.gl_plane.proofs.oracle.Oracle.push.Goals as goal

pub invariant_of-self-2 : goal.invariant_of-self-2
invariant_of-self-2 c =
    let es = c.self.inside.entries.items in
    let x = c.args.entry in
    let near = c.self.inside.near in
    let far = c.self.inside.far in
    let bounds = c.self.invariant.1 in
    let far_bounds = c.self.invariant.2 in
    let down : IsRaised near.rows.items c.raise.new.reaches.items (length es / 64) (lowest_row x) = search rules in
    let right : IsRaised near.columns.items c.raise-2.new.reaches.items (length es / 64) (last_column x) = search rules in
    let far_down : IsRaised far.rows.items c.raise-3.new.reaches.items (length es / 4096) (lowest_row x) = search rules in
    let far_right : IsRaised far.columns.items c.raise-4.new.reaches.items (length es / 4096) (last_column x) = search rules in
    let before = ap (λ d. stirred d x) c.self.invariant.3 in
    rw c.in_ok-push.ensures.items (
      search rules,
      (near_more lowest_row es x near.rows.items c.raise.new.reaches.items bounds.0 down, near_more last_column es x near.columns.items c.raise-2.new.reaches.items bounds.1 right),
      (far_more lowest_row es x far.rows.items c.raise-3.new.reaches.items far_bounds.0 far_down, far_more last_column es x far.columns.items c.raise-4.new.reaches.items far_bounds.1 far_right),
      c.stirred-self-inside.ensures ∙ before ∙ sym (one_more es x),
    )

pub invariant_of-self-in_err-push : goal.invariant_of-self-in_err-push
invariant_of-self-in_err-push c =
    let es = c.self.inside.entries.items in
    let x = c.args.entry in
    let near = c.self.inside.near in
    let far = c.self.inside.far in
    let bounds = c.self.invariant.1 in
    let far_bounds = c.self.invariant.2 in
    let down : IsRaised near.rows.items c.raise.new.reaches.items (length es / 64) (lowest_row x) = search rules in
    let right : IsRaised near.columns.items c.raise-2.new.reaches.items (length es / 64) (last_column x) = search rules in
    let far_down : IsRaised far.rows.items c.raise-3.new.reaches.items (length es / 4096) (lowest_row x) = search rules in
    let far_right : IsRaised far.columns.items c.raise-4.new.reaches.items (length es / 4096) (last_column x) = search rules in
    rw c.in_err-push.ensures.items (
      c.self.invariant.0,
      (near_kept lowest_row es near.rows.items c.raise.new.reaches.items (length es / 64) (lowest_row x) bounds.0 down, near_kept last_column es near.columns.items c.raise-2.new.reaches.items (length es / 64) (last_column x) bounds.1 right),
      (far_kept lowest_row es far.rows.items c.raise-3.new.reaches.items (length es / 4096) (lowest_row x) far_bounds.0 far_down, far_kept last_column es far.columns.items c.raise-4.new.reaches.items (length es / 4096) (last_column x) far_bounds.1 far_right),
      c.self.invariant.3,
    )
