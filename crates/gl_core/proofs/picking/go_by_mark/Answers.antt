use Rattle.std.proofs.Common.{◌≡◌, ℕ, List, true, sym, subst, ◌∙◌}
use Rattle.gl_calculus.specs.Computation.Query.{Need}
use Rattle.gl_core.specs.Answers.{picked_tree}
use Rattle.gl_core.specs.Statuses.{has}
use Rattle.gl_core.specs.Table.{waiters}
use Rattle.gl_core.specs.Picking.{answer_by}
use Rattle.gl_demand.specs.View.{key_tree}
use Rattle.gl_demand.specs.Marks.{mark_trees}
use Rattle.gl_core.proofs.Cores.{the_key_at}
use Rattle.gl_core.proofs.Turns.{table_stays}
use Rattle.gl_core.proofs.Reading.{moved_by, stay_by}
use Rattle.gl_core.proofs.Marking.{marked_core, there_after, mark_there}
use Rattle.gl_core.proofs.picking.go_by_mark.Goals as goal

pub move_mark-requires-clause-there : goal.move_mark-requires-clause-there
move_mark-requires-clause-there c =
    let (k, ek) = the_key_at c.args.ledger.now c.args.entries.now c.requires.place.core c.args.p c.requires.place.there in
    there_after c.args.ledger.now c.go_on.new.ledger c.args.entries.now c.go_on.new.entries c.requires.place.core c.go_on.ensures.needs.core c.args.p c.requires.place.there k (key_tree c.args.next.key) (c.in-Ok-Waits.ensures.needs.state k ek)

pub move_mark-requires-clause-table : goal.move_mark-requires-clause-table
move_mark-requires-clause-table c = c.go_on.ensures.needs.core.table

pub returns-in-Ok-Waits-clause-needs : goal.returns-in-Ok-Waits-clause-needs
returns-in-Ok-Waits-clause-needs c =
    let needs = c.in-Ok-Waits.ensures.needs in
    record {
      state = λ k ek. (table_stays c.go_on.new.ledger c.go_on.new.entries c.move_mark.new.self c.move_mark.ensures.others.keys.known c.move_mark.ensures.others.keys.statuses ∙ needs.state k ek);
      answer = subst (λ a. picked_tree a ≡ answer_by (Need (key_tree c.args.next.key)) c.args.ledger.now c.args.entries.now) c.in-Ok-Waits.field-0-is needs.answer;
      notes = needs.notes;
      err = tt;
      core = marked_core c.go_on.new.ledger c.go_on.new.entries c.move_mark.new.self needs.core c.move_mark.ensures.others.table c.move_mark.ensures.others.keys.known c.move_mark.ensures.others.keys.statuses c.move_mark.ensures.others.passed;
      marks_err = tt;
      marks_full = λ e. absurd (cc e);
      waits = λ e. subst (λ (ws : List (ℕ × ℕ)). has (waiters ws) c.args.p ≡ true) (sym c.move_mark.ensures.others.waited) (needs.waits c.in-Ok-Waits.field-0-is);
    }

pub returns-in-Ok-Waits-clause-marks : goal.returns-in-Ok-Waits-clause-marks
returns-in-Ok-Waits-clause-marks c m d =
    let (k, ek) = the_key_at c.args.ledger.now c.args.entries.now c.requires.place.core c.args.p c.requires.place.there in
    let there = there_after c.args.ledger.now c.go_on.new.ledger c.args.entries.now c.go_on.new.entries c.requires.place.core c.go_on.ensures.needs.core c.args.p c.requires.place.there k (key_tree c.args.next.key) (c.in-Ok-Waits.ensures.needs.state k ek) in
    let (x, e) = mark_there c.go_on.new.ledger c.go_on.new.entries c.go_on.ensures.needs.core c.args.p there in
    moved_by c.args.p c.args.next.place m (mark_trees c.args.entries.now.marks.items) (mark_trees c.go_on.new.entries.marks.items) (mark_trees c.move_mark.new.self.marks.items) c.in-Ok-Waits.ensures.marks d c.move_mark.ensures.marks x e

pub returns-in-Ok-clause-needs : goal.returns-in-Ok-clause-needs
returns-in-Ok-clause-needs c = c.in-Ok.ensures.needs

pub returns-in-Ok-clause-marks : goal.returns-in-Ok-clause-marks
returns-in-Ok-clause-marks c m d = stay_by (λ x. x ≡ (m.0, c.args.next.place)) c.args.p (mark_trees c.args.entries.now.marks.items) (mark_trees c.go_on.new.entries.marks.items) c.in-Ok.ensures.marks
