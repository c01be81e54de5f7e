use Rattle.std.proofs.Common.{◌≡◌, ℕ, List, true, set, ap, sym, subst, ◌∙◌}
use Rattle.gl_calculus.specs.Computation.Query.{Need}
use Rattle.gl_core.specs.Answers.{picked_tree}
use Rattle.gl_core.specs.Statuses.{has}
use Rattle.gl_core.specs.Table.{waiters}
use Rattle.gl_core.specs.Picking.{answer_by}
use Rattle.gl_demand.specs.View.{key_tree}
use Rattle.gl_demand.specs.Reading.{ahead_tree}
use Rattle.gl_demand.specs.Marks.{PlainMark, mark_trees}
use Rattle.gl_core.proofs.Cores.{the_key_at}
use Rattle.gl_core.proofs.Turns.{table_stays}
use Rattle.gl_core.proofs.Reading.{marked_by, stay_by}
use Rattle.gl_core.proofs.Marking.{marked_core, there_after}
use Rattle.gl_core.proofs.picking.go_on_reading.Goals as goal

pub mark-requires-clause-there : goal.mark-requires-clause-there
mark-requires-clause-there c =
    let (k, ek) = the_key_at c.args.ledger.now c.args.entries.now c.requires.place.core c.args.p c.requires.place.there in
    there_after c.args.ledger.now c.go_on.new.ledger c.args.entries.now c.go_on.new.entries c.requires.place.core c.go_on.ensures.needs.core c.args.p c.requires.place.there k (key_tree c.args.on) (c.in-Ok-Waits.ensures.needs.state k ek)

pub mark-requires-clause-table : goal.mark-requires-clause-table
mark-requires-clause-table c = c.go_on.ensures.needs.core.table

pub returns-in-Ok-Waits-clause-needs : goal.returns-in-Ok-Waits-clause-needs
returns-in-Ok-Waits-clause-needs c =
    let needs = c.in-Ok-Waits.ensures.needs in
    record {
      state = λ k ek. (table_stays c.go_on.new.ledger c.go_on.new.entries c.mark.new.self c.mark.ensures.others.keys.known c.mark.ensures.others.keys.statuses ∙ needs.state k ek);
      answer = subst (λ a. picked_tree a ≡ answer_by (Need (key_tree c.args.on)) c.args.ledger.now c.args.entries.now) c.in-Ok-Waits.field-0-is needs.answer;
      notes = needs.notes;
      err = tt;
      core = marked_core c.go_on.new.ledger c.go_on.new.entries c.mark.new.self needs.core c.mark.ensures.others.table c.mark.ensures.others.keys.known c.mark.ensures.others.keys.statuses c.mark.ensures.others.passed;
      marks_err = tt;
      marks_full = λ e. absurd (cc e);
      waits = λ e. subst (λ (ws : List (ℕ × ℕ)). has (waiters ws) c.args.p ≡ true) (sym c.mark.ensures.others.waited) (needs.waits c.in-Ok-Waits.field-0-is);
    }

pub returns-in-Ok-Waits-clause-marks : goal.returns-in-Ok-Waits-clause-marks
returns-in-Ok-Waits-clause-marks c =
    marked_by c.args.p (ahead_tree c.args.ahead, 0) (mark_trees c.args.entries.now.marks.items) (mark_trees c.go_on.new.entries.marks.items) (mark_trees c.mark.new.self.marks.items) c.in-Ok-Waits.ensures.marks
    (c.mark.ensures.marks ∙ ap (λ (m : PlainMark). set (mark_trees c.go_on.new.entries.marks.items) c.args.p m) c.at_start.ensures)

pub returns-in-Ok-clause-needs : goal.returns-in-Ok-clause-needs
returns-in-Ok-clause-needs c = c.in-Ok.ensures.needs

pub returns-in-Ok-clause-marks : goal.returns-in-Ok-clause-marks
returns-in-Ok-clause-marks c = stay_by (λ m. m ≡ (ahead_tree c.args.ahead, 0)) c.args.p (mark_trees c.args.entries.now.marks.items) (mark_trees c.go_on.new.entries.marks.items) c.in-Ok.ensures.marks

pub mark-requires-clause-waited : goal.mark-requires-clause-waited
mark-requires-clause-waited c = c.in-Ok-Waits.ensures.needs.waits c.in-Ok-Waits.field-0-is
