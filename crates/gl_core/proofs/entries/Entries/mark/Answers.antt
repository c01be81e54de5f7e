use Rattle.std.proofs.Common.{refl, length, ◌∙◌}
use Rattle.std.proofs.lemmas.List.{length-set}
use Rattle.gl_demand.specs.Marks.{mark_tree, mark_trees}
use Rattle.gl_core.specs.Table.{waiters}
use Rattle.gl_core.proofs.Reading.{map_set}
use Rattle.gl_core.proofs.Waited.{waiters_marked}
use Rattle.gl_core.proofs.entries.Entries.mark.Goals as goal

pub returns-clause-marks : goal.returns-clause-marks
returns-clause-marks c = map_set mark_tree c.args.self.now.marks.items c.args.p c.args.mark

pub returns-clause-others : goal.returns-clause-others
returns-clause-others c =
    let s = c.args.self.now in
    let t = c.requires.table in
    record {
      keys = record { known = refl; statuses = refl; waiting = refl };
      passed = refl;
      waited = refl;
      table = record {
        statuses = t.statuses;
        rows = t.rows;
        few = t.few;
        counted = t.counted;
        known = t.known;
        listed = t.listed;
        index = t.index;
        passed = t.passed;
        marks = length-set s.marks.items c.args.p c.args.mark ∙ t.marks;
        waiters = waiters_marked (waiters s.waited.items) c.args.p (mark_tree c.args.mark) s.statuses.items.items (mark_trees s.marks.items) _ (map_set mark_tree s.marks.items c.args.p c.args.mark) c.requires.waited t.waiters;
      };
    }
