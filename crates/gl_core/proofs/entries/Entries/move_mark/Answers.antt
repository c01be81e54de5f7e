use Rattle.std.proofs.Common.{◌≡◌, Some, length, set, slice_get, refl, sym, ap, ◌∙◌, arith}
use Rattle.std.proofs.lemmas.List.{length-set}
use Rattle.gl_demand.specs.Marks.{PlainMark, mark_tree, mark_trees}
use Rattle.gl_core.specs.Table.{waiters}
use Rattle.gl_core.proofs.Numbered.{get_map, item_at}
use Rattle.gl_core.proofs.Reading.{map_set}
use Rattle.gl_core.proofs.Waited.{waiters_moved}
use Rattle.gl_core.proofs.entries.Entries.move_mark.Goals as goal

pub returns-clause-marks : goal.returns-clause-marks
returns-clause-marks c m d =
    let s = c.args.self.now in
    let x = c.index_mut.result.now in
    let there = item_at s.marks.items c.args.p x c.index_mut.ensures.value (omega (arith, c.requires.table.marks, c.requires.there)) in
    let e : Some (mark_tree x) ≡ Some m = sym (get_map mark_tree s.marks.items c.args.p x there) ∙ d in
    let f : mark_tree x ≡ m = cc in
    map_set mark_tree s.marks.items c.args.p (record { ahead = x.ahead; place = c.args.place }) ∙ ap (λ (y : PlainMark). set (mark_trees s.marks.items) c.args.p (y.0, c.args.place)) f

pub returns-clause-others : goal.returns-clause-others
returns-clause-others c =
    let s = c.args.self.now in
    let t = c.requires.table in
    let p = c.args.p in
    let x = c.index_mut.result.now in
    let there : slice_get (mark_trees s.marks.items) p ≡ Some (mark_tree x) = get_map mark_tree s.marks.items p x (item_at s.marks.items p x c.index_mut.ensures.value (omega (arith, t.marks, c.requires.there))) in
    record {
      keys = record { known = refl; statuses = refl; waiting = refl };
      passed = refl;
      waited = refl;
      table = record {
        statuses = t.statuses;
        rows = t.rows;
        few = t.few;
        counted = t.counted;
        known = t.known;
        listed = t.listed;
        index = t.index;
        passed = t.passed;
        marks = length-set s.marks.items p (record { ahead = x.ahead; place = c.args.place }) ∙ t.marks;
        waiters = waiters_moved (waiters s.waited.items) p c.args.place (mark_tree x) s.statuses.items.items (mark_trees s.marks.items) _ there (map_set mark_tree s.marks.items p (record { ahead = x.ahead; place = c.args.place })) t.waiters;
      };
    }
