use Rattle.std.proofs.Common.{◌≡◌, ℕ, List, [], ◌∷◌, ◌++◌, ◌+◌, Vec, length, set, slice_get, slice_index, ap, sym, subst, arith, ◌∙◌, length-append}
use Rattle.std.specs.declared.alloc.Global.{Global}
use Rattle.gl_core.specs.Numbers.{IsIndex}
use Rattle.gl_core.specs.Statuses.{has, row_of}
use Rattle.gl_demand.specs.Marks.{mark_trees}
use Rattle.gl_core.specs.Table.{PointBelow, AreWaiters, waiters}
use Rattle.gl_demand.specs.declared.mark.Mark.{Mark}
use Rattle.gl_core.specs.declared.status.Status.{Status}
use Rattle.gl_core.specs.declared.status.Status.TheVariants.{Idle}
use Rattle.gl_core.proofs.Indexing.{zero_last}
use Rattle.gl_core.proofs.Numbered.{index_push}
use Rattle.gl_core.proofs.Tables.{pushed_below, pushed_listed, row_push_last}
use Rattle.gl_core.proofs.Reading.{none_pushed, pushed_stay}
use Rattle.gl_core.proofs.Waited.{waiters_idle}
use Rattle.gl_core.proofs.entries.Entries.push_idle.Goals as goal

pub returns-clause-rows : goal.returns-clause-rows
returns-clause-rows c =
    let s = c.args.self.now in
    let rows : c.push_reserved-2.new.self.items ≡ s.waiting.items ++ c.args.row ∷ [] = c.push_reserved-2.ensures.items in
    ap (λ (xs : List (Vec ℕ Global)). row_of xs (length s.known.items)) rows ∙ ap (row_of (s.waiting.items ++ c.args.row ∷ [])) (sym c.requires.table.rows) ∙ row_push_last s.waiting.items c.args.row

pub returns-clause-table : goal.returns-clause-table
returns-clause-table c =
    let s = c.args.self.now in
    let t = c.requires.table in
    let ns = s.known.items in
    let ss = s.statuses.items.items in
    let known : c.push_reserved.new.self.items ≡ ns ++ c.args.n ∷ [] = c.push_reserved.ensures.items in
    let new : c.push_idle.new.self.items.items ≡ ss ++ Idle ∷ [] = c.push_idle.ensures.items in
    let rows : c.push_reserved-2.new.self.items ≡ s.waiting.items ++ c.args.row ∷ [] = c.push_reserved-2.ensures.items in
    let n : length c.push_reserved.new.self.items ≡ length ns + 1 = ap length known ∙ length-append ns (c.args.n ∷ []) in
    let m : length c.push_idle.new.self.items.items ≡ length ss + 1 = ap length new ∙ length-append ss (Idle ∷ []) in
    let l : length c.push_reserved-2.new.self.items ≡ length s.waiting.items + 1 = ap length rows ∙ length-append s.waiting.items (c.args.row ∷ []) in
    let pushed : c.push_reserved-3.new.self.items ≡ s.passed.items ++ 0 ∷ [] = c.push_reserved-3.ensures.items in
    let passed : length c.push_reserved-3.new.self.items ≡ length s.passed.items + 1 = ap length pushed ∙ length-append s.passed.items (0 ∷ []) in
    let marked : c.push_reserved-4.new.self.items ≡ s.marks.items ++ c.none.result ∷ [] = c.push_reserved-4.ensures.items in
    let marks : length c.push_reserved-4.new.self.items ≡ length s.marks.items + 1 = ap length marked ∙ length-append s.marks.items (c.none.result ∷ []) in
    let i = index_push ns s.at.items c.args.n t.index c.requires.room.place c.requires.new in
    let p_is : c.len-p.result ≡ length ns = c.len-p.ensures ∙ s.known.ok.0 in
    let at : c.put.new.places.items ≡ set s.at.items c.args.n (length ns + 1) = c.put.ensures ∙ ap (λ m. set s.at.items c.args.n (m + 1)) p_is in
    record {
      statuses = omega (arith, m, n, t.statuses);
      rows = omega (arith, l, n, t.rows);
      few = omega (arith, n, c.requires.few);
      counted = c.push_idle.ensures.counted;
      known = subst (PointBelow (length c.push_reserved.new.self.items)) (sym new) (pushed_below ss (length ns) (length c.push_reserved.new.self.items) (omega (arith, n)) t.known);
      listed = λ q r e. ap (λ (xs : List (Vec ℕ Global)). has (row_of xs r) q) rows ∙ pushed_listed ss s.waiting.items c.args.row (subst (λ x. PointBelow x ss) (sym t.rows) t.known) t.listed q r (ap (λ (xs : List Status). slice_get xs q) (sym new) ∙ e);
      index = subst (λ (xs : List ℕ). IsIndex xs c.put.new.places.items) (sym known) (subst (IsIndex (ns ++ c.args.n ∷ [])) (sym at) i);
      passed = omega (arith, passed, n, t.passed);
      marks = omega (arith, marks, n, t.marks);
      waiters = subst (λ (xs : List Status). AreWaiters (waiters s.waited.items) xs (mark_trees c.push_reserved-4.new.self.items)) (sym new)
          (waiters_idle (waiters s.waited.items) ss (mark_trees s.marks.items) (mark_trees c.push_reserved-4.new.self.items) (pushed_stay (mark_trees s.marks.items) (mark_trees c.push_reserved-4.new.self.items) (ap (λ (xs : List Mark). mark_trees xs) marked ∙ none_pushed s.marks.items c.none.result c.none.ensures)) t.waiters);
    }

pub returns-clause-passed : goal.returns-clause-passed
returns-clause-passed c q =
    let s = c.args.self.now in
    let pushed : c.push_reserved-3.new.self.items ≡ s.passed.items ++ 0 ∷ [] = c.push_reserved-3.ensures.items in
    ap (λ (xs : List ℕ). slice_index xs q) pushed ∙ zero_last s.passed.items q

pub returns-clause-marks : goal.returns-clause-marks
returns-clause-marks c =
    let s = c.args.self.now in
    let marked : c.push_reserved-4.new.self.items ≡ s.marks.items ++ c.none.result ∷ [] = c.push_reserved-4.ensures.items in
    pushed_stay (mark_trees s.marks.items) (mark_trees c.push_reserved-4.new.self.items) (ap (λ (xs : List Mark). mark_trees xs) marked ∙ none_pushed s.marks.items c.none.result c.none.ensures)

pub put-requires-clause-there : goal.put-requires-clause-there
put-requires-clause-there c = c.requires.room.place

pub push_idle-requires-clause-room : goal.push_idle-requires-clause-room
push_idle-requires-clause-room c = c.requires.room.counted

pub push_idle-requires-clause-capacity : goal.push_idle-requires-clause-capacity
push_idle-requires-clause-capacity c = c.requires.room.statuses

pub push_idle-requires-clause-counted : goal.push_idle-requires-clause-counted
push_idle-requires-clause-counted c = c.requires.table.counted

pub push_reserved-requires : goal.push_reserved-requires
push_reserved-requires c = c.requires.room.known

pub push_reserved-requires-2 : goal.push_reserved-requires-2
push_reserved-requires-2 c = c.requires.room.waiting

pub push_reserved-requires-3 : goal.push_reserved-requires-3
push_reserved-requires-3 c = c.requires.room.passed

pub push_reserved-requires-4 : goal.push_reserved-requires-4
push_reserved-requires-4 c = c.requires.room.marks
