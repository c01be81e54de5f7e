use Rattle.std.proofs.Common.{◌+◌, ◌∷◌, [], List, length, ap, ◌∙◌, length-append}
use Rattle.gl_demand.specs.Marks.{mark_trees}
use Rattle.gl_demand.specs.declared.mark.Mark.{Mark}
use Rattle.gl_core.proofs.Reading.{nothing_told, nothing_stays, pushed_stay, none_pushed}
use Rattle.gl_core.proofs.beginning.no_marks.Goals as goal

pub loop-init : goal.loop-init
loop-init c = record {
  size = ap length c.in_ok-marks.ensures.items;
  nothing = nothing_told (mark_trees c.in_ok-marks.marks.items) (ap (λ (xs : List Mark). mark_trees xs) c.in_ok-marks.ensures.items);
}

pub loop-preserved : goal.loop-preserved
loop-preserved c =
    let ms = c.loop.marks.items in
    let new = c.in_ok-push.ensures.items in
    record {
      size = ap length new ∙ length-append ms (c.none.result ∷ []) ∙ ap (λ n. n + 1) c.loop.invariant.size;
      nothing = nothing_stays (mark_trees ms) (mark_trees c.push.new.self.items) c.loop.invariant.nothing (pushed_stay (mark_trees ms) (mark_trees c.push.new.self.items) (ap (λ (xs : List Mark). mark_trees xs) new ∙ none_pushed ms c.none.result c.none.ensures));
    }
