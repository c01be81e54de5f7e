use Rattle.std.proofs.Common.{◌∙◌, List, Option, ap, subst, sym}
use Rattle.gl_calculus.specs.Grid.Grid.{Addr}
use Rattle.gl_cells.specs.declared.content.Content.{Content}
use Rattle.gl_cells.specs.Sheet.{undo_all, CanUndo}
use Rattle.gl_cells.proofs.Steps.{CanUndo-pop, undo_all-push}
use Rattle.gl_cells.proofs.batch.roll_back.Goals as goal

pub restore-requires-clause-place : goal.restore-requires-clause-place
restore-requires-clause-place c =
    let s = c.loop-a.map in
    (CanUndo-pop c.pop.new.self.items _ s (subst (λ (us : List (Addr × Option Content)). CanUndo us s) c.in-Some.ensures.items c.loop-a.invariant.can)).1

pub loop-a-preserved : goal.loop-a-preserved
loop-a-preserved c =
    let s = c.loop-a.map in
    let r = CanUndo-pop c.pop.new.self.items _ s (subst (λ (us : List (Addr × Option Content)). CanUndo us s) c.in-Some.ensures.items c.loop-a.invariant.can) in
    record {
      table = c.restore.ensures.table;
      can = subst (CanUndo c.pop.new.self.items) (sym c.restore.ensures.restored) r.0;
      back = ap (undo_all c.pop.new.self.items) c.restore.ensures.restored ∙ sym (undo_all-push c.pop.new.self.items _ s) ∙ ap (λ us. undo_all us s) (sym c.in-Some.ensures.items) ∙ c.loop-a.invariant.back;
    }
