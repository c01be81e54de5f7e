use Rattle.std.proofs.Common.{Option, ◌∙◌, List, length, ap, subst, sym, arith}
use Rattle.std.proofs.lemmas.Grind.{common_steps}
use Rattle.std.specs.Vec.Iter.{into_iter_items}
use Rattle.gl_calculus.specs.Grid.Grid.{Addr}
use Rattle.gl_cells.specs.declared.content.Content.{Content}
use Rattle.gl_cells.specs.Sheet.{Table, put_each, undo_all, CanUndo, AreProper}
use Rattle.gl_cells.proofs.Steps.{noted}
use Rattle.gl_cells.proofs.batch.put_each_in.Goals as goal

pub loop-a-preserved : goal.loop-a-preserved
loop-a-preserved c =
    let inv = c.loop-a.invariant.1 in
    let e = c.in-Some.ensures.steps.0 in
    let s = c.loop-a.map in
    let n = noted c.loop-a.undo.items s c.put_in.new.map c.in-Some.a c.in-Some.c _ inv.table.ordered c.in_ok-was.ensures.ok c.in_ok-was.ensures.was.0 c.in_ok-was.ensures.was.1 inv.can in (
      (tt, tt),
      record {
        table = c.put_in.ensures.table;
        proper = (subst AreProper e inv.proper).1;
        room = let k = ap length e in omega (arith, inv.room, k, c.push_reserved.ensures.len, c.push_reserved.ensures.capacity);
        can = subst (λ (us : List (Addr × Option Content)). CanUndo us c.put_in.new.map) (sym c.push_reserved.ensures.items) n.0;
        back = ap (λ us. undo_all us c.put_in.new.map) c.push_reserved.ensures.items ∙ n.1 ∙ inv.back;
        rest = ap (put_each (into_iter_items c.next.new.self)) c.in_ok-was.ensures.ok ∙ ap (λ (xs : Table). put_each xs s) (sym e) ∙ inv.rest;
      },
    )

pub returns-clause-ok : goal.returns-clause-ok
returns-clause-ok c = grind (arith, common_steps)
