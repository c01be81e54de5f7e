use Rattle.std.proofs.Common.{◌≡◌, ◌||◌, List, [], length, ap, arith, sym, subst}
use Rattle.gl_calculus.specs.Grid.Grid.{Addr, Range}
use Rattle.gl_calculus.specs.Calculation.Memory.{Table, differs_at}
use Rattle.gl_calculus.specs.Calculation.Differences.{AreApart}
use Rattle.gl_machine.specs.Remembered.{AreTheKept}
use Rattle.gl_plane.specs.Changes.{is_covered, reaches}
use Rattle.gl_calc.proofs.KeptNotes.{kept_notes, kept_of_none, single_of}
use Rattle.gl_calc.proofs.keeping.kept_since.Goals as goal

pub returns-then-len-eq0 : goal.returns-then-len-eq0
returns-then-len-eq0 c = λ touched h.
    let none : length c.table.inside.results ≡ 0 = omega (arith, c.len.ensures.count, c.if-len-eq0.true) in
    kept_of_none touched c.args.table c.args.w.now c.table.inside.results (ap (λ (u : Table). u.notes) c.table.view_is) none

pub changes-requires-clause-apart : goal.changes-requires-clause-apart
changes-requires-clause-apart c = subst (λ (u : Table). AreApart u.oracle) (sym c.table.view_is) c.requires.apart

pub returns : goal.returns
returns c = λ touched h.
    let t = c.args.table in
    let ranges = c.args.ranges.now in
    let changes = c.in_ok-changes.changes.items in
    let is : c.deref.result.now ≡ changes = c.deref.ensures.value in
    kept_notes ranges changes touched t c.args.w.now c.table.inside.results c.keep.new.self (ap (λ (u : Table). u.notes) c.table.view_is) h
    (subst (λ (u : Table). (a : Addr) → is_covered changes a ≡ (is_covered ranges a || differs_at [] u.oracle c.args.w.now a)) c.table.view_is c.in_ok-changes.ensures)
    (subst (λ (cs : List Range). AreTheKept (reaches cs) c.table.inside.results c.keep.new.self) is c.in_ok-keep.ensures.the) c.in_ok-keep.ensures.closed (single_of c.table.inside.results c.len.ensures.apart)
