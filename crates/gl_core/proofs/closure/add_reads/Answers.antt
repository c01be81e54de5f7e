use Rattle.std.proofs.Common.{◌≡◌, List, ℕ, Some, sym, ap, subst, ◌∙◌}
use Rattle.gl_calculus.specs.Grid.Grid.{Range}
use Rattle.gl_support.specs.declared.row.Row.{Row}
use Rattle.gl_demand.specs.declared.outcome.Outcome.{Outcome}
use Rattle.gl_core.specs.Resuming.{Gets}
use Rattle.gl_core.proofs.Wakes.{get_within}
use Rattle.gl_core.proofs.Places.{on_ok}
use Rattle.gl_core.proofs.Numbered.{item_at}
use Rattle.gl_core.proofs.Filtered.{numbers_apart}
use Rattle.gl_core.proofs.Queued.{gets_reads, gets_no_reads}
use Rattle.gl_core.proofs.closure.add_reads.Goals as goal

pub returns-in-Some-clause-gets : goal.returns-in-Some-clause-gets
returns-in-Some-clause-gets c =
    let l = c.args.ledger.now in
    let rs = l.rows.items in
    let r = c.in-Some.r in
    let (x, there, is) = c.in-Some.ensures in
    let y = c.index.result.now in
    let at = item_at rs r y c.index.ensures (get_within rs r x there) in
    let found : Some x ≡ Some y = sym there ∙ at in
    let same : x ≡ y = cc found in
    let old = c.args.all.now.items in
    let new = c.add_all.new.all.items in
    on_ok c.add_all.result c.add_all.ensures.gets (λ g. gets_reads rs (numbers_apart l c.requires.kept) r c.args.n y at (ap (λ (z : Row Outcome Range). z.by) (sym same) ∙ is) old new (subst (λ (js : List ℕ). Gets js old new) c.deref.ensures.value g))

pub returns-in-None-clause-gets : goal.returns-in-None-clause-gets
returns-in-None-clause-gets c = gets_no_reads c.args.ledger.now.rows.items c.args.n c.in-None.ensures c.args.all.now.items
