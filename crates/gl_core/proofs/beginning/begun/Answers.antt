use Rattle.std.proofs.Common.{List, ℕ, length, slice_index, ap, sym, subst, ◌∙◌, arith}
use Rattle.std.proofs.lemmas.Grind.{elements}
use Rattle.gl_core.specs.Numbers.{IsIndex}
use Rattle.gl_core.specs.Table.{AreBegun}
use Rattle.gl_core.specs.declared.entries.Entries.{Entries}
use Rattle.gl_core.proofs.Indexing.{zeros}
use Rattle.gl_core.proofs.Starts.{begun_core}
use Rattle.gl_core.proofs.beginning.begun.Goals as goal

pub returns-clause-core : goal.returns-clause-core
returns-clause-core c =
    let l = c.args.ledger.now in
    let e : Entries = record { known = c.args.known; at = c.in_ok-at.at; statuses = c.in_ok-statuses.statuses; waiting = c.in_ok-waiting.waiting; passed = c.in_ok-passed.passed; marks = c.in_ok-marks.marks; waited = c.new-waited.result } in
    let ns = c.args.known.items in
    begun_core l e c.requires.kept c.requires.below
    (subst (λ (x : List ℕ). IsIndex x e.at.items) c.deref.ensures.value c.in_ok-at.ensures)
    (c.in_ok-statuses.ensures.size ∙ ap length c.deref-2.ensures.value)
    (c.in_ok-waiting.ensures ∙ c.len-2.ensures ∙ c.args.known.ok.0)
    c.requires.few c.in_ok-statuses.ensures.counted
    (subst (λ (x : List ℕ). AreBegun l.rows.items x e.statuses.items.items) c.deref-2.ensures.value c.in_ok-statuses.ensures.begun)
    (sym c.in_ok-passed.passed.ok.0 ∙ c.in_ok-passed.ensures.len ∙ c.len-3.ensures ∙ c.args.known.ok.0)
    (c.in_ok-marks.ensures.size ∙ c.len-4.ensures ∙ c.args.known.ok.0)
    (λ q. ap (λ (xs : List ℕ). slice_index xs q) (c.in_ok-passed.ensures.items_if_clones_equal (λ y e. e)) ∙ zeros c.len-3.result q)
    c.in_ok-marks.ensures.nothing

pub index_of-requires-clause-there : goal.index_of-requires-clause-there
index_of-requires-clause-there c = grind (arith, elements)
