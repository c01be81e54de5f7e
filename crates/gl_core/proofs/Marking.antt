-- Picks that go by what a key was reading.
use Rattle.std.proofs.Common.{◌≡◌, ◌<◌, ◌+◌, ℕ, List, true, false, Bool, cond, length, slice_get, slice_index, Some, None, Option, nat_lt, sym, ap, ◌∙◌, subst, arith, length-append}
use Rattle.gl_calculus.specs.Computation.Query.{Query, Need, found}
use Rattle.gl_machine.specs.Machine as Machine
use Rattle.gl_machine.specs.Machine.{at, table, keys, need, turn}
use Rattle.laws_calculus.proofs.Query.Quiet.{length-keys}
use Rattle.gl_calculus.specs.Grid.Limits.{max_demanded}
use Rattle.gl_calculus.specs.Grid.Grid.{Range}
use Rattle.gl_calculus.specs.Formulas.Formula.{Cells}
use Rattle.gl_calculus.specs.Values.Value.{Oracle}
use Rattle.gl_calculus.specs.Evaluation.Key as K
use Rattle.gl_calculus.specs.Evaluation.Key.{same_key}
use Rattle.gl_calculus.specs.Calculation.Memory.{Notes}
use Rattle.gl_machine.specs.Ahead.Reading.{keys_from}
use Rattle.gl_demand.specs.View.{key_tree}
use Rattle.gl_demand.specs.Lacking.{IsNext}
use Rattle.gl_demand.specs.declared.lacking.Lacked.{Lacked}
use Rattle.gl_demand.specs.Marks.{PlainMark, mark_tree, mark_trees}
use Rattle.gl_core.specs.Marks.{IsMark, MarksBy}
use Rattle.gl_core.specs.State.{State}
use Rattle.gl_core.specs.Table.{table_of, IsTable, IsCore}
use Rattle.gl_core.specs.Noting.{Noting}
use Rattle.gl_core.specs.Answers.{picked_tree}
use Rattle.gl_core.specs.declared.answers.Picked.{Picked}
use Rattle.gl_core.specs.declared.answers.Picked.TheVariants as Answer
use Rattle.gl_core.specs.declared.ledger.Ledger.{Ledger}
use Rattle.gl_core.specs.declared.entries.Entries.{Entries}
use Rattle.gl_core.proofs.Wakes.{get_there}
use Rattle.gl_core.proofs.Numbered.{length-map}
use Rattle.gl_core.proofs.Cores.{state_length}
use Rattle.gl_core.proofs.Notes.{waits_or_full}
use Rattle.gl_core.proofs.Turns.{core_stays}
use Rattle.gl_core.proofs.Runs.{keys_need}
use Rattle.gl_core.proofs.Reading.{by_more, lacked_needed, mark_onward}

-- what a core keeps, where a mark is set
pub marked_core : (l : Ledger) (e e' : Entries) → IsCore l e → IsTable e' → e'.known.items ≡ e.known.items → e'.statuses.items.items ≡ e.statuses.items.items → e'.passed.items ≡ e.passed.items → IsCore l e'
marked_core l e e' c t known statuses passed = core_stays l e e' c t (λ q. ap (λ (xs : List ℕ). slice_index xs q) passed) known statuses

-- a place is there behind a pick that needs a key
pub there_after : (l l' : Ledger) (e e' : Entries) → IsCore l e → IsCore l' e' → (p : ℕ) → p < length e.known.items → (k j : K.Key) → table_of l' e' ≡ need same_key max_demanded (table_of l e) k j (at same_key (table_of l e) j) → p < length e'.known.items
there_after l l' e e' c c' p h k j s =
    let (more, m) = keys_need (table_of l e) max_demanded k j (at same_key (table_of l e) j) in
    let a : length (keys (table_of l' e')) ≡ length more + length (keys (table_of l e)) = ap length (ap keys s ∙ m) ∙ length-append (keys (table_of l e)) more ∙ omega arith in
    omega (arith, a, length-keys (table_of l e), length-keys (table_of l' e'), state_length l e c, state_length l' e' c', h)

pub mark_there : (l : Ledger) (e : Entries) → IsCore l e → (p : ℕ) → p < length e.known.items → (m : PlainMark) × (slice_get (mark_trees e.marks.items) p ≡ Some m)
mark_there l e c p h = get_there (mark_trees e.marks.items) p (let n = length-map mark_tree e.marks.items in omega (arith, n, c.table.marks, h))

-- a key that needs another isn't resolved
pub needs_not_resolved : (st : State) (v : Option (Machine.Status K.Key K.Outcome)) (a : Picked) → picked_tree a ≡ Machine.need_answer max_demanded st v → a ≡ Answer.Resolved → ⊥
needs_not_resolved st v a e r = no v (sym (ap picked_tree r) ∙ e)
  where
    room : (b : Bool) → Machine.Picked.Resolved ≡ cond b Machine.Picked.Waits Machine.Picked.Full → ⊥
    room true d = cc d
    room false d = cc d

    no : (v : Option (Machine.Status K.Key K.Outcome)) → Machine.Picked.Resolved ≡ Machine.need_answer max_demanded st v → ⊥
    no (Some s) d = cc d
    no None d = room (nat_lt (length st) max_demanded) d

module _ (S : Cells) (w : Oracle) (program : K.Key → Query K.Key K.Outcome Range K.Outcome) (st : State) (k : K.Key) (m : PlainMark) (next : Lacked)
    (right : IsMark S w (program k) (table same_key st) m) (is : IsNext (table same_key st) (keys_from S w m.0) m.1 (Some next)) where
  finds : found (table same_key st) (program k) ≡ Need (key_tree next.key)
  finds = lacked_needed S w (program k) (table same_key st) m (key_tree next.key) right is.0

  pub mark_turn : (st' : State) → st' ≡ need same_key max_demanded st k (key_tree next.key) (at same_key st (key_tree next.key)) → st' ≡ turn same_key max_demanded st k (found (table same_key st) (program k))
  mark_turn st' e = e ∙ ap (turn same_key max_demanded st k) (sym finds)

  pub mark_answer : (a : Machine.Picked) (old new : Notes) → a ≡ Machine.need_answer max_demanded st (at same_key st (key_tree next.key)) → new ≡ old →
      (a ≡ Machine.turn_answer same_key max_demanded st (found (table same_key st) (program k))) × Noting program (table same_key st) k old a new
  mark_answer a old new e s = (
    e ∙ ap (Machine.turn_answer same_key max_demanded st) (sym finds),
    subst (λ x. Noting program (table same_key st) k old x new) (sym e) (subst (Noting program (table same_key st) k old (Machine.need_answer max_demanded st (at same_key st (key_tree next.key)))) (sym s) (waits_or_full max_demanded st (at same_key st (key_tree next.key)))),
  )

  pub mark_moved : (p : ℕ) (old new : List PlainMark) → MarksBy (λ x. x ≡ (m.0, next.place)) p old new → MarksBy (IsMark S w (program k) (table same_key st)) p old new
  mark_moved p old new b = by_more (λ x. x ≡ (m.0, next.place)) (IsMark S w (program k) (table same_key st)) p old new (λ x d. subst (IsMark S w (program k) (table same_key st)) (sym d) (mark_onward S w (program k) (table same_key st) m next.place is.1 right)) b
