use Rattle.std.proofs.Common.{◌≡◌, Bool, ℕ, refl, List, Option, IfSome, sym, subst, length}
use Rattle.std.specs.Prelude.{◌↔◌}
use Rattle.gl_calculus.specs.Computation.Lists.{Member, AreDistinct}
use Rattle.gl_calculus.specs.Computation.Notes.{Note}
use Rattle.gl_machine.specs.Remembered.{AreClosed, AreTheKept, IsDropped}
use Rattle.gl_calculus.specs.Evaluation.Key as K
use Rattle.gl_calculus.specs.Grid.Grid.{Range}
use Rattle.laws_calculus.proofs.Query.AmongMore.{kept_closed}
use Rattle.gl_plane.specs.Changes.{reaches}
use Rattle.gl_support.specs.Rows.{notes_of}
use Rattle.gl_support.specs.declared.row.Row.{Row}
use Rattle.gl_demand.specs.declared.outcome.Outcome.{Outcome}
use Rattle.gl_core.specs.Numbers.{Each, row_notes, numbers_of, IsBelow}
use Rattle.gl_core.specs.Graph.{HasAll, IsGraphOf}
use Rattle.gl_core.specs.Ledger.{written, IsLedger}
use Rattle.gl_core.specs.Dropped.{AreWithout}
use Rattle.gl_core.specs.declared.graph.Graph.{Graph}
use Rattle.gl_core.specs.declared.ledger.Ledger.{Ledger}
use Rattle.gl_core.proofs.Dropping.{closed_numbers, kept_by_search}
use Rattle.gl_core.proofs.Followed.{numbers_from}
use Rattle.gl_core.proofs.Filtered.{numbers_apart, same_rows}
use Rattle.gl_core.proofs.ledger.Ledger.keep.Goals as goal

pub affected-requires-clause-first : goal.affected-requires-clause-first
affected-requires-clause-first c = subst (λ (rs : List (Row Outcome Range)). IfSome c.args.self.now.graph (IsGraphOf rs)) (sym c.deref.ensures.value) c.requires.kept.graph

pub affected-requires-clause-below : goal.affected-requires-clause-below
affected-requires-clause-below c =
    let l = c.args.self.now in
    subst (λ (n : ℕ). Each (IsBelow n) c.deref.result.now) (sym c.len-numbers.ensures.count) (subst (λ (rs : List (Row Outcome Range)). Each (IsBelow (length l.book)) rs) (sym c.deref.ensures.value) c.requires.kept.below)

pub affected-requires-clause-apart : goal.affected-requires-clause-apart
affected-requires-clause-apart c = subst (λ (rs : List (Row Outcome Range)). AreDistinct (numbers_of rs)) (sym c.deref.ensures.value) (numbers_apart c.args.self.now c.requires.kept)

pub affected-requires-clause-closed : goal.affected-requires-clause-closed
affected-requires-clause-closed c =
    let l = c.args.self.now in
    let h = c.requires.kept in
    subst (λ (rs : List (Row Outcome Range)). AreClosed (notes_of rs)) (sym c.deref.ensures.value) (closed_numbers l.book h.book.apart l.rows.items h.below c.requires.closed)

-- the same ledger with what a search left of its graph
searched : (l : Ledger) → IsLedger l → (rs : List (Row Outcome Range)) → rs ≡ l.rows.items → (g : Option Graph) → IfSome g (IsGraphOf rs) → IsLedger (record { book = l.book; rows = l.rows; row_of = l.row_of; graph = g })
searched l h rs e g a = same_rows l (record { book = l.book; rows = l.rows; row_of = l.row_of; graph = g }) h refl refl h.index (subst (λ (xs : List (Row Outcome Range)). IfSome g (IsGraphOf xs)) e a)

pub returns-in_err-gone-clause-kept : goal.returns-in_err-gone-clause-kept
returns-in_err-gone-clause-kept c = searched c.args.self.now c.requires.kept c.deref.result.now c.deref.ensures.value c.affected.new.graph c.affected.ensures.graph

pub returns-in_err-moved-clause-kept : goal.returns-in_err-moved-clause-kept
returns-in_err-moved-clause-kept c = searched c.args.self.now c.requires.kept c.deref.result.now c.deref.ensures.value c.affected.new.graph c.affected.ensures.graph

pub drop_rows-requires-clause-kept : goal.drop_rows-requires-clause-kept
drop_rows-requires-clause-kept c = (
  searched c.args.self.now c.requires.kept c.deref.result.now c.deref.ensures.value c.affected.new.graph c.affected.ensures.graph,
  subst (λ (rs : List (Row Outcome Range)). IfSome c.affected.new.graph (HasAll rs)) c.deref.ensures.value c.affected.ensures.all,
)

-- what the search says of the numbers makes the rows that are left the notes to keep
kept_by : (l l' : Ledger) → IsLedger l → (t : Range → Bool) → (rs : List (Row Outcome Range)) → rs ≡ l.rows.items → (v w : List ℕ) → w ≡ v → ((n : Note ℕ Outcome Range) → Member n (notes_of rs) → Member n.key v ↔ IsDropped t (notes_of rs) n.key) →
    AreWithout w l.rows.items l'.rows.items → l'.book ≡ l.book → AreTheKept t (written l) (written l')
kept_by l l' h t rs a v w e found left b =
    subst (λ (ks : List K.Key). AreTheKept t (written l) (row_notes ks l'.rows.items)) (sym b)
    (kept_by_search l.book h.book.apart l.rows.items h.below t v l'.rows.items (subst (λ (xs : List (Row Outcome Range)). (n : Note ℕ Outcome Range) → Member n (notes_of xs) → Member n.key v ↔ IsDropped t (notes_of xs) n.key) a found)
    (subst (λ (ns : List ℕ). AreWithout ns l.rows.items l'.rows.items) e left))

pub returns-clause-the : goal.returns-clause-the
returns-clause-the c =
    let d = c.drop_rows.ensures.drops in
    kept_by c.args.self.now c.drop_rows.new.self c.requires.kept (reaches c.args.changes.now) c.deref.result.now c.deref.ensures.value c.in_ok-gone.gone.items c.deref-2.result.now c.deref-2.ensures.value c.in_ok-gone.ensures.dropped d.rows d.book

pub returns-clause-closed : goal.returns-clause-closed
returns-clause-closed c =
    let d = c.drop_rows.ensures.drops in
    let l = c.args.self.now in
    let t = reaches c.args.changes.now in
    kept_closed K.Key K.Outcome Range t (written l) (written c.drop_rows.new.self) c.requires.closed
    (kept_by l c.drop_rows.new.self c.requires.kept t c.deref.result.now c.deref.ensures.value c.in_ok-gone.gone.items c.deref-2.result.now c.deref-2.ensures.value c.in_ok-gone.ensures.dropped d.rows d.book)

pub returns-clause-from : goal.returns-clause-from
returns-clause-from c = λ n m. numbers_from c.args.self.now.rows.items c.drop_rows.new.self.rows.items (λ r i. (c.drop_rows.ensures.drops.rows.0 r i).0) n m
