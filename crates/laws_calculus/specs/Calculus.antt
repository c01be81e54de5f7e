-- The laws that public functions state.
use Rattle.std.specs.Prelude.{◌≡◌, ℕ, Bool, IsTrue, List, [], slice_get, Option}
use Rattle.gl_calculus.specs.Computation.Lists.{Member, IsEquality}
use Rattle.gl_calculus.specs.Computation.Query.{Has, EachAsked, found, asked, looked}
use Rattle.gl_calculus.specs.Computation.Demanded.{Demanded}
use Rattle.gl_calculus.specs.Computation.Notes.{Note, note_keys}
use Rattle.gl_machine.specs.Remembered.{AreTrue, AreClosed, AreTheKept}
use Rattle.gl_calculus.specs.Grid.Grid.{Addr, Range}
use Rattle.gl_calculus.specs.Values.Value.{Oracle}
use Rattle.gl_calculus.specs.Values.Same.{same_oracle, same_scalar, same_value, same_sheet, same_frame}
use Rattle.gl_calculus.specs.Formulas.Formula.{Version, Cells, IsSheet, content}
use Rattle.gl_calculus.specs.Evaluation.Oracle.{IsInOrder, Sizes, AreSizes, sizes_of, ArePermits, grant}
use Rattle.gl_calculus.specs.Evaluation.Facts.{facts}
use Rattle.gl_calculus.specs.Evaluation.Key.{Key, Outcome, same_key}
use Rattle.gl_calculus.specs.Evaluation.World.{World, world}
use Rattle.gl_calculus.specs.Evaluation.Evaluation.{program}
use Rattle.gl_calculus.specs.Calculation.Calculation.{Answer, Settled, IsAnswer, Shown, IsShown, IsFinished}
use Rattle.gl_calculus.specs.Calculation.Consistency.{IsConsistent}
use Rattle.gl_calculus.specs.Calculation.Memory.{Notes, Table, differs_in, IsKeptKey, IsTableOf, AreTables, base}
use Rattle.gl_calculus.specs.Calculation.Differences.{AreApart}
use Rattle.gl_calculus.specs.Steps.Costs.{Finishes}
use Rattle.gl_calculus.specs.Evaluation.Sound.{IsProperKey, is_outcome_of}

-- A key has at most one outcome.
abbrev pub OneOutcome : Type 0
OneOutcome = (W : World) (k : Key) (x y : Outcome) → Has (program W) k x → Has (program W) k y → x ≡ y

-- An outcome is of the kind of its key.
abbrev pub OutcomesFit : Type 0
OutcomesFit = (W : World) (k : Key) (o : Outcome) → Has (program W) k o → IsTrue (is_outcome_of k o)

-- Each key that an evaluation may ask for is proper, whatever is answered; and so is each demanded one, if the seeds are.
abbrev pub AsksProper : Type 0
AsksProper = (W : World) (k : Key) → EachAsked (IsProperKey W.sheet) (program W k)

abbrev pub DemandsProper : Type 0
DemandsProper = (W : World) (seeds : List Key) (k : Key) → ((j : Key) → Member j seeds → IsProperKey W.sheet j) → Demanded (program W) seeds k → IsProperKey W.sheet k

-- The tests of equality answer true exactly at equal trees.
abbrev pub TestsAreExact : Type 0
TestsAreExact = IsEquality same_scalar × IsEquality same_value × IsEquality same_sheet × IsEquality same_frame × IsEquality same_oracle × IsEquality same_key

-- One evaluation goes the same way for another sheet and oracle, if the facts of the ranges that it looks at are the same.
abbrev pub OnlyFactsMatter : Type 0
OnlyFactsMatter =
    (version : Version) (S S' : Cells) (w w' : Oracle) (known : Key → Option Outcome) (k : Key) →
    ((r : Range) → Member r (looked known (program (world version S w) k)) → facts S' w' r ≡ facts S w r) →
    (found known (program (world version S' w') k) ≡ found known (program (world version S w) k)) × (asked known (program (world version S' w') k) ≡ asked known (program (world version S w) k)) × (looked known (program (world version S' w') k) ≡ looked known (program (world version S w) k))

-- Notes that are true for a sheet and an oracle are true for others, if each key that they read has a note and the facts of the ranges that they looked at are the same.
abbrev pub NotesCoincide : Type 0
NotesCoincide =
    (version : Version) (S S' : Cells) (w w' : Oracle) (notes : Notes) → AreTrue same_key (program (world version S w)) notes → AreClosed notes →
    ((n : Note Key Outcome Range) → Member n notes → (r : Range) → Member r n.looked → facts S' w' r ≡ facts S w r) →
    AreTrue same_key (program (world version S' w')) notes

-- So those stay true that rest on nothing that differs.
abbrev pub KeptStayTrue : Type 0
KeptStayTrue =
    (version : Version) (S S' : Cells) (w w' : Oracle) (touched : List Addr) (notes kept : Notes) → ((a : Addr) → (Member a touched → ⊥) → content S' a ≡ content S a) →
    AreTrue same_key (program (world version S w)) notes → AreClosed notes → AreTheKept (differs_in touched w w') notes kept →
    AreTrue same_key (program (world version S' w')) kept

-- Permits are granted to the sizes that are given, as permits must be; and no other oracle with these sizes has such permits.
abbrev pub GrantGivesPermits : Type 0
GrantGivesPermits = (bound : Range) (held : Addr → Bool) (xs : Sizes) → AreSizes xs → (sizes_of (grant bound held xs) ≡ xs) × ArePermits bound held (grant bound held xs)

abbrev pub OnlyGrantGives : Type 0
OnlyGrantGives = (bound : Range) (held : Addr → Bool) (w : Oracle) → IsInOrder w → ArePermits bound held w → w ≡ grant bound held (sizes_of w)

-- A calculation has at most one answer.
abbrev pub OneAnswer : Type 0
OneAnswer = (version : Version) (S : Cells) (r s : Answer) → IsAnswer version S r → IsAnswer version S s → r ≡ s

-- Under an oracle an address shows at most one thing.
abbrev pub OneShown : Type 0
OneShown = (W : World) (a : Addr) (x y : Shown) → IsShown W a x → IsShown W a y → x ≡ y

-- An oracle to which the calculation settles is consistent.
abbrev pub SettlesConsistently : Type 0
SettlesConsistently = (W : World) (rounds : ℕ) → IsSheet W.sheet → IsAnswer W.version W.sheet (Settled W.oracle rounds) → IsConsistent W

-- Under it every address shows something.
abbrev pub SettlesShow : Type 0
SettlesShow = (W : World) (rounds : ℕ) → IsSheet W.sheet → IsAnswer W.version W.sheet (Settled W.oracle rounds) → (a : Addr) → (x : Shown) × IsShown W a x

-- ---- what is kept

-- Permitted areas are disjoint.
abbrev pub PermitsApart : Type 0
PermitsApart = (bound : Range) (held : Addr → Bool) (w : Oracle) → ArePermits bound held w → AreApart w

-- A table of a round keeps all its keys for that round.
abbrev pub AllKept : Type 0
AllKept = (W : World) (t : Table) → IsTableOf W t → (k : Key) → Member k (note_keys t.notes) → IsKeptKey t [] W.oracle k

-- Where the tables are those of the sheet and nothing was touched, no step is asked for.
abbrev pub NothingAsked : Type 0
NothingAsked =
    (version : Version) (S : Cells) (tables : List Table) (before : Table) (i : ℕ) (w : Oracle) (n : ℕ) → AreTables version S tables → IsFinished version S i w →
    Finishes (world version S w) (base (slice_get tables i) [] before) i n n
