-- The laws that public functions state.
use Rattle.std.specs.Prelude.{◌≡◌, ℕ, ◌+◌, ◌≤◌, ◌<◌, ◌-◌, ◌^◌, List, [], ◌++◌, Bool, Option, Some, Ok}
use Rattle.gl_calculus.specs.Computation.Lists.{AreDistinct, IsEquality}
use Rattle.gl_calculus.specs.Computation.Query.{Query, Ready, Need, found}
use Rattle.gl_calculus.specs.Computation.Evaluation.{Evaluation, bind, given}
use Rattle.gl_machine.specs.Machine.{Entry, at, table, idle_keys, keys, nth, need, turn, picks, pick, start, IsSound, need_answer, answer}
use Rattle.gl_machine.specs.Machine as Machine
use Rattle.gl_machine.specs.Costs.{answer_at, total, HaveRoom, unnoted, settled}
use Rattle.gl_calculus.specs.Steps.Counted.{Counted, counted_keys, sum_reads, AreReads}
use Rattle.gl_calculus.specs.Grid.Grid.{Addr, Range}
use Rattle.gl_calculus.specs.Formulas.Formula.{Cells, Formula, Formulas}
use Rattle.gl_calculus.specs.Values.Value.{Oracle, Value, Frame}
use Rattle.gl_calculus.specs.Evaluation.Oracle.{Sizes}
use Rattle.gl_calculus.specs.Evaluation.Facts.{Fact, fact, facts}
use Rattle.gl_calculus.specs.Evaluation.Key.{Key, Cell, Outcome}
use Rattle.gl_calculus.specs.Evaluation.Reference.{at_range}
use Rattle.gl_calculus.specs.Evaluation.World.{World}
use Rattle.gl_calculus.specs.Evaluation.Evaluation.{arrays, Bindings, eval, all_values, arguments, evaluation}
use Rattle.gl_machine.specs.Ahead.Ahead.{Extends, first_lacked, AreThrough, IsAhead, LackSame}
use Rattle.gl_machine.specs.Ahead.Spent.{Spent, counted, AtMostCounted}
use Rattle.gl_machine.specs.Ahead.Keeping.{Kept, AreAhead, GoesAll}
use Rattle.gl_machine.specs.Ahead.Demands.{is_value, range_keys, round_keys, first_reads, argument_reads, reads_keys}
use Rattle.gl_machine.specs.Ahead.Reading.{Own, keys_from}

-- What is ahead stays so over more outcomes.
abbrev pub AheadStays : (K O A R : Type 0) → Type 0
AheadStays K O A R = (on : O → Bool) (q : Query K O A R) (f g : K → Option O) (ks : List K) → Extends f g → IsAhead on q f ks → IsAhead on q g ks

-- Where keys are gone through, what is left behind them is ahead.
abbrev pub AheadOnward : (K O A R : Type 0) → Type 0
AheadOnward K O A R =
    (on : O → Bool) (q : Query K O A R) (f : K → Option O) (js ks : List K) →
    (AreThrough on f js → LackSame on f (js ++ ks) ks) ×
    (LackSame on f js ks → IsAhead on q f js → IsAhead on q f ks)

-- What is ahead of an evaluation is ahead of one that it begins, and of one that goes on with it.
abbrev pub AheadComposes : (K O A F R S : Type 0) → Type 0
AheadComposes K O A F R S =
    (on : O → Bool) (facts : A → F) (f : K → Option O) (p : Evaluation K O A F R) (g : R → Evaluation K O A F S) (ks : List K) →
    (IsAhead on (given facts p) f ks → IsAhead on (given facts (bind p g)) f ks) ×
    ((r : R) → found f (given facts p) ≡ Ready r → IsAhead on (given facts (g r)) f ks → IsAhead on (given facts (bind p g)) f ks)

-- A pick by what is ahead is the machine's pick.
abbrev pub PickByAhead : (K O A : Type 0) → Type 0
PickByAhead K O A =
    (same : K → K → Bool) (limit : ℕ) (on : O → Bool) (program : K → Query K O A O) (st : List (Entry K O)) (k i : K) (ks : List K) → IsAhead on (program k) (table same st) ks → first_lacked on (table same st) ks ≡ Some i →
    (turn same limit st k (found (table same st) (program k)) ≡ need same limit st k i (at same st i)) × (answer same limit program st k ≡ need_answer limit st (at same st i))

-- A pick forgets no outcome.
abbrev pub PicksExtend : (K O A : Type 0) → Type 0
PicksExtend K O A =
    (same : K → K → Bool) (limit : ℕ) (program : K → Query K O A O) (st : List (Entry K O)) (i : ℕ) → IsEquality same → AreDistinct (keys st) → Extends (table same st) (table same (pick same limit program st i))

-- However picks go, by what is kept or by a step: the states are the machine's, what is kept stays ahead, and the steps may be spent.
abbrev pub KeepingIsPicking : (K O A : Type 0) → Type 0
KeepingIsPicking K O A =
    (same : K → K → Bool) (limit : ℕ) (on : O → Bool) (program : K → Query K O A O) (noted : K → Bool) (seeds : List K) (is : List ℕ) (s t : Kept K O) (n : ℕ) → IsEquality same → IsSound same program seeds s.state → AreAhead same on program s → GoesAll same limit on program noted s is t n →
    (t.state ≡ picks same limit program s.state is) × AreAhead same on program t × Spent same limit program noted s.state is n

-- Such steps keep both bounds.
abbrev pub SpentWithin : (K O A : Type 0) → Type 0
SpentWithin K O A =
    (same : K → K → Bool) (limit : ℕ) (program : K → Query K O A O) (seeds : List K) (noted : K → Bool) (is : List ℕ) (n : ℕ) (cs : List (Counted K)) → IsEquality same → AreDistinct seeds →
    HaveRoom same limit program (start {O = O} seeds) is → Spent same limit program noted (start {O = O} seeds) is n →
    counted_keys cs ≡ unnoted noted (picks same limit program (start {O = O} seeds) is) → AreReads same program cs →
    (settled noted (picks same limit program (start {O = O} seeds) is) ≤ n) × (n ≤ sum_reads cs)

-- A range needs the first of its keys without outcome; where all have values, it goes on.
abbrev pub RangeDemands : Type 0
RangeDemands =
    (S : Cells) (w : Oracle) (e : Frame) (r : Range) (g : Key → Option Outcome) →
    ((i : Key) → first_lacked is_value g (range_keys (fact S w) e (facts S w r)) ≡ Some i → found g (given (facts S w) (at_range e r)) ≡ Need i) ×
    (AreThrough is_value g (range_keys (fact S w) e (facts S w r)) → (v : Value) × (found g (given (facts S w) (at_range e r)) ≡ Ready (Ok v)))

-- So does a round of a settling.
abbrev pub RoundDemands : Type 0
RoundDemands =
    (S : Cells) (w : Oracle) (e : Frame) (xs : List Fact) (g : Key → Option Outcome) →
    ((i : Key) → first_lacked is_value g (round_keys e xs) ≡ Some i → found g (given (facts S w) (arrays e xs)) ≡ Need i) ×
    (AreThrough is_value g (round_keys e xs) → (zs : Sizes) × (found g (given (facts S w) (arrays e xs)) ≡ Ready (Ok zs)))

-- Both bounds of a run stay where a pick counts at most one step, and exactly one where a key without a note is resolved.
abbrev pub BoundsStay : (K O A : Type 0) → Type 0
BoundsStay K O A =
    (same : K → K → Bool) (limit : ℕ) (program : K → Query K O A O) (seeds : List K) (noted : K → Bool) (st : List (Entry K O)) (i n first m m' : ℕ) → IsEquality same → IsSound same program seeds st →
    (answer_at same limit program st (nth (idle_keys st) i) ≡ Machine.Picked.Full → ⊥) →
    m ≤ n + total same program noted st → (m < 2 ^ 64 - 1 → n + settled noted st ≤ m + first) →
    AtMostCounted noted (nth (idle_keys st) i) m m' → (answer_at same limit program st (nth (idle_keys st) i) ≡ Machine.Picked.Resolved → m' ≡ counted noted (nth (idle_keys st) i) m) →
    (m' ≤ n + total same program noted (pick same limit program st i)) × (m' < 2 ^ 64 - 1 → n + settled noted (pick same limit program st i) ≤ m' + first)

-- What a formula reads first is ahead together: its evaluation needs the first key of it without outcome.
abbrev pub FormulaDemands : Type 0
FormulaDemands =
    (W : World) (e : Frame) (bs : Bindings) (f : Formula) (g : Key → Option Outcome) (i : Key) →
    first_lacked is_value g (reads_keys (fact W.sheet W.oracle) e (first_reads f [])) ≡ Some i → found g (given (facts W.sheet W.oracle) (eval W.version e bs f)) ≡ Need i

-- So do the arguments of a call that evaluates all of them.
abbrev pub ArgumentsDemand : Type 0
ArgumentsDemand =
    (W : World) (e : Frame) (bs : Bindings) (fs : Formulas) (g : Key → Option Outcome) (i : Key) →
    first_lacked is_value g (reads_keys (fact W.sheet W.oracle) e (argument_reads fs [])) ≡ Some i → found g (given (facts W.sheet W.oracle) (all_values (arguments W.version e bs fs))) ≡ Need i

-- So does the key of a cell, whose formula has these reads.
abbrev pub CellDemands : Type 0
CellDemands =
    (W : World) (e : Frame) (a : Addr) (g : Key → Option Outcome) (i : Key) →
    first_lacked is_value g (keys_from W.sheet W.oracle (Own e a) 0) ≡ Some i → found g (given (facts W.sheet W.oracle) (evaluation W.version (Cell e a))) ≡ Need i
