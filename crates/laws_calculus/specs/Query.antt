-- The laws that public functions state.
use Rattle.std.specs.Prelude.{false, ◌≡◌, ◌⊎◌, ℕ, suc, ◌+◌, ◌≤◌, ◌<◌, List, [], filter, Bool, not, Option, Some, length}
use Rattle.gl_calculus.specs.Computation.Lists.{Member, Begins, AreDistinct, IsEquality, has_member, distinct}
use Rattle.gl_calculus.specs.Computation.Query.{Query, Ready, Need, found, val, Has, Loops, IsTrueTable, asked, looked}
use Rattle.gl_calculus.specs.Computation.Demanded.{Demanded}
use Rattle.gl_machine.specs.Machine.{Status, Idle, Resolved, Entry, at, keys, idle_keys, picks, pick, nth, start, IsKnown, IsSound, Full, answer, left}
use Rattle.gl_calculus.specs.Computation.Reads.{IsReads, IsLooked, IsNote}
use Rattle.gl_machine.specs.Reads.{first_without, end_by_note}
use Rattle.gl_calculus.specs.Computation.Notes.{Note, IsReached, IsKept, note_keys}
use Rattle.gl_machine.specs.Remembered.{AreTrue, AreClosed, AreUntouched, Agree, IsDropped, AreSingle, AreTheKept}
use Rattle.gl_machine.specs.InOrder.{AreOrdered, gone_after, kept_after}
use Rattle.gl_machine.specs.Costs.{step_of, steps, answer_at, HaveRoom, unnoted, settled}
use Rattle.gl_calculus.specs.Steps.Counted.{Counted, counted_keys, sum_reads, AreReads}
use Rattle.gl_calculus.specs.Computation.Evaluation.{Evaluation, bind, given, then_found, then_list}
use Rattle.gl_machine.specs.Quiet.{IsRight, IsQuiet}

-- An outcome at a level stays at each higher one.
abbrev pub OutcomesStay : (K O A : Type 0) → Type 0
OutcomesStay K O A = (program : K → Query K O A O) (n d : ℕ) (k : K) (o : O) → val program n k ≡ Some o → val program (n + d) k ≡ Some o

-- A key has at most one outcome, and not one where it loops.
abbrev pub OneOutcome : (K O A : Type 0) → Type 0
OneOutcome K O A = (program : K → Query K O A O) (k : K) (x y : O) → Has program k x → Has program k y → x ≡ y

abbrev pub NoOutcomeOfLoops : (K O A : Type 0) → Type 0
NoOutcomeOfLoops K O A = (program : K → Query K O A O) (k : K) (x : O) → Has program k x → Loops program k → ⊥

-- One level over any true outcomes gives the key's outcome, or the first key that it lacks.
abbrev pub OneLevel : (K O A : Type 0) → Type 0
OneLevel K O A = (program : K → Query K O A O) (f : K → Option O) → IsTrueTable program f → (k : K) (o : O) → found f (program k) ≡ Ready o → Has program k o

-- What a key reads and looks at is determined; so a key has at most one note.
abbrev pub OneWalk : (K O A : Type 0) → Type 0
OneWalk K O A =
    (same : K → K → Bool) (program : K → Query K O A O) (k : K) →
    ((rs ss : List K) → IsReads same program k rs → IsReads same program k ss → rs ≡ ss) ×
    ((ls ms : List A) → IsLooked program k ls → IsLooked program k ms → ls ≡ ms) ×
    ((x y : O) (rs ss : List K) (ls ms : List A) → IsNote same program k x rs ls → IsNote same program k y ss ms → (x ≡ y) × (rs ≡ ss) × (ls ≡ ms))

-- One level over any true outcomes that ends with an outcome makes the key's note.
abbrev pub LevelNotes : (K O A : Type 0) → Type 0
LevelNotes K O A =
    (same : K → K → Bool) (program : K → Query K O A O) (f : K → Option O) → IsTrueTable program f → (k : K) (o : O) → found f (program k) ≡ Ready o →
    IsNote same program k o (distinct same (asked f (program k))) (looked f (program k))

-- One level over any true outcomes that ends with a need needs the first of the key's reads that the table lacks; and what it asked for and looked at stands first in all that the key reads and looks at.
abbrev pub LevelNeeds : (K O A : Type 0) → Type 0
LevelNeeds K O A =
    (same : K → K → Bool) (program : K → Query K O A O) (f : K → Option O) → IsEquality same → IsTrueTable program f → (k j : K) → found f (program k) ≡ Need j →
    ((rs : List K) → IsReads same program k rs → (first_without f rs ≡ Some j) × Begins (distinct same (asked f (program k))) rs) ×
    ((ls : List A) → IsLooked program k ls → Begins (looked f (program k)) ls)

-- After every list of picks the state says what is true.
abbrev pub AnyPicks : (K O A : Type 0) → Type 0
AnyPicks K O A =
    (same : K → K → Bool) (limit : ℕ) (program : K → Query K O A O) (seeds : List K) (is : List ℕ) → IsEquality same → AreDistinct seeds →
    IsRight same program seeds (picks same limit program (start seeds) is)

-- Where nothing is idle, it says all.
abbrev pub QuietSaysAll : (K O A : Type 0) → Type 0
QuietSaysAll K O A =
    (same : K → K → Bool) (limit : ℕ) (program : K → Query K O A O) (seeds : List K) (is : List ℕ) → IsEquality same → AreDistinct seeds →
    idle_keys (picks same limit program (start {O = O} seeds) is) ≡ [] →
    IsQuiet same program seeds (picks same limit program (start seeds) is)

-- A pick that is Full changes nothing, and then more keys than the limit are demanded.
abbrev pub FullSaysMore : (K O A : Type 0) → Type 0
FullSaysMore K O A =
    (same : K → K → Bool) (limit : ℕ) (program : K → Query K O A O) (seeds : List K) (is : List ℕ) (i : ℕ) → IsEquality same → AreDistinct seeds → length seeds ≤ limit →
    answer_at same limit program (picks same limit program (start seeds) is) (nth (idle_keys (picks same limit program (start {O = O} seeds) is)) i) ≡ Full →
    (pick same limit program (picks same limit program (start seeds) is) i ≡ picks same limit program (start {O = O} seeds) is) ×
    ((xs : List K) × (length xs ≡ suc limit) × AreDistinct xs × ((j : K) → Member j xs → Demanded program seeds j))

-- Each pick of an idle key that isn't Full leaves less to do.
abbrev pub PicksEnd : (K O A : Type 0) → Type 0
PicksEnd K O A =
    (same : K → K → Bool) (limit : ℕ) (program : K → Query K O A O) (seeds : List K) (is : List ℕ) (i : ℕ) (k : K) → IsEquality same → AreDistinct seeds → length seeds ≤ limit →
    nth (idle_keys (picks same limit program (start {O = O} seeds) is)) i ≡ Some k →
    (answer same limit program (picks same limit program (start seeds) is) k ≡ Full → ⊥) →
    left limit (pick same limit program (picks same limit program (start {O = O} seeds) is) i) < left limit (picks same limit program (start {O = O} seeds) is)

-- Notes that are true for one program are true for another that agrees with it where nothing is touched, if they are closed under reads and looked at nothing touched.
abbrev pub Coincidence : (K O A : Type 0) → Type 0
Coincidence K O A =
    (same : K → K → Bool) (touched : A → Bool) (program program' : K → Query K O A O) (notes : List (Note K O A)) → IsEquality same → Agree touched program program' →
    AreTrue same program notes → AreClosed notes → AreUntouched touched notes → AreTrue same program' notes

-- What is left of a table after the drop stays true.
abbrev pub KeptStayTrue : (K O A : Type 0) → Type 0
KeptStayTrue K O A =
    (same : K → K → Bool) (touched : A → Bool) (program program' : K → Query K O A O) (notes kept : List (Note K O A)) → IsEquality same → Agree touched program program' →
    AreTrue same program notes → AreClosed notes → AreTheKept touched notes kept → AreTrue same program' kept

-- The keys kept are those that are not dropped.
abbrev pub KeptOrDropped : (K O A : Type 0) → Type 0
KeptOrDropped K O A =
    (touched : A → Bool) (notes : List (Note K O A)) (k : K) → AreSingle notes → AreClosed notes →
    (IsKept touched notes k → IsDropped touched notes k → ⊥) × ((n : Note K O A) → Member n notes → n.key ≡ k → (IsDropped touched notes k → ⊥) → IsKept touched notes k)

-- A pick of a key with a true note goes by the note's reads.
abbrev pub PickByNote : (K O A : Type 0) → Type 0
PickByNote K O A =
    (same : K → K → Bool) (program : K → Query K O A O) (f : K → Option O) (k : K) (o : O) (rs : List K) (ls : List A) → IsEquality same → IsTrueTable program f →
    IsNote same program k o rs ls → found f (program k) ≡ end_by_note o (first_without f rs)

-- The steps of picks, none of them Full, are at most the sum of 1 and the number of reads, over each list that holds the known keys without a note once with their reads, and at least the number of these that are resolved.
abbrev pub StepsWithin : (K O A : Type 0) → Type 0
StepsWithin K O A =
    (same : K → K → Bool) (limit : ℕ) (program : K → Query K O A O) (seeds : List K) (noted : K → Bool) (is : List ℕ) (cs : List (Counted K)) → IsEquality same → AreDistinct seeds →
    HaveRoom same limit program (start {O = O} seeds) is →
    counted_keys cs ≡ unnoted noted (picks same limit program (start {O = O} seeds) is) → AreReads same program cs →
    (settled noted (picks same limit program (start {O = O} seeds) is) ≤ steps same limit program noted (start {O = O} seeds) is) × (steps same limit program noted (start {O = O} seeds) is ≤ sum_reads cs)

-- With one more pick, that may be Full.
abbrev pub StepsWithinFull : (K O A : Type 0) → Type 0
StepsWithinFull K O A =
    (same : K → K → Bool) (limit : ℕ) (program : K → Query K O A O) (seeds : List K) (noted : K → Bool) (is : List ℕ) (k : K) (cs : List (Counted K)) → IsEquality same → AreDistinct seeds →
    HaveRoom same limit program (start {O = O} seeds) is → at same (picks same limit program (start {O = O} seeds) is) k ≡ Some Idle →
    counted_keys cs ≡ unnoted noted (picks same limit program (start {O = O} seeds) is) → AreReads same program cs →
    steps same limit program noted (start {O = O} seeds) is + step_of noted k ≤ sum_reads cs

-- Where nothing is idle there is such a list.
abbrev pub QuietHasReads : (K O A : Type 0) → Type 0
QuietHasReads K O A =
    (same : K → K → Bool) (limit : ℕ) (program : K → Query K O A O) (seeds : List K) (noted : K → Bool) (is : List ℕ) → IsEquality same → AreDistinct seeds →
    idle_keys (picks same limit program (start {O = O} seeds) is) ≡ [] →
    (cs : List (Counted K)) × (counted_keys cs ≡ unnoted noted (picks same limit program (start {O = O} seeds) is)) × AreReads same program cs

-- A program of evaluations goes the same way wherever the facts at the places that it looks at are the same.
abbrev pub SameFactsAgree : (K O A F : Type 0) → Type 0
SameFactsAgree K O A F =
    (program : K → Evaluation K O A F O) (facts facts' : A → F) (touched : A → Bool) → ((a : A) → touched a ≡ false → facts' a ≡ facts a) →
    Agree touched (λ k. given facts (program k)) (λ k. given facts' (program k))

-- Notes that are true with some facts are true with others, if they are closed under reads and the facts at all places that they looked at are the same.
abbrev pub SameFactsCoincide : (K O A F : Type 0) → Type 0
SameFactsCoincide K O A F =
    (same : K → K → Bool) (program : K → Evaluation K O A F O) (facts facts' : A → F) (notes : List (Note K O A)) → IsEquality same →
    AreTrue same (λ k. given facts (program k)) notes → AreClosed notes → ((n : Note K O A) → Member n notes → (a : A) → Member a n.looked → facts' a ≡ facts a) →
    AreTrue same (λ k. given facts' (program k)) notes

-- A walk over one evaluation after another is a walk over the first, and then over the second.
abbrev pub WalksCompose : (K O A F R S : Type 0) → Type 0
WalksCompose K O A F R S =
    (facts : A → F) (f : K → Option O) (p : Evaluation K O A F R) (g : R → Evaluation K O A F S) →
    (found f (given facts (bind p g)) ≡ then_found (found f (given facts p)) (λ r. found f (given facts (g r)))) ×
    (asked f (given facts (bind p g)) ≡ then_list (asked f (given facts p)) (found f (given facts p)) (λ r. asked f (given facts (g r)))) ×
    (looked f (given facts (bind p g)) ≡ then_list (looked f (given facts p)) (found f (given facts p)) (λ r. looked f (given facts (g r))))

-- One pass over notes in order drops exactly those that rest on something touched.
abbrev pub DropsInOrder : (K O A : Type 0) → Type 0
DropsInOrder K O A =
    (same : K → K → Bool) (touched : A → Bool) (notes : List (Note K O A)) → IsEquality same → AreDistinct (note_keys notes) → AreOrdered [] notes →
    AreTheKept touched notes (kept_after same touched [] notes)

-- A state in which each known key is idle, or has the outcome of a true note all of whose reads are resolved, is sound.
abbrev pub SoundAtStart : (K O A : Type 0) → Type 0
SoundAtStart K O A =
    (same : K → K → Bool) (program : K → Query K O A O) (seeds : List K) (notes : List (Note K O A)) (st : List (Entry K O)) → IsEquality same → AreTrue same program notes →
    AreDistinct (keys st) → ((k : K) → Member k seeds → IsKnown same st k) → ((k : K) → IsKnown same st k → Demanded program seeds k) →
    ((k : K) (s : Status K O) → at same st k ≡ Some s → (s ≡ Idle) ⊎ ((n : Note K O A) × Member n notes × (n.key ≡ k) × (s ≡ Resolved n.outcome) × ((j : K) → Member j n.reads → (o : O) × (at same st j ≡ Some (Resolved o))))) →
    IsSound same program seeds st

-- What is reached from a demanded key through reads of true notes is demanded.
abbrev pub ReachedDemanded : (K O A : Type 0) → Type 0
ReachedDemanded K O A =
    (same : K → K → Bool) (program : K → Query K O A O) (seeds : List K) (notes : List (Note K O A)) (s k : K) → AreTrue same program notes →
    Demanded program seeds s → IsReached notes s k → Demanded program seeds k

-- What one pass leaves are the notes of the keys that it didn't gather.
abbrev pub KeptByGone : (K O A : Type 0) → Type 0
KeptByGone K O A =
    (same : K → K → Bool) (touched : A → Bool) (notes : List (Note K O A)) → IsEquality same → AreDistinct (note_keys notes) →
    kept_after same touched [] notes ≡ filter (λ n. not (has_member same n.key (gone_after same touched [] notes))) notes

-- It stays in order; and in notes in order each key that was read has a note.
abbrev pub KeptStayOrdered : (K O A : Type 0) → Type 0
KeptStayOrdered K O A =
    (same : K → K → Bool) (touched : A → Bool) (notes : List (Note K O A)) → IsEquality same → AreOrdered [] notes → AreOrdered [] (kept_after same touched [] notes)

abbrev pub OrderedAreClosed : (K O A : Type 0) → Type 0
OrderedAreClosed K O A = (notes : List (Note K O A)) → AreOrdered [] notes → AreClosed notes

-- Where each note has one more of the same key, all of them with its reads and places, the same keys are dropped among more notes.
abbrev pub DroppedAmongMore : (K O P A : Type 0) → Type 0
DroppedAmongMore K O P A =
    (touched : A → Bool) (notes : List (Note K O A)) (more : List (Note K P A)) → AreClosed notes →
    ((n : Note K O A) → Member n notes → (m : Note K P A) × Member m more × (n.key ≡ m.key)) →
    ((n : Note K O A) (m : Note K P A) → Member n notes → Member m more → n.key ≡ m.key → (n.reads ≡ m.reads) × (n.looked ≡ m.looked)) →
    (n : Note K O A) → Member n notes → (IsDropped touched more n.key → IsDropped touched notes n.key) × (IsDropped touched notes n.key → IsDropped touched more n.key)

-- What is kept is closed.
abbrev pub KeptAreClosed : (K O A : Type 0) → Type 0
KeptAreClosed K O A = (touched : A → Bool) (notes kept : List (Note K O A)) → AreClosed notes → AreTheKept touched notes kept → AreClosed kept

-- What is demanded by some seeds is demanded by others that have them.
abbrev pub DemandedByMembers : (K O A : Type 0) → Type 0
DemandedByMembers K O A =
    (program : K → Query K O A O) (seeds others : List K) → ((k : K) → Member k seeds → Member k others) → (k : K) → Demanded program seeds k → Demanded program others k

-- Where each true note is of a seed or was read by another one, all their keys are demanded.
abbrev pub ReadAreDemanded : (K O A : Type 0) → Type 0
ReadAreDemanded K O A =
    (same : K → K → Bool) (program : K → Query K O A O) (seeds : List K) (notes : List (Note K O A)) → AreTrue same program notes →
    ((n : Note K O A) → Member n notes → Member n.key seeds ⊎ ((m : Note K O A) × Member m notes × Member n.key m.reads)) →
    (n : Note K O A) → Member n notes → Demanded program seeds n.key
