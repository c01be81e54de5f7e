-- What one round over the sheet begins with, gives and leaves.
use Rattle.std.proofs.Common.{◌≡◌, ◌⊎◌, inl, inr, ℕ, List, [], ◌∷◌, ◌++◌, Bool, true, false, if◌then◌else◌, length, nat_lt, map, Option, Some, None, Result, Ok, Err, IfOk, IfErr, refl, sym, ap, ◌∙◌, subst}
use Rattle.gl_calculus.specs.Computation.Lists.{Member, AreDistinct}
use Rattle.gl_calculus.specs.Computation.Notes.{note_keys}
use Rattle.gl_machine.specs.Quiet.{IsQuiet}
use Rattle.gl_calculus.specs.Computation.Demanded.{Seed, Demanded}
use Rattle.gl_machine.specs.Machine.{keys}
use Rattle.gl_calculus.specs.Computation.Notes.{Note}
use Rattle.gl_machine.specs.Remembered.{AreTrue}
use Rattle.laws_calculus.proofs.Query.Ordered.{key_of}
use Rattle.gl_calculus.specs.Grid.Grid.{Addr, Range}
use Rattle.gl_calculus.specs.Values.Value.{Oracle, Top}
use Rattle.gl_calculus.specs.Formulas.Formula.{Version, Cells, formula_addresses}
use Rattle.gl_calculus.specs.Grid.Limits.{kept_rounds}
use Rattle.gl_calculus.specs.Evaluation.Oracle.{Sizes}
use Rattle.gl_calculus.specs.Evaluation.Key.{Key, Cell, same_key, Outcome}
use Rattle.gl_calculus.specs.Evaluation.World.{World, world}
use Rattle.gl_calculus.specs.Evaluation.Evaluation.{program}
use Rattle.gl_calculus.specs.Calculation.Calculation.{DemandedIn, SpendsWork}
use Rattle.gl_calculus.specs.Calculation.Differences.{AreApart}
use Rattle.gl_calculus.specs.Calculation.Memory.{Table, Notes, no_table, IsTableOf}
use Rattle.laws_calculus.proofs.Calculus.Proved.{kept_stay_true}
use Rattle.gl_core.specs.Held.{Held}
use Rattle.gl_core.specs.Kept.{AreTheNotes}
use Rattle.gl_core.specs.State.{state_of, seeds_of, IsFor}
use Rattle.gl_calc.specs.Shown.{IsRound}
use Rattle.gl_calc.specs.Starting.{IsEvaluated}
use Rattle.gl_core.proofs.Kept.{noted_note}
use Rattle.gl_calc.specs.Progress.{Progress, first_of, rest_of, last_of, either, before_of, base_by, next_base, made_with, beyond_with}
use Rattle.gl_calc.specs.Kept.{AreKept, IsEarlier, IsReady, IsTaken, IsKeptBy, IsSet}
use Rattle.gl_calc.specs.Visits.{Collects, StandFirst}
use Rattle.gl_calc.proofs.Seeds.{stand_first}
use Rattle.gl_calculus.specs.Steps.Costs.{Finishes}
use Rattle.gl_calc.specs.Round.{Gives, Fails, Stops, Keeps, Calls}
use Rattle.gl_calc.specs.declared.ending.RoundFault.{RoundFault}
use Rattle.gl_calc.specs.declared.ending.RoundFault.TheVariants as fault
use Rattle.gl_calc.proofs.Formulas.{key_member}

-- ---- what a round begins with

nothing_earlier : (version : Version) (S : Cells) → IsEarlier version S (no_table, [])
nothing_earlier version S = record { cells = S; same = λ a f. refl; true_notes = λ n m. absurd m; apart = λ x y m n s t e. absurd m }

last_member : {X : Type 0} (xs : List X) (x : X) → last_of xs ≡ Some x → Member x xs
last_member [] x e = absurd (cc e)
last_member (y ∷ []) x e = inl (let q : x ≡ y = cc e in q)
last_member (y ∷ z ∷ zs) x e = inr (last_member (z ∷ zs) x e)

module _ (version : Version) (S : Cells) (touched : List Addr) (p : Progress) (h : IsReady version S touched p) where
  before_earlier : (o : Option Table) → before_of p ≡ o → IsEarlier version S (base_by None touched o)
  before_earlier None e = nothing_earlier version S
  before_earlier (Some t) e = by p.beyond refl e
    where
      by : (b : Option Table) → p.beyond ≡ b → either b (last_of p.made) ≡ Some t → IsEarlier version S (t, [])
      by (Some u) q d = let s : u ≡ t = cc d in subst (λ v. IsEarlier version S (v, [])) s (h.beyond u q)
      by None q d = h.made t (last_member p.made t d)

  pub base_earlier : IsEarlier version S (next_base p touched)
  base_earlier = by p.earlier refl
    where
      by : (ts : List Table) → p.earlier ≡ ts → IsEarlier version S (base_by (first_of ts) touched (before_of p))
      by [] e = before_earlier (before_of p) refl
      by (t ∷ ts) e = h.earlier t (subst (Member t) (sym e) (inl refl))

  -- what is kept of it is true
  pub kept_true : (w : Oracle) (kept : Notes) → AreKept (next_base p touched) w kept → AreTrue same_key (program (world version S w)) kept
  kept_true w kept k =
      let b = next_base p touched in
      let e = base_earlier in
      kept_stay_true version e.cells S b.0.oracle w b.1 b.0.notes kept e.same e.true_notes k.closed k.kept

  pub taken_ready : (q : Progress) → IsTaken p q → IsReady version S touched q
  taken_ready q t = record {
    earlier = λ x m. h.earlier x (rest_member p.earlier x (subst (Member x) t.earlier m));
    made = λ x m. h.made x (subst (Member x) t.made m);
    beyond = λ x e. h.beyond x (t.beyond x e);
  }
    where
      rest_member : (ts : List Table) (x : Table) → Member x (rest_of ts) → Member x ts
      rest_member [] x m = absurd m
      rest_member (y ∷ ts) x m = inr m

-- a table of the sheet is one with which rounds may begin
pub table_earlier : (W : World) (t : Table) → AreApart W.oracle → IsTableOf W t → IsEarlier W.version W.sheet (t, [])
table_earlier W t a h = record {
  cells = W.sheet;
  same = λ b f. refl;
  true_notes = subst (λ v. AreTrue same_key (program (world W.version W.sheet v)) t.notes) (sym h.oracle) h.true_notes;
  apart = subst AreApart (sym h.oracle) a;
}

member_last : {X : Type 0} (xs : List X) (y x : X) → Member x (xs ++ y ∷ []) → Member x xs ⊎ (x ≡ y)
member_last [] y x (inl e) = inr e
member_last [] y x (inr m) = absurd m
member_last (z ∷ zs) y x (inl e) = inl (inl e)
member_last (z ∷ zs) y x (inr m) = elim (member_last zs y x m) [ inl n ↦ inl (inr n) | inr e ↦ inr e ]

pub kept_ready : (version : Version) (S : Cells) (touched : List Addr) (p q : Progress) (w : Oracle) → AreApart w → IsReady version S touched p → IsKeptBy version S p w q → IsReady version S touched q
kept_ready version S touched p q w a h k = record {
  earlier = λ x m. h.earlier x (subst (Member x) k.earlier m);
  made = λ x m. in_made (nat_lt (length p.made) kept_rounds) x (subst (Member x) k.made m);
  beyond = λ x e. in_beyond (nat_lt (length p.made) kept_rounds) x (sym k.beyond ∙ e);
}
  where
    here : IsEarlier version S (k.table, [])
    here = table_earlier (world version S w) k.table a k.is_table

    of_last : (x : Table) → Member x p.made ⊎ (x ≡ k.table) → IsEarlier version S (x, [])
    of_last x (inl n) = h.made x n
    of_last x (inr e) = subst (λ t. IsEarlier version S (t, [])) (sym e) here

    in_made : (b : Bool) (x : Table) → Member x (if b then p.made ++ k.table ∷ [] else p.made) → IsEarlier version S (x, [])
    in_made true x m = of_last x (member_last p.made k.table x m)
    in_made false x m = h.made x m

    in_beyond : (b : Bool) (x : Table) → (if b then None else Some k.table) ≡ Some x → IsEarlier version S (x, [])
    in_beyond true x e = absurd (cc e)
    in_beyond false x e = let q : k.table ≡ x = cc e in subst (λ t. IsEarlier version S (t, [])) q here

pub set_again : (version : Version) (S : Cells) (places touched : List Addr) (ranges : List Range) (p q : Progress) → IsSet version S places touched ranges p → IsReady version S touched q → IsSet version S places touched ranges q
set_again version S places touched ranges p q h r = record { all = h.all; few = h.few; ordered = h.ordered; covered = h.covered; ready = r }

-- ---- what it gives

module _ (W : World) where
  -- each formula is demanded
  pub all_demanded : (places : List Addr) → places ≡ formula_addresses W.sheet → (a : Addr) → Member a places → DemandedIn W (Cell Top a)
  all_demanded places e a m = Seed (key_member (formula_addresses W.sheet) a (subst (λ bs. Member a bs) e m))

  pub gives : (places : List Addr) (zs : Sizes) → places ≡ formula_addresses W.sheet → (SpendsWork W → ⊥) → Collects W places (Ok zs) → Gives W zs
  gives places zs e few c = (let d = subst (λ bs. Collects W bs (Ok zs)) e c in (record { work = few; no_abort = d.1 }, d.0))

  fails_by : (e : RoundFault) → (SpendsWork W → ⊥) → Collects W (formula_addresses W.sheet) (Err e) → Fails W e
  fails_by fault.Work few c = absurd c
  fails_by (fault.Depth a) few c = (few, c)
  fails_by (fault.CopyRounds a) few c = (few, c)
  fails_by fault.NoMemory few c = tt

  pub fails : (places : List Addr) (e : RoundFault) → places ≡ formula_addresses W.sheet → (SpendsWork W → ⊥) → Collects W places (Err e) → Fails W e
  fails places e p few c = fails_by e few (subst (λ bs. Collects W bs (Err e)) p c)

-- ---- what is kept of it

note_of : (ns : Notes) (k : Key) → Member k (note_keys ns) → (n : Note Key Outcome Range) × Member n ns × (n.key ≡ k)
note_of [] k m = absurd m
note_of (n ∷ ns) k (inl e) = (n, inl refl, sym e)
note_of (n ∷ ns) k (inr m) = let (x, i, e) = note_of ns k m in (x, inr i, e)

pub finished_table : (version : Version) (S : Cells) (w v : Oracle) (q : Held) (notes : Notes) → v ≡ w → IsEvaluated (world version S w) q →
    ((u : Version) (T : Cells) (x : Oracle) → IsFor (world u T x) q → IsQuiet same_key (program (world u T x)) (seeds_of q) (state_of q) → AreTheNotes (program (world u T x)) (seeds_of q) notes) →
    IsTableOf (world version S w) (record { oracle = v; notes = notes })
finished_table version S w v q notes e h f =
    let n = f version S w h.started.for_it (subst (λ ks. IsQuiet same_key (program (world version S w)) ks (state_of q)) (sym h.started.seeds) h.round) in
    record {
      oracle = e;
      distinct = n.apart;
      true_notes = λ x m. (n.each x m).1;
      demanded = λ k m. (let (x, i, d) = note_of notes k m in subst (DemandedIn (world version S w)) d (subst (λ ks. Demanded (program (world version S w)) ks x.key) h.started.seeds (n.each x i).0));
      complete = λ k o d g. (let (x, i, j) = noted_note notes k (n.all k o (subst (λ ks. Demanded (program (world version S w)) ks k) (sym h.started.seeds) d) g) in subst (λ y. Member y (note_keys notes)) j (key_of notes x i));
    }

-- ---- by the answer of the sizes

module _ (w : Oracle) (places : List Addr) (q : Held) where
  abbrev Collected : Result Sizes RoundFault → Type 0
  Collected r = (version : Version) (S : Cells) (v : Oracle) → IsRound (world version S v) (state_of q) → StandFirst places (state_of q) → AreDistinct (keys (state_of q))
      → ((a : Addr) → Member a places → DemandedIn (world version S v) (Cell Top a)) → Collects (world version S v) places r

  collects : (r : Result Sizes RoundFault) → Collected r → (version : Version) (S : Cells) → IsEvaluated (world version S w) q → places ≡ formula_addresses S → Collects (world version S w) places r
  collects r h version S e p =
      let first = stand_first q.seeds places (state_of q) (e.started.seeds ∙ sym (ap (map (Cell Top)) p)) in
      h version S w e.round first e.started.for_it.sound.apart (all_demanded (world version S w) places p)

  pub sizes_given : (r : Result Sizes RoundFault) → Collected r → IfOk r (λ zs. (version : Version) (S : Cells) → IsEvaluated (world version S w) q → places ≡ formula_addresses S → Gives (world version S w) zs)
  sizes_given (Ok zs) h = λ version S e p. gives (world version S w) places zs p e.finished (collects (Ok zs) h version S e p)
  sizes_given (Err f) h = tt

  pub sizes_failed : (r : Result Sizes RoundFault) → Collected r → IfErr r (λ f. (version : Version) (S : Cells) → IsEvaluated (world version S w) q → places ≡ formula_addresses S → Fails (world version S w) f)
  sizes_failed (Ok zs) h = tt
  sizes_failed (Err f) h = λ version S e p. fails (world version S w) places f p e.finished (collects (Err f) h version S e p)

  pub sizes_finished : (r : Result Sizes RoundFault) → Collected r → IfErr r (λ f. f ≡ fault.Work → (version : Version) (S : Cells) → IsEvaluated (world version S w) q → places ≡ formula_addresses S → ⊥)
  sizes_finished (Ok zs) h = tt
  sizes_finished (Err f) h = λ k version S e p. subst (λ (u : RoundFault). Collects (world version S w) places (Err u)) k (collects (Err f) h version S e p)

-- what a base rests on goes by no touched address
module _ (version : Version) (S : Cells) (touched : List Addr) (p : Progress) (h : IsReady version S touched p) where
  before_apart : (t : List Addr) (o : Option Table) → before_of p ≡ o → AreApart (base_by None t o).0.oracle
  before_apart t None e = λ x y m n s i f. absurd m
  before_apart t (Some b) e = (before_earlier version S touched p h (Some b) e).apart

  pub base_apart : (t : List Addr) → AreApart (next_base p t).0.oracle
  base_apart t = by p.earlier refl
    where
      by : (ts : List Table) → p.earlier ≡ ts → AreApart (base_by (first_of ts) t (before_of p)).0.oracle
      by [] e = before_apart t (before_of p) refl
      by (b ∷ ts) e = (h.earlier b (subst (Member b) (sym e) (inl refl))).apart

-- ---- what a call leaves

pub after_ready : {X : Type 0} (version : Version) (S : Cells) (touched : List Addr) (p t q : Progress) (w : Oracle) → AreApart w → IsReady version S touched p → IsTaken p t → IsKeptBy version S t w q ⊎ ((q ≡ t) × X) → IsReady version S touched q
after_ready version S touched p t q w a h k (inl x) = kept_ready version S touched t q w a (taken_ready version S touched p h t k) x
after_ready version S touched p t q w a h k (inr (e, x)) = subst (IsReady version S touched) (sym e) (taken_ready version S touched p h t k)

module _ (version : Version) (S : Cells) (touched : List Addr) (p t q : Progress) (w : Oracle) (n m : ℕ) (taken : IsTaken p t) where
  keeps : ((i : ℕ) → Finishes (world version S w) (next_base p touched) i n m) → IsKeptBy version S t w q → Keeps version S touched p w q n m
  keeps f k = record {
    table = k.table;
    is_table = k.is_table;
    earlier = k.earlier ∙ taken.earlier;
    made = k.made ∙ ap (λ ts. made_with ts k.table) taken.made;
    beyond = k.beyond ∙ ap (λ ts. beyond_with ts k.table) taken.made;
    steps = f;
  }

  pub called : (places : List Addr) (c : Held) (r : Result Sizes RoundFault) → ((i : ℕ) → Finishes (world version S w) (next_base p touched) i n m) → IsKeptBy version S t w q ⊎ ((q ≡ t) × (r ≡ Err fault.NoMemory)) → IsEvaluated (world version S w) c → places ≡ formula_addresses S →
      IfErr r (λ f. f ≡ fault.Work → (u : Version) (T : Cells) → IsEvaluated (world u T w) c → places ≡ formula_addresses T → ⊥) → Calls version S touched p w r q n m
  called places c (Ok zs) f (inl k) e s h = keeps f k
  called places c (Ok zs) f (inr (d, x)) e s h = absurd (cc x)
  called places c (Err fault.Work) f k e s h = absurd (h refl version S e s)
  called places c (Err (fault.Depth a)) f (inl k) e s h = keeps f k
  called places c (Err (fault.Depth a)) f (inr (d, x)) e s h = absurd (cc x)
  called places c (Err (fault.CopyRounds a)) f (inl k) e s h = keeps f k
  called places c (Err (fault.CopyRounds a)) f (inr (d, x)) e s h = absurd (cc x)
  called places c (Err fault.NoMemory) f k e s h = tt

  pub stopped : (e : RoundFault) → Stops (world version S w) (next_base p touched) e n m → Calls version S touched p w (Err e) t n m
  stopped fault.Work h = (taken.made, h.1)
  stopped (fault.Depth a) h = absurd h
  stopped (fault.CopyRounds a) h = absurd h
  stopped fault.NoMemory h = tt

pub stopped_fails : (W : World) (b : Table × List Addr) (e : RoundFault) (n m : ℕ) → Stops W b e n m → Fails W e
stopped_fails W b fault.Work n m h = h.0
stopped_fails W b (fault.Depth a) n m h = absurd h
stopped_fails W b (fault.CopyRounds a) n m h = absurd h
stopped_fails W b fault.NoMemory n m h = tt
