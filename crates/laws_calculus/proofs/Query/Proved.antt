-- The laws that public functions state, for any types.
use Rattle.std.proofs.Common.{◌≡◌, ℕ, suc, ◌<◌, ◌≤◌, List, [], ◌∷◌, inl, inr, Bool, true, false, cond, Option, Some, None, length, refl, sym, subst, arith}
use Rattle.gl_calculus.specs.Computation.Lists.{Member, AreDistinct, IsEquality}
use Rattle.gl_calculus.specs.Computation.Query.{Query}
use Rattle.gl_machine.specs.Machine.{Status, Idle, Waiting, Resolved, Entry, at, table, idle_then, idle_keys, nth, picked, picks, start, IsSound, Full, left}
use Rattle.gl_machine.specs.Costs.{answer_at, settled}
use Rattle.laws_calculus.specs.Query.{OutcomesStay, OneOutcome, NoOutcomeOfLoops, OneLevel, AnyPicks, QuietSaysAll, FullSaysMore, PicksEnd, Coincidence, KeptStayTrue, KeptOrDropped, PickByNote, StepsWithin, StepsWithinFull, QuietHasReads, SameFactsAgree, SameFactsCoincide, WalksCompose}
use Rattle.laws_calculus.proofs.Query.Levels.{val-add, Has-one, Has-Loops, Has-from_level, found_run}
use Rattle.laws_calculus.proofs.Query.Lookups.{same_eq, nth_member, at-idle}
use Rattle.laws_calculus.proofs.Query.Steps.{sound_start, sound_picks, true_table}
use Rattle.laws_calculus.proofs.Query.Quiet.{right, quiet}
use Rattle.laws_calculus.proofs.Query.Counts.{length-start, picks_within, full_demands, full_kept, pick_less}
use Rattle.laws_calculus.proofs.Query.Remember.{coincide, kept_coincide, kept_not_dropped, not_dropped_kept}
use Rattle.laws_calculus.proofs.Query.Tables.{by_note, quiet_counted}
use Rattle.laws_calculus.proofs.Query.Credit.{steps_allowed, steps_allowed_full}
use Rattle.laws_calculus.proofs.Query.Bound.{allowed_within}
use Rattle.laws_calculus.proofs.Query.Least.{steps_least}
use Rattle.gl_calculus.specs.Computation.Evaluation.{given}
use Rattle.laws_calculus.proofs.Query.Forming.{agree_given, found-bind, asked-bind, looked-bind}

-- a key whose status is idle is among the idle keys
pub idle_listed : {K O : Type 0} (same : K → K → Bool) → IsEquality same → (st : List (Entry K O)) (k : K) → at same st k ≡ Some Idle → Member k (idle_keys st)
idle_listed same eq [] k e = absurd (cc e)
idle_listed {K} {O} same eq (x ∷ xs) k e =
    (elim (same k x.key) as (λ b. same k x.key ≡ b → cond b (Some x.status) (at same xs k) ≡ Some Idle → Member k (idle_then x.status x.key (idle_keys xs))) [
      | true ↦ λ d h. let s : x.status ≡ Idle = cc h in rw s (inl (same_eq same eq k x.key d))
      | false ↦ λ d h. later x.status (idle_listed same eq xs k h)
    ]) refl e
  where
    later : (s : Status K O) → Member k (idle_keys xs) → Member k (idle_then s x.key (idle_keys xs))
    later Idle m = inr m
    later (Waiting j) m = m
    later (Resolved o) m = m

pub no_idle : {K O : Type 0} (same : K → K → Bool) → IsEquality same → (st : List (Entry K O)) → idle_keys st ≡ [] → (k : K) → at same st k ≡ Some Idle → ⊥
no_idle same eq st e k i = subst (Member k) e (idle_listed same eq st k i)

pub outcomes_stay : (K O A : Type 0) → OutcomesStay K O A
outcomes_stay K O A program n d k o e = val-add program n d k o e

pub one_outcome : (K O A : Type 0) → OneOutcome K O A
one_outcome K O A program k x y h g = Has-one program k x y h g

pub no_outcome_of_loops : (K O A : Type 0) → NoOutcomeOfLoops K O A
no_outcome_of_loops K O A program k x h l = Has-Loops program k x h l

pub one_level : (K O A : Type 0) → OneLevel K O A
one_level K O A program f t k o e = Has-from_level program f t k o (found_run f (program k) o e)

-- a state after picks is sound
pub reached : {K O A : Type 0} (same : K → K → Bool) → IsEquality same → (limit : ℕ) (program : K → Query K O A O) (seeds : List K) → AreDistinct seeds → (is : List ℕ) → IsSound same program seeds (picks same limit program (start seeds) is)
reached same eq limit program seeds d is = sound_picks same eq program seeds limit is (start seeds) (sound_start same eq program seeds d)

pub any_picks : (K O A : Type 0) → AnyPicks K O A
any_picks K O A same limit program seeds is eq d = right same eq program seeds (picks same limit program (start seeds) is) (reached same eq limit program seeds d is)

pub quiet_says_all : (K O A : Type 0) → QuietSaysAll K O A
quiet_says_all K O A same limit program seeds is eq d e =
    quiet same eq program seeds (picks same limit program (start seeds) is) (reached same eq limit program seeds d is) (no_idle same eq (picks same limit program (start seeds) is) e)

few : {K O A : Type 0} (same : K → K → Bool) (limit : ℕ) (program : K → Query K O A O) (seeds : List K) (is : List ℕ) → length seeds ≤ limit → length (picks same limit program (start {O = O} seeds) is) ≤ limit
few {K} {O} {A} same limit program seeds is h = picks_within same limit program is (start seeds) (rw (length-start O seeds) h)

module _ {K O A : Type 0} (same : K → K → Bool) (eq : IsEquality same) (limit : ℕ) (program : K → Query K O A O) (seeds : List K) (st : List (Entry K O)) (sound : IsSound same program seeds st) (within : length st ≤ limit) (i : ℕ) where
  idle_there : (k : K) → nth (idle_keys st) i ≡ Some k → at same st k ≡ Some Idle
  idle_there k e = at-idle same eq st k sound.apart (nth_member (idle_keys st) i k e)

  full_case : (v : Option K) → nth (idle_keys st) i ≡ v → answer_at same limit program st v ≡ Full →
      (picked same limit program st v ≡ st) × ((xs : List K) × (length xs ≡ suc limit) × AreDistinct xs × ((j : K) → Member j xs → Rattle.gl_calculus.specs.Computation.Demanded.Demanded program seeds j))
  full_case None e f = absurd (cc f)
  full_case (Some k) e f = (full_kept same eq limit program seeds st k f, full_demands same eq limit program seeds st k sound within (idle_there k e) f)

pub full_says_more : (K O A : Type 0) → FullSaysMore K O A
full_says_more K O A same limit program seeds is i eq d h f =
    let st = picks same limit program (start {O = O} seeds) is in
    full_case same eq limit program seeds st (reached same eq limit program seeds d is) (few same limit program seeds is h) i (nth (idle_keys st) i) refl f

pub picks_end : (K O A : Type 0) → PicksEnd K O A
picks_end K O A same limit program seeds is i k eq d h e n =
    let st = picks same limit program (start {O = O} seeds) is in
    let sound = reached same eq limit program seeds d is in
    subst (λ v. left limit (picked same limit program st v) < left limit st) (sym e)
    (pick_less same eq limit program seeds st k sound (few same limit program seeds is h) (idle_there same eq limit program seeds st sound (few same limit program seeds is h) i k e) n)

pub coincidence : (K O A : Type 0) → Coincidence K O A
coincidence K O A same touched program program' notes eq agree t c u = coincide same eq (λ a. touched a ≡ false) program program' agree notes t c u

pub kept_stay_true : (K O A : Type 0) → KeptStayTrue K O A
kept_stay_true K O A same touched program program' notes kept eq agree t c k = kept_coincide same eq touched program program' agree notes kept t c k

pub kept_or_dropped : (K O A : Type 0) → KeptOrDropped K O A
kept_or_dropped K O A touched notes k single closed =
    (kept_not_dropped touched notes single k, λ n m e free. not_dropped_kept touched notes closed k (n, m, e) free)

pub pick_by_note : (K O A : Type 0) → PickByNote K O A
pick_by_note K O A same program f k o rs ls eq t n = by_note same eq program f t k o rs ls n

settled_start : {K : Type 0} (O : Type 0) (noted : K → Bool) (ks : List K) → settled noted (start {O = O} ks) ≡ 0
settled_start O noted [] = refl
settled_start O noted (k ∷ ks) = let h = settled_start O noted ks in omega arith

pub steps_within : (K O A : Type 0) → StepsWithin K O A
steps_within K O A same limit program seeds noted is cs eq d room e r =
    let sound = reached same eq limit program seeds d is in
    let st = picks same limit program (start {O = O} seeds) is in
    let a = steps_least same eq limit program seeds noted is (start seeds) (sound_start same eq program seeds d) in
    let z = settled_start O noted seeds in
    let b = steps_allowed same eq limit program seeds noted is (start seeds) (sound_start same eq program seeds d) room in
    let c = allowed_within same eq program noted (table same st) (true_table same eq program seeds st sound) st cs e r in
    (omega arith, omega arith)

pub steps_within_full : (K O A : Type 0) → StepsWithinFull K O A
steps_within_full K O A same limit program seeds noted is k cs eq d room idle e r =
    let sound = reached same eq limit program seeds d is in
    let st = picks same limit program (start {O = O} seeds) is in
    let b = steps_allowed_full same eq limit program seeds noted is (start seeds) k (sound_start same eq program seeds d) room idle in
    let c = allowed_within same eq program noted (table same st) (true_table same eq program seeds st sound) st cs e r in
    omega arith

pub quiet_has_reads : (K O A : Type 0) → QuietHasReads K O A
quiet_has_reads K O A same limit program seeds noted is eq d e =
    let st = picks same limit program (start {O = O} seeds) is in
    quiet_counted same eq program seeds st (reached same eq limit program seeds d is) (no_idle same eq st e) noted

pub same_facts_agree : (K O A F : Type 0) → SameFactsAgree K O A F
same_facts_agree K O A F program facts facts' touched same = agree_given program facts facts' (λ a. touched a ≡ false) same

pub same_facts_coincide : (K O A F : Type 0) → SameFactsCoincide K O A F
same_facts_coincide K O A F same program facts facts' notes eq t c h =
    let kept = λ (a : A). facts' a ≡ facts a in
    coincide same eq kept (λ k. given facts (program k)) (λ k. given facts' (program k)) (agree_given program facts facts' kept (λ a e. e)) notes t c h

pub walks_compose : (K O A F R S : Type 0) → WalksCompose K O A F R S
walks_compose K O A F R S facts f p g = (found-bind facts f g p, asked-bind facts f g p, looked-bind facts f g p)
