-- The steps of a round that is run to its end, beginning with what is kept of a table.
use Rattle.std.proofs.Common.{◌≡◌, ℕ, ◌+◌, ◌-◌, ◌^◌, ◌≤◌, ◌<◌, List, [], ◌∷◌, ◌||◌, Bool, length, inl, inr, true, false, cond, Some, refl, sym, ap, subst, ◌∙◌, arith}
use Rattle.gl_calculus.specs.Computation.Lists.{Member, MoreThan}
use Rattle.gl_machine.specs.Quiet.{IsQuiet}
use Rattle.gl_calculus.specs.Computation.Demanded.{Demanded}
use Rattle.gl_machine.specs.Machine.{Entry, Status, Idle, Waiting, Resolved, at}
use Rattle.gl_calculus.specs.Computation.Notes.{Note, Here}
use Rattle.gl_machine.specs.Remembered.{IsDropped}
use Rattle.gl_machine.specs.Costs.{settled, settled_of, step_of}
use Rattle.laws_calculus.proofs.Query.Quiet.{distinct_within}
use Rattle.laws_calculus.proofs.Query.Credit.{at-entry}
use Rattle.laws_calculus.proofs.Query.Proved.{kept_or_dropped}
use Rattle.gl_calculus.specs.Grid.Grid.{Addr, Range}
use Rattle.gl_calculus.specs.Values.Value.{Oracle}
use Rattle.gl_calculus.specs.Evaluation.Key as K
use Rattle.gl_calculus.specs.Evaluation.Key.{same_key}
use Rattle.gl_calculus.specs.Evaluation.World.{World}
use Rattle.gl_calculus.specs.Evaluation.Evaluation.{program}
use Rattle.gl_calculus.specs.Grid.Limits.{max_demanded}
use Rattle.gl_calculus.specs.Calculation.Calculation.{SpendsWork}
use Rattle.gl_calculus.specs.Calculation.Memory.{Table, Notes, differs_in, IsKeptKey}
use Rattle.gl_calculus.specs.Steps.Allowance.{Allows, HasReads}
use Rattle.gl_calculus.specs.Steps.Costs.{IsAnew, Finishes, Breaks}
use Rattle.gl_calculus.proofs.Tests.{key_equality}
use Rattle.gl_core.specs.Held.{Held}
use Rattle.gl_core.proofs.Kept.{noted_note}
use Rattle.gl_core.specs.State.{State, state_of, seeds_of, notes_in, is_noted, IsFor}
use Rattle.laws_calculus.proofs.Calculus.Allowances.{no_steps, allows_wider}
use Rattle.gl_core.specs.Answers.{IsUnnoted}
use Rattle.gl_calc.specs.Kept.{AreKept}
use Rattle.gl_calc.specs.Shown.{IsRound}
use Rattle.gl_calc.specs.Starting.{IsStarted}

-- ---- notes by their keys

noted_in : (ns : Notes) (n : Note K.Key K.Outcome Range) → Member n ns → is_noted ns n.key ≡ true
noted_in [] n m = absurd m
noted_in (x ∷ ns) n (inl e) = ap (λ b. b || is_noted ns n.key) (ap (λ (u : Note K.Key K.Outcome Range). same_key n.key u.key) (sym e) ∙ key_equality.1 n.key)
noted_in (x ∷ ns) n (inr m) = by (same_key n.key x.key) (noted_in ns n m)
  where
    by : (b : Bool) → is_noted ns n.key ≡ true → (b || is_noted ns n.key) ≡ true
    by true h = refl
    by false h = h

-- ---- a key is kept exactly where what is kept has a note of it

module _ (b : Table × List Addr) (w : Oracle) (kept : Notes) (h : AreKept b w kept) where
  abbrev touched : Range → Bool
  touched = differs_in b.1 b.0.oracle w

  kept_noted : (k : K.Key) → IsKeptKey b.0 b.1 w k → is_noted kept k ≡ true
  kept_noted k r =
      let (n, m, e, u) = r k Here in
      let not_dropped : IsDropped touched b.0.notes k → ⊥ = (kept_or_dropped K.Key K.Outcome Range touched b.0.notes k h.single h.closed).0 r in
      let there : Member n kept = h.kept.1 n m (λ d. not_dropped (subst (IsDropped touched b.0.notes) e d)) in
      subst (λ j. is_noted kept j ≡ true) e (noted_in kept n there)

  noted_kept : (k : K.Key) → is_noted kept k ≡ true → IsKeptKey b.0 b.1 w k
  noted_kept k e =
      let (n, m, i) = noted_note kept k e in
      let (there, left) = h.kept.0 n m in
      subst (λ j. IsKeptKey b.0 b.1 w j) i ((kept_or_dropped K.Key K.Outcome Range touched b.0.notes n.key h.single h.closed).1 n there refl left)

  unnoted_anew : (k : K.Key) → is_noted kept k ≡ false → IsKeptKey b.0 b.1 w k → ⊥
  unnoted_anew k e r = let no : true ≡ false = sym (kept_noted k r) ∙ e in absurd (cc no)

  anew_unnoted : (k : K.Key) → (IsKeptKey b.0 b.1 w k → ⊥) → is_noted kept k ≡ false
  anew_unnoted k f = by (is_noted kept k) refl
    where
      by : (c : Bool) → is_noted kept k ≡ c → c ≡ false
      by true e = absurd (f (noted_kept k e))
      by false e = refl

-- ---- keys of a state by their notes

module _ (noted : K.Key → Bool) where
  -- the resolved keys without a note, which are as many as are settled
  abbrev resolved_then : Status K.Key K.Outcome → K.Key → List K.Key → List K.Key
  resolved_then Idle k ks = ks
  resolved_then (Waiting j) k ks = ks
  resolved_then (Resolved o) k ks = cond (noted k) ks (k ∷ ks)

  abbrev resolved_keys : State → List K.Key
  resolved_keys [] = []
  resolved_keys (x ∷ xs) = resolved_then x.status x.key (resolved_keys xs)

  one_more : (s : Status K.Key K.Outcome) (k : K.Key) (ks : List K.Key) (n : ℕ) → length ks ≡ n → length (resolved_then s k ks) ≡ settled_of s (step_of noted k) + n
  one_more Idle k ks n e = omega (arith, e)
  one_more (Waiting j) k ks n e = omega (arith, e)
  one_more (Resolved o) k ks n e = by (noted k)
    where
      by : (b : Bool) → length (cond b ks (k ∷ ks)) ≡ cond b 0 1 + n
      by true = omega (arith, e)
      by false = omega (arith, e)

  as_many : (st : State) → length (resolved_keys st) ≡ settled noted st
  as_many [] = refl
  as_many (x ∷ xs) = one_more x.status x.key (resolved_keys xs) (settled noted xs) (as_many xs)

  still_member : (s : Status K.Key K.Outcome) (j k : K.Key) (ks : List K.Key) → Member k ks → Member k (resolved_then s j ks)
  still_member Idle j k ks m = m
  still_member (Waiting i) j k ks m = m
  still_member (Resolved o) j k ks m = by (noted j)
    where
      by : (b : Bool) → Member k (cond b ks (j ∷ ks))
      by true = m
      by false = inr m

  resolved_member : (st : State) (k : K.Key) (o : K.Outcome) → noted k ≡ false → at same_key st k ≡ Some (Resolved o) → Member k (resolved_keys st)
  resolved_member [] k o n e = absurd (cc e)
  resolved_member (x ∷ xs) k o n e =
      (elim (same_key k x.key) as (λ b. same_key k x.key ≡ b → cond b (Some x.status) (at same_key xs k) ≡ Some (Resolved o) → Member k (resolved_then x.status x.key (resolved_keys xs))) [
        | true ↦ λ t h.
            let s : x.status ≡ Resolved o = cc h in
            let i : k ≡ x.key = key_equality.0 k x.key t in
            let f : noted x.key ≡ false = ap noted (sym i) ∙ n in
            subst (λ u. Member k (resolved_then u x.key (resolved_keys xs))) (sym s) (subst (λ c. Member k (cond c (resolved_keys xs) (x.key ∷ resolved_keys xs))) (sym f) (inl i))
        | false ↦ λ t h. still_member x.status x.key k (resolved_keys xs) (resolved_member xs k o n h)
      ]) refl e

  none_settled : (st : State) → ((x : Entry K.Key K.Outcome) → Member x st → (o : K.Outcome) → x.status ≡ Resolved o → noted x.key ≡ true) → settled noted st ≡ 0
  none_settled [] h = refl
  none_settled (x ∷ xs) h = let rest = none_settled xs (λ y m. h y (inr m)) in let here = by x.status refl in omega (arith, here, rest)
    where
      by : (s : Status K.Key K.Outcome) → x.status ≡ s → settled_of s (step_of noted x.key) ≡ 0
      by Idle e = refl
      by (Waiting j) e = refl
      by (Resolved o) e = ap (λ b. cond b 0 1) (h x (inl refl) o e)

module _ (W : World) (core : Held) (h : IsStarted W core) (n m : ℕ) where
  pub quiet_round : (q : Held) → IsQuiet same_key (program W) (seeds_of core) (state_of q) → IsRound W (state_of q)
  quiet_round q r = subst (λ ks. IsQuiet same_key (program W) ks (state_of q)) h.seeds r

  pub few_demanded : (MoreThan max_demanded (Demanded (program W) (seeds_of core)) → ⊥) → SpendsWork W → ⊥
  few_demanded f more = f (subst (λ ks. MoreThan max_demanded (Demanded (program W) ks)) (sym h.seeds) more)

  pub still_started : (q : Held) → seeds_of q ≡ seeds_of core → IsFor W q → IsStarted W q
  still_started q s f = record { seeds = s ∙ h.seeds; for_it = f }

  -- a demanded key without a note isn't kept
  anew : (b : Table × List Addr) → AreKept b W.oracle (notes_in core) → (k : K.Key) → IsUnnoted W (seeds_of core) (is_noted (notes_in core)) k → IsAnew W b k
  anew b kept k (p, u) = (subst (λ ks. Demanded (program W) ks k) h.seeds p, unnoted_anew b W.oracle (notes_in core) kept k u)

  pub finishes : (q : Held) → IsQuiet same_key (program W) (seeds_of core) (state_of q) →
      Allows W (λ k. IsUnnoted W (seeds_of core) (is_noted (notes_in core)) k × HasReads W k) n m →
      (m < 2 ^ 64 - 1 → n + settled (is_noted (notes_in core)) (state_of q) ≤ m + settled (is_noted (notes_in core)) (state_of core)) →
      (b : Table × List Addr) (i : ℕ) → AreKept b W.oracle (notes_in core) → Finishes W b i n m
  finishes q r a l b i kept =
      let noted = is_noted (notes_in core) in
      let round = quiet_round q r in
      let none : settled noted (state_of core) ≡ 0 = none_settled noted (state_of core) (λ x j o s. h.for_it.noted x.key o (at-entry same_key key_equality (state_of core) x h.for_it.sound.apart j ∙ ap Some s)) in (
        allows_wider a (λ k p. (anew b kept k p.0, p.1)),
        λ few ks d each small.
            let some = as_many noted (state_of q) in
            let inside : length ks ≤ length (resolved_keys noted (state_of q)) =
            distinct_within ks (resolved_keys noted (state_of q)) d (λ k e.
            (let ((p, u), (o, g)) = each k e in
            resolved_member noted (state_of q) k o (anew_unnoted b W.oracle (notes_in core) kept k u) (round.having_resolved k o p g))) in
            let bound = l small in
            omega (arith, inside, some, bound, none),
      )

  pub stops_work : MoreThan max_demanded (Demanded (program W) (seeds_of core)) → Allows W (IsUnnoted W (seeds_of core) (is_noted (notes_in core))) n m →
      (b : Table × List Addr) → AreKept b W.oracle (notes_in core) → SpendsWork W × Breaks W b n m
  stops_work more a b kept = (subst (λ ks. MoreThan max_demanded (Demanded (program W) ks)) h.seeds more, allows_wider a (anew b kept))

-- where no round was begun, no step was taken
pub none_taken : (W : World) (b : Table × List Addr) (n : ℕ) → Breaks W b n n
none_taken W b n = no_steps W (IsAnew W b) n
