-- A turn of the walk, by what becomes of its notes and its stack.
use Rattle.std.proofs.Common.{◌≡◌, ℕ, ◌+◌, ◌<◌, ◌≤◌, List, [], ◌∷◌, ◌++◌, length, true, false, None, IsTrue, refl, sym, ap, subst, ◌∙◌, arith}
use Rattle.std.proofs.lemmas.List.{length-append, length-reverse}
use Rattle.gl_calculus.specs.Computation.Lists.{Member, AreDistinct, has_member}
use Rattle.gl_calculus.specs.Computation.Query.{Ready, Need, found}
use Rattle.gl_calculus.specs.Grid.Limits.{max_demanded}
use Rattle.gl_calculus.specs.Evaluation.Key.{Key, Outcome, same_key}
use Rattle.gl_calculus.specs.Evaluation.SameOutcome.{same_outcome}
use Rattle.gl_calculus.specs.Evaluation.World.{World}
use Rattle.gl_calculus.specs.Evaluation.Evaluation.{program}
use Rattle.gl_calculus.specs.Evaluation.Sound.{is_sound_key, IsProperKey}
use Rattle.gl_demand.specs.Sound.{AreSoundKeys}
use Rattle.gl_explain.proofs.Tops.{more_sound}
use Rattle.laws_calculus.proofs.Calculus.OutcomeTests.{outcome_equality}
use Rattle.laws_calculus.proofs.Calculus.Proper.{asks_proper}
use Rattle.gl_calculus.proofs.Tests.{key_equality}
use Rattle.gl_calculus.specs.Explanation.Walk.{Claim, noted, Explained, walk, IsWalk}
use Rattle.gl_calculus.specs.Explanation.Certificate.{is_proper}
use Rattle.laws_calculus.proofs.Explanation.Explaining.{asks_test}
use Rattle.laws_calculus.proofs.Explanation.Judging.{test_proper}
use Rattle.laws_calculus.proofs.Explanation.Going as Go
use Rattle.laws_calculus.proofs.Explanation.Spending as Sp
use Rattle.laws_calculus.proofs.Explanation.Walks as Wa
use Rattle.gl_demand.specs.Marks.{PlainMark}
use Rattle.laws_calculus.proofs.Calculus.Allowances.{no_steps}
use Rattle.gl_calculus.specs.Steps.Counted.{Counted, counted_keys, AreReads, sum_reads}
use Rattle.gl_calculus.specs.Steps.Allowance.{Allows}
use Rattle.gl_calculus.specs.Steps.Walk.{Passes, IsStackedKey, AllowsPart}
use Rattle.gl_explain.specs.Walking.{IsWalking, HasEnded, IsTurned, left}
use Rattle.gl_explain.specs.Putting.{IsTakenOff, IsPutOn, there, full, on}
use Rattle.gl_explain.specs.declared.turning.Turned.{Turned}
use Rattle.gl_explain.specs.declared.turning.Turned.TheVariants.{On}

module _ (W : World) (root : Key) where
  abbrev Walking : ℕ → ℕ → List (Claim Key Outcome) → List Key → Type 0
  Walking n m done up = IsWalking W root n m done up

  -- what some keys allow, told by parts
  allowed : {kind : Key → Type 0} {n m : ℕ} →
      (ks : List Key) × AreDistinct ks × (length ks ≤ max_demanded) × ((k : Key) → Member k ks → kind k) ×
      ((cs : List (Counted Key)) → counted_keys cs ≡ ks → AreReads same_key (program W) cs → m ≤ n + sum_reads cs) →
      n ≤ m → Allows W kind n m
  allowed (ks, d, few, each, most) h = record { keys = ks; distinct = d; few = few; each = each; most = most; later = h }

  -- the walk as far as it came
  as_part : {n m : ℕ} →
      (notes : List (Claim Key Outcome)) × (stack : List Key) × Passes same_key max_demanded (program W) (root ∷ []) notes stack ×
      ((ks : List Key) × AreDistinct ks × (length ks ≤ max_demanded) × ((k : Key) → Member k ks → IsStackedKey notes stack k) ×
      ((cs : List (Counted Key)) → counted_keys cs ≡ ks → AreReads same_key (program W) cs → m ≤ n + sum_reads cs)) →
      n ≤ m → AllowsPart W (root ∷ []) n m
  as_part (notes, stack, p, a) h = (notes, stack, p, allowed a h)

  pub so_far_part : (n m : ℕ) (done : List (Claim Key Outcome)) (up : List Key) → Walking n m done up → AllowsPart W (root ∷ []) n m
  so_far_part n m done up h =
      as_part (Sp.so_far_spent same_key same_outcome (is_proper W.sheet) max_demanded (program W) key_equality outcome_equality (λ k. asks_test W.sheet (asks_proper W.sheet W.oracle W.version k)) root h.fine n m done up h.so_far) h.later

  -- and after a turn more
  pub turned_part : (n m l : ℕ) (done : List (Claim Key Outcome)) (up us : List Key) (k : Key) → Walking n m done up → up ≡ us ++ k ∷ [] → (m ≤ l) × (l ≤ m + 1) → AllowsPart W (root ∷ []) n l
  turned_part n m l done up us k h e b =
      let g = subst (Walking n m done) e h in
      as_part (Sp.turned_spent same_key same_outcome (is_proper W.sheet) max_demanded (program W) key_equality outcome_equality (λ k. asks_test W.sheet (asks_proper W.sheet W.oracle W.version k)) root g.fine n m l done us k g.so_far b.1) (omega (arith, g.later, b.0))

  pub begin_walk : (n : ℕ) → is_proper W.sheet root ≡ true → Walking n n [] (root ∷ [])
  begin_walk n f = record { fine = f; so_far = Go.begins same_key same_outcome (is_proper W.sheet) max_demanded (program W) key_equality outcome_equality (λ k. asks_test W.sheet (asks_proper W.sheet W.oracle W.version k)) root f n (omega arith); later = omega arith }

  pub top_free : (n m : ℕ) (done : List (Claim Key Outcome)) (us : List Key) (k : Key) → Walking n m done (us ++ k ∷ []) → noted same_key done k ≡ None
  top_free n m done us k h = Go.top_unnoted same_key same_outcome (is_proper W.sheet) max_demanded (program W) key_equality outcome_equality (λ k. asks_test W.sheet (asks_proper W.sheet W.oracle W.version k)) root h.fine n m done us k h.so_far

  pub top_proper : (n m : ℕ) (done : List (Claim Key Outcome)) (us : List Key) (k : Key) → Walking n m done (us ++ k ∷ []) → IsProperKey W.sheet k
  top_proper n m done us k h = test_proper W.sheet k (Go.top_allowed same_key same_outcome (is_proper W.sheet) max_demanded (program W) key_equality outcome_equality (λ k. asks_test W.sheet (asks_proper W.sheet W.oracle W.version k)) root h.fine n m done us k h.so_far)

  -- what a walk that ended found
  ends_sound : (h : is_proper W.sheet root ≡ true) (done : List (Claim Key Outcome)) (up : List Key) → IsWalk same_key max_demanded (program W) (root ∷ []) (Explained done up) →
      Wa.Sound same_key same_outcome (is_proper W.sheet) max_demanded (program W) key_equality outcome_equality (λ k. asks_test W.sheet (asks_proper W.sheet W.oracle W.version k)) root h done up
  ends_sound h done up (i, e) = Wa.walk_finds same_key same_outcome (is_proper W.sheet) max_demanded (program W) key_equality outcome_equality (λ k. asks_test W.sheet (asks_proper W.sheet W.oracle W.version k)) root h i (Explained done up) e

  pub end_empty : (n m : ℕ) (done : List (Claim Key Outcome)) → Walking n m done [] → HasEnded W root n m done []
  end_empty n m done h =
      let e = Go.emptied same_key same_outcome (is_proper W.sheet) max_demanded (program W) key_equality outcome_equality (λ k. asks_test W.sheet (asks_proper W.sheet W.oracle W.version k)) root h.fine n m done h.so_far in
      record { walked = e; allows = allowed (Sp.emptied_spent same_key same_outcome (is_proper W.sheet) max_demanded (program W) key_equality outcome_equality (λ k. asks_test W.sheet (asks_proper W.sheet W.oracle W.version k)) root h.fine n m done h.so_far (ends_sound h.fine done [] e)) h.later }

  -- a turn where the top has an outcome
  pub off_turned : (n m l : ℕ) (done more : List (Claim Key Outcome)) (up us : List Key) (o : Outcome) (t : Turned) → Walking n m done up → IsTakenOff o done up t more us →
      ((k : Key) (vs : List Key) → up ≡ vs ++ k ∷ [] → found (noted same_key done) (program W k) ≡ Ready o) → (m ≤ l) × (l ≤ m + 1) → IsTurned W root n l more us t
  off_turned n m l done more up us o t h x f b =
      subst (IsTurned W root n l more us) (sym x.goes_on)
      (subst (λ d. Walking n l d us) (sym x.noted)
      (let g = subst (Walking n m done) x.off h in
      record { fine = g.fine; so_far = Go.taken_off same_key same_outcome (is_proper W.sheet) max_demanded (program W) key_equality outcome_equality (λ k. asks_test W.sheet (asks_proper W.sheet W.oracle W.version k)) root g.fine n m l done us x.top o g.so_far (f x.top us x.off) b.1; later = omega (arith, g.later, b.0) }))

  -- a turn where it lacks a key
  pub on_turned : (n m l : ℕ) (done : List (Claim Key Outcome)) (up us vs : List Key) (k j : Key) (a : PlainMark) (ms ns : List PlainMark) (t : Turned) → Walking n m done up → up ≡ us ++ k ∷ [] → IsPutOn j a done up ms t vs ns →
      found (noted same_key done) (program W k) ≡ Need j → (m ≤ l) × (l ≤ m + 1) → IsTurned W root n l done vs t
  on_turned n m l done up us vs k j a ms ns t h e p f b = by t vs ns p
    where
      g : Walking n m done (us ++ k ∷ [])
      g = subst (Walking n m done) e h

      by : (t : Turned) (vs : List Key) (ns : List PlainMark) → IsPutOn j a done up ms t vs ns → IsTurned W root n l done vs t
      by _ _ _ (there i) =
          let i' = subst (λ z. has_member same_key j z ≡ true) e i in
          let c = Go.circled same_key same_outcome (is_proper W.sheet) max_demanded (program W) key_equality outcome_equality (λ k. asks_test W.sheet (asks_proper W.sheet W.oracle W.version k)) root g.fine n m done us k j g.so_far f i' in
          subst (HasEnded W root n l done) (sym e)
          (record { walked = c; allows = allowed (Sp.circled_spent same_key same_outcome (is_proper W.sheet) max_demanded (program W) key_equality outcome_equality (λ k. asks_test W.sheet (asks_proper W.sheet W.oracle W.version k)) root g.fine n m l done us k g.so_far (ends_sound g.fine done (us ++ k ∷ []) c) b.1) (omega (arith, g.later, b.0)) })
      by _ _ _ (full i c) =
          let i' = subst (λ z. has_member same_key j z ≡ false) e i in
          let c' = subst (λ z. length done + length z ≡ max_demanded) e c in
          record {
            walked = Go.exhausted same_key same_outcome (is_proper W.sheet) max_demanded (program W) key_equality outcome_equality (λ k. asks_test W.sheet (asks_proper W.sheet W.oracle W.version k)) root g.fine n m done us k j g.so_far f i' c';
            allows = allowed (Sp.exhausted_spent same_key same_outcome (is_proper W.sheet) max_demanded (program W) key_equality outcome_equality (λ k. asks_test W.sheet (asks_proper W.sheet W.oracle W.version k)) root g.fine n m l done us k g.so_far b.1) (omega (arith, g.later, b.0));
          }
      by _ _ _ (on i c) =
          let i' = subst (λ z. has_member same_key j z ≡ false) e i in
          let c' : length done + length (us ++ k ∷ []) ≡ max_demanded → ⊥ = λ z. c (ap (λ y. length done + length y) e ∙ z) in
          subst (λ z. Walking n l done (z ++ j ∷ [])) (sym e)
          (record { fine = g.fine; so_far = Go.put_on same_key same_outcome (is_proper W.sheet) max_demanded (program W) key_equality outcome_equality (λ k. asks_test W.sheet (asks_proper W.sheet W.oracle W.version k)) root g.fine n m l done us k j g.so_far f i' c' b.1; later = omega (arith, g.later, b.0) })

  walking_room : (n m : ℕ) (done : List (Claim Key Outcome)) (up : List Key) → Walking n m done up → length done + length up ≤ max_demanded
  walking_room n m done up h = omega (arith, h.so_far.room, ap length h.so_far.order, ap length h.so_far.stacked, length-reverse h.so_far.notes, length-reverse h.so_far.stack)

  pub put_falls : (n m : ℕ) (done : List (Claim Key Outcome)) (up vs : List Key) (j : Key) (a : PlainMark) (ms ns : List PlainMark) (t : Turned) → Walking n m done up → IsPutOn j a done up ms t vs ns → t ≡ On → left done vs < left done up
  put_falls n m done up vs j a ms ns t h p e = by t vs ns p e
    where
      by : (t : Turned) (vs : List Key) (ns : List PlainMark) → IsPutOn j a done up ms t vs ns → t ≡ On → left done vs < left done up
      by _ _ _ (there i) e = absurd (cc e)
      by _ _ _ (full i c) e = absurd (cc e)
      by _ _ _ (on i c) e = omega (arith, c, walking_room n m done up h, length-append up (j ∷ []))

-- the keys on the stack stay sound
pub put_sound : (done : List (Claim Key Outcome)) (up vs : List Key) (j : Key) (a : PlainMark) (ms ns : List PlainMark) (t : Turned) → IsPutOn j a done up ms t vs ns → AreSoundKeys up → IsTrue (is_sound_key j) → AreSoundKeys vs
put_sound done up _ j a ms _ _ (there i) h s = h
put_sound done up _ j a ms _ _ (full i c) h s = h
put_sound done up _ j a ms _ _ (on i c) h s = more_sound up j h s

-- a walk without a turn
pub no_part : (W : World) (from : List Key) (n : ℕ) → AllowsPart W from n n
no_part W from n = ([], from, (0, λ i. ap (λ x. walk same_key max_demanded (program W) x [] from) (let c : 0 + i ≡ i = omega arith in c)), no_steps W (IsStackedKey [] from) n)
