-- An address has one explanation.
use Rattle.std.proofs.Common.{◌≡◌, ℕ, zero, suc, ◌+◌, ◌==◌, Bool, true, false, cond, List, [], ◌∷◌, length, reverse, Some, None, refl, sym, ◌∙◌, subst, ap, add-zero, add-suc, add_comm}
use Rattle.gl_calculus.specs.Computation.Lists.{has_member}
use Rattle.gl_calculus.specs.Computation.Query.{Query, Found, Ready, Need, found}
use Rattle.gl_calculus.specs.Grid.Grid.{Addr}
use Rattle.gl_calculus.specs.Grid.Limits.{max_demanded}
use Rattle.gl_calculus.specs.Evaluation.Key.{Key, same_key, Budget, Outcome, Abort}
use Rattle.gl_calculus.specs.Evaluation.World.{World}
use Rattle.gl_calculus.specs.Evaluation.Evaluation.{program}
use Rattle.gl_calculus.specs.Calculation.Calculation.{Shown}
use Rattle.gl_calculus.specs.Explanation.Walk.{Claim, noted, Walked, Explained, Exhausted, turn, walk}
use Rattle.gl_calculus.specs.Explanation.Certificate.{says, key_at, start, Answer, Cert, Aborts, Explains, work, aborts, cert}
use Rattle.gl_calculus.specs.Explanation.Certificate as Ce

-- ---- the walk

module _ {K O A : Type 0} (same : K → K → Bool) (limit : ℕ) (program : K → Query K O A O) where
  longer : (n : ℕ) (ns : List (Claim K O)) (stack : List K) (r : Walked K O) → walk same limit program n ns stack ≡ Some r → walk same limit program (suc n) ns stack ≡ Some r
  longer zero ns stack r e = absurd (cc e)
  longer (suc n) ns [] r e = e
  longer (suc n) ns (k ∷ rest) r e = by (found (noted same ns) (program k)) e (λ o. longer n ((k, o) ∷ ns) rest r) (λ j. longer n ns (j ∷ k ∷ rest) r)
    where
      by : (f : Found K O) → turn same limit program (walk same limit program n) ns k rest f ≡ Some r →
          ((o : O) → walk same limit program n ((k, o) ∷ ns) rest ≡ Some r → walk same limit program (suc n) ((k, o) ∷ ns) rest ≡ Some r) →
          ((j : K) → walk same limit program n ns (j ∷ k ∷ rest) ≡ Some r → walk same limit program (suc n) ns (j ∷ k ∷ rest) ≡ Some r) →
          turn same limit program (walk same limit program (suc n)) ns k rest f ≡ Some r
      by (Ready o) z g h = g o z
      by (Need j) z g h =
          (elim (has_member same j (k ∷ rest)) as (λ b. cond b (Some (Explained (reverse ns) (reverse (k ∷ rest)))) (cond (length ns + length (k ∷ rest) == limit) (Some Exhausted) (walk same limit program n ns (j ∷ k ∷ rest))) ≡ Some r → cond b (Some (Explained (reverse ns) (reverse (k ∷ rest)))) (cond (length ns + length (k ∷ rest) == limit) (Some Exhausted) (walk same limit program (suc n) ns (j ∷ k ∷ rest))) ≡ Some r) [
            | true ↦ λ y. y
            | false ↦ (elim (length ns + length (k ∷ rest) == limit) as (λ b. cond b (Some Exhausted) (walk same limit program n ns (j ∷ k ∷ rest)) ≡ Some r → cond b (Some Exhausted) (walk same limit program (suc n) ns (j ∷ k ∷ rest)) ≡ Some r) [ true ↦ λ y. y | false ↦ λ y. h j y ])
          ]) z

  much_longer : (n d : ℕ) (ns : List (Claim K O)) (stack : List K) (r : Walked K O) → walk same limit program n ns stack ≡ Some r → walk same limit program (n + d) ns stack ≡ Some r
  much_longer n zero ns stack r e = rw add-zero e
  much_longer n (suc d) ns stack r e = rw add-suc (longer (n + d) ns stack r (much_longer n d ns stack r e))

  pub one_walk : (n m : ℕ) (ns : List (Claim K O)) (stack : List K) (r s : Walked K O) → walk same limit program n ns stack ≡ Some r → walk same limit program m ns stack ≡ Some s → r ≡ s
  one_walk n m ns stack r s e f =
      let p : walk same limit program (n + m) ns stack ≡ Some r = much_longer n m ns stack r e in
      let q : walk same limit program (n + m) ns stack ≡ Some s = rw (add_comm n m) (much_longer m n ns stack s f) in
      cc (p, q)

-- ---- explanations

module _ (W : World) (a : Addr) where
  same_walk : (r s : Walked Key Outcome) → Ce.IsWalked W a r → Ce.IsWalked W a s → r ≡ s
  same_walk r s (n, e) (m, f) = one_walk same_key max_demanded (program W) n m [] (start (key_at W.sheet W.oracle a)) r s e f

  -- a key with a spent budget says nothing
  says_none : (k : Key) (b : Budget) (notes : List (Claim Key Outcome)) (loops : List Key) (x : Shown) → key_at W.sheet W.oracle a ≡ Some k → noted same_key notes k ≡ Some (Abort b) → says W.sheet W.oracle a notes loops ≡ Some x → ⊥
  says_none k b notes loops x e n h = let z : None ≡ Some x = rw (e, n) at h in absurd (cc z)

  pub one_explanation : (x y : Answer) → Explains W a x → Explains W a y → x ≡ y
  one_explanation _ _ (work p) (work q) = refl
  one_explanation _ _ (work p) (aborts {notes = ns} {loops = ls} q e n) = let d : Exhausted ≡ Explained ns ls = same_walk _ _ p q in absurd (cc d)
  one_explanation _ _ (work p) (cert {notes = ns} {loops = ls} q e) = let d : Exhausted ≡ Explained ns ls = same_walk _ _ p q in absurd (cc d)
  one_explanation _ _ (aborts {notes = ns} {loops = ls} p e n) (work q) = let d : Exhausted ≡ Explained ns ls = same_walk _ _ q p in absurd (cc d)
  one_explanation _ _ (cert {notes = ns} {loops = ls} p e) (work q) = let d : Exhausted ≡ Explained ns ls = same_walk _ _ q p in absurd (cc d)
  one_explanation _ _ (aborts {k = k} {b = b} {notes = ns} {loops = ls} p e n) (aborts {k = j} {b = c} {notes = ms} {loops = ks} q f m) =
      let d : Explained ns ls ≡ Explained ms ks = same_walk _ _ p q in
      let u : ns ≡ ms = cc d in
      let v : k ≡ j = (let t : Some k ≡ Some j = sym e ∙ f in cc t) in
      let w' : Some (Abort b) ≡ Some (Abort c) = sym n ∙ ap (λ t. noted same_key t k) u ∙ ap (noted same_key ms) v ∙ m in
      let z : b ≡ c = cc w' in
      ap Aborts z
  one_explanation _ _ (aborts {k = k} {b = b} {notes = ns} {loops = ls} p e n) (cert {notes = ms} {loops = ks} {x = x} q h) =
      let d : Explained ns ls ≡ Explained ms ks = same_walk _ _ p q in
      let u : ns ≡ ms = cc d in
      absurd (says_none k b ms ks x e (subst (λ t. noted same_key t k ≡ Some (Abort b)) u n) h)
  one_explanation _ _ (cert {notes = ms} {loops = ks} {x = x} q h) (aborts {k = k} {b = b} {notes = ns} {loops = ls} p e n) =
      let d : Explained ns ls ≡ Explained ms ks = same_walk _ _ p q in
      let u : ns ≡ ms = cc d in
      absurd (says_none k b ms ks x e (subst (λ t. noted same_key t k ≡ Some (Abort b)) u n) h)
  one_explanation _ _ (cert {notes = ns} {loops = ls} {x = x} p h) (cert {notes = ms} {loops = ks} {x = y} q g) =
      let d : Explained ns ls ≡ Explained ms ks = same_walk _ _ p q in
      let u : ns ≡ ms = cc d in
      let v : ls ≡ ks = cc d in
      let t : Some x ≡ Some y = sym h ∙ ap (λ z. says W.sheet W.oracle a z ls) u ∙ ap (says W.sheet W.oracle a ms) v ∙ g in
      let z : x ≡ y = cc t in
      ap (λ o. Cert (record { notes = o; loops = ls; shown = x })) u ∙ ap (λ o. Cert (record { notes = ms; loops = o; shown = x })) v ∙ ap (λ o. Cert (record { notes = ms; loops = ks; shown = o })) z
