-- Two queries that go the same way where their keys have the same outcomes, whatever places they look at.
use Rattle.std.proofs.Common.{◌≡◌, ℕ, ◌+◌, inl, inr, Some, None, refl, subst, sym, add_comm}
use Rattle.gl_calculus.specs.Computation.Query.{Query, Return, Look, Ask, next, run, val, Has, IsAsked, Gives}
use Rattle.gl_calculus.specs.Computation.Evaluation.{Evaluation, Done, LookAt, Demand, bind, given}
use Rattle.laws_calculus.proofs.Query.Levels.{val-add}

-- Both ask only keys with one property, and return one result with another, where each answer has a third.
pub data Alike {K O A R : Type 0} (P : K → Type 0) (T : K → O → Type 0) (Q : R → Type 0) : Query K O A R → Query K O A R → Type 0 where
  both_return : {r : R} → Q r → Alike P T Q (Return r) (Return r)
  both_look : {a : A} {q q' : Query K O A R} → Alike P T Q q q' → Alike P T Q (Look a q) (Look a q')
  both_ask : {k : K} {c c' : O → Query K O A R} → P k → ((o : O) → T k o → Alike P T Q (c o) (c' o)) → Alike P T Q (Ask k c) (Ask k c')

module _ {K O A F R S : Type 0} (P : K → Type 0) (T : K → O → Type 0) (Q : R → Type 0) (Q' : S → Type 0) (facts facts' : A → F) (g g' : R → Evaluation K O A F S) (h : (r : R) → Q r → Alike P T Q' (given facts (g r)) (given facts' (g' r))) where
  pub alike_bind : (p p' : Evaluation K O A F R) → Alike P T Q (given facts p) (given facts' p') → Alike P T Q' (given facts (bind p g)) (given facts' (bind p' g'))
  alike_bind (Done r) (Done s) (both_return e) = h r e
  alike_bind (LookAt a c) (LookAt b c') (both_look e) = both_look (alike_bind (c (facts a)) (c' (facts' a)) e)
  alike_bind (Demand k c) (Demand j c') (both_ask p e) = both_ask p (λ o t. alike_bind (c o) (c' o) (e o t))
  alike_bind (Done r) (LookAt b c') e = elim e [ ]
  alike_bind (Done r) (Demand j c') e = elim e [ ]
  alike_bind (LookAt a c) (Done s) e = elim e [ ]
  alike_bind (LookAt a c) (Demand j c') e = elim e [ ]
  alike_bind (Demand k c) (Done s) e = elim e [ ]
  alike_bind (Demand k c) (LookAt b c') e = elim e [ ]

-- where each key has an outcome, so has the query
module _ {K O A : Type 0} (program : K → Query K O A O) (P : K → Type 0) (T : K → O → Type 0) (known : (k : K) → P k → (o : O) × Has program k o × T k o) where
  at_more : {R : Type 0} (n d : ℕ) (q : Query K O A R) (r : R) → run (val program n) q ≡ Some r → run (val program (n + d)) q ≡ Some r
  at_more n d (Return x) r e = e
  at_more n d (Look a q) r e = at_more n d q r e
  at_more n d (Ask k c) r e =
      (elim (val program n k) as (λ v. val program n k ≡ v → next None v (λ o. run (val program n) (c o)) ≡ Some r → next None (val program (n + d) k) (λ o. run (val program (n + d)) (c o)) ≡ Some r) [
        | None ↦ λ u z. absurd (cc z)
        | Some o ↦ λ u z. rw (val-add program n d k o u) (at_more n d (c o) r z)
      ]) refl e

  pub gives : {R : Type 0} {Q : R → Type 0} {q q' : Query K O A R} → Alike P T Q q q' → (r : R) × Gives program q r × Q r
  gives (both_return {r = r} e) = (r, (0, refl), e)
  gives (both_look e) = gives e
  gives (both_ask {k = k} {c = c} {c' = c'} p e) =
      let (o, (n, u), t) = known k p in
      let (r, (m, v), z) = gives (e o t) in
      let w : run (val program (n + m)) (c o) ≡ Some r = subst (λ i. run (val program i) (c o) ≡ Some r) (add_comm m n) (at_more m n (c o) r v) in
      (r, (n + m, rw (val-add program n m k o u) w), z)

-- and the other gives the same for another program, whose keys have the same outcomes
module _ {K O A : Type 0} (program program' : K → Query K O A O) (P : K → Type 0) (T : K → O → Type 0) (known : (k : K) → P k → (o : O) × Has program k o × Has program' k o × T k o) where
  pub gives_both : {R : Type 0} {Q : R → Type 0} {q q' : Query K O A R} → Alike P T Q q q' → (r : R) × Gives program q r × Gives program' q' r × Q r
  gives_both (both_return {r = r} e) = (r, (0, refl), (0, refl), e)
  gives_both (both_look e) = gives_both e
  gives_both (both_ask {k = k} {c = c} {c' = c'} p e) =
      let (o, (n, u), (n', u'), t) = known k p in
      let (r, (m, v), (m', v'), z) = gives_both (e o t) in
      let w : run (val program (n + m)) (c o) ≡ Some r = subst (λ i. run (val program i) (c o) ≡ Some r) (add_comm m n) (at_more program P T (λ k p. let (o, h, h', t) = known k p in (o, h, t)) m n (c o) r v) in
      let w' : run (val program' (n' + m')) (c' o) ≡ Some r = subst (λ i. run (val program' i) (c' o) ≡ Some r) (add_comm m' n') (at_more program' P T (λ k p. let (o, h, h', t) = known k p in (o, h', t)) m' n' (c' o) r v') in
      (r, (n + m, rw (val-add program n m k o u) w), (n' + m', rw (val-add program' n' m' k o u') w'), z)

pub alike_weaken : {K O A R : Type 0} {P : K → Type 0} {T : K → O → Type 0} (Q Q' : R → Type 0) → ((r : R) → Q r → Q' r) → {q q' : Query K O A R} → Alike P T Q q q' → Alike P T Q' q q'
alike_weaken Q Q' h (both_return {r = r} e) = both_return (h r e)
alike_weaken Q Q' h (both_look e) = both_look (alike_weaken Q Q' h e)
alike_weaken Q Q' h (both_ask p e) = both_ask p (λ o t. alike_weaken Q Q' h (e o t))

-- each key that is asked for on the way has the property
pub alike_asked : {K O A : Type 0} (program : K → Query K O A O) (P : K → Type 0) (T : K → O → Type 0) (Q : O → Type 0) → ((k : K) (o : O) → P k → Has program k o → T k o) → {q q' : Query K O A O} → Alike P T Q q q' → (j : K) → IsAsked program q j → P j
alike_asked program P T Q h (both_return e) j a = absurd a
alike_asked program P T Q h (both_look e) j a = alike_asked program P T Q h e j a
alike_asked program P T Q h (both_ask p e) j (inl d) = subst P (sym d) p
alike_asked program P T Q h (both_ask {k = k} p e) j (inr (o, g, a)) = alike_asked program P T Q h (e o (h k o p g)) j a
