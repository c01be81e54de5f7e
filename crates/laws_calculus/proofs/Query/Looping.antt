-- Keys asked for along true outcomes, and keys that loop.
use Rattle.std.proofs.Common.{◌≡◌, ℕ, zero, suc, List, inl, inr, Option, Some, None, refl, sym, subst}
use Rattle.gl_calculus.specs.Computation.Lists.{Member}
use Rattle.gl_calculus.specs.Computation.Query.{Query, Return, Look, Ask, Found, Ready, Need, next, run, found, asked, looked, Path, Returns, Looks, Asks, Stops, val, Has, Loops, IsTrueTable, IsAsked}
use Rattle.laws_calculus.proofs.Query.Levels.{path_over, path_map, Has-one, Has-Loops, Has-path}

module _ {K O A : Type 0} (program : K → Query K O A O) where
  -- the keys on a path along true outcomes are asked
  pub asked_on_path : (N : K → Type 0) → {q : Query K O A O} {ks : List K} {ls : List A} {e : Found K O} → Path (Has program) N q ks ls e → (j : K) → Member j ks → IsAsked program q j
  asked_on_path N Returns j m = m
  asked_on_path N (Looks p) j m = asked_on_path N p j m
  asked_on_path N (Asks r p) j (inl m) = inl m
  asked_on_path N (Asks {o = x} r p) j (inr m) = inr (x, r, asked_on_path N p j m)
  asked_on_path N (Stops n) j (inl m) = inl m
  asked_on_path N (Stops n) j (inr m) = absurd m

  -- and each key asked is on it, where the relation for its end holds of no key with an outcome
  pub on_path_asked : (N : K → Type 0) → ((k : K) (x : O) → Has program k x → N k → ⊥) → {q : Query K O A O} {ks : List K} {ls : List A} {e : Found K O} → Path (Has program) N q ks ls e → (j : K) → IsAsked program q j → Member j ks
  on_path_asked N d Returns j m = m
  on_path_asked N d (Looks p) j m = on_path_asked N d p j m
  on_path_asked N d (Asks r p) j (inl m) = inl m
  on_path_asked N d (Asks {k = k} {c = c} {o = x} r p) j (inr (y, s, m)) =
      inr (on_path_asked N d p j (subst (λ t. IsAsked program (c t) j) (Has-one program k y x s r) m))
  on_path_asked N d (Stops n) j (inl m) = inl m
  on_path_asked N d (Stops {k = k} n) j (inr (y, s, m)) = absurd (d k y s n)

  -- each key asked on a path to an outcome has an outcome
  pub asked_has : (N : K → Type 0) → {q : Query K O A O} {ks : List K} {ls : List A} {o : O} → Path (Has program) N q ks ls (Ready o) → (j : K) → Member j ks → (x : O) × Has program j x
  asked_has N Returns j m = absurd m
  asked_has N (Looks p) j m = asked_has N p j m
  asked_has N (Asks {o = x} r p) j (inl m) = (x, subst (λ t. Has program t x) (sym m) r)
  asked_has N (Asks r p) j (inr m) = asked_has N p j m

  -- a key with an outcome asks only for keys with outcomes
  pub reads_have : (k : K) (o : O) → Has program k o → (j : K) → IsAsked program (program k) j → (x : O) × Has program j x
  reads_have k o h j a =
      let (ks, ls, p) = Has-path program (Loops program) k o h in
      asked_has (Loops program) p j (on_path_asked (Loops program) (λ i x. Has-Loops program i x) p j a)

  -- a walk over true outcomes is a path along them
  pub true_path : (f : K → Option O) → IsTrueTable program f → (q : Query K O A O) → Path (Has program) (λ k. f k ≡ None) q (asked f q) (looked f q) (found f q)
  true_path f t q = path_map (λ k o. f k ≡ Some o) (Has program) (λ k. f k ≡ None) (λ k. f k ≡ None) t (λ k n. n) (path_over f q)

  -- where it ends at a key without known outcome, this key is asked and isn't in the table
  pub needs_asked : {N : K → Type 0} {q : Query K O A O} {ks : List K} {ls : List A} {j : K} → Path (Has program) N q ks ls (Need j) → IsAsked program q j
  needs_asked (Looks p) = needs_asked p
  needs_asked (Asks {o = x} r p) = inr (x, r, needs_asked p)
  needs_asked (Stops n) = inl refl

  pub needs_fails : {R : K → O → Type 0} {N : K → Type 0} {q : Query K O A O} {ks : List K} {ls : List A} {j : K} → Path R N q ks ls (Need j) → N j
  needs_fails (Looks p) = needs_fails p
  needs_fails (Asks r p) = needs_fails p
  needs_fails (Stops n) = n

  -- where a key that is asked has no outcome with n levels, neither has the query over n levels
  pub stuck : (n : ℕ) (q : Query K O A O) (j : K) → IsAsked program q j → val program n j ≡ None → run (val program n) q ≡ None
  stuck n (Return o) j a e = absurd a
  stuck n (Look l q) j a e = stuck n q j a e
  stuck n (Ask k c) j (inl m) e = let d : val program n k ≡ None = subst (λ t. val program n t ≡ None) m e in rw d refl
  stuck n (Ask k c) j (inr (x, r, a)) e =
      (elim (val program n k) as (λ v. val program n k ≡ v → next None v (λ o. run (val program n) (c o)) ≡ None) [
        | None ↦ λ d. refl
        | Some y ↦ λ d. stuck n (c y) j (subst (λ t. IsAsked program (c t) j) (Has-one program k x y r (n, d)) a) e
      ]) refl

  -- a key that asks for one that loops, loops
  pub asks_looping : (k j : K) → IsAsked program (program k) j → Loops program j → Loops program k
  asks_looping k j a l zero = refl
  asks_looping k j a l (suc n) = stuck n (program k) j a (l n)

  -- A set of keys each of which asks for a key of the set: all of them loop.
  pub circle_loops : (S : K → Type 0) → ((k : K) → S k → (j : K) × IsAsked program (program k) j × S j) → (k : K) → S k → Loops program k
  circle_loops S h k s zero = refl
  circle_loops S h k s (suc n) = let (j, a, t) = h k s in stuck n (program k) j a (circle_loops S h j t n)
