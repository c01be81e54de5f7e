-- The steps of picks against what the keys allow.
use Rattle.std.proofs.Common.{◌≡◌, suc, ◌≤◌, List, [], ◌∷◌, ◌++◌, ◌⊎◌, inl, inr, Bool, true, false, cond, Option, Some, None, length, refl, sym, ap, subst, arith}
use Rattle.gl_calculus.specs.Computation.Lists.{Member, IsEquality, has_member, fresh, distinct}
use Rattle.gl_calculus.specs.Computation.Query.{Query, Return, Look, Ask, Need, next, found, asked, looked, Path, Looks, Asks, Stops}
use Rattle.gl_machine.specs.Costs.{answered_keys, known_reads}
use Rattle.laws_calculus.proofs.Query.Levels.{path_over}
use Rattle.laws_calculus.proofs.Query.Quiet.{seen_member}

-- over more answers more keys are answered, at the end
pub answered_more : {K O A : Type 0} (f g : K → Option O) → ((k : K) (o : O) → f k ≡ Some o → g k ≡ Some o) → (q : Query K O A O) → (more : List K) × (answered_keys g q ≡ answered_keys f q ++ more)
answered_more f g h (Return o) = ([], refl)
answered_more f g h (Look a q) = answered_more f g h q
answered_more {K} {O} {A} f g h (Ask k c) =
    (elim (f k) as (λ v. f k ≡ v → (more : List K) × (next [] (g k) (λ o. k ∷ answered_keys g (c o)) ≡ next [] v (λ o. k ∷ answered_keys f (c o)) ++ more)) [
      | None ↦ λ e. (answered_keys g (Ask k c), refl)
      | Some o ↦ λ e. let (more, d) = answered_more f g h (c o) in (more, rw (h k o e) (ap (λ t. k ∷ t) d))
    ]) refl

-- and the key that was lacking comes next, once it has an answer
pub answered_next : {K O A : Type 0} (f g : K → Option O) → ((k : K) (o : O) → f k ≡ Some o → g k ≡ Some o) → {q : Query K O A O} {ks : List K} {ls : List A} {j : K} → Path (λ k o. f k ≡ Some o) (λ k. f k ≡ None) q ks ls (Need j) → (y : O) → g j ≡ Some y → (more : List K) × (answered_keys g q ≡ answered_keys f q ++ j ∷ more)
answered_next f g h (Looks p) y d = answered_next f g h p y d
answered_next f g h (Asks {k = k} {c = c} {o = x} r p) y d = let (more, e) = answered_next f g h p y d in (more, rw (r, h k x r) (ap (λ t. k ∷ t) e))
answered_next f g h (Stops {k = k} {c = c} n) y d = (answered_keys g (c y), rw (n, d) refl)

-- no key is answered that the table lacks
pub answered_has : {K O A : Type 0} (f : K → Option O) (q : Query K O A O) (j : K) → Member j (answered_keys f q) → (x : O) × (f j ≡ Some x)
answered_has f (Return o) j m = absurd m
answered_has f (Look a q) j m = answered_has f q j m
answered_has {K} {O} {A} f (Ask k c) j m =
    (elim (f k) as (λ v. f k ≡ v → Member j (next [] v (λ o. k ∷ answered_keys f (c o))) → (x : O) × (f j ≡ Some x)) [
      | None ↦ λ e w. absurd w
      | Some o ↦ λ e w. here o e (answered_has f (c o) j) w
    ]) refl m
  where
    here : (o : O) → f k ≡ Some o → (Member j (answered_keys f (c o)) → (x : O) × (f j ≡ Some x)) → (j ≡ k) ⊎ Member j (answered_keys f (c o)) → (x : O) × (f j ≡ Some x)
    here o e ih (inl d) = (o, subst (λ t. f t ≡ Some o) (sym d) e)
    here o e ih (inr w) = ih w

module _ {K : Type 0} (same : K → K → Bool) (eq : IsEquality same) where
  not_seen : (xs : List K) (k : K) → (Member k xs → ⊥) → has_member same k xs ≡ false
  not_seen xs k n = (elim (has_member same k xs) as (λ b. has_member same k xs ≡ b → b ≡ false) [ true ↦ λ e. absurd (n (seen_member same eq xs k e)) | false ↦ λ e. refl ]) refl

  pub fresh_grows : (xs ys seen : List K) → length (fresh same seen xs) ≤ length (fresh same seen (xs ++ ys))
  fresh_grows [] ys seen = omega arith
  fresh_grows (x ∷ xs) ys seen =
      elim (has_member same x seen) as (λ b. length (cond b (fresh same seen xs) (x ∷ fresh same (x ∷ seen) xs)) ≤ length (cond b (fresh same seen (xs ++ ys)) (x ∷ fresh same (x ∷ seen) (xs ++ ys)))) [
        | true ↦ fresh_grows xs ys seen
        | false ↦ let h = fresh_grows xs ys (x ∷ seen) in omega arith
      ]

  pub fresh_strict : (xs ys seen : List K) (j : K) → (Member j seen → ⊥) → (Member j xs → ⊥) → suc (length (fresh same seen xs)) ≤ length (fresh same seen (xs ++ j ∷ ys))
  fresh_strict [] ys seen j n m = rw (not_seen seen j n) (omega arith)
  fresh_strict (x ∷ xs) ys seen j n m =
      elim (has_member same x seen) as (λ b. suc (length (cond b (fresh same seen xs) (x ∷ fresh same (x ∷ seen) xs))) ≤ length (cond b (fresh same seen (xs ++ j ∷ ys)) (x ∷ fresh same (x ∷ seen) (xs ++ j ∷ ys)))) [
        | true ↦ fresh_strict xs ys seen j n (λ w. m (inr w))
        | false ↦ let h = fresh_strict xs ys (x ∷ seen) j (none_of (λ e. m (inl e)) n) (λ w. m (inr w)) in omega arith
      ]
    where
      none_of : {P Q : Type 0} → (P → ⊥) → (Q → ⊥) → P ⊎ Q → ⊥
      none_of a b (inl p) = a p
      none_of a b (inr q) = b q

module _ {K O A : Type 0} (same : K → K → Bool) (eq : IsEquality same) (f g : K → Option O) (more : (k : K) (o : O) → f k ≡ Some o → g k ≡ Some o) where
  pub known_grows : (q : Query K O A O) → known_reads same f q ≤ known_reads same g q
  known_grows q = let (ys, e) = answered_more f g more q in subst (λ t. known_reads same f q ≤ length (distinct same t)) (sym e) (fresh_grows same eq (answered_keys f q) ys [])

  pub known_strict : (q : Query K O A O) (j : K) (y : O) → found f q ≡ Need j → g j ≡ Some y → suc (known_reads same f q) ≤ known_reads same g q
  known_strict q j y e d =
      let p = subst (λ t. Path (λ k o. f k ≡ Some o) (λ k. f k ≡ None) q (asked f q) (looked f q) t) e (path_over f q) in
      let (ys, u) = answered_next f g more p y d in
      subst (λ t. suc (known_reads same f q) ≤ length (distinct same t)) (sym u)
      (fresh_strict same eq (answered_keys f q) ys [] j (λ m. m) (λ m. let (x, h) = answered_has f q j m in let n = fails p in absurd (cc (h, n))))
    where
      fails : {q : Query K O A O} {ks : List K} {ls : List A} {j : K} → Path (λ k o. f k ≡ Some o) (λ k. f k ≡ None) q ks ls (Need j) → f j ≡ None
      fails (Looks p) = fails p
      fails (Asks r p) = fails p
      fails (Stops n) = n
