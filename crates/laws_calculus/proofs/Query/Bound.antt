-- What the keys allow, by their true reads.
use Rattle.std.proofs.Common.{◌≡◌, ℕ, suc, ◌+◌, ◌≤◌, List, [], ◌∷◌, ◌++◌, inl, inr, Bool, true, false, cond, Option, Some, None, length, refl, sym, ap, subst, arith}
use Rattle.gl_calculus.specs.Computation.Lists.{Member, IsEquality, distinct}
use Rattle.gl_calculus.specs.Computation.Query.{Query, Found, next, Path, Returns, Looks, Asks, Stops, val, Has, Loops, IsTrueTable}
use Rattle.gl_machine.specs.Machine.{Entry}
use Rattle.gl_calculus.specs.Computation.Reads.{IsReads}
use Rattle.gl_machine.specs.Costs.{answered_keys, known_reads, allowed, unnoted}
use Rattle.gl_calculus.specs.Steps.Counted.{Counted, counted_keys, sum_reads, AreReads}
use Rattle.laws_calculus.proofs.Query.Levels.{Has-one}
use Rattle.laws_calculus.proofs.Query.Cost.{fresh_grows}

-- the answered keys over a true table begin the keys of a true path
pub answered_prefix : {K O A : Type 0} (program : K → Query K O A O) (f : K → Option O) → IsTrueTable program f → (N : K → Type 0) → ((k : K) (x : O) → Has program k x → N k → ⊥) → {q : Query K O A O} {ks : List K} {ls : List A} {e : Found K O} → Path (Has program) N q ks ls e → (more : List K) × (ks ≡ answered_keys f q ++ more)
answered_prefix program f t N d Returns = ([], refl)
answered_prefix program f t N d (Looks p) = answered_prefix program f t N d p
answered_prefix {K} {O} {A} program f t N d (Asks {k = k} {c = c} {o = x} {ks = ks} r p) =
    (elim (f k) as (λ v. f k ≡ v → (more : List K) × (k ∷ ks ≡ next [] v (λ o. k ∷ answered_keys f (c o)) ++ more)) [
      | None ↦ λ e. (k ∷ ks, refl)
      | Some y ↦ λ e.
          let (more, u) = answered_prefix program f t N d p in
          (more, subst (λ z. k ∷ ks ≡ (k ∷ answered_keys f (c z)) ++ more) (Has-one program k x y r (t k y e)) (ap (λ z. k ∷ z) u))
    ]) refl
answered_prefix {K} {O} {A} program f t N d (Stops {k = k} {c = c} n) =
    (elim (f k) as (λ v. f k ≡ v → (more : List K) × (k ∷ [] ≡ next [] v (λ o. k ∷ answered_keys f (c o)) ++ more)) [
      | None ↦ λ e. (k ∷ [], refl)
      | Some y ↦ λ e. absurd (d k y (t k y e) n)
    ]) refl

module _ {K O A : Type 0} (same : K → K → Bool) (eq : IsEquality same) (program : K → Query K O A O) where
  -- the resolved reads of a key are no more than its reads
  pub known_within : (f : K → Option O) → IsTrueTable program f → (k : K) (rs : List K) → IsReads same program k rs → known_reads same f (program k) ≤ length rs
  known_within f t k rs (ks, ls, e, p, d) =
      let (more, u) = answered_prefix program f t (Loops program) (λ i x. has_loops i x) p in
      let a : length (distinct same (answered_keys f (program k))) ≤ length (distinct same (answered_keys f (program k) ++ more)) = fresh_grows same eq (answered_keys f (program k)) more [] in
      subst (λ z. known_reads same f (program k) ≤ length z) (sym d) (subst (λ z. known_reads same f (program k) ≤ length (distinct same z)) (sym u) a)
    where
      has_loops : (i : K) (x : O) → Has program i x → Loops program i → ⊥
      has_loops i x (n, h) l = let g : val program n i ≡ None = l n in cc

  -- What the known keys without a note allow is at most the sum of 1 and the number of reads, over any list that holds each of them once with its reads.
  pub allowed_within : (noted : K → Bool) (f : K → Option O) → IsTrueTable program f → (xs : List (Entry K O)) (cs : List (Counted K)) → counted_keys cs ≡ unnoted noted xs → AreReads same program cs → allowed same program noted f xs ≤ sum_reads cs
  allowed_within noted f t [] cs e r = omega arith
  allowed_within noted f t (x ∷ xs) cs e r =
      (elim (noted x.key) as (λ b. counted_keys cs ≡ cond b (unnoted noted xs) (x.key ∷ unnoted noted xs) → cond b 0 (suc (known_reads same f (program x.key))) + allowed same program noted f xs ≤ sum_reads cs) [
        | true ↦ λ d. let h = allowed_within noted f t xs cs d r in omega arith
        | false ↦ λ d. first x.key (unnoted noted xs) (allowed same program noted f xs) cs d r (allowed_within noted f t xs)
      ]) e
    where
      first : (k : K) (ks : List K) (n : ℕ) (cs : List (Counted K)) → counted_keys cs ≡ k ∷ ks → AreReads same program cs → ((cs : List (Counted K)) → counted_keys cs ≡ ks → AreReads same program cs → n ≤ sum_reads cs) → suc (known_reads same f (program k)) + n ≤ sum_reads cs
      first k ks n [] d r h = absurd (cc d)
      first k ks n (c ∷ cs) d (a, r) h =
          let u : c.0 ≡ k = cc d in
          let v : counted_keys cs ≡ ks = cc d in
          let w = h cs v r in
          let z : known_reads same f (program k) ≤ length c.1 = known_within f t k c.1 (subst (λ y. IsReads same program y c.1) u a) in
          omega arith

  -- where nothing is idle, there is such a list
  pub counted : (noted : K → Bool) (f : K → Option O) (xs : List (Entry K O)) → ((x : Entry K O) → Member x xs → (rs : List K) × IsReads same program x.key rs) → (cs : List (Counted K)) × (counted_keys cs ≡ unnoted noted xs) × AreReads same program cs
  counted noted f [] h = ([], refl, tt)
  counted noted f (x ∷ xs) h =
      let (rs, r) = h x (inl refl) in
      let (cs, e, a) = counted noted f xs (λ y m. h y (inr m)) in
      elim (noted x.key) as (λ b. (cs : List (Counted K)) × (counted_keys cs ≡ cond b (unnoted noted xs) (x.key ∷ unnoted noted xs)) × AreReads same program cs) [
        | true ↦ (cs, e, a)
        | false ↦ ((x.key, rs) ∷ cs, ap (λ t. x.key ∷ t) e, (r, a))
      ]
