-- How many steps a walk takes: each turn on a key takes one.
use Rattle.std.proofs.Common.{◌≡◌, ℕ, suc, ◌+◌, ◌≤◌, Bool, List, [], ◌∷◌, Option, Some, refl, subst, arith}
use Rattle.gl_calculus.specs.Computation.Lists.{IsEquality}
use Rattle.gl_calculus.specs.Computation.Query.{Query, Need, found, IsTrueTable}
use Rattle.gl_machine.specs.Costs.{known_reads}
use Rattle.gl_calculus.specs.Steps.Counted.{Counted, counted_keys, sum_reads, AreReads}
use Rattle.laws_calculus.proofs.Query.Cost.{known_grows, known_strict}
use Rattle.gl_calculus.specs.Computation.Reads.{IsReads}
use Rattle.laws_calculus.proofs.Query.Bound.{known_within}

module _ {K O A : Type 0} (same : K → K → Bool) (eq : IsEquality same) (program : K → Query K O A O) where
  -- what keys allow by the reads that have claims: 1 and one for each
  abbrev pub whole : (K → Option O) → List K → ℕ
  whole f [] = 0
  whole f (k ∷ ks) = suc (known_reads same f (program k)) + whole f ks

  -- the same for a stack, of which the top may still take its last step
  abbrev pub open_ : (K → Option O) → List K → ℕ
  open_ f [] = 0
  open_ f (k ∷ ks) = known_reads same f (program k) + whole f ks

  whole_grows : (f g : K → Option O) → ((k : K) (o : O) → f k ≡ Some o → g k ≡ Some o) → (ks : List K) → whole f ks ≤ whole g ks
  whole_grows f g h [] = omega arith
  whole_grows f g h (k ∷ ks) = omega (arith, known_grows same eq f g h (program k), whole_grows f g h ks)

  -- a turn that puts a key on takes one step within what is allowed
  pub put_step : (f : K → Option O) (done : List K) (k j : K) (rest : List K) → whole f done + open_ f (k ∷ rest) + 1 ≤ whole f done + open_ f (j ∷ k ∷ rest)
  put_step f done k j rest = omega arith

  -- a turn that notes the top, for which the key below waited, too
  pub note_step : (f g : K → Option O) → ((k : K) (o : O) → f k ≡ Some o → g k ≡ Some o) → (done : List K) (k : K) (rest : List K) (o : O) → g k ≡ Some o → ((b : K) (bs : List K) → rest ≡ b ∷ bs → found f (program b) ≡ Need k) →
      whole f done + open_ f (k ∷ rest) + 1 ≤ whole g (k ∷ done) + open_ g rest
  note_step f g h done k [] o e n = omega (arith, known_grows same eq f g h (program k), whole_grows f g h done)
  note_step f g h done k (b ∷ bs) o e n =
      omega (arith, known_grows same eq f g h (program k), whole_grows f g h done, whole_grows f g h bs, known_strict same eq f g h (program b) k o (n b bs refl) e)

  -- the last turn of a walk that ends at its top
  pub last_step : (f : K → Option O) (done : List K) (k : K) (rest : List K) → whole f done + open_ f (k ∷ rest) + 1 ≤ whole f done + whole f (k ∷ rest)
  last_step f done k rest = omega arith

  pub open_within : (f : K → Option O) (ks : List K) → open_ f ks ≤ whole f ks
  open_within f [] = omega arith
  open_within f (k ∷ ks) = omega arith

  -- and this is at most 1 and the number of reads of each, by any list of their true reads
  pub whole_within : (f : K → Option O) → IsTrueTable program f → (ks : List K) (cs : List (Counted K)) → counted_keys cs ≡ ks → AreReads same program cs → whole f ks ≤ sum_reads cs
  whole_within f t [] cs e r = omega arith
  whole_within f t (k ∷ ks) [] e r = absurd (cc e)
  whole_within f t (k ∷ ks) (c ∷ cs) e (a, r) =
      let u : c.0 ≡ k = cc e in
      let v : counted_keys cs ≡ ks = cc e in
      let z = known_within same eq program f t k c.1 (subst (λ y. IsReads same program y c.1) u a) in
      omega (arith, z, whole_within f t ks cs v r)
