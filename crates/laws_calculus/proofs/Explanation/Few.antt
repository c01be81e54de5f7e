-- A walk finds no more keys than the limit.
use Rattle.std.proofs.Common.{◌≡◌, ℕ, zero, suc, ◌+◌, ◌==◌, ◌≤◌, List, [], ◌∷◌, length, reverse, Bool, true, false, cond, Option, Some, None, refl, subst, arith}
use Rattle.std.proofs.lemmas.Bool.{eqb-false}
use Rattle.std.proofs.lemmas.List.{length-reverse}
use Rattle.gl_calculus.specs.Computation.Lists.{has_member}
use Rattle.gl_calculus.specs.Computation.Query.{Query, Found, Ready, Need, found}
use Rattle.gl_calculus.specs.Grid.Limits.{max_demanded}
use Rattle.gl_calculus.specs.Evaluation.Key.{Key, same_key}
use Rattle.gl_calculus.specs.Evaluation.Evaluation.{program}
use Rattle.gl_calculus.specs.Explanation.Walk.{Claim, noted, Walked, Explained, Exhausted, turn, walk}
use Rattle.gl_calculus.specs.Explanation.Certificate.{start, key_at, cert}
use Rattle.laws_calculus.specs.Explanation.{FewKeys}

module _ {K O A : Type 0} (same : K → K → Bool) (limit : ℕ) (program : K → Query K O A O) where
  -- it found no more, or it found none
  abbrev IsFew : Walked K O → Type 0
  IsFew (Explained notes loops) = length notes + length loops ≤ limit
  IsFew Exhausted = Unit {0}

  back_few : (ns : List (Claim K O)) (stack : List K) → length ns + length stack ≤ limit → IsFew (Explained (reverse ns) (reverse stack))
  back_few ns stack h = omega (arith, h, length-reverse ns, length-reverse stack)

  pub walk_few : (n : ℕ) (ns : List (Claim K O)) (stack : List K) (r : Walked K O) → length ns + length stack ≤ limit → walk same limit program n ns stack ≡ Some r → IsFew r
  walk_few zero ns stack r h e = absurd (cc e)
  walk_few (suc n) ns [] r h e = let q : Explained (reverse ns) [] ≡ r = cc e in subst IsFew q (back_few ns [] h)
  walk_few (suc n) ns (k ∷ rest) r h e = by (found (noted same ns) (program k)) e (λ o. walk_few n ((k, o) ∷ ns) rest r (omega (arith, h))) (λ j. walk_few n ns (j ∷ k ∷ rest) r)
    where
      by : (f : Found K O) → turn same limit program (walk same limit program n) ns k rest f ≡ Some r →
          ((o : O) → walk same limit program n ((k, o) ∷ ns) rest ≡ Some r → IsFew r) →
          ((j : K) → length ns + length (j ∷ k ∷ rest) ≤ limit → walk same limit program n ns (j ∷ k ∷ rest) ≡ Some r → IsFew r) → IsFew r
      by (Ready o) z g g' = g o z
      by (Need j) z g g' =
          (elim (has_member same j (k ∷ rest)) as (λ b. cond b (Some (Explained (reverse ns) (reverse (k ∷ rest)))) (cond (length ns + length (k ∷ rest) == limit) (Some Exhausted) (walk same limit program n ns (j ∷ k ∷ rest))) ≡ Some r → IsFew r) [
            | true ↦ λ y. let q : Explained (reverse ns) (reverse (k ∷ rest)) ≡ r = cc y in subst IsFew q (back_few ns (k ∷ rest) h)
            | false ↦ λ y. (elim (length ns + length (k ∷ rest) == limit) as (λ b. (length ns + length (k ∷ rest) == limit) ≡ b → cond b (Some Exhausted) (walk same limit program n ns (j ∷ k ∷ rest)) ≡ Some r → IsFew r) [
              | true ↦ λ v x. let q : Exhausted ≡ r = cc x in subst IsFew q tt
              | false ↦ λ v x. g' j (room (eqb-false (length ns + length (k ∷ rest)) limit v)) x
            ]) refl y
          ]) z
        where
          room : (length ns + length (k ∷ rest) ≡ limit → ⊥) → length ns + length (j ∷ k ∷ rest) ≤ limit
          room d = omega (arith, h, d)

pub few_keys : FewKeys
few_keys W a _ (cert {notes = notes} {loops = loops} (n, e) s) =
    walk_few same_key max_demanded (program W) n [] (start (key_at W.sheet W.oracle a)) (Explained notes loops) (begins (key_at W.sheet W.oracle a)) e
  where
    begins : (o : Option Key) → 0 + length (start o) ≤ max_demanded
    begins None = omega arith
    begins (Some k) = omega arith
