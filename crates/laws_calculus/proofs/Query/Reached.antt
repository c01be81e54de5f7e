-- What is reached through reads of true notes is demanded.
use Rattle.std.proofs.Common.{◌≡◌, ◌⊎◌, inl, inr, List, [], ◌∷◌, Bool, true, false, cond, subst}
use Rattle.gl_calculus.specs.Computation.Lists.{Member, has_member, fresh}
use Rattle.gl_calculus.specs.Computation.Query.{Loops}
use Rattle.gl_calculus.specs.Computation.Demanded.{Demanded, Read}
use Rattle.gl_calculus.specs.Computation.Notes.{IsReached, Here, Through}
use Rattle.laws_calculus.specs.Query.{ReachedDemanded}
use Rattle.laws_calculus.proofs.Query.Looping.{asked_on_path}

-- the distinct members of a list are members of it
pub fresh_back : {K : Type 0} (same : K → K → Bool) (ks seen : List K) (j : K) → Member j (fresh same seen ks) → Member j ks
fresh_back same [] seen j m = m
fresh_back same (k ∷ ks) seen j m = (elim (has_member same k seen) as (λ b. Member j (cond b (fresh same seen ks) (k ∷ fresh same (k ∷ seen) ks)) → Member j (k ∷ ks)) [
  | true ↦ λ n. inr (fresh_back same ks seen j n)
  | false ↦ λ n. by n (fresh_back same ks (k ∷ seen) j)
]) m
  where
    by : (j ≡ k) ⊎ Member j (fresh same (k ∷ seen) ks) → (Member j (fresh same (k ∷ seen) ks) → Member j ks) → (j ≡ k) ⊎ Member j ks
    by (inl e) r = inl e
    by (inr n) r = inr (r n)

pub reached : (K O A : Type 0) → ReachedDemanded K O A
reached K O A same program seeds notes s k trues d r = along s k d r
  where
    along : (s k : K) → Demanded program seeds s → IsReached notes s k → Demanded program seeds k
    along s _ d Here = d
    along s k d (Through n i m e j r) =
        let (ks, p, q) = trues n m in
        let a = fresh_back same ks [] i (subst (Member i) q j) in
        along i k (Read (subst (Demanded program seeds) e d) (asked_on_path program (Loops program) p i a)) r
