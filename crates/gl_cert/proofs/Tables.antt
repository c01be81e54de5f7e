-- Outcomes in a map by the code's equality, as claims.
use Rattle.std.proofs.Common.{◌≡◌, Bool, true, false, cond, List, [], ◌∷◌, ◌++◌, Some, None, option_map, map, ℕ, zero, suc, ◌+◌, ◌<◌, length, get_or, drop, arith, Result, Ok, Err, OnOk, OnErr, inl, inr, IsTrue, refl, ap, sym, subst, ◌∙◌}
use Rattle.std.proofs.lemmas.List.{at_drop_more}
use Rattle.std.specs.Map.{lookup}
use Rattle.gl_calculus.specs.Computation.Lists.{Member}
use Rattle.indexmap.specs.IndexMap.{insert_entry}
use Rattle.gl_calculus.specs.Evaluation.Key as K
use Rattle.gl_calculus.specs.Evaluation.Key.{same_key}
use Rattle.gl_calculus.specs.Evaluation.Sound.{is_sound_key, is_sound_outcome, is_outcome_of}
use Rattle.gl_calculus.proofs.Tests.{key_equality}
use Rattle.gl_calculus.specs.Explanation.Walk.{Claim, noted}
use Rattle.laws_calculus.proofs.Explanation.Checking.{last_first}
use Rattle.gl_demand.specs.Equal.{eq_is_key}
use Rattle.gl_demand.specs.Sound.{AreSoundKeys, IsSoundTable}
use Rattle.gl_demand.specs.View.{key_tree, outcome_tree}
use Rattle.gl_demand.specs.declared.key.Key.{Key}
use Rattle.gl_demand.specs.declared.outcome.Outcome.{Outcome}
use Rattle.gl_demand.specs.contracts.key.KeyPartialEq.TheImpl.{ghosts as key}
use Rattle.gl_cert.specs.Claims.{claim_tree, claim_trees}

-- the outcome in the map is the one that is noted
pub lookup_noted : (es : List (Key × Outcome)) (k : Key) → option_map outcome_tree (lookup (key.eq k) es) ≡ noted same_key (claim_trees es) (key_tree k)
lookup_noted [] k = refl
lookup_noted (e ∷ es) k = by (key.eq k e.0) (eq_is_key k e.0) (lookup_noted es k)
  where
    by : (b : Bool) → b ≡ same_key (key_tree k) (key_tree e.0) → option_map outcome_tree (lookup (key.eq k) es) ≡ noted same_key (claim_trees es) (key_tree k) → option_map outcome_tree (cond b (Some e.1) (lookup (key.eq k) es)) ≡ cond (same_key (key_tree k) (key_tree e.0)) (Some (outcome_tree e.1)) (noted same_key (claim_trees es) (key_tree k))
    by true h r = ap (λ b. cond b (Some (outcome_tree e.1)) (noted same_key (claim_trees es) (key_tree k))) h
    by false h r = r ∙ ap (λ b. cond b (Some (outcome_tree e.1)) (noted same_key (claim_trees es) (key_tree k))) h

-- a key that isn't there goes last
pub insert_claims : (es : List (Key × Outcome)) (k : Key) (o : Outcome) → noted same_key (claim_trees es) (key_tree k) ≡ None → claim_trees (insert_entry key.eq es k o) ≡ claim_trees es ++ (key_tree k, outcome_tree o) ∷ []
insert_claims [] k o h = refl
insert_claims (e ∷ es) k o h = by (key.eq k e.0) (ap (λ b. cond b (Some (outcome_tree e.1)) (noted same_key (claim_trees es) (key_tree k))) (eq_is_key k e.0) ∙ h) (insert_claims es k o)
  where
    by : (b : Bool) → cond b (Some (outcome_tree e.1)) (noted same_key (claim_trees es) (key_tree k)) ≡ None →
        (noted same_key (claim_trees es) (key_tree k) ≡ None → claim_trees (insert_entry key.eq es k o) ≡ claim_trees es ++ (key_tree k, outcome_tree o) ∷ []) →
        claim_trees (cond b ((e.0, o) ∷ es) (e ∷ insert_entry key.eq es k o)) ≡ claim_tree e ∷ (claim_trees es ++ (key_tree k, outcome_tree o) ∷ [])
    by true z r = absurd (cc z)
    by false z r = ap (λ t. claim_tree e ∷ t) (r z)

-- one more sound outcome of its key
pub sound_more : (done : List (Claim K.Key K.Outcome)) (k : K.Key) (o : K.Outcome) → noted same_key done k ≡ None → IsSoundTable (noted same_key done) → IsTrue (is_sound_outcome o) × IsTrue (is_outcome_of k o) → IsSoundTable (noted same_key (done ++ (k, o) ∷ []))
sound_more done k o h t s = subst (λ f. IsSoundTable f) (sym (last_first same_key key_equality done (k, o) h)) more
  where
    more : IsSoundTable (noted same_key ((k, o) ∷ done))
    more j p e = by (same_key j k) refl e
      where
        by : (b : Bool) → same_key j k ≡ b → cond b (Some o) (noted same_key done j) ≡ Some p → IsTrue (is_sound_outcome p) × IsTrue (is_outcome_of j p)
        by true q z =
            let d : o ≡ p = cc z in
            let i : j ≡ k = key_equality.0 j k q in
            subst (λ u. IsTrue (is_sound_outcome p) × IsTrue (is_outcome_of u p)) (sym i) (subst (λ u. IsTrue (is_sound_outcome u) × IsTrue (is_outcome_of k u)) d s)
        by false q z = t j p z

-- and one more sound key
pub keys_more : (done : List (Claim K.Key K.Outcome)) (k : K.Key) (o : K.Outcome) → AreSoundKeys (map (λ n. n.0) done) → IsTrue (is_sound_key k) → AreSoundKeys (map (λ n. n.0) (done ++ (k, o) ∷ []))
keys_more [] k o h s j (inl e) = subst (λ x. IsTrue (is_sound_key x)) (sym e) s
keys_more [] k o h s j (inr m) = absurd m
keys_more (d ∷ ds) k o h s j (inl e) = h j (inl e)
keys_more (d ∷ ds) k o h s j (inr m) = keys_more ds k o (λ x i. h x (inr i)) s j m

-- what holds before and would hold after a change holds whether it was made or not
pub either_way : {X E A : Type 0} (P : A → Type 0) (r : Result X E) (old more new : A) → OnOk r (new ≡ more) → OnErr r (new ≡ old) → P more → P old → P new
either_way P (Ok x) old more new e f p q = subst P (sym e) p
either_way P (Err x) old more new e f p q = subst P (sym f) q

-- the claims from a place on
pub claims_from : (xs : List (Key × Outcome)) (i : ℕ) (x : Key × Outcome) → i < length xs → x ≡ get_or xs i x → claim_trees (drop i xs) ≡ claim_tree x ∷ claim_trees (drop (i + 1) xs)
claims_from xs i x h e = at_drop_more claim_trees xs i x h ∙ ap (λ z. claim_tree z ∷ claim_trees (drop (i + 1) xs)) (sym e)

-- the key of a claim of the list is sound
pub claim_sound : (xs : List (Key × Outcome)) (i : ℕ) (x : Key × Outcome) → AreSoundKeys (map (λ n. n.0) (claim_trees xs)) → i < length xs → x ≡ get_or xs i x → IsTrue (is_sound_key (key_tree x.0))
claim_sound xs i x h l e = h (key_tree x.0) (member_at xs i x l e)
  where
    member_at : (xs : List (Key × Outcome)) (i : ℕ) (x : Key × Outcome) → i < length xs → x ≡ get_or xs i x → Member (key_tree x.0) (map (λ n. n.0) (claim_trees xs))
    member_at [] i x l e = absurd (omega (arith, l))
    member_at (k ∷ ks) zero x l e = inl (ap (λ p. key_tree p.0) e)
    member_at (k ∷ ks) (suc i) x l e = inr (member_at ks i x (omega (arith, l)) e)
