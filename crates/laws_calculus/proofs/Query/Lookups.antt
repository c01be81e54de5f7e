-- Look-ups in a state after a change.
use Rattle.std.proofs.Common.{◌≡◌, ℕ, zero, suc, List, [], ◌∷◌, ◌++◌, ◌⊎◌, inl, inr, Bool, true, false, cond, Option, Some, None, refl, sym, ap, subst}
use Rattle.gl_calculus.specs.Computation.Lists.{Member, AreDistinct, IsEquality}
use Rattle.gl_machine.specs.Machine.{Status, Idle, Waiting, Resolved, Entry, at, change, idle_then, idle_keys, keys, nth, IsKnown}

-- a status mapped, where there is one
abbrev pub mapped : {S T : Type 0} → (S → T) → Option S → Option T
mapped g None = None
mapped g (Some s) = Some (g s)

-- the first, or else the second
abbrev pub or_else : {S : Type 0} → Option S → Option S → Option S
or_else None d = d
or_else (Some s) d = Some s

pub same_or_not : (b : Bool) → (b ≡ true) ⊎ (b ≡ false)
same_or_not true = inl refl
same_or_not false = inr refl

pub nth_member : {X : Type 0} (xs : List X) (i : ℕ) (x : X) → nth xs i ≡ Some x → Member x xs
nth_member [] i x e = absurd (cc e)
nth_member (y ∷ ys) zero x e = inl (cc e)
nth_member (y ∷ ys) (suc i) x e = inr (nth_member ys i x e)

module _ {K : Type 0} (same : K → K → Bool) (eq : IsEquality same) where
  pub same_refl : (k : K) → same k k ≡ true
  same_refl k = eq.1 k

  pub same_eq : (k j : K) → same k j ≡ true → k ≡ j
  same_eq k j e = eq.0 k j e

  -- keys that the test tells apart differ
  pub not_same : (k j : K) → same k j ≡ false → k ≡ j → ⊥
  not_same k j e d = let h : same k k ≡ true = same_refl k in let h' : same k k ≡ false = subst (λ t. same k t ≡ false) (sym d) e in cc

  pub differ : (k j : K) → (k ≡ j → ⊥) → same k j ≡ false
  differ k j n = (elim (same k j) as (λ b. same k j ≡ b → b ≡ false) [ true ↦ λ e. absurd (n (same_eq k j e)) | false ↦ λ e. refl ]) refl

module _ {K O : Type 0} (same : K → K → Bool) (eq : IsEquality same) where
  pub at-change : (g : K → Status K O → Status K O) (st : List (Entry K O)) (k : K) → at same (change g st) k ≡ mapped (g k) (at same st k)
  at-change g [] k = refl
  at-change g (x ∷ xs) k =
      (elim (same k x.key) as (λ b. same k x.key ≡ b → cond b (Some (g x.key x.status)) (at same (change g xs) k) ≡ mapped (g k) (cond b (Some x.status) (at same xs k))) [
        | true ↦ λ e. let d : k ≡ x.key = same_eq same eq k x.key e in ap (λ t. Some (g t x.status)) (sym d)
        | false ↦ λ e. at-change g xs k
      ]) refl

  pub at-append : (st : List (Entry K O)) (x : Entry K O) (k : K) → at same (st ++ x ∷ []) k ≡ or_else (at same st k) (cond (same k x.key) (Some x.status) None)
  at-append [] x k = refl
  at-append (y ∷ ys) x k =
      elim (same k y.key) as (λ b. cond b (Some y.status) (at same (ys ++ x ∷ []) k) ≡ or_else (cond b (Some y.status) (at same ys k)) (cond (same k x.key) (Some x.status) None)) [
        | true ↦ refl
        | false ↦ at-append ys x k
      ]

  pub keys-change : (g : K → Status K O → Status K O) (st : List (Entry K O)) → keys (change g st) ≡ keys st
  keys-change g [] = refl
  keys-change g (x ∷ xs) = ap (λ t. x.key ∷ t) (keys-change g xs)

  pub keys-append : (st : List (Entry K O)) (x : Entry K O) → keys (st ++ x ∷ []) ≡ keys st ++ x.key ∷ []
  keys-append [] x = refl
  keys-append (y ∷ ys) x = ap (λ t. y.key ∷ t) (keys-append ys x)

  -- a key is known exactly where it is among the keys
  pub known_member : (st : List (Entry K O)) (k : K) (s : Status K O) → at same st k ≡ Some s → Member k (keys st)
  known_member [] k s e = absurd (cc e)
  known_member (x ∷ xs) k s e =
      (elim (same k x.key) as (λ b. same k x.key ≡ b → cond b (Some x.status) (at same xs k) ≡ Some s → (k ≡ x.key) ⊎ Member k (keys xs)) [
        | true ↦ λ d h. inl (same_eq same eq k x.key d)
        | false ↦ λ d h. inr (known_member xs k s h)
      ]) refl e

  pub member_known : (st : List (Entry K O)) (k : K) → Member k (keys st) → IsKnown same st k
  member_known [] k m = absurd m
  member_known (x ∷ xs) k m =
      (elim (same k x.key) as (λ b. same k x.key ≡ b → (s : Status K O) × (cond b (Some x.status) (at same xs k) ≡ Some s)) [
        | true ↦ λ d. (x.status, refl)
        | false ↦ λ d. member_known xs k (⊎_rest (not_same same eq k x.key d) m)
      ]) refl
    where
      ⊎_rest : {P Q : Type 0} → (P → ⊥) → P ⊎ Q → Q
      ⊎_rest n (inl p) = absurd (n p)
      ⊎_rest n (inr q) = q

  -- an idle key's status is idle
  pub idle_member : (st : List (Entry K O)) (k : K) → Member k (idle_keys st) → Member k (keys st)
  idle_member [] k m = m
  idle_member (x ∷ xs) k m = idle_case (idle_member xs k) x.status m
    where
      idle_case : (Member k (idle_keys xs) → Member k (keys xs)) → (s : Status K O) → Member k (idle_then s x.key (idle_keys xs)) → (k ≡ x.key) ⊎ Member k (keys xs)
      idle_case ih Idle (inl e) = inl e
      idle_case ih Idle (inr h) = inr (ih h)
      idle_case ih (Waiting j) h = inr (ih h)
      idle_case ih (Resolved o) h = inr (ih h)

  pub at-idle : (st : List (Entry K O)) (k : K) → AreDistinct (keys st) → Member k (idle_keys st) → at same st k ≡ Some Idle
  at-idle [] k d m = absurd m
  at-idle (x ∷ xs) k d m = idle_case (at-idle xs k d.1) x.status m
    where
      far : (Member k (idle_keys xs) → at same xs k ≡ Some Idle) → Member k (idle_keys xs) → (s : Status K O) → cond (same k x.key) (Some s) (at same xs k) ≡ Some Idle
      far ih h s = rw (differ same eq k x.key (λ e. d.0 (subst (λ t. Member t (keys xs)) e (idle_member xs k h)))) (ih h)

      idle_case : (Member k (idle_keys xs) → at same xs k ≡ Some Idle) → (s : Status K O) → Member k (idle_then s x.key (idle_keys xs)) → cond (same k x.key) (Some s) (at same xs k) ≡ Some Idle
      idle_case ih Idle (inl e) = let t : same k x.key ≡ true = subst (λ t. same k t ≡ true) e (same_refl same eq k) in rw t refl
      idle_case ih Idle (inr h) = far ih h Idle
      idle_case ih (Waiting j) h = far ih h (Waiting j)
      idle_case ih (Resolved o) h = far ih h (Resolved o)
