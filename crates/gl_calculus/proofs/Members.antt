-- Membership here and in std, and tests of lists.
use Rattle.std.proofs.Common.{◌≡◌, ◌⊎◌, zero, suc, List, [], ◌∷◌, inl, inr, Bool, true, false, ◌||◌, cond, refl, sym, ap, ◌∙◌, subst, arith}
use Rattle.std.specs.List.{list_any}
use Rattle.std.specs.Prelude.{Contains}
use Rattle.gl_calculus.specs.Computation.Lists.{Member, IsEquality, has_member}

pub member-Contains : {X : Type 0} (x : X) (xs : List X) → Member x xs → Contains xs x
member-Contains x [] m = absurd m
member-Contains x (y ∷ ys) (inl e) = (0, omega arith, sym e)
member-Contains x (y ∷ ys) (inr m) = let (i, l, e) = member-Contains x ys m in (suc i, omega (arith, l), e)

pub Contains-member : {X : Type 0} (x : X) (xs : List X) → Contains xs x → Member x xs
Contains-member x [] (i, l, e) = absurd (omega (arith, l))
Contains-member x (y ∷ ys) (zero, l, e) = inl (sym e)
Contains-member x (y ∷ ys) (suc i, l, e) = inr (Contains-member x ys (i, omega (arith, l), e))

pub any_member : {X : Type 0} (p : X → Bool) (xs : List X) → list_any p xs ≡ true → (x : X) × Member x xs × (p x ≡ true)
any_member p [] e = absurd (cc e)
any_member {X} p (x ∷ xs) e = by (p x) refl e (any_member p xs)
  where
    by : (b : Bool) → p x ≡ b → (b || list_any p xs) ≡ true → (list_any p xs ≡ true → (y : X) × Member y xs × (p y ≡ true)) → (y : X) × Member y (x ∷ xs) × (p y ≡ true)
    by true t h r = (x, inl refl, t)
    by false t h r = let (y, m, u) = r h in (y, inr m, u)

pub member_any : {X : Type 0} (p : X → Bool) (xs : List X) (x : X) → Member x xs → p x ≡ true → list_any p xs ≡ true
member_any p [] x m e = absurd m
member_any p (y ∷ xs) x (inl i) e = ap (λ b. b || list_any p xs) (ap p (sym i) ∙ e)
member_any p (y ∷ xs) x (inr m) e = by (p y) (member_any p xs x m e)
  where
    by : (b : Bool) → list_any p xs ≡ true → (b || list_any p xs) ≡ true
    by true h = refl
    by false h = h

pub either : (a b : Bool) → (a || b) ≡ true → (a ≡ true) ⊎ (b ≡ true)
either true b e = inl refl
either false b e = inr e

pub left : (a b : Bool) → a ≡ true → (a || b) ≡ true
left a b e = ap (λ u. u || b) e

pub right : (a b : Bool) → b ≡ true → (a || b) ≡ true
right true b e = refl
right false b e = e

-- a member is found by the test
pub member_has : {K : Type 0} (same : K → K → Bool) → IsEquality same → (ks : List K) (k : K) → Member k ks → has_member same k ks ≡ true
member_has same eq [] k m = absurd m
member_has same eq (x ∷ ks) k (inl e) = subst (λ u. cond (same k u) true (has_member same k ks) ≡ true) e (ap (λ b. cond b true (has_member same k ks)) (eq.1 k))
member_has same eq (x ∷ ks) k (inr m) = by (same k x) (member_has same eq ks k m)
  where
    by : (b : Bool) → has_member same k ks ≡ true → cond b true (has_member same k ks) ≡ true
    by true h = refl
    by false h = h
