-- Overrides in row-major order, and the first of them that passes a test.
use Rattle.std.proofs.Common.{◌≡◌, ◌⊎◌, ℕ, zero, suc, ◌+◌, ◌≤◌, ◌<◌, Bool, true, false, ◌&&◌, not, cond, is_some, List, [], ◌∷◌, map, drop, get_or, length, Option, Some, None, inl, inr, refl, ap, sym, subst, ◌∙◌, arith}
use Rattle.std.specs.List.{find, AllWithin}
use Rattle.std.specs.List.Sorted.{IsPartitionedBy}
use Rattle.gl_calculus.specs.Computation.Lists.{Member}
use Rattle.gl_calculus.specs.Grid.Grid.{Addr, Range, same_addr, is_before, covers, AreInOrder}
use Rattle.gl_calculus.specs.Values.Sheet.{override_at}
use Rattle.gl_calculus.specs.Evaluation.Sound.{are_inside}
use Rattle.gl_calculus.proofs.Tests.{both, addr_exact, addr_same}
use Rattle.gl_calculus.proofs.Grants.{Before, before_of, of_before, before_trans, clash}
use Rattle.gl_value.specs.View.{value_tree, override_trees}
use Rattle.gl_value.specs.declared.Value.{Value}
use Rattle.gl_demand.specs.Filling.{comes_before}
use Rattle.gl_demand.proofs.Ordered.{tail, behind}
use Rattle.gl_demand.proofs.Counting.{drop_item}

-- the addresses of overrides
abbrev pub places : List (Addr × Value) → List Addr
places os = map (λ o. o.0) os

pub in_order : (r : Range) (os : List (Addr × Value)) → are_inside r (override_trees os) ≡ true → AreInOrder (places os)
in_order r [] h = tt
in_order r (x ∷ []) h = tt
in_order r (x ∷ y ∷ os) h =
    let p = both (covers r x.0 && is_before x.0 y.0) (are_inside r (override_trees (y ∷ os))) h in
    ((both (covers r x.0) (is_before x.0 y.0) p.0).1, in_order r (y ∷ os) p.1)

member_at : (os : List (Addr × Value)) (k : ℕ) (d : Addr × Value) → k < length os → Member (get_or os k d).0 (places os)
member_at [] k d l = absurd (omega (arith, l))
member_at (x ∷ os) zero d l = inl refl
member_at (x ∷ os) (suc k) d l = inr (member_at os k d (omega arith))

later : (x : Addr × Value) (os : List (Addr × Value)) (k : ℕ) (d : Addr × Value) → AreInOrder (places (x ∷ os)) → k < length os → Before x.0 (get_or os k d).0
later x os k d o l = behind x.0 (places os) o (get_or os k d).0 (member_at os k d l)

-- ---- those that don't come after an address, and those that do

not_by : (b c : Bool) → (b ≡ true → c ≡ true) → not c ≡ true → not b ≡ true
not_by true c h k = let e = h refl in absurd (cc (e, k))
not_by false c h k = refl

pub partitioned : (a : Addr) (os : List (Addr × Value)) → AreInOrder (places os) → IsPartitionedBy (λ (o : Addr × Value). not (is_before a o.0)) os
partitioned a [] o i j d le lt h = absurd (omega (arith, lt))
partitioned a (x ∷ os) o zero zero d le lt h = h
partitioned a (x ∷ os) o zero (suc j) d le lt h =
    not_by (is_before a x.0) (is_before a (get_or os j d).0) (λ e. of_before a (get_or os j d).0 (before_trans a x.0 (get_or os j d).0 (before_of a x.0 e) (later x os j d o (omega arith)))) h
partitioned a (x ∷ os) o (suc i) zero d le lt h = absurd (omega arith)
partitioned a (x ∷ os) o (suc i) (suc j) d le lt h = partitioned a os (tail x.0 (places os) o) i j d (omega arith) (omega arith) h

pub not_passed : (b : Bool) → not b ≡ true → b ≡ false
not_passed true h = absurd (cc h)
not_passed false h = refl

pub passed_by : (b : Bool) → not b ≡ false → b ≡ true
passed_by true h = refl
passed_by false h = absurd (cc h)

-- ---- those that don't come before an address

not_before_by : (before : Option Addr) (a b : Addr) → Before a b → comes_before before a ≡ false → comes_before before b ≡ false
not_before_by None a b l h = h
not_before_by (Some c) a b l h = by (is_before b c) refl
  where
    by : (t : Bool) → is_before b c ≡ t → is_before b c ≡ false
    by true e = absurd (clash (of_before a c (before_trans a b c l (before_of b c e))) h)
    by false e = e

abbrev IsPast : Option Addr → Addr × Value → Type 0
IsPast before o = comes_before before o.0 ≡ false

past_first : (before : Option Addr) (y : Addr × Value) (os : List (Addr × Value)) → AreInOrder (places (y ∷ os)) → IsPast before y → AllWithin (IsPast before) (y ∷ os) 0 (length (y ∷ os))
past_first before y os o h zero d g k = h
past_first before y os o h (suc n) d g k = not_before_by before y.0 (get_or os n d).0 (later y os n d o (omega arith)) h

past_rest : (before : Option Addr) (y : Addr × Value) (os : List (Addr × Value)) (i : ℕ) → AllWithin (IsPast before) os i (length os) → AllWithin (IsPast before) (y ∷ os) (suc i) (length (y ∷ os))
past_rest before y os i h zero d g k = absurd (omega (arith, g))
past_rest before y os i h (suc n) d g k = h n d (omega arith) (omega arith)

pub past : (before : Option Addr) (os : List (Addr × Value)) (i : ℕ) (x : Addr × Value) → AreInOrder (places os) → x ≡ get_or os i x → i < length os → comes_before before x.0 ≡ false → AllWithin (IsPast before) os i (length os)
past before [] i x o is l h = absurd (omega (arith, l))
past before (y ∷ os) zero x o is l h = past_first before y os o (subst (λ (z : Addr × Value). comes_before before z.0 ≡ false) is h)
past before (y ∷ os) (suc i) x o is l h = past_rest before y os i (past before os i x (tail y.0 (places os) o) is (omega arith) h)

-- ---- parts of a test that fail

pub first_fails : (x y z : Bool) → x ≡ false → ((x && y) && z) ≡ false
first_fails true y z h = absurd (cc h)
first_fails false y z h = refl

pub second_fails : (x y z : Bool) → y ≡ false → ((x && y) && z) ≡ false
second_fails true true z h = absurd (cc h)
second_fails true false z h = refl
second_fails false y z h = refl

pub third_fails : (x y : Bool) → y ≡ false → (x && y) ≡ false
third_fails true y h = h
third_fails false y h = refl

pub all_pass : (x y z : Bool) → x ≡ true → y ≡ true → not z ≡ false → ((x && y) && z) ≡ true
all_pass true true true h k l = refl
all_pass true true false h k l = absurd (cc l)
all_pass true false z h k l = absurd (cc k)
all_pass false y z h k l = absurd (cc h)

-- ---- the first that passes

module _ (p : Addr → Bool) where
  pub skip : (os : List (Addr × Value)) (n : ℕ) → n ≤ length os → AllWithin (λ (o : Addr × Value). p o.0 ≡ false) os 0 n → find p (places (drop n os)) ≡ find p (places os)
  skip [] zero l h = refl
  skip [] (suc n) l h = absurd (omega (arith, l))
  skip (x ∷ os) zero l h = refl
  skip (x ∷ os) (suc n) l h =
      let e : p x.0 ≡ false = h 0 x (omega arith) (omega arith) in
      skip os n (omega arith) (λ k d g m. h (suc k) d (omega arith) (omega arith)) ∙ sym (ap (λ c. cond c (Some x.0) (find p (places os))) e)

  pub none_left : (os : List (Addr × Value)) (n : ℕ) → AllWithin (λ (o : Addr × Value). p o.0 ≡ false) os n (length os) → None ≡ find p (places (drop n os))
  none_left [] zero h = refl
  none_left [] (suc n) h = refl
  none_left (x ∷ os) zero h =
      let e : p x.0 ≡ false = h 0 x (omega arith) (omega arith) in
      none_left os zero (λ k d g m. h (suc k) d (omega arith) (omega arith)) ∙ sym (ap (λ c. cond c (Some x.0) (find p (places os))) e)
  none_left (x ∷ os) (suc n) h = none_left os n (λ k d g m. h (suc k) d (omega arith) (omega arith))

  pub found_here : (os : List (Addr × Value)) (i : ℕ) (x : Addr × Value) → x ≡ get_or os i x → i < length os → p x.0 ≡ true → find p (places (drop i os)) ≡ find p (places os) → Some x.0 ≡ find p (places os)
  found_here os i x is l e k = sym (sym k ∙ ap (λ l. find p (places l)) (drop_item os i x is l) ∙ ap (λ c. cond c (Some x.0) (find p (places (drop (i + 1) os)))) e)

  pub found_later : (os : List (Addr × Value)) (i : ℕ) (x : Addr × Value) → x ≡ get_or os i x → i < length os → p x.0 ≡ false → find p (places (drop i os)) ≡ find p (places os) → find p (places (drop (i + 1) os)) ≡ find p (places os)
  found_later os i x is l e k = sym (ap (λ l. find p (places l)) (drop_item os i x is l) ∙ ap (λ c. cond c (Some x.0) (find p (places (drop (i + 1) os)))) e) ∙ k

-- ---- the overrides that are listed

listed_by : (t : Bool) (a b : Addr) (os : List (Addr × Value)) (v : Value) → same_addr a b ≡ t → is_some (cond t (Some (value_tree v)) (override_at (override_trees os) a)) ≡ true → (is_some (override_at (override_trees os) a) ≡ true → Member a (places os)) → Member a (b ∷ places os)
listed_by true a b os v e h k = inl (addr_exact a b e)
listed_by false a b os v e h k = inr (k h)

pub listed : (os : List (Addr × Value)) (a : Addr) → is_some (override_at (override_trees os) a) ≡ true → Member a (places os)
listed [] a h = absurd (cc h)
listed (x ∷ os) a h = listed_by (same_addr a x.0) a x.0 os x.1 refl h (listed os a)

unlisted_by : (t : Bool) (a b : Addr) (os : List (Addr × Value)) (v : Value) → same_addr a b ≡ t → (a ≡ b) ⊎ (is_some (override_at (override_trees os) a) ≡ true) → is_some (cond t (Some (value_tree v)) (override_at (override_trees os) a)) ≡ true
unlisted_by true a b os v e h = refl
unlisted_by false a b os v e (inl q) = absurd (clash (subst (λ x. same_addr a x ≡ true) q (addr_same a)) e)
unlisted_by false a b os v e (inr h) = h

pub unlisted : (os : List (Addr × Value)) (a : Addr) → Member a (places os) → is_some (override_at (override_trees os) a) ≡ true
unlisted [] a m = absurd m
unlisted (x ∷ os) a (inl e) = unlisted_by (same_addr a x.0) a x.0 os x.1 refl (inl e)
unlisted (x ∷ os) a (inr m) = unlisted_by (same_addr a x.0) a x.0 os x.1 refl (inr (unlisted os a m))
