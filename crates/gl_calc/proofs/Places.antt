-- The addresses of the formulas after an edit.
use Rattle.std.proofs.Common.{◌≡◌, inl, inr, refl, ℕ, zero, suc, ◌<◌, ◌≤◌, Bool, true, false, not, if◌then◌else◌, List, [], ◌∷◌, length, map, filter, get_or, Vec, Option, sym, ap, ◌∙◌, subst, arith}
use Rattle.std.proofs.lemmas.Grind.{common_steps}
use Rattle.std.specs.List.{insert, remove, HoldsAt}
use Rattle.std.specs.List.Sorted.{IsNonDecreasingBy, IsPartitionPoint}
use Rattle.std.specs.Ordering.{ordering_index}
use Rattle.std.specs.declared.cmp.Ordering.TheVariants.{Less, Equal, Greater}
use Rattle.std.specs.declared.alloc.Global.{Global}
use Rattle.gl_calculus.specs.Computation.Lists.{Member}
use Rattle.gl_calculus.specs.Grid.Grid.{Addr, Range, same_addr, is_before, covers, AreInOrder}
use Rattle.gl_calculus.specs.Formulas.Formula.{Content, Const, Form, Cells, IsSheet, formula_addresses}
use Rattle.gl_calculus.proofs.Tests.{addr_exact}
use Rattle.gl_calculus.proofs.Grants.{Before, before_of, of_before, before_trans}
use Rattle.gl_calculus.specs.Edits.Sheets.{with_content, with_contents, without}
use Rattle.gl_plane.proofs.Search.{other_side}
use Rattle.gl_plane.specs.contracts.addr.AddrOrd.TheImpl.{ghosts as addr}
use Rattle.gl_cells.specs.Content.{is_formula}
use Rattle.gl_calc.specs.Places.{ArePlaces}
use Rattle.gl_calc.proofs.Formulas.{order_tail, after_head, formula_member}

-- ---- two addresses in order

not_back : (a b : Addr) → is_before a b ≡ true → is_before b a ≡ false
not_back a b h = grind (arith, common_steps)

apart : (a b : Addr) → is_before a b ≡ true → same_addr b a ≡ false
apart a b h = grind (arith, common_steps)

before_apart : (a b : Addr) → is_before a b ≡ true → same_addr a b ≡ false
before_apart a b h = grind (arith, common_steps)

-- ---- addresses in order, with one of them exactly where it is a formula's

abbrev pub with_place : List Addr → Addr → Bool → List Addr
with_place [] a f = if f then a ∷ [] else []
with_place (x ∷ xs) a f = if same_addr a x then (if f then x ∷ xs else xs) else if is_before a x then (if f then a ∷ x ∷ xs else x ∷ xs) else x ∷ with_place xs a f

abbrev After : Addr → List Addr → Type 0
After a xs = (b : Addr) → Member b xs → Before a b

-- before all of a list
in_front : (a : Addr) (xs : List Addr) (f : Bool) → After a xs → with_place xs a f ≡ (if f then a ∷ xs else xs)
in_front a [] f h = refl
in_front a (x ∷ xs) f h =
    let b = of_before a x (h x (inl refl)) in
    rw (before_apart a x b, b) refl

-- behind the first
further : (a x : Addr) (xs : List Addr) (f : Bool) → is_before x a ≡ true → with_place (x ∷ xs) a f ≡ x ∷ with_place xs a f
further a x xs f b = rw (apart x a b, not_back x a b) refl

-- ---- a content is put

-- the addresses of the formulas with the content at an address
put_placed : (S : Cells) → IsSheet S → (a : Addr) (c : Content) → formula_addresses (with_content S a c) ≡ with_place (formula_addresses S) a (is_formula c)
put_placed [] o a (Const x) = refl
put_placed [] o a (Form f) = refl
put_placed (x ∷ S) o a c = by x c (same_addr a x.0) (is_before a x.0) refl refl (λ b m. after_head x.0 (map (λ (y : Addr × Content). y.0) S) o b (formula_member S b m)) (put_placed S (order_tail x.0 (map (λ (y : Addr × Content). y.0) S) o) a c)
  where
    by : (x : Addr × Content) (c : Content) (s b : Bool) → same_addr a x.0 ≡ s → is_before a x.0 ≡ b → After x.0 (formula_addresses S) → formula_addresses (with_content S a c) ≡ with_place (formula_addresses S) a (is_formula c)
        → formula_addresses (if s then (a, c) ∷ S else if b then (a, c) ∷ x ∷ S else x ∷ with_content S a c) ≡ with_place (formula_addresses (x ∷ S)) a (is_formula c)
    by (d, Const y) (Const z) true b p q h r = sym (in_front a (formula_addresses S) false (subst (λ u. After u (formula_addresses S)) (sym (addr_exact a d p)) h))
    by (d, Const y) (Form f) true b p q h r = sym (in_front a (formula_addresses S) true (subst (λ u. After u (formula_addresses S)) (sym (addr_exact a d p)) h))
    by (d, Form g) (Const z) true b p q h r = rw p refl
    by (d, Form g) (Form f) true b p q h r = rw p (ap (λ u. u ∷ formula_addresses S) (addr_exact a d p))
    by (d, Const y) (Const z) false true p q h r = sym (in_front a (formula_addresses S) false (λ b m. before_trans a d b (before_of a d q) (h b m)))
    by (d, Const y) (Form f) false true p q h r = sym (in_front a (formula_addresses S) true (λ b m. before_trans a d b (before_of a d q) (h b m)))
    by (d, Form g) (Const z) false true p q h r = rw (p, q) refl
    by (d, Form g) (Form f) false true p q h r = rw (p, q) refl
    by (d, Const y) c false false p q h r = r
    by (d, Form g) c false false p q h r = ap (λ t. d ∷ t) r ∙ sym (further a d (formula_addresses S) (is_formula c) (other_side a d p q))

pub put_in : (S : Cells) → IsSheet S → (a : Addr) (c : Content) (f : Bool) → f ≡ is_formula c → (xs : List Addr) → xs ≡ formula_addresses S → with_place xs a f ≡ formula_addresses (with_content S a c)
put_in S o a c f e xs k = ap (λ ys. with_place ys a f) k ∙ ap (λ g. with_place (formula_addresses S) a g) e ∙ sym (put_placed S o a c)

-- ---- where an address is found, and where it is not

equal_same : (p a : Addr) → addr.cmp p a ≡ Equal → same_addr a p ≡ true
equal_same p a h = grind (arith, common_steps)

less_before : (p a : Addr) → addr.cmp p a ≡ Less → is_before p a ≡ true
less_before p a h = grind (arith, common_steps)

greater_behind : (p a : Addr) → addr.cmp p a ≡ Greater → is_before a p ≡ true
greater_behind p a h = grind (arith, common_steps)

rises : (p q a : Addr) → is_before p q ≡ true → ordering_index (addr.cmp p a) ≤ ordering_index (addr.cmp q a)
rises p q a h = grind (arith, common_steps)

get_member : (xs : List Addr) (k : ℕ) (d : Addr) → k < length xs → Member (get_or xs k d) xs
get_member [] k d l = absurd (omega (arith, l))
get_member (x ∷ xs) zero d l = inl refl
get_member (x ∷ xs) (suc k) d l = inr (get_member xs k d (omega (arith, l)))

head_before : (x : Addr) (xs : List Addr) (k : ℕ) (d : Addr) → AreInOrder (x ∷ xs) → k < length xs → is_before x (get_or xs k d) ≡ true
head_before x xs k d o l = of_before x (get_or xs k d) (after_head x xs o (get_or xs k d) (get_member xs k d l))

risen : (xs : List Addr) (a : Addr) → AreInOrder xs → IsNonDecreasingBy (λ (p : Addr). ordering_index (addr.cmp p a)) xs
risen [] a o i j d le lt = absurd (omega (arith, lt))
risen (x ∷ xs) a o zero zero d le lt = omega arith
risen (x ∷ xs) a o zero (suc j) d le lt = rises x (get_or xs j d) a (head_before x xs j d o (omega (arith, lt)))
risen (x ∷ xs) a o (suc i) zero d le lt = absurd (omega (arith, le))
risen (x ∷ xs) a o (suc i) (suc j) d le lt = risen xs a (order_tail x xs o) i j d (omega (arith, le)) (omega (arith, lt))

pub found : (xs : List Addr) (a : Addr) (i : ℕ) (f : Bool) → AreInOrder xs → i < length xs → HoldsAt (λ (p : Addr). addr.cmp p a ≡ Equal) xs i → (if f then xs else remove xs i) ≡ with_place xs a f
found [] a i f o l at = absurd (omega (arith, l))
found (x ∷ xs) a zero f o l at = let e : same_addr a x ≡ true = equal_same x a (at x) in rw e refl
found (x ∷ xs) a (suc i) f o l at =
    let s = addr_exact a (get_or xs i x) (equal_same (get_or xs i x) a (at x)) in
    let b : is_before x a ≡ true = subst (λ u. is_before x u ≡ true) (sym s) (head_before x xs i x o (omega (arith, l))) in
    by f (found xs a i f (order_tail x xs o) (omega (arith, l)) at) ∙ sym (further a x xs f b)
  where
    by : (f : Bool) → (if f then xs else remove xs i) ≡ with_place xs a f → (if f then x ∷ xs else x ∷ remove xs i) ≡ x ∷ with_place xs a f
    by true e = ap (λ t. x ∷ t) e
    by false e = ap (λ t. x ∷ t) e

between : (xs : List Addr) (a : Addr) (i : ℕ) (f : Bool) → i ≤ length xs
    → ((k : ℕ) (d : Addr) → k < length xs → k < i → addr.cmp (get_or xs k d) a ≡ Less)
    → ((k : ℕ) (d : Addr) → i ≤ k → k < length xs → addr.cmp (get_or xs k d) a ≡ Greater)
    → (if f then insert xs i a else xs) ≡ with_place xs a f
between [] a zero f l below above = refl
between [] a (suc i) f l below above = absurd (omega (arith, l))
between (x ∷ xs) a zero f l below above =
    let b = greater_behind x a (above 0 x (omega arith) (omega arith)) in
    rw (before_apart a x b, b) refl
between (x ∷ xs) a (suc i) f l below above =
    let b = less_before x a (below 0 x (omega arith) (omega arith)) in
    by f (between xs a i f (omega (arith, l)) (λ k d m n. below (suc k) d (omega (arith, m)) (omega (arith, n))) (λ k d m n. above (suc k) d (omega (arith, m)) (omega (arith, n)))) ∙ sym (further a x xs f b)
  where
    by : (f : Bool) → (if f then insert xs i a else xs) ≡ with_place xs a f → (if f then x ∷ insert xs i a else x ∷ xs) ≡ x ∷ with_place xs a f
    by true e = ap (λ t. x ∷ t) e
    by false e = ap (λ t. x ∷ t) e

pub absent : (xs : List Addr) (a : Addr) (i : ℕ) (f : Bool) → AreInOrder xs → i ≤ length xs
    → (IsNonDecreasingBy (λ (p : Addr). ordering_index (addr.cmp p a)) xs → IsPartitionPoint (λ (p : Addr). addr.cmp p a ≡ Less) (λ (p : Addr). addr.cmp p a ≡ Greater) xs i)
    → (if f then insert xs i a else xs) ≡ with_place xs a f
absent xs a i f o l place =
    let parts = place (risen xs a o) in
    between xs a i f l (λ k d m n. parts.0 k d (omega arith) n) (λ k d m n. parts.1 k d m n)

-- ---- one content after the other

-- the addresses that were known before all of a list are those of a sheet in which the rest is still to be put
pub record Reached (S : Cells) (all rest : Cells) (places : Option (Vec Addr Global)) : Type 0 where
  pub now : Cells
  pub ordered : IsSheet now
  pub known : ArePlaces now places
  pub same : with_contents now rest ≡ with_contents S all

-- ---- contents are removed

pub without_covered : (S : Cells) (r : Range) → formula_addresses (without S r) ≡ filter (λ a. not (covers r a)) (formula_addresses S)
without_covered [] r = refl
without_covered (x ∷ S) r = by x (covers r x.0) refl (without_covered S r)
  where
    by : (x : Addr × Content) (b : Bool) → covers r x.0 ≡ b → formula_addresses (without S r) ≡ filter (λ a. not (covers r a)) (formula_addresses S) → formula_addresses (if not b then x ∷ without S r else without S r) ≡ filter (λ a. not (covers r a)) (formula_addresses (x ∷ S))
    by (d, Const y) true p e = e
    by (d, Const y) false p e = e
    by (d, Form f) true p e = e ∙ sym (ap (λ b. if not b then d ∷ filter (λ a. not (covers r a)) (formula_addresses S) else filter (λ a. not (covers r a)) (formula_addresses S)) p)
    by (d, Form f) false p e = ap (λ t. d ∷ t) e ∙ sym (ap (λ b. if not b then d ∷ filter (λ a. not (covers r a)) (formula_addresses S) else filter (λ a. not (covers r a)) (formula_addresses S)) p)
