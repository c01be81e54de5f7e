-- Nodes listed with heights, each before its dependences: then there is no circle, and the heights bound the paths.
use Rattle.std.proofs.Common.{◌≡◌, ◌⊎◌, inl, inr, ℕ, ◌+◌, ◌≤◌, nat_le, Bool, true, false, ◌&&◌, IsTrue, IsFalse, List, [], ◌∷◌, Option, Some, None, is_some, if◌then◌else◌, refl, sym, ◌∙◌, subst, ap, arith}
use Rattle.std.specs.List.{list_all, list_any}
use Rattle.std.proofs.lemmas.Bool.{and_parts, leb-true}
use Rattle.gl_calculus.specs.Computation.Lists.{Member}
use Rattle.gl_calculus.specs.Grid.Grid.{same_addr}
use Rattle.gl_calculus.specs.Formulas.Formula.{Cells, formula_addresses}
use Rattle.gl_calculus.proofs.Tests.{addr_exact, addr_same}
use Rattle.gl_calculus.specs.Forecast.{Node, Value, Entry, nodes, dependences, Leads, once, further, entries_in, Path, ends, goes, uses_sheets, Yes, IsForecast, yes}

abbrev pub same_node : Node → Node → Bool
same_node (Value a) (Value b) = same_addr a b
same_node (Entry a) (Entry b) = same_addr a b
same_node m n = false

pub node_exact : (m n : Node) → same_node m n ≡ true → m ≡ n
node_exact (Value a) (Value b) e = ap Value (addr_exact a b e)
node_exact (Entry a) (Entry b) e = ap Entry (addr_exact a b e)
node_exact (Value a) (Entry b) e = absurd (cc e)
node_exact (Entry a) (Value b) e = absurd (cc e)

-- the height that is listed of a node
abbrev pub height_in : List (Node × ℕ) → Node → Option ℕ
height_in [] n = None
height_in (x ∷ xs) n = if same_node n x.0 then Some x.1 else height_in xs n

listed : (xs : List (Node × ℕ)) (n : Node) (h : ℕ) → height_in xs n ≡ Some h → Member (n, h) xs
listed [] n h e = absurd (cc e)
listed (x ∷ xs) n h e =
    (elim (same_node n x.0) as (λ b. same_node n x.0 ≡ b → (if b then Some x.1 else height_in xs n) ≡ Some h → Member (n, h) (x ∷ xs)) [
      | true ↦ λ u z. let p : x.1 ≡ h = cc z in inl (ap (λ t. (t, h)) (node_exact n x.0 u) ∙ ap (λ t. (x.0, t)) (sym p))
      | false ↦ λ u z. inr (listed xs n h z)
    ]) refl e

abbrev exceeds : ℕ → ℕ → Option ℕ → Bool
exceeds h e None = false
exceeds h e (Some k) = nat_le (e + k) h

abbrev is_new : Option ℕ → Bool
is_new None = true
is_new (Some h) = false

-- each is listed once, its dependences behind it, and its height is at least its own and theirs
abbrev pub layered : Cells → List (Node × ℕ) → Bool
layered S [] = true
layered S (x ∷ xs) = (is_new (height_in xs x.0) && (nat_le (entries_in x.0) x.1 && list_all (λ m. exceeds x.1 (entries_in x.0) (height_in xs m)) (dependences S x.0))) && layered S xs

all_member : {X : Type 0} (test : X → Bool) (xs : List X) → IsTrue (list_all test xs) → (x : X) → Member x xs → IsTrue (test x)
all_member test [] h x m = absurd m
all_member test (y ∷ ys) h x (inl e) = subst (λ t. IsTrue (test t)) (sym e) (and_parts (test y) (list_all test ys) h).0
all_member test (y ∷ ys) h x (inr m) = all_member test ys (and_parts (test y) (list_all test ys) h).1 x m

height_known : (xs : List (Node × ℕ)) (h e : ℕ) (m : Node) → IsTrue (exceeds h e (height_in xs m)) → (k : ℕ) × Member (m, k) xs × (e + k ≤ h)
height_known xs h e m t =
    (elim (height_in xs m) as (λ o. height_in xs m ≡ o → IsTrue (exceeds h e o) → (k : ℕ) × Member (m, k) xs × (e + k ≤ h)) [
      | None ↦ λ u z. absurd (cc z)
      | Some k ↦ λ u z. (k, listed xs m k u, leb-true (e + k) h z)
    ]) refl t

module _ (S : Cells) where
  step : (x : Node × ℕ) (xs : List (Node × ℕ)) → IsTrue (layered S (x ∷ xs)) → (m : Node) → Member m (dependences S x.0) → (k : ℕ) × Member (m, k) xs × (entries_in x.0 + k ≤ x.1)
  step x xs t m d =
      let p = and_parts _ _ t in
      let q = and_parts _ _ p.0 in
      let r = and_parts _ _ q.1 in
      height_known xs x.1 (entries_in x.0) m (all_member (λ m. exceeds x.1 (entries_in x.0) (height_in xs m)) (dependences S x.0) r.1 m d)

  pub bounded : (xs : List (Node × ℕ)) → IsTrue (layered S xs) → (n : Node) (h k : ℕ) → Member (n, h) xs → Path S n k → k ≤ h
  bounded [] t n h k m p = absurd m
  bounded (x ∷ xs) t n h k (inr m) p = bounded xs (and_parts _ _ t).1 n h k m p
  bounded (x ∷ xs) t n h k (inl e) ends = let q = (and_parts _ _ (and_parts _ _ (and_parts _ _ t).0).1).0 in subst (λ u. entries_in u.0 ≤ u.1) (sym e) (leb-true (entries_in x.0) x.1 q)
  bounded (x ∷ xs) t n h _ (inl e) (goes {n = m} {h = k} d p) =
      let (j, i, l) = step x xs t m (subst (λ u. Member m (dependences S u.0)) e d) in
      let b : k ≤ j = bounded xs ((and_parts _ (layered S xs) t).1) m j k i p in
      let l' : entries_in n + j ≤ h = subst (λ u. entries_in u.0 + j ≤ u.1) (sym e) l in
      omega (arith, b, l')

  within : (x : Node × ℕ) (xs : List (Node × ℕ)) → IsTrue (layered S (x ∷ xs)) → (m : Node) → Member m (dependences S x.0) → (k : ℕ) × Member (m, k) xs
  within x xs t m d = let (k, i, l) = step x xs t m d in (k, i)

  stays : (xs : List (Node × ℕ)) → IsTrue (layered S xs) → (m n : Node) (h : ℕ) → Member (m, h) xs → Member n (dependences S m) → (k : ℕ) × Member (n, k) xs
  stays [] t m n h i d = absurd i
  stays (x ∷ xs) t m n h (inl e) d = let (k, j) = within x xs t n (subst (λ u. Member n (dependences S u.0)) e d) in (k, inr j)
  stays (x ∷ xs) t m n h (inr i) d = let (k, j) = stays xs (and_parts _ _ t).1 m n h i d in (k, inr j)

  leads : (xs : List (Node × ℕ)) → IsTrue (layered S xs) → (m n : Node) (h : ℕ) → Member (m, h) xs → Leads S m n → (k : ℕ) × Member (n, k) xs
  leads xs t m n h i (once d) = stays xs t m n h i d
  leads xs t m n h i (further {m = l} d r) = let (k, j) = stays xs t m l h i d in leads xs t l n k j r

  -- what a node leads to stands behind it
  behind : (x : Node × ℕ) (xs : List (Node × ℕ)) → IsTrue (layered S (x ∷ xs)) → (n : Node) → Leads S x.0 n → (k : ℕ) × Member (n, k) xs
  behind x xs t n (once d) = within x xs t n d
  behind x xs t n (further {m = l} d r) = let (k, j) = within x xs t l d in leads xs (and_parts _ _ t).1 l n k j r

  unlisted : (xs : List (Node × ℕ)) (n : Node) (k : ℕ) → Member (n, k) xs → IsTrue (is_new (height_in xs n)) → ⊥
  unlisted [] n k m t = m
  unlisted (x ∷ xs) n k (inl e) t =
      (elim (same_node n x.0) as (λ b. same_node n x.0 ≡ b → IsTrue (is_new (if b then Some x.1 else height_in xs n)) → ⊥) [
        | true ↦ λ u z. absurd (cc z)
        | false ↦ λ u z. let f : same_node n x.0 ≡ true = subst (λ t. same_node n t.0 ≡ true) e (node_same n) in absurd (cc (f, u))
      ]) refl t
    where
      node_same : (n : Node) → same_node n n ≡ true
      node_same (Value a) = addr_same a
      node_same (Entry a) = addr_same a
  unlisted (x ∷ xs) n k (inr m) t =
      (elim (same_node n x.0) as (λ b. same_node n x.0 ≡ b → IsTrue (is_new (if b then Some x.1 else height_in xs n)) → ⊥) [
        | true ↦ λ u z. absurd (cc z)
        | false ↦ λ u z. unlisted xs n k m z
      ]) refl t

  pub no_circle : (xs : List (Node × ℕ)) → IsTrue (layered S xs) → (n : Node) (h : ℕ) → Member (n, h) xs → Leads S n n → ⊥
  no_circle [] t n h m l = m
  no_circle (x ∷ xs) t n h (inr m) l = no_circle xs (and_parts _ _ t).1 n h m l
  no_circle (x ∷ xs) t n h (inl e) l =
      let r : Leads S x.0 x.0 = subst (λ u. Leads S u.0 u.0) e l in
      let (k, m) = behind x xs t x.0 r in
      unlisted xs x.0 k m (and_parts _ _ (and_parts _ _ t).0).0

abbrev pub lists : List (Node × ℕ) → Node → Bool
lists xs n = is_some (height_in xs n)

known_height : (xs : List (Node × ℕ)) (n : Node) → IsTrue (lists xs n) → (h : ℕ) × Member (n, h) xs
known_height xs n t =
    (elim (height_in xs n) as (λ o. height_in xs n ≡ o → IsTrue (is_some o) → (h : ℕ) × Member (n, h) xs) [
      | None ↦ λ u z. absurd (cc z)
      | Some h ↦ λ u z. (h, listed xs n h u)
    ]) refl t

-- such a list of all nodes, with no height above h, shows a forecast
pub yes_by : (S : Cells) (xs : List (Node × ℕ)) (h : ℕ) → IsFalse (list_any (uses_sheets S) (formula_addresses S)) → IsTrue (layered S xs) → IsTrue (list_all (lists xs) (nodes S)) → IsTrue (list_all (λ x. nat_le x.1 h) xs) →
    (h ≡ 0) ⊎ ((n : Node) × Member n (nodes S) × Path S n h) → IsForecast S (Yes h)
yes_by S xs h u t all low r =
    yes u
    (λ n m l. let (k, i) = known_height xs n (all_member (lists xs) (nodes S) all n m) in no_circle S xs t n k i l)
    (record {
      reached = r;
      most = λ n k m p.
          let (j, i) = known_height xs n (all_member (lists xs) (nodes S) all n m) in
          let a : k ≤ j = bounded S xs t n j k i p in
          let b : j ≤ h = leb-true j h (all_member (λ x. nat_le x.1 h) xs low (n, j) i) in
          omega (arith, a, b);
    })
