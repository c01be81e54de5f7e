-- What a search over numbered nodes and fewer steps says of the dependences of a sheet.
use Rattle.std.proofs.Common.{◌≡◌, ◌⊎◌, inl, inr, ℕ, ◌+◌, ◌≤◌, List, refl, sym, subst, ap, ◌∙◌, arith}
use Rattle.gl_calculus.specs.Computation.Lists.{Member}
use Rattle.gl_calculus.specs.Formulas.Formula.{Cells}
use Rattle.gl_calculus.specs.Forecast.{Node, nodes, dependences, Leads, once, further, entries_in, Path, ends, goes, IsHeight}
use Rattle.gl_graph.specs.Graph as G
use Rattle.gl_graph.specs.Graph.{IsPlain}

module _ (S : Cells) (node : ℕ → Node) (steps : ℕ → List ℕ) (weight : ℕ → ℕ) (IsReal : ℕ → Type 0)
    (weighs : (m : ℕ) → weight m ≡ entries_in (node m))
    (part : (m n : ℕ) → IsReal m → Member n (steps m) → IsReal n × Member (node n) (dependences S (node m)))
    (enough : (m : ℕ) (d : Node) → IsReal m → Member d (dependences S (node m)) → (n : ℕ) × (node n ≡ d) × G.Leads steps m n)
    (apart : (m n : ℕ) → IsReal m → IsReal n → node m ≡ node n → m ≡ n) where
  real_on : {m n : ℕ} → IsReal m → G.Leads steps m n → IsReal n
  real_on {m = m} {n = n} r (G.Leads.once i) = (part m n r i).0
  real_on {m = l} {n = n} r (G.Leads.further {m = m} i s) = real_on (part l m r i).0 s

  -- steps are dependences
  pub to_nodes : {m n : ℕ} → IsReal m → G.Leads steps m n → Leads S (node m) (node n)
  to_nodes {m = m} {n = n} r (G.Leads.once i) = once (part m n r i).1
  to_nodes {m = l} {n = n} r (G.Leads.further {m = m} i s) = let p = part l m r i in further p.1 (to_nodes p.0 s)

  numbers_on : {l m n : ℕ} → G.Leads steps l m → G.Leads steps m n → G.Leads steps l n
  numbers_on (G.Leads.once i) s = G.Leads.further i s
  numbers_on (G.Leads.further i r) s = G.Leads.further i (numbers_on r s)

  -- and what dependences lead to, steps do
  pub to_numbers : (m : ℕ) {c d : Node} → IsReal m → node m ≡ c → Leads S c d → (n : ℕ) × (node n ≡ d) × G.Leads steps m n
  to_numbers m {c} {d} r e (once i) = enough m d r (subst (λ t. Member d (dependences S t)) (sym e) i)
  to_numbers m {c} {d} r e (further {m = b} i s) =
      let (k, u, v) = enough m b r (subst (λ t. Member b (dependences S t)) (sym e) i) in
      let (n, x, y) = to_numbers k (real_on r v) u s in
      (n, x, numbers_on v y)

  pub in_no_circle : (m : ℕ) → IsReal m → (G.Leads steps m m → ⊥) → Leads S (node m) (node m) → ⊥
  in_no_circle m r h s =
      let (n, e, l) = to_numbers m r refl s in
      h (subst (λ t. G.Leads steps m t) (apart n m (real_on r l) r e) l)

  -- paths of steps are paths of dependences
  pub path_to : {m h : ℕ} → IsReal m → G.Path steps weight m h → Path S (node m) h
  path_to {m} r G.Path.ends = subst (λ t. Path S (node m) t) (sym (weighs m)) ends
  path_to {m} r (G.Path.goes {n = n} {h = h} i p) =
      let q = part m n r i in subst (λ t. Path S (node m) (t + h)) (sym (weighs m)) (goes q.1 (path_to q.0 p))

  -- a chain of steps before a path
  longer : {m n j : ℕ} → G.Leads steps m n → G.Path steps weight n j → (i : ℕ) × G.Path steps weight m i × (weight m + j ≤ i)
  longer {m = m} {n = n} {j = j} (G.Leads.once i) p = (weight m + j, G.Path.goes i p, omega arith)
  longer {m = l} {n = n} {j = j} (G.Leads.further i s) p = let (h, q, u) = longer s p in (weight l + h, G.Path.goes i q, omega (arith, u))

  -- and a path of dependences weighs no more than some path of steps
  pub path_from : (m : ℕ) {c : Node} {k : ℕ} → IsReal m → node m ≡ c → Path S c k → (j : ℕ) × G.Path steps weight m j × (k ≤ j)
  path_from m {c} r e ends = let u : entries_in c ≡ weight m = ap entries_in (sym e) ∙ sym (weighs m) in (weight m, G.Path.ends, omega (arith, u))
  path_from m {c} r e (goes {n = d} {h = h} i p) =
      let (n, x, l) = enough m d r (subst (λ t. Member d (dependences S t)) (sym e) i) in
      let (j, q, u) = path_from n (real_on r l) x p in
      let (b, s, v) = longer l q in
      let w : entries_in c ≡ weight m = ap entries_in (sym e) ∙ sym (weighs m) in
      (b, s, omega (arith, u, v, w))

  module _ (numbered : (d : Node) → Member d (nodes S) → (n : ℕ) × IsReal n × (node n ≡ d)) (real_node : (m : ℕ) → IsReal m → Member (node m) (nodes S))
      (height : ℕ)
      (known : (m : ℕ) → IsReal m → (G.Leads steps m m → ⊥) × (t : ℕ) × (h : ℕ) × IsReal t × G.Reaches steps t m × IsPlain steps weight t h × (h ≤ height)) where
    -- where all numbers are in no circle, no node is
    pub no_circles : (d : Node) → Member d (nodes S) → Leads S d d → ⊥
    no_circles d i s = let (n, r, e) = numbered d i in in_no_circle n r (known n r).0 (subst (λ t. Leads S t t) (sym e) s)

    low : (d : Node) (k : ℕ) → Member d (nodes S) → Path S d k → k ≤ height
    low d k i p =
        let (m, r, e) = numbered d i in
        let (j, q, u) = path_from m r e p in
        let (apart_itself, t, h, rt, back, plain, l) = known m r in
        let v : j ≤ h = by m t h rt back plain j q in
        omega (arith, u, v, l)
      where
        free : (t : ℕ) → IsReal t → (x : ℕ) → G.Leads steps t x → G.Leads steps x x → ⊥
        free t rt x s c = (known x (real_on rt s)).0 c

        by : (m' t h : ℕ) → IsReal t → G.Reaches steps t m' → IsPlain steps weight t h → (j : ℕ) → G.Path steps weight m' j → j ≤ h
        by m' t h rt (inl e) plain j q = plain.most (free t rt) j (subst (λ z. G.Path steps weight z j) (sym e) q)
        by m' t h rt (inr s) plain j q = let (i, z, u) = longer s q in let w = plain.most (free t rt) i z in omega (arith, u, w)

    pub is_height : (height ≡ 0) ⊎ ((m : ℕ) × IsReal m × G.Path steps weight m height) → IsHeight S height
    is_height reached = record { reached = to reached; most = low }
      where
        to : (height ≡ 0) ⊎ ((m : ℕ) × IsReal m × G.Path steps weight m height) → (height ≡ 0) ⊎ ((n : Node) × Member n (nodes S) × Path S n height)
        to (inl e) = inl e
        to (inr (m, r, p)) = inr (node m, real_node m r, path_to r p)
