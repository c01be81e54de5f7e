-- A sheet has a forecast: whether a node depends on itself is decided, and where none does there is a height.
use Rattle.std.proofs.Common.{◌≡◌, ◌⊎◌, inl, inr, ℕ, ◌+◌, ◌≤◌, nat_le, Bool, true, false, List, [], ◌∷◌, refl, subst, arith, IsTrue}
use Rattle.std.specs.List.{list_any}
use Rattle.std.proofs.lemmas.Bool.{leb-true, leb-false}
use Rattle.gl_calculus.specs.Computation.Lists.{Member}
use Rattle.gl_calculus.specs.Grid.Grid.{Addr}
use Rattle.gl_calculus.specs.Formulas.Formula.{Cells, formula_addresses}
use Rattle.gl_calculus.proofs.Grants.{split, clash}
use Rattle.gl_calculus.proofs.Tests.{addr_same}
use Rattle.gl_calculus.specs.Forecast.{Node, Value, Entry, cell_nodes, nodes, dependences, Leads, once, further, entries_in, Path, ends, goes, IsHeight, IsInCircle, uses_sheets, Forecast, Yes, Circle, Unknown, First, here, behind, IsForecast, unknown, circle, yes}
use Rattle.laws_calculus.proofs.Forecast.Finite as Fin
use Rattle.laws_calculus.proofs.Forecast.Orders.{same_node, node_exact}
use Rattle.laws_calculus.proofs.Forecast.Nodes.{within, of_formula, node_cell}

-- it holds, or it doesn't
abbrev Decided : Type 0 → Type 0
Decided P = P ⊎ (P → ⊥)

-- ---- ways through some things

module _ {X : Type 0} (R : X → X → Type 0) where
  -- from one to another, with no other things than these between
  abbrev Via : List X → X → X → Type 0
  Via [] x y = R x y
  Via (z ∷ zs) x y = Via zs x y ⊎ (Via zs x z × Via zs z y)

  directly : (zs : List X) (x y : X) → R x y → Via zs x y
  directly [] x y r = r
  directly (z ∷ zs) x y r = inl (directly zs x y r)

  to_first : (z : X) (zs : List X) (x : X) → Via (z ∷ zs) x z → Via zs x z
  to_first z zs x (inl p) = p
  to_first z zs x (inr u) = u.0

  from_first : (z : X) (zs : List X) (y : X) → Via (z ∷ zs) z y → Via zs z y
  from_first z zs y (inl p) = p
  from_first z zs y (inr u) = u.1

  after : (zs : List X) (x z y : X) → Member z zs → Via zs x z → Via zs z y → Via zs x y
  after [] x z y m p q = absurd m
  after (u ∷ zs) x z y (inl e) p q =
      let p' : Via (u ∷ zs) x u = subst (λ t. Via (u ∷ zs) x t) e p in
      let q' : Via (u ∷ zs) u y = subst (λ t. Via (u ∷ zs) t y) e q in
      inr (to_first u zs x p', from_first u zs y q')
  after (u ∷ zs) x z y (inr m) (inl p) (inl q) = inl (after zs x z y m p q)
  after (u ∷ zs) x z y (inr m) (inl p) (inr q) = inr (after zs x z u m p q.0, q.1)
  after (u ∷ zs) x z y (inr m) (inr p) (inl q) = inr (p.0, after zs u z y m p.1 q)
  after (u ∷ zs) x z y (inr m) (inr p) (inr q) = inr (p.0, q.1)

  decided_via : ((x y : X) → Decided (R x y)) → (zs : List X) (x y : X) → Decided (Via zs x y)
  decided_via d [] x y = d x y
  decided_via d (z ∷ zs) x y = by (decided_via d zs x y) (decided_via d zs x z) (decided_via d zs z y)
    where
      neither : (Via zs x y → ⊥) → (Via zs x z × Via zs z y → ⊥) → Via (z ∷ zs) x y → ⊥
      neither n s (inl p) = n p
      neither n s (inr u) = s u

      by : Decided (Via zs x y) → Decided (Via zs x z) → Decided (Via zs z y) → Decided (Via (z ∷ zs) x y)
      by (inl p) q r = inl (inl p)
      by (inr n) (inl q) (inl r) = inl (inr (q, r))
      by (inr n) (inl q) (inr s) = inr (neither n (λ u. s u.1))
      by (inr n) (inr s) r = inr (neither n (λ u. s u.0))

-- ---- lists

first_or : (P : Addr → Type 0) (rest : List Addr) → ((a : Addr) → Member a rest → Decided (P a)) → ((a : Addr) × First P rest a) ⊎ ((a : Addr) → Member a rest → P a → ⊥)
first_or P [] d = inr (λ a m. absurd m)
first_or P (b ∷ rest) d = by (d b (inl refl)) (first_or P rest (λ a m. d a (inr m)))
  where
    none : (P b → ⊥) → ((a : Addr) → Member a rest → P a → ⊥) → (a : Addr) → (a ≡ b) ⊎ Member a rest → P a → ⊥
    none n h a (inl e) p = n (subst P e p)
    none n h a (inr m) p = h a m p

    by : Decided (P b) → ((a : Addr) × First P rest a) ⊎ ((a : Addr) → Member a rest → P a → ⊥) → ((a : Addr) × First P (b ∷ rest) a) ⊎ ((a : Addr) → Member a (b ∷ rest) → P a → ⊥)
    by (inl p) r = inl (b, here p)
    by (inr n) (inl (a, f)) = inl (a, behind n f)
    by (inr n) (inr h) = inr (none n h)

decided_some : (P : Node → Type 0) (xs : List Node) → ((n : Node) → Member n xs → Decided (P n)) → Decided ((n : Node) × Member n xs × P n)
decided_some P [] d = inr (λ t. t.1)
decided_some P (x ∷ xs) d = by (d x (inl refl)) (decided_some P xs (λ n m. d n (inr m)))
  where
    none : (P x → ⊥) → ((n : Node) × Member n xs × P n → ⊥) → (n : Node) → (n ≡ x) ⊎ Member n xs → P n → ⊥
    none s h n (inl e) p = s (subst P e p)
    none s h n (inr m) p = h (n, m, p)

    by : Decided (P x) → Decided ((n : Node) × Member n xs × P n) → Decided ((n : Node) × Member n (x ∷ xs) × P n)
    by (inl p) r = inl (x, inl refl, p)
    by (inr s) (inl (n, m, p)) = inl (n, inr m, p)
    by (inr s) (inr h) = inr (λ t. none s h t.0 t.1 t.2)

node_same : (n : Node) → same_node n n ≡ true
node_same (Value a) = addr_same a
node_same (Entry a) = addr_same a

decided_member : (n : Node) (xs : List Node) → Decided (Member n xs)
decided_member n [] = inr (λ m. m)
decided_member n (x ∷ xs) = by (split (same_node n x)) (decided_member n xs)
  where
    neither : same_node n x ≡ false → (Member n xs → ⊥) → (n ≡ x) ⊎ Member n xs → ⊥
    neither f h (inl e) = clash (subst (λ t. same_node n t ≡ true) e (node_same n)) f
    neither f h (inr m) = h m

    by : (same_node n x ≡ true) ⊎ (same_node n x ≡ false) → Decided (Member n xs) → Decided (Member n (x ∷ xs))
    by (inl e) r = inl (inl (node_exact n x e))
    by (inr f) (inl m) = inl (inr m)
    by (inr f) (inr h) = inr (neither f h)

decided_true : (b : Bool) → Decided (b ≡ true)
decided_true b = by (split b)
  where
    by : (b ≡ true) ⊎ (b ≡ false) → Decided (b ≡ true)
    by (inl e) = inl e
    by (inr f) = inr (λ e. clash e f)

none_any : (test : Addr → Bool) (rest : List Addr) → ((a : Addr) → Member a rest → test a ≡ true → ⊥) → list_any test rest ≡ false
none_any test [] h = refl
none_any test (b ∷ rest) h = by (split (test b)) (none_any test rest (λ a m. h a (inr m)))
  where
    by : (test b ≡ true) ⊎ (test b ≡ false) → list_any test rest ≡ false → list_any test (b ∷ rest) ≡ false
    by (inl e) t = absurd (h b (inl refl) e)
    by (inr f) t = rw (f, t) refl

module _ (S : Cells) where
  -- ---- circles

  abbrev depends : Node → Node → Type 0
  depends m n = Member n (dependences S m)

  through : (l m n : Node) → Leads S l m → Leads S m n → Leads S l n
  through l m n (once d) k = further d k
  through l m n (further {m = j} d c) k = further d (through j m n c k)

  via_leads : (zs : List Node) (m n : Node) → Via depends zs m n → Leads S m n
  via_leads [] m n d = once d
  via_leads (z ∷ zs) m n (inl p) = via_leads zs m n p
  via_leads (z ∷ zs) m n (inr u) = through m z n (via_leads zs m z u.0) (via_leads zs z n u.1)

  leads_via : (m n : Node) → Member m (nodes S) → Leads S m n → Via depends (nodes S) m n
  leads_via m n i (once d) = directly depends (nodes S) m n d
  leads_via m n i (further {m = j} d c) =
      let k = within S m j i d in
      after depends (nodes S) m j n k (directly depends (nodes S) m j d) (leads_via j n k c)

  decided_leads : (n : Node) → Member n (nodes S) → Decided (Leads S n n)
  decided_leads n i = by (decided_via depends (λ x y. decided_member y (dependences S x)) (nodes S) n n)
    where
      by : Decided (Via depends (nodes S) n n) → Decided (Leads S n n)
      by (inl p) = inl (via_leads (nodes S) n n p)
      by (inr s) = inr (λ l. s (leads_via n n i l))

  decided_circle : (a : Addr) → Member a (formula_addresses S) → Decided (IsInCircle S a)
  decided_circle a i = decided_some (λ n. Leads S n n) (cell_nodes S a) (λ n m. decided_leads n (of_formula S a n i m))

  -- ---- the height

  -- the greatest number of entries on a path from the node
  record Highest (x : Node) : Type 0 where
    pub height : ℕ
    pub path : Path S x height
    pub most : (k : ℕ) → Path S x k → k ≤ height

  -- the same of the paths that go on to one of these nodes, or end
  record Over (x : Node) (ds : List Node) : Type 0 where
    pub height : ℕ
    pub path : Path S x height
    pub own : entries_in x ≤ height
    pub most : (y : Node) (k : ℕ) → Member y ds → Path S y k → entries_in x + k ≤ height

  over : (x : Node) (ds : List Node) → ((y : Node) → Member y ds → Member y (dependences S x) × Highest y) → Over x ds
  over x [] h = record { height = entries_in x; path = ends; own = omega arith; most = λ y k m p. absurd m }
  over x (d ∷ ds) h =
      let (i, t) = h d (inl refl) in
      let r = over x ds (λ y m. h y (inr m)) in
      by i t r (split (nat_le (entries_in x + t.height) r.height))
    where
      most : (t : Highest d) (r : Over x ds) (n : ℕ) → entries_in x + t.height ≤ n → r.height ≤ n → (y : Node) (k : ℕ) → (y ≡ d) ⊎ Member y ds → Path S y k → entries_in x + k ≤ n
      most t r n u v y k (inl e) p = let q = t.most k (subst (λ z. Path S z k) e p) in omega (arith, q, u)
      most t r n u v y k (inr m) p = let q = r.most y k m p in omega (arith, q, v)

      by : Member d (dependences S x) → (t : Highest d) (r : Over x ds) → (nat_le (entries_in x + t.height) r.height ≡ true) ⊎ (nat_le (entries_in x + t.height) r.height ≡ false) → Over x (d ∷ ds)
      by i t r (inl e) =
          let u = leb-true (entries_in x + t.height) r.height e in
          record { height = r.height; path = r.path; own = r.own; most = most t r r.height u (omega arith) }
      by i t r (inr f) =
          let v = leb-false (entries_in x + t.height) r.height f in
          record { height = entries_in x + t.height; path = goes i t.path; own = omega arith; most = most t r (entries_in x + t.height) (omega arith) (omega (arith, v)) }

  from_all : (x : Node) → Over x (dependences S x) → Highest x
  from_all x o = record { height = o.height; path = o.path; most = most }
    where
      most : (k : ℕ) → Path S x k → k ≤ o.height
      most _ ends = o.own
      most _ (goes {n = n} {h = h} d p) = o.most n h d p

  leads : (m n : Node) → Fin.Chain depends m n → Leads S m n
  leads m n (Fin.once r) = once r
  leads m n (Fin.further {y = k} r c) = further r (leads k n c)

  module _ (no_circle : (n : Node) → Member n (nodes S) → Leads S n n → ⊥) where
    highest : (x : Node) → Member x (nodes S) → Highest x
    highest x i =
        Fin.along depends (nodes S) (λ x y j r. within S x y j r) (λ x j c. no_circle x j (leads x x c)) Highest
        (λ x j h. from_all x (over x (dependences S x) (λ y m. (m, h y m)))) x i

    -- the greatest number of entries on a path from one of these nodes
    record Greatest (xs : List Node) : Type 0 where
      pub height : ℕ
      pub reached : (height ≡ 0) ⊎ ((n : Node) × Member n (nodes S) × Path S n height)
      pub most : (n : Node) (k : ℕ) → Member n xs → Path S n k → k ≤ height

    greatest : (xs : List Node) → ((n : Node) → Member n xs → Member n (nodes S)) → Greatest xs
    greatest [] h = record { height = 0; reached = inl refl; most = λ n k m p. absurd m }
    greatest (x ∷ xs) h =
        let t = highest x (h x (inl refl)) in
        let r = greatest xs (λ n m. h n (inr m)) in
        by t r (split (nat_le t.height r.height))
      where
        most : (t : Highest x) (r : Greatest xs) (g : ℕ) → t.height ≤ g → r.height ≤ g → (n : Node) (k : ℕ) → (n ≡ x) ⊎ Member n xs → Path S n k → k ≤ g
        most t r g u v n k (inl e) p = let q = t.most k (subst (λ z. Path S z k) e p) in omega (arith, q, u)
        most t r g u v n k (inr m) p = let q = r.most n k m p in omega (arith, q, v)

        by : (t : Highest x) (r : Greatest xs) → (nat_le t.height r.height ≡ true) ⊎ (nat_le t.height r.height ≡ false) → Greatest (x ∷ xs)
        by t r (inl e) = let u = leb-true t.height r.height e in record { height = r.height; reached = r.reached; most = most t r r.height u (omega arith) }
        by t r (inr f) =
            let v = leb-false t.height r.height f in
            record { height = t.height; reached = inr (x, h x (inl refl), t.path); most = most t r t.height (omega arith) (omega (arith, v)) }

    height : (h : ℕ) × IsHeight S h
    height = let g = greatest (nodes S) (λ n m. m) in (g.height, record { reached = g.reached; most = g.most })

  -- ---- the forecast

  pub some_forecast : (x : Forecast) × IsForecast S x
  some_forecast = by (first_or (λ (b : Addr). IsTrue (uses_sheets S b)) (formula_addresses S) (λ a m. decided_true (uses_sheets S a)))
    where
      without : list_any (uses_sheets S) (formula_addresses S) ≡ false → ((a : Addr) × First (IsInCircle S) (formula_addresses S) a) ⊎ ((a : Addr) → Member a (formula_addresses S) → IsInCircle S a → ⊥) → (x : Forecast) × IsForecast S x
      without t (inl (a, f)) = (Circle a, circle t f)
      without t (inr s) =
          let no_circle : (n : Node) → Member n (nodes S) → Leads S n n → ⊥ = λ n m l. (let (a, i, j) = node_cell S n m in s a i (n, j, l)) in
          let (h, p) = height no_circle in
          (Yes h, yes t no_circle p)

      by : ((a : Addr) × First (λ (b : Addr). IsTrue (uses_sheets S b)) (formula_addresses S) a) ⊎ ((a : Addr) → Member a (formula_addresses S) → IsTrue (uses_sheets S a) → ⊥) → (x : Forecast) × IsForecast S x
      by (inl (a, f)) = (Unknown a, unknown f)
      by (inr s) = without (none_any (uses_sheets S) (formula_addresses S) s) (first_or (IsInCircle S) (formula_addresses S) decided_circle)
