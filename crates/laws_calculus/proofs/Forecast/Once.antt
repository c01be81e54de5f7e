-- A sheet has no more than one forecast.
use Rattle.std.proofs.Common.{◌≡◌, ◌⊎◌, inl, inr, ℕ, ◌≤◌, Bool, true, false, List, [], ◌∷◌, ◌||◌, refl, subst, ap, arith, IsTrue}
use Rattle.std.specs.List.{list_any}
use Rattle.gl_calculus.specs.Computation.Lists.{Member}
use Rattle.gl_calculus.specs.Grid.Grid.{Addr}
use Rattle.gl_calculus.specs.Formulas.Formula.{Cells, formula_addresses}
use Rattle.gl_calculus.proofs.Grants.{clash}
use Rattle.gl_calculus.specs.Forecast.{Node, nodes, Leads, Path, IsHeight, IsInCircle, uses_sheets, Forecast, Yes, Circle, Unknown, First, here, behind, IsForecast, unknown, circle, yes}
use Rattle.laws_calculus.proofs.Forecast.Nodes.{of_formula}

one_first : (P : Addr → Type 0) (rest : List Addr) (a b : Addr) → First P rest a → First P rest b → a ≡ b
one_first P [] a b f g = elim f [ ]
one_first P (c ∷ rest) _ _ (here p) (here q) = refl
one_first P (c ∷ rest) _ b (here p) (behind n g) = absurd (n p)
one_first P (c ∷ rest) a _ (behind n f) (here q) = absurd (n q)
one_first P (c ∷ rest) a b (behind n f) (behind m g) = one_first P rest a b f g

first_has : (P : Addr → Type 0) (rest : List Addr) (a : Addr) → First P rest a → Member a rest × P a
first_has P [] a f = elim f [ ]
first_has P (c ∷ rest) _ (here p) = (inl refl, p)
first_has P (c ∷ rest) a (behind n f) = let (m, p) = first_has P rest a f in (inr m, p)

some_any : (test : Addr → Bool) (rest : List Addr) (a : Addr) → Member a rest → test a ≡ true → list_any test rest ≡ true
some_any test [] a m e = absurd m
some_any test (b ∷ rest) a (inl d) e = let t : test b ≡ true = subst (λ u. test u ≡ true) d e in rw t refl
some_any test (b ∷ rest) a (inr m) e = by (test b) (some_any test rest a m e)
  where
    by : (c : Bool) → list_any test rest ≡ true → (c || list_any test rest) ≡ true
    by true h = refl
    by false h = h

module _ (S : Cells) where
  heights : (h k : ℕ) → IsHeight S h → IsHeight S k → h ≤ k
  heights h k p q = by p.reached
    where
      by : (h ≡ 0) ⊎ ((n : Node) × Member n (nodes S) × Path S n h) → h ≤ k
      by (inl e) = omega (arith, e)
      by (inr (n, m, r)) = q.most n h m r

  makes_some : (a : Addr) → First (λ (b : Addr). IsTrue (uses_sheets S b)) (formula_addresses S) a → list_any (uses_sheets S) (formula_addresses S) ≡ true
  makes_some a f = let (m, p) = first_has (λ (b : Addr). IsTrue (uses_sheets S b)) (formula_addresses S) a f in some_any (uses_sheets S) (formula_addresses S) a m p

  no_both : (a : Addr) → First (IsInCircle S) (formula_addresses S) a → ((n : Node) → Member n (nodes S) → Leads S n n → ⊥) → ⊥
  no_both a f n = let (m, (x, i, l)) = first_has (IsInCircle S) (formula_addresses S) a f in n x (of_formula S a x m i) l

  pub one_forecast : (x y : Forecast) → IsForecast S x → IsForecast S y → x ≡ y
  one_forecast _ _ (unknown {a = a} f) (unknown {a = b} g) = ap Unknown (one_first (λ (b : Addr). IsTrue (uses_sheets S b)) (formula_addresses S) a b f g)
  one_forecast _ _ (unknown {a = a} f) (circle t g) = absurd (clash (makes_some a f) t)
  one_forecast _ _ (unknown {a = a} f) (yes t n h) = absurd (clash (makes_some a f) t)
  one_forecast _ _ (circle t g) (unknown {a = a} f) = absurd (clash (makes_some a f) t)
  one_forecast _ _ (circle {a = a} t f) (circle {a = b} s g) = ap Circle (one_first (IsInCircle S) (formula_addresses S) a b f g)
  one_forecast _ _ (circle {a = a} t f) (yes s n h) = absurd (no_both a f n)
  one_forecast _ _ (yes t n h) (unknown {a = a} f) = absurd (clash (makes_some a f) t)
  one_forecast _ _ (yes t n h) (circle {a = a} s f) = absurd (no_both a f n)
  one_forecast _ _ (yes {h = h} t n p) (yes {h = k} s m q) = let e : h ≡ k = omega (arith, heights h k p q, heights k h q p) in ap Yes e
