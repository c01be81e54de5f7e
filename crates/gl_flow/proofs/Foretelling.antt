-- What the search over the network of a sheet says of the sheet.
use Rattle.std.proofs.Common.{◌≡◌, ◌⊎◌, inl, inr, ℕ, zero, suc, ◌+◌, ◌*◌, ◌<◌, ◌≤◌, max, true, List, [], ◌∷◌, map, length, get_or, refl, sym, subst, ap, ◌∙◌, arith}
use Rattle.std.specs.Prelude.{Option, Some, None, slice_get, IsFalse, IfSome, IfNone}
use Rattle.std.specs.List.{list_any}
use Rattle.std.specs.Option.{option_to_list}
use Rattle.std.proofs.lemmas.Bool.{cases_lt}
use Rattle.std.proofs.lemmas.Option.{slice_get_within, slice_get_read, slice_get-get_or}
use Rattle.gl_calculus.specs.Computation.Lists.{Member}
use Rattle.gl_calculus.specs.Grid.Grid.{Addr, addr, Range}
use Rattle.gl_calculus.specs.Formulas.Formula.{Cells, formula_addresses}
use Rattle.gl_calculus.specs.Forecast as Fo
use Rattle.gl_calculus.specs.Forecast.{Node, box, Leads, IsInCircle, First, here, behind, IsForecast, circle, yes}
use Rattle.gl_graph.specs.Graph as G
use Rattle.gl_graph.specs.Graph.{IsPlain}
use Rattle.gl_graph.specs.Search.{is_shut, AreTrue}
use Rattle.gl_graph.specs.declared.mark.Mark.{Mark}
use Rattle.gl_graph.specs.declared.mark.Mark.TheVariants.{Plain, Circle}
use Rattle.gl_flow.specs.Places.{StandsAt}
use Rattle.gl_flow.specs.Pieces.{rows_read}
use Rattle.gl_flow.specs.Network.{Plan, top_node, top_of, box_of, node_steps, node_of}
use Rattle.gl_flow.specs.Planning.{IsPlanOf}
use Rattle.gl_flow.specs.Searching.{steps_of, weight_of, IsLow, IsCircled, IsSearched}
use Rattle.gl_flow.proofs.Dependences.{IsReal, value, entry, value_node, entry_node, entry_from, box_of_is, top_part, part}
use Rattle.gl_flow.proofs.Reached.{enough}
use Rattle.gl_flow.proofs.Planned.{weighs, apart, numbered, real_node}
use Rattle.gl_flow.proofs.Numbered as N

-- ---- the search, one formula cell after another

module _ (p : Plan) where
  -- the top of a formula cell is its value, or leads to it by the first step
  pub down : (k : ℕ) → G.Reaches (steps_of p) (top_of p k) (2 * k)
  down k = by (box_of p k) refl
    where
      by : (o : Option Range) → box_of p k ≡ o → G.Reaches (steps_of p) (top_of p k) (2 * k)
      by None e = inl (ap (top_node k) e)
      by (Some r) e = inr (subst (λ t. G.Leads (steps_of p) t (2 * k)) (sym (ap (top_node k) e)) (G.Leads.once (subst (λ t. Member (2 * k) t) (sym (entry_from p k)) (inl refl))))

  -- where the top is known, the value is
  pub value_shut : (mark : ℕ → Mark) (k : ℕ) → AreTrue (node_steps p) weight_of mark → is_shut (mark (top_of p k)) ≡ true → is_shut (mark (2 * k)) ≡ true
  value_shut mark k h s = by (down k)
    where
      along : (m n : ℕ) → G.Leads (steps_of p) m n → is_shut (mark m) ≡ true → is_shut (mark n) ≡ true
      along m n (G.Leads.once i) s = h.closed m n s i
      along m n (G.Leads.further {m = b} i l) s = along b n l (h.closed m b s i)

      by : G.Reaches (steps_of p) (top_of p k) (2 * k) → is_shut (mark (2 * k)) ≡ true
      by (inl e) = subst (λ t. is_shut (mark t) ≡ true) e s
      by (inr l) = along (top_of p k) (2 * k) l s

  pub low_is : (mark : ℕ → Mark) (k i h : ℕ) → AreTrue (node_steps p) weight_of mark → mark (2 * k) ≡ Plain i → mark (top_of p k) ≡ Plain h → IsLow p k h
  low_is mark k i h t e d = ((t.plain (2 * k) i e).apart, t.plain (top_of p k) h d)

  -- a formula cell of which all is known
  pub cell_low : (mark : ℕ → Mark) (k : ℕ) (v o : Option ℕ) (i : ℕ) → AreTrue (node_steps p) weight_of mark → v ≡ Some i → IfSome v (λ h. mark (2 * k) ≡ Plain h) → IfSome o (λ h. mark (top_of p k) ≡ Plain h) → IfSome o (λ h. IsLow p k h)
  cell_low mark k v (Some h) i t e x y = low_is mark k i h t (subst (λ o. IfSome o (λ h. mark (2 * k) ≡ Plain h)) e x) y
  cell_low mark k v None i t e x y = tt

  pub cell_circled : (mark : ℕ → Mark) (k : ℕ) (o : Option ℕ) → AreTrue (node_steps p) weight_of mark → IfNone o (mark (top_of p k) ≡ Circle) → IfNone o (IsCircled p k)
  cell_circled mark k (Some h) t y = tt
  cell_circled mark k None t y = inr (t.circle (top_of p k) y)

  pub search_start : IsSearched p 0 0
  search_start = record { low = λ j l. absurd (omega (arith, l)); reached = inl refl }

  pub search_on : (k height h : ℕ) → IsSearched p k height → IsLow p k h → IsSearched p (k + 1) (max height h)
  search_on k height h s l = record { low = low; reached = by s.reached }
    where
      low : (j : ℕ) → j < k + 1 → (i : ℕ) × IsLow p j i × (i ≤ max height h)
      low j m = by (cases_lt j k)
        where
          by : (j < k) ⊎ (k ≤ j) → (i : ℕ) × IsLow p j i × (i ≤ max height h)
          by (inl u) = let (i, x, y) = s.low j u in (i, x, omega (arith, y))
          by (inr u) = let e : k ≡ j = omega (arith, m, u) in (h, subst (λ t. IsLow p t h) e l, omega arith)

      by : (height ≡ 0) ⊎ ((j : ℕ) × (j < k) × IsLow p j height) → (max height h ≡ 0) ⊎ ((j : ℕ) × (j < k + 1) × IsLow p j (max height h))
      by (inl e) = let u : h ≡ max height h = omega (arith, e) in inr (k, omega arith, subst (λ t. IsLow p k t) u l)
      by (inr (j, m, x)) = greater (cases_lt h height)
        where
          greater : (h < height) ⊎ (height ≤ h) → (max height h ≡ 0) ⊎ ((j : ℕ) × (j < k + 1) × IsLow p j (max height h))
          greater (inl u) = let e : height ≡ max height h = omega (arith, u) in inr (j, omega (arith, m), subst (λ t. IsLow p j t) e x)
          greater (inr u) = let e : h ≡ max height h = omega (arith, u) in inr (k, omega arith, subst (λ t. IsLow p k t) e l)

-- ---- what it says of the sheet

-- the first of a list with a property, by its place
first_at : (P : Addr → Type 0) (xs : List Addr) (k : ℕ) (a : Addr) → slice_get xs k ≡ Some a → P a → ((j : ℕ) (b : Addr) → j < k → slice_get xs j ≡ Some b → P b → ⊥) → First P xs a
first_at P [] k a e h f = absurd (cc e)
first_at P (x ∷ xs) zero a e h f = let u : x ≡ a = cc e in subst (λ t. First P (t ∷ xs) a) (sym u) (here h)
first_at P (x ∷ xs) (suc k) a e h f = behind (f 0 x (omega arith) refl) (first_at P xs k a e h (λ j b l s. f (suc j) b (omega (arith, l)) s))

module _ (S : Cells) (p : Plan) (h : IsPlanOf S (rows_read p.pieces) p) where
  -- a formula cell in a circle of numbers is in one of the sheet
  circled : (k : ℕ) (a : Addr) → StandsAt p.places a k → IsCircled p k → IsInCircle S a
  circled k a s (inl c) =
      let l = N.to_nodes S (node_of p) (steps_of p) weight_of (IsReal S p) (weighs p) (part S (rows_read p.pieces) p h) (enough S (rows_read p.pieces) p h) (apart S (rows_read p.pieces) p h) (value k s) c in
      (node_of p (2 * k), inl (value_node p k a s), l)
  circled k a s (inr c) =
      let (r, m) = top_part S (rows_read p.pieces) p h k a s in
      let l = N.to_nodes S (node_of p) (steps_of p) weight_of (IsReal S p) (weighs p) (part S (rows_read p.pieces) p h) (enough S (rows_read p.pieces) p h) (apart S (rows_read p.pieces) p h) r c in
      (node_of p (top_of p k), m, l)

  -- and one that is low is in none
  not_circled : (k i : ℕ) (a : Addr) → StandsAt p.places a k → IsLow p k i → IsInCircle S a → ⊥
  not_circled k i a s low (n, m, l) = by (box S a) refl m
    where
      apart_node : (m : ℕ) → IsReal S p m → (G.Leads (steps_of p) m m → ⊥) → Leads S (node_of p m) (node_of p m) → ⊥
      apart_node m r = N.in_no_circle S (node_of p) (steps_of p) weight_of (IsReal S p) (weighs p) (part S (rows_read p.pieces) p h) (enough S (rows_read p.pieces) p h) (apart S (rows_read p.pieces) p h) m r

      by : (o : Option Range) → box S a ≡ o → Member n (Node.Value a ∷ map (λ r. Node.Entry a) (option_to_list o)) → ⊥
      by o e (inl d) = apart_node (2 * k) (value k s) low.0 (subst (λ t. Leads S t t) (d ∙ sym (value_node p k a s)) l)
      by None e (inr i) = absurd i
      by (Some r) e (inr (inr i)) = absurd i
      by (Some r) e (inr (inl d)) =
          let u : top_of p k ≡ 2 * k + 1 = ap (top_node k) (box_of_is S (rows_read p.pieces) p h k a s ∙ e) in
          apart_node (2 * k + 1) (entry k s e) (subst (λ t. G.Leads (steps_of p) t t → ⊥) u low.1.apart) (subst (λ t. Leads S t t) (d ∙ sym (entry_node p k a s)) l)

  pub circle_at : (k height : ℕ) (a : Addr) → IsFalse (list_any (Fo.uses_sheets S) (formula_addresses S)) → IsSearched p k height → k < length p.places → a ≡ get_or p.places k a → IsCircled p k → IsForecast S (Fo.Forecast.Circle a)
  circle_at k height a none searched l is c =
      let s : StandsAt p.places a k = slice_get_read p.places (length p.places) k a refl l is in
      circle none (subst (λ t. First (IsInCircle S) t a) h.places (first_at (IsInCircle S) p.places k a s (circled k a s c) (λ j b m t. let (i, low, u) = searched.low j m in not_circled j i b t low)))

  -- what is known of each number
  known : (count height : ℕ) → length p.places ≤ count → IsSearched p count height → (m : ℕ) → IsReal S p m →
      (G.Leads (steps_of p) m m → ⊥) × (t : ℕ) × (i : ℕ) × IsReal S p t × G.Reaches (steps_of p) t m × IsPlain (steps_of p) weight_of t i × (i ≤ height)
  known count height l searched m (value k {a = a} s) =
      let n = slice_get_within p.places k a s in
      let (i, low, u) = searched.low k (omega (arith, n, l)) in
      (low.0, top_of p k, i, (top_part S (rows_read p.pieces) p h k a s).0, down p k, low.1, u)
  known count height l searched m (entry k {a = a} {r = r} s e) =
      let n = slice_get_within p.places k a s in
      let (i, low, u) = searched.low k (omega (arith, n, l)) in
      let v : top_of p k ≡ 2 * k + 1 = ap (top_node k) (box_of_is S (rows_read p.pieces) p h k a s ∙ e) in
      (subst (λ t. G.Leads (steps_of p) t t → ⊥) v low.1.apart, top_of p k, i, (top_part S (rows_read p.pieces) p h k a s).0, inl v, low.1, u)

  -- the greatest height is that of a path
  path_at : (count height : ℕ) → count ≤ length p.places → IsSearched p count height → (height ≡ 0) ⊎ ((m : ℕ) × IsReal S p m × G.Path (steps_of p) weight_of m height)
  path_at count height l searched = by searched.reached
    where
      by : (height ≡ 0) ⊎ ((j : ℕ) × (j < count) × IsLow p j height) → (height ≡ 0) ⊎ ((m : ℕ) × IsReal S p m × G.Path (steps_of p) weight_of m height)
      by (inl e) = inl e
      by (inr (j, m, low)) =
          let s : StandsAt p.places (get_or p.places j (addr 0 0)) j = slice_get-get_or p.places j (addr 0 0) (omega (arith, m, l)) in
          inr (top_of p j, (top_part S (rows_read p.pieces) p h j (get_or p.places j (addr 0 0)) s).0, low.1.path)

  pub yes_at : (count height : ℕ) → IsFalse (list_any (Fo.uses_sheets S) (formula_addresses S)) → count ≡ length p.places → IsSearched p count height → IsForecast S (Fo.Forecast.Yes height)
  yes_at count height none e searched =
      let k = known count height (omega (arith, e)) searched in
      yes none
      (N.no_circles S (node_of p) (steps_of p) weight_of (IsReal S p) (weighs p) (part S (rows_read p.pieces) p h) (enough S (rows_read p.pieces) p h) (apart S (rows_read p.pieces) p h) (numbered S (rows_read p.pieces) p h) (real_node S (rows_read p.pieces) p h) height k)
      (N.is_height S (node_of p) (steps_of p) weight_of (IsReal S p) (weighs p) (part S (rows_read p.pieces) p h) (enough S (rows_read p.pieces) p h) (apart S (rows_read p.pieces) p h) (numbered S (rows_read p.pieces) p h) (real_node S (rows_read p.pieces) p h) height k
      (path_at count height (omega (arith, e)) searched))
