-- Where the forecast says yes, the calculation settles.
use Rattle.std.proofs.Common.{◌≡◌, inl, inr, ℕ, zero, suc, ◌+◌, ◌≤◌, IsFalse, List, [], ◌∷◌, map, Option, Some, None, refl, sym, ◌∙◌, subst, ap, arith}
use Rattle.std.specs.List.{list_any}
use Rattle.gl_calculus.specs.Computation.Lists.{Member}
use Rattle.laws_calculus.proofs.Query.Levels.{Has-one}
use Rattle.gl_calculus.specs.Grid.Grid.{Addr, AreInOrder, Size, area, grid}
use Rattle.gl_calculus.specs.Values.Value.{Permit, Entry, Oracle, Value, One, Array, Top}
use Rattle.gl_calculus.specs.Formulas.Formula.{Version, Cells, IsSheet, formula_addresses}
use Rattle.gl_calculus.specs.Evaluation.Oracle.{entry_at, Sizes, AreSizes, sizes_of, grant}
use Rattle.gl_calculus.specs.Evaluation.Key.{Cell, Outcome, Settled, Abort}
use Rattle.gl_calculus.specs.Evaluation.World.{world}
use Rattle.gl_calculus.specs.Evaluation.Evaluation.{program}
use Rattle.gl_calculus.specs.Calculation.Calculation.{has_content, Arrays, none, array, other, TopHas, IsNext}
use Rattle.gl_calculus.proofs.Grants.{grant_permits}
use Rattle.laws_calculus.proofs.Calculus.Settles.{formula_order, formula_content, size_of_entry, entry_of_size, roots_of, array_order, array_has, has_array}
use Rattle.gl_calculus.specs.Formulas.Fit.{AreFit}
use Rattle.gl_calculus.specs.Forecast as Fo
use Rattle.gl_calculus.specs.Forecast.{Node, cell_shape, nodes, dependences, rivals, Leads, Path, ends, goes, uses_sheets}
use Rattle.laws_calculus.proofs.Forecast.Finite as Fin
use Rattle.laws_calculus.proofs.Forecast.Oracles.{IsFit, entry_member, member_entry}
use Rattle.laws_calculus.proofs.Forecast.Permits.{same_entries}
use Rattle.laws_calculus.proofs.Forecast.Shapes.{Fits}
use Rattle.laws_calculus.proofs.Forecast.Reading.{Comes}
use Rattle.laws_calculus.proofs.Forecast.Values.{Both, both_values, flat_member}
use Rattle.laws_calculus.proofs.Forecast.Nodes.{within, of_formula, value_cell, entry_cell}

module _ (version : Version) (S : Cells) (sheet : IsSheet S) (fit : AreFit S) (plain : IsFalse (list_any (uses_sheets S) (formula_addresses S))) (no_circle : (n : Node) → Member n (nodes S) → Leads S n n → ⊥) where
  -- ---- induction along dependences

  depends : Node → Node → Type 0
  depends m n = Member n (dependences S m)

  leads : (m n : Node) → Fin.Chain depends m n → Leads S m n
  unfolding depends
  leads m n (Fin.once r) = Fo.once r
  leads m n (Fin.further {y = k} r c) = Fo.further r (leads k n c)

  along : (P : Node → Type 0) → ((m : Node) → Member m (nodes S) → ((n : Node) → Member n (dependences S m) → P n) → P m) → (m : Node) → Member m (nodes S) → P m
  unfolding depends
  along P step m i = Fin.along depends (nodes S) (λ x y j r. within S x y j r) (λ x j c. no_circle x j (leads x x c)) P step m i

  -- ---- one round

  module _ (w : Oracle) (fits : IsFit S w) where
    Ended : Node → Type 0
    Ended (Fo.Node.Value a) = Both version S fit plain w w a
    Ended (Fo.Node.Entry a) = Unit {0}

    ended_node : (m : Node) → Member m (nodes S) → Ended m
    unfolding Ended
    ended_node = along Ended step
      where
        step : (m : Node) → Member m (nodes S) → ((n : Node) → Member n (dependences S m) → Ended n) → Ended m
        step (Fo.Node.Value a) i h =
            let (f, e) = formula_content S sheet a (value_cell S a i) in
            both_values version S fit plain w w fits fits a f e (λ r m. refl) (λ g m. h (Fo.Node.Value g) m)
        step (Fo.Node.Entry a) i h = tt

    -- each formula cell comes to a value
    pub ended : (a : Addr) → Member a (formula_addresses S) → Both version S fit plain w w a
    unfolding Ended
    ended a i = ended_node (Fo.Node.Value a) (of_formula S a (Fo.Node.Value a) i (inl refl))

    collect : (rest : List Addr) → ((a : Addr) → Member a rest → Both version S fit plain w w a) → (zs : Sizes) × Arrays (world version S w) rest zs
    collect [] h = ([], none)
    collect (a ∷ rest) h =
        let (zs, r) = collect rest (λ b m. h b (inr m)) in
        let b = h a (inl refl) in
        by zs r b.outcome b.first b.comes
      where
        by : (zs : Sizes) → Arrays (world version S w) rest zs → (o : Outcome) → TopHas (world version S w) a o → Comes S (Cell Top a) o → (ys : Sizes) × Arrays (world version S w) (a ∷ rest) ys
        by zs r (Outcome.Value (Array z xs)) g c = ((a, z) ∷ zs, array xs g r)
        by zs r (Outcome.Value (One x)) g c = (zs, other (inr (Outcome.Value (One x), g, refl)) r)
        by zs r (Settled o) g c = absurd c
        by zs r (Abort b) g c = absurd c

    arrays : (zs : Sizes) × Arrays (world version S w) (formula_addresses S) zs
    arrays = collect (formula_addresses S) ended

    pub next : Oracle
    next = grant grid (has_content S) arrays.0

    pub next_is : IsNext (world version S w) next
    unfolding next
    next_is = (arrays.0, arrays.1, refl)

    sizes_order : AreSizes arrays.0
    sizes_order = array_order (world version S w) (formula_addresses S) arrays.0 arrays.1 (formula_order S sheet)

    next_sizes : sizes_of next ≡ arrays.0
    unfolding next
    next_sizes = (grant_permits grid (has_content S) arrays.0 sizes_order).0

    shaped : (a : Addr) (z : Size) (xs : _) → TopHas (world version S w) a (Outcome.Value (Array z xs)) → Member a (formula_addresses S) → (t : Size) × (cell_shape S a ≡ Some t) × (z.rows ≤ t.rows) × (z.cols ≤ t.cols)
    shaped a z xs h i =
        let b = ended a i in
        let e : b.outcome ≡ Outcome.Value (Array z xs) = Has-one (program (world version S w)) (Cell Top a) b.outcome _ b.first h in
        let c : Comes S (Cell Top a) (Outcome.Value (Array z xs)) = subst (Comes S (Cell Top a)) e b.comes in
        by (cell_shape S a) refl (c.1 17)
      where
        by : (o : Option Size) → cell_shape S a ≡ o → Fits o (Array z xs) → (t : Size) × (cell_shape S a ≡ Some t) × (z.rows ≤ t.rows) × (z.cols ≤ t.cols)
        by None u k = absurd k
        by (Some t) u k = (t, u, k.0, k.1)

    pub next_fits : IsFit S next
    unfolding next
    next_fits = record {
      in_order = subst AreInOrder (sym (roots_of next ∙ ap (map (λ x. x.0)) next_sizes)) sizes_order;
      permits = (grant_permits grid (has_content S) arrays.0 sizes_order).1;
      boxed = λ x m.
          let n : Member (x.root, x.size) arrays.0 = subst (λ u. Member (x.root, x.size) u) next_sizes (size_of_entry next x.root x.size x.permit m) in
          let (i, (xs, h)) = array_has (world version S w) (formula_addresses S) arrays.0 arrays.1 x.root x.size n in
          shaped x.root x.size xs h i;
    }

    -- a root has an entry next exactly where its value is an array, with its size
    entry_there : (a : Addr) (z : Size) (xs : _) → Member a (formula_addresses S) → TopHas (world version S w) a (Outcome.Value (Array z xs)) → (p : Permit) × Member (record { root = a; size = z; permit = p }) next
    entry_there a z xs i h =
        let m : Member (a, z) arrays.0 = has_array (world version S w) (formula_addresses S) arrays.0 arrays.1 a z xs i h in
        entry_of_size next a z (subst (λ u. Member (a, z) u) (sym next_sizes) m)

    no_entry : (a : Addr) (v : Value) → Member a (formula_addresses S) → TopHas (world version S w) a (Outcome.Value v) → ((z : Size) (xs : _) → v ≡ Array z xs → ⊥) → entry_at next a ≡ None
    no_entry a v i h n =
        (elim (entry_at next a) as (λ o. entry_at next a ≡ o → o ≡ None) [
          | None ↦ λ u. refl
          | Some x ↦ λ u.
              let (m, r) = entry_member next a x u in
              let k : Member (x.root, x.size) arrays.0 = subst (λ t. Member (x.root, x.size) t) next_sizes (size_of_entry next x.root x.size x.permit m) in
              let (j, (xs, g)) = array_has (world version S w) (formula_addresses S) arrays.0 arrays.1 x.root x.size k in
              let g' : TopHas (world version S w) a (Outcome.Value (Array x.size xs)) = subst (λ t. TopHas (world version S w) t (Outcome.Value (Array x.size xs))) r g in
              let q : Outcome.Value v ≡ Outcome.Value (Array x.size xs) = Has-one (program (world version S w)) (Cell Top a) _ _ h g' in
              let e : v ≡ Array x.size xs = cc q in
              absurd (n x.size xs e)
        ]) refl

  -- ---- the rounds

  empty_fits : IsFit S []
  empty_fits = record {
    in_order = tt;
    permits = record { inside = λ x m p. absurd m; alone = λ x a m p c h. absurd m; apart = λ x y m n p q t. absurd m; refused = λ x m p. absurd m };
    boxed = λ x m. absurd m;
  }

  Fitting : Type 0
  Fitting = (w : Oracle) × IsFit S w

  after : Fitting → Fitting
  unfolding Fitting
  after r = (next r.0 r.1, next_fits r.0 r.1)

  round : ℕ → Fitting
  unfolding Fitting
  round zero = ([], empty_fits)
  round (suc i) = after (round i)

  pub oracle : ℕ → Oracle
  unfolding Fitting
  oracle i = (round i).0

  pub fitting : (i : ℕ) → IsFit S (oracle i)
  unfolding Fitting oracle
  fitting i = (round i).1

  pub follows : (i : ℕ) → IsNext (world version S (oracle i)) (oracle (suc i))
  unfolding Fitting oracle round after
  follows i = next_is (round i).0 (round i).1

  there : (i : ℕ) (a : Addr) (z : Size) (xs : _) → Member a (formula_addresses S) → TopHas (world version S (oracle i)) a (Outcome.Value (Array z xs)) → (p : Permit) × Member (record { root = a; size = z; permit = p }) (oracle (suc i))
  unfolding Fitting oracle round after
  there i a z xs m h = entry_there (round i).0 (round i).1 a z xs m h

  not_there : (i : ℕ) (a : Addr) (v : Value) → Member a (formula_addresses S) → TopHas (world version S (oracle i)) a (Outcome.Value v) → ((z : Size) (xs : _) → v ≡ Array z xs → ⊥) → entry_at (oracle (suc i)) a ≡ None
  unfolding Fitting oracle round after
  not_there i a v m h n = no_entry (round i).0 (round i).1 a v m h n

  shape_of : (i : ℕ) (a : Addr) (z : Size) (xs : _) → TopHas (world version S (oracle i)) a (Outcome.Value (Array z xs)) → Member a (formula_addresses S) → (t : Size) × (cell_shape S a ≡ Some t) × (z.rows ≤ t.rows) × (z.cols ≤ t.cols)
  unfolding Fitting oracle
  shape_of i a z xs h m = shaped (round i).0 (round i).1 a z xs h m

  -- ---- what is the same in two rounds

  abbrev pub Same : ℕ → Node → Type 0
  Same i (Fo.Node.Value a) = Both version S fit plain (oracle i) (oracle (suc i)) a
  Same i (Fo.Node.Entry a) = entry_at (oracle i) a ≡ entry_at (oracle (suc i)) a

  -- no path from the node has more entries
  abbrev pub Below : ℕ → Node → Type 0
  Below i n = (k : ℕ) → Path S n k → k ≤ i

  abbrev pub Stable : Node → Type 0
  Stable n = (i : ℕ) → Below i n → Same i n

  rivals_needed : (a r : Addr) (t : Size) → cell_shape S a ≡ Some t → Member r (rivals S a (area a t)) → Member (Fo.Node.Entry r) (dependences S (Fo.Node.Entry a))
  rivals_needed a r t e m = inr (rw e (flat_member (λ q. map Fo.Node.Entry (rivals S a q)) (area a t ∷ []) (area a t) (Fo.Node.Entry r) (inl refl) (mapped (rivals S a (area a t)) m)))
    where
      mapped : (rs : List Addr) → Member r rs → Member (Fo.Node.Entry r) (map Fo.Node.Entry rs)
      mapped [] m = absurd m
      mapped (b ∷ rs) (inl e) = inl (ap Fo.Node.Entry e)
      mapped (b ∷ rs) (inr m) = inr (mapped rs m)

  not_array : (u : Value) (y : _) → u ≡ One y → (z : Size) (xs : _) → u ≡ Array z xs → ⊥
  not_array u y e z xs d = let q : One y ≡ Array z xs = sym e ∙ d in absurd (cc q)

  -- the entry of a cell stays where its value stayed in the round before and the entries of its rivals stay
  entry_stays : (j : ℕ) (a : Addr) → Member a (formula_addresses S) → Same j (Fo.Node.Value a) → ((r : Addr) → Member (Fo.Node.Entry r) (dependences S (Fo.Node.Entry a)) → entry_at (oracle (suc j)) r ≡ entry_at (oracle (suc (suc j))) r) → entry_at (oracle (suc j)) a ≡ entry_at (oracle (suc (suc j))) a
  entry_stays j a i b h = by b.outcome b.first b.second b.comes
    where
      by : (o : Outcome) → TopHas (world version S (oracle j)) a o → TopHas (world version S (oracle (suc j))) a o → Comes S (Cell Top a) o → entry_at (oracle (suc j)) a ≡ entry_at (oracle (suc (suc j))) a
      by (Outcome.Value (Array z xs)) g g' c =
          let (p, m) = there j a z xs i g in
          let (p', m') = there (suc j) a z xs i g' in
          let (t, e, l, k) = shape_of j a z xs g i in
          let x : Entry = record { root = a; size = z; permit = p } in
          let x' : Entry = record { root = a; size = z; permit = p' } in
          let q : x ≡ x' = same_entries S (oracle (suc j)) (oracle (suc (suc j))) (fitting (suc j)) (fitting (suc (suc j))) a t x x' e (λ r n. h r (rivals_needed a r t e n)) m m' refl refl refl in
          member_entry (oracle (suc j)) (fitting (suc j)).in_order x m ∙ ap Some q ∙ sym (member_entry (oracle (suc (suc j))) (fitting (suc (suc j))).in_order x' m')
      by (Outcome.Value (One y)) g g' c = not_there j a (One y) i g (not_array (One y) y refl) ∙ sym (not_there (suc j) a (One y) i g' (not_array (One y) y refl))
      by (Settled o) g g' c = absurd c
      by (Abort d) g g' c = absurd c

  pub stable : (m : Node) → Member m (nodes S) → Stable m
  stable = along Stable step
    where
      step : (m : Node) → Member m (nodes S) → ((n : Node) → Member n (dependences S m) → Stable n) → Stable m
      step (Fo.Node.Value a) n h i b =
          let (f, e) = formula_content S sheet a (value_cell S a n) in
          let low = λ (x : Node) (d : Member x (dependences S (Fo.Node.Value a))) (k : ℕ) (p : Path S x k). (let l : 0 + k ≤ i = b (0 + k) (goes {n = x} d p) in let r : k ≤ i = omega (arith, l) in r) in
          both_values version S fit plain (oracle i) (oracle (suc i)) (fitting i) (fitting (suc i)) a f e (λ r m. h (Fo.Node.Entry r) m i (low (Fo.Node.Entry r) m)) (λ g m. h (Fo.Node.Value g) m i (low (Fo.Node.Value g) m))
      step (Fo.Node.Entry a) n h zero b = let l : 1 ≤ 0 = b 1 ends in absurd (omega (arith, l))
      step (Fo.Node.Entry a) n h (suc j) b =
          let low = λ (x : Node) (d : Member x (dependences S (Fo.Node.Entry a))) (k : ℕ) (p : Path S x k). (let l : 1 + k ≤ suc j = b (1 + k) (goes {n = x} d p) in let r : k ≤ j = omega (arith, l) in r) in
          entry_stays j a (entry_cell S a n) (h (Fo.Node.Value a) (inl refl) j (low (Fo.Node.Value a) (inl refl)))
          (λ r m. h (Fo.Node.Entry r) m (suc j) (λ k p. let l : k ≤ j = low (Fo.Node.Entry r) m k p in omega (arith, l)))

  pub begins : oracle 0 ≡ []
  unfolding Fitting oracle round
  begins = refl
