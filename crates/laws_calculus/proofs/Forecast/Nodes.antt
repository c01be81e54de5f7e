-- What a node depends on is a node.
use Rattle.std.proofs.Common.{◌≡◌, ◌⊎◌, inl, inr, Bool, true, false, cond, ◌&&◌, List, [], ◌∷◌, ◌++◌, map, Option, Some, None, refl, sym, subst}
use Rattle.std.specs.List.{filter, flat_map, list_any}
use Rattle.std.specs.Option.{option_to_list}
use Rattle.gl_calculus.specs.Computation.Lists.{Member}
use Rattle.gl_calculus.specs.Grid.Grid.{Addr, Range, addresses, covers, meets, is_before}
use Rattle.gl_calculus.specs.Formulas.Formula.{Content, Const, Form, Cells, content, formula_addresses}
use Rattle.laws_calculus.proofs.Calculus.Settles.{formula_listed}
use Rattle.gl_calculus.proofs.Tests.{both}
use Rattle.gl_calculus.specs.Forecast as Fo
use Rattle.gl_calculus.specs.Forecast.{Node, Entry, Piece, Reads, Spills, Calls, box, cell_nodes, nodes, covering, has_box, address_nodes, spill_nodes, piece_nodes, content_pieces, rivals, dependences}
use Rattle.laws_calculus.proofs.Forecast.Values.{flat_member}

-- a member of a flat map is one of some part
pub flat_part : {X Y : Type 0} (g : X → List Y) (xs : List X) (y : Y) → Member y (flat_map g xs) → (x : X) × Member x xs × Member y (g x)
flat_part g [] y m = absurd m
flat_part {X} {Y} g (x ∷ xs) y m = by (g x) (λ n. n) (flat_part g xs y) m
  where
    by : (us : List Y) → (Member y us → Member y (g x)) → (Member y (flat_map g xs) → (z : X) × Member z xs × Member y (g z)) → Member y (us ++ flat_map g xs) → (z : X) × Member z (x ∷ xs) × Member y (g z)
    by [] h k n = let (z, i, j) = k n in (z, inr i, j)
    by (u ∷ us) h k (inl e) = (x, inl refl, h (inl e))
    by (u ∷ us) h k (inr n) = by us (λ i. h (inr i)) k n

pub filter_part : {X : Type 0} (test : X → Bool) (xs : List X) (x : X) → Member x (filter test xs) → Member x xs × (test x ≡ true)
filter_part test [] x m = absurd m
filter_part test (y ∷ ys) x m =
    (elim (test y) as (λ b. test y ≡ b → Member x (cond b (y ∷ filter test ys) (filter test ys)) → Member x (y ∷ ys) × (test x ≡ true)) [
      | true ↦ λ u n. keep u (filter_part test ys x) n
      | false ↦ λ u n. let (i, e) = filter_part test ys x n in (inr i, e)
    ]) refl m
  where
    keep : test y ≡ true → (Member x (filter test ys) → Member x ys × (test x ≡ true)) → (x ≡ y) ⊎ Member x (filter test ys) → Member x (y ∷ ys) × (test x ≡ true)
    keep u h (inl d) = (inl d, subst (λ t. test t ≡ true) (sym d) u)
    keep u h (inr n) = let (i, e) = h n in (inr i, e)

module _ (S : Cells) where
  -- the nodes of a formula cell are nodes
  pub of_formula : (a : Addr) (n : Node) → Member a (formula_addresses S) → Member n (cell_nodes S a) → Member n (nodes S)
  of_formula a n m i = flat_member (cell_nodes S) (formula_addresses S) a n m i

  of_address : (a : Addr) (c : Option Content) (n : Node) → content S a ≡ c → Member n (address_nodes S a c) → Member n (nodes S)
  of_address a (Some (Form f)) n e m = of_formula a n (formula_listed S a f e) m
  of_address a (Some (Const x)) n e m = absurd m
  of_address a None n e m =
      let (r, i, j) = flat_part (cell_nodes S) (covering S a) n m in
      of_formula r n (filter_part (has_box S (λ b. covers b a)) (formula_addresses S) r i).0 j

  of_spill : (a : Addr) (c : Option Content) (n : Node) → content S a ≡ c → Member n (spill_nodes S a c) → Member n (nodes S)
  of_spill a (Some (Form f)) n e m = of_formula a n (formula_listed S a f e) m
  of_spill a (Some (Const x)) n e m = absurd m
  of_spill a None n e m = absurd m

  of_piece : (p : Piece) (n : Node) → Member n (piece_nodes S p) → Member n (nodes S)
  of_piece (Reads r) n m = let (a, i, j) = flat_part (λ a. address_nodes S a (content S a)) (addresses r) n m in of_address a (content S a) n refl j
  of_piece (Spills a) n m = of_spill a (content S a) n refl m
  of_piece (Calls f) n m = absurd m

  -- a node is of a formula cell
  pub node_cell : (n : Node) → Member n (nodes S) → (a : Addr) × Member a (formula_addresses S) × Member n (cell_nodes S a)
  node_cell n m = flat_part (cell_nodes S) (formula_addresses S) n m

  map_entry : (a : Addr) (rs : List Range) (n : Node) → Member n (map (λ r. Entry a) rs) → n ≡ Entry a
  map_entry a [] n m = absurd m
  map_entry a (r ∷ rs) n (inl e) = e
  map_entry a (r ∷ rs) n (inr m) = map_entry a rs n m

  pub value_cell : (a : Addr) → Member (Fo.Node.Value a) (nodes S) → Member a (formula_addresses S)
  value_cell a m = let (b, i, j) = node_cell (Fo.Node.Value a) m in by b i j
    where
      by : (b : Addr) → Member b (formula_addresses S) → Member (Fo.Node.Value a) (cell_nodes S b) → Member a (formula_addresses S)
      by b i (inl e) = let d : a ≡ b = cc e in subst (λ u. Member u (formula_addresses S)) (sym d) i
      by b i (inr j) = let e : Fo.Node.Value a ≡ Entry b = map_entry b (option_to_list (box S b)) (Fo.Node.Value a) j in absurd (cc e)

  pub entry_cell : (a : Addr) → Member (Entry a) (nodes S) → Member a (formula_addresses S)
  entry_cell a m = let (b, i, j) = node_cell (Entry a) m in by b i j
    where
      by : (b : Addr) → Member b (formula_addresses S) → Member (Entry a) (cell_nodes S b) → Member a (formula_addresses S)
      by b i (inl e) = absurd (cc e)
      by b i (inr j) = let e : Entry a ≡ Entry b = map_entry b (option_to_list (box S b)) (Entry a) j in let d : a ≡ b = cc e in subst (λ u. Member u (formula_addresses S)) (sym d) i

  boxed_entry : (b : Addr) (test : Range → Bool) → has_box S test b ≡ true → Member (Entry b) (cell_nodes S b)
  boxed_entry b test h =
      (elim (box S b) as (λ o. list_any test (option_to_list o) ≡ true → Member (Entry b) (Fo.Node.Value b ∷ map (λ r. Entry b) (option_to_list o))) [
        | None ↦ λ e. absurd (cc e)
        | Some r ↦ λ e. inr (inl refl)
      ]) h

  map_part : (rs : List Addr) (n : Node) → Member n (map Entry rs) → (b : Addr) × Member b rs × (n ≡ Entry b)
  map_part [] n m = absurd m
  map_part (r ∷ rs) n (inl e) = (r, inl refl, e)
  map_part (r ∷ rs) n (inr m) = let (b, i, e) = map_part rs n m in (b, inr i, e)

  pub within : (m n : Node) → Member m (nodes S) → Member n (dependences S m) → Member n (nodes S)
  within (Fo.Node.Value a) n i j = let (p, k, l) = flat_part (piece_nodes S) (content_pieces S (content S a)) n j in of_piece p n l
  within (Entry a) n i (inl e) = of_formula a n (entry_cell a i) (inl e)
  within (Entry a) n i (inr j) =
      let (r, k, l) = flat_part (λ r. map Entry (rivals S a r)) (option_to_list (box S a)) n j in
      let (b, u, e) = map_part (rivals S a r) n l in
      let (v, t) = filter_part (λ c. is_before c a && has_box S (meets r) c) (formula_addresses S) b u in
      of_formula b n v (subst (λ x. Member x (cell_nodes S b)) (sym e) (boxed_entry b (meets r) (both (is_before b a) (has_box S (meets r) b) t).1))
