-- The steps between numbers lead to each dependence.
use Rattle.std.proofs.Common.{◌≡◌, ◌⊎◌, inl, inr, ℕ, ◌+◌, ◌-◌, ◌*◌, ◌<◌, ◌≤◌, true, false, ◌&&◌, ◌||◌, List, [], ◌∷◌, map, drop, refl, sym, subst, ap, ◌∙◌, arith}
use Rattle.std.specs.Prelude.{Option, Some, None, slice_get, flat_map, filter}
use Rattle.std.specs.List.{list_any, range_with_len}
use Rattle.std.specs.Option.{option_to_list}
use Rattle.std.proofs.lemmas.Bool.{and_parts, cases_order}
use Rattle.gl_calculus.specs.Computation.Lists.{Member}
use Rattle.gl_calculus.specs.Grid.Grid.{Addr, is_before, Range, addresses, covers, meets}
use Rattle.gl_calculus.specs.Formulas.Formula.{Content, Const, Form, Cells, content, formula_addresses}
use Rattle.laws_calculus.proofs.Calculus.Settles.{formula_listed}
use Rattle.gl_calculus.specs.Forecast as Fo
use Rattle.gl_calculus.specs.Forecast.{Node, box, cell_nodes, covering, has_box, address_nodes, spill_nodes, piece_nodes, content_pieces, rivals, dependences}
use Rattle.laws_calculus.proofs.Forecast.Values.{flat_member}
use Rattle.laws_calculus.proofs.Forecast.Nodes.{flat_part, filter_part}
use Rattle.laws_calculus.proofs.Forecast.Oracles.{filtered, meets_at}
use Rattle.gl_graph.specs.Graph as G
use Rattle.gl_graph.specs.Search.{origin}
use Rattle.gl_flow.specs.Pieces.{without_calls, piece_last, IsReadPiece}
use Rattle.gl_flow.specs.Places.{StandsAt}
use Rattle.gl_flow.specs.Columns.{none, some, CoversAt}
use Rattle.gl_flow.specs.Grid.{source, IsSource, formula, constant, blank}
use Rattle.gl_flow.specs.Network.{Plan, number_in, top_node, top_of, source_steps, address_steps, number_steps, piece_steps, is_rival, node_steps, node_of}
use Rattle.gl_flow.proofs.Placing.{in_order, never_both, never_self}
use Rattle.gl_flow.specs.Planning.{IsPlanOf}
use Rattle.gl_flow.proofs.Dependences.{IsReal, value, entry, value_node, entry_node, stands_at, number_at, read_piece, each_read, each_formula, in_range, box_is, box_of_is, is_formula, pieces_is, boxed, drop_none, value_list, entry_list, map_part, map_in, some_box, range_member}

same_place : (ps : List Addr) (a b : Addr) (k : ℕ) → StandsAt ps a k → StandsAt ps b k → a ≡ b
same_place ps a b k s t = let u : Some a ≡ Some b = sym s ∙ t in cc u

module _ (S : Cells) (rows : ℕ) (plan : Plan) (h : IsPlanOf S rows plan) where
  abbrev steps : ℕ → List ℕ
  steps m = node_steps plan m origin

  -- from the number, or by steps from it, one comes to the number of the node
  abbrev To : ℕ → Node → Type 0
  To x d = (n : ℕ) × (node_of plan n ≡ d) × G.Reaches steps x n

  chained : {l m n : ℕ} → G.Leads steps l m → G.Leads steps m n → G.Leads steps l n
  chained (G.Leads.once i) s = G.Leads.further i s
  chained (G.Leads.further i r) s = G.Leads.further i (chained r s)

  -- behind a step
  after : (m x : ℕ) (d : Node) → Member x (steps m) → To x d → (n : ℕ) × (node_of plan n ≡ d) × G.Leads steps m n
  after m x d i (n, e, inl u) = (n, e, subst (λ t. G.Leads steps m t) u (G.Leads.once i))
  after m x d i (n, e, inr l) = (n, e, G.Leads.further i l)

  reached : {m x : ℕ} {d : Node} → Member x (steps m) → To x d → To m d
  reached {m} {x} {d} i t = let (n, e, l) = after m x d i t in (n, e, inr l)

  -- an entry leads to its value
  to_value : (k : ℕ) (a : Addr) (r : Range) → StandsAt plan.places a k → box S a ≡ Some r → Member (2 * k) (steps (2 * k + 1))
  to_value k a r s e = subst (λ t. Member (2 * k) t) (sym (entry_list S rows plan h k a r s e)) (inl refl)

  top_boxed : (k : ℕ) (a : Addr) (r : Range) → StandsAt plan.places a k → box S a ≡ Some r → top_of plan k ≡ 2 * k + 1
  top_boxed k a r s e = ap (top_node k) (box_of_is S rows plan h k a s ∙ e)

  -- the top node of a formula cell leads to both of its nodes
  top_enough : (k : ℕ) (a : Addr) (d : Node) → StandsAt plan.places a k → Member d (cell_nodes S a) → To (top_of plan k) d
  top_enough k a d s m = by (box S a) refl m
    where
      by : (o : Option Range) → box S a ≡ o → Member d (Node.Value a ∷ map (λ r. Node.Entry a) (option_to_list o)) → To (top_of plan k) d
      by None e (inr i) = absurd i
      by None e (inl i) =
          let u : top_of plan k ≡ 2 * k = ap (top_node k) (box_of_is S rows plan h k a s ∙ e) in
          (2 * k, value_node plan k a s ∙ sym i, inl u)
      by (Some r) e (inl i) =
          subst (λ t. To t d) (sym (top_boxed k a r s e)) (2 * k, value_node plan k a s ∙ sym i, inr (G.Leads.once (to_value k a r s e)))
      by (Some r) e (inr (inl i)) = (2 * k + 1, entry_node plan k a s ∙ sym i, inl (top_boxed k a r s e))
      by (Some r) e (inr (inr i)) = absurd i

  -- an entry leads to that of an earlier one whose area meets its own
  to_rival : (k j : ℕ) (a b : Addr) (r q : Range) → StandsAt plan.places a k → StandsAt plan.places b j → box S a ≡ Some r → box S b ≡ Some q → j < k → meets r q ≡ true → Member (2 * j + 1) (steps (2 * k + 1))
  to_rival k j a b r q s t e d l m =
      let rival : is_rival plan r j ≡ true = ap (λ o. list_any (meets r) (option_to_list o)) (box_of_is S rows plan h j b t ∙ d) ∙ ap (λ x. x || false) m in
      subst (λ x. Member (2 * j + 1) x) (sym (entry_list S rows plan h k a r s e))
      (inr (map_in (λ j. 2 * j + 1) (filter (is_rival plan r) (range_with_len 0 (k - 0))) j (filtered (is_rival plan r) (range_with_len 0 (k - 0)) j (range_member 0 (k - 0) j (omega arith) (omega (arith, l))) rival)))

  -- of what may spill over a blank, the last one leads to the others
  over_enough : (a : Addr) (k : ℕ) (d : Node) → CoversAt plan.boxes a k → ((j : ℕ) → CoversAt plan.boxes a j → j ≤ k) → Member d (flat_map (cell_nodes S) (covering S a)) → To (top_of plan k) d
  over_enough a k d (r, at, c) g m =
      let (b, i, j) = flat_part (cell_nodes S) (covering S a) d m in
      let (l, t) = filter_part (has_box S (λ r. covers r a)) (formula_addresses S) b i in
      let (n, s) = stands_at plan.places b (subst (λ t. Member b t) (sym h.places) l) in
      let (q, e, f) = some_box (box S b) (λ r. covers r a) t in
      let (p, u, v) = boxed S rows plan h k r at in
      by b n s q e f p u v j (cases_order n k)
    where
      by : (b : Addr) (n : ℕ) → StandsAt plan.places b n → (q : Range) → box S b ≡ Some q → covers q a ≡ true → (p : Addr) → StandsAt plan.places p k → box S p ≡ Some r → Member d (cell_nodes S b) → (n ≡ k) ⊎ ((n < k) ⊎ (k < n)) → To (top_of plan k) d
      by b n s q e f p u v j (inl x) =
          let y : p ≡ b = same_place plan.places p b k u (subst (λ t. StandsAt plan.places b t) x s) in
          top_enough k p d u (subst (λ t. Member d (cell_nodes S t)) (sym y) j)
      by b n s q e f p u v j (inr (inl x)) =
          let step = to_rival k n p b r q u s v e x (meets_at r q a c f) in
          subst (λ t. To t d) (sym (top_boxed k p r u v)) (reached step (subst (λ t. To t d) (top_boxed n b q s e) (top_enough n b d s j)))
      by b n s q e f p u v j (inr (inr x)) =
          let y = g n (q, boxed_at b n s q e, f) in
          absurd (omega (arith, x, y))
        where
          boxed_at : (b : Addr) (n : ℕ) → StandsAt plan.places b n → (q : Range) → box S b ≡ Some q → slice_get plan.boxes n ≡ Some (Some q)
          boxed_at b n s q e = box_is S rows plan h n b s ∙ ap Some e

  -- the top node of what an address reads of leads to all on which the address depends
  source_enough : (a : Addr) (m : ℕ) (d : Node) → IsSource S plan.places plan.boxes a m → Member d (address_nodes S a (content S a)) → (x : ℕ) × Member x (source_steps plan m) × To x d
  source_enough a m d (formula {k = k} s) i =
      let (f, u) = is_formula S rows plan h k a s in
      (top_of plan k, inl refl, top_enough k a d s (subst (λ t. Member d (address_nodes S a t)) u i))
  source_enough a m d (constant u) i = absurd (subst (λ t. Member d (address_nodes S a t)) u i)
  source_enough a m d (blank u (none g)) i =
      let (b, k, j) = flat_part (cell_nodes S) (covering S a) d (subst (λ t. Member d (address_nodes S a t)) u i) in
      let (l, t) = filter_part (has_box S (λ r. covers r a)) (formula_addresses S) b k in
      let (n, s) = stands_at plan.places b (subst (λ t. Member b t) (sym h.places) l) in
      let (q, e, f) = some_box (box S b) (λ r. covers r a) t in
      absurd (g n (q, box_is S rows plan h n b s ∙ ap Some e, f))
  source_enough a m d (blank u (some {k = k} c g)) i = (top_of plan k, inl refl, over_enough a k d c g (subst (λ t. Member d (address_nodes S a t)) u i))

  piece_enough : (p : Fo.Piece) (d : Node) → IsReadPiece p → piece_last p ≤ rows → Member d (piece_nodes S p) → (x : ℕ) × Member x (piece_steps plan p 0) × To x d
  piece_enough (Fo.Piece.Calls f) d i l m = absurd m
  piece_enough (Fo.Piece.Reads r) d i l m =
      let (a, u, v) = flat_part (λ a. address_nodes S a (content S a)) (addresses r) d m in
      let (x, y, z) = source_enough a (source plan.columns a) d (h.sources a (in_range r a rows i l u)) v in
      (x, flat_member (address_steps plan) (drop 0 (addresses r)) a x (subst (λ t. Member a t) (sym (drop_none (addresses r))) u) y, z)
  piece_enough (Fo.Piece.Spills a) d i l m = by (content S a) refl m
    where
      by : (c : Option Content) → content S a ≡ c → Member d (spill_nodes S a c) → (x : ℕ) × Member x (number_steps plan (number_in plan.places a)) × To x d
      by None e m = absurd m
      by (Some (Const y)) e m = absurd m
      by (Some (Form f)) e m =
          let (k, s) = stands_at plan.places a (subst (λ t. Member a t) (sym h.places) (formula_listed S a f e)) in
          (top_of plan k, subst (λ t. Member (top_of plan k) (number_steps plan t)) (sym (number_at plan.places a k h.in_order s)) (inl refl), top_enough k a d s m)

  value_enough : (k : ℕ) (a : Addr) (d : Node) → StandsAt plan.places a k → Member d (dependences S (Node.Value a)) → (n : ℕ) × (node_of plan n ≡ d) × G.Leads steps (2 * k) n
  value_enough k a d s m =
      let ps = content_pieces S (content S a) in
      let (p, u, v) = flat_part (piece_nodes S) ps d m in
      let w = read_piece S d ps p u v in
      let (r, l) = each_formula plan.pieces k (without_calls ps) h.read (pieces_is S rows plan h k a s) in
      let (i, j) = each_read (without_calls ps) p r w in
      let e = h.lowest in
      let (x, y, z) = piece_enough p d i (omega (arith, l, j, e)) v in
      after (2 * k) x d (subst (λ t. Member x t) (sym (value_list S rows plan h k a s)) (flat_member (λ q. piece_steps plan q 0) (without_calls ps) p x w y)) z

  entry_enough : (k : ℕ) (a : Addr) (r : Range) (d : Node) → StandsAt plan.places a k → box S a ≡ Some r → Member d (dependences S (Node.Entry a)) → (n : ℕ) × (node_of plan n ≡ d) × G.Leads steps (2 * k + 1) n
  entry_enough k a r d s e (inl i) = (2 * k, value_node plan k a s ∙ sym i, G.Leads.once (to_value k a r s e))
  entry_enough k a r d s e (inr m) =
      let (q, u, v) = flat_part (λ r. map Node.Entry (rivals S a r)) (option_to_list (box S a)) d m in
      let w : q ≡ r = only q (subst (λ o. Member q (option_to_list o)) e u) in
      let (b, x, y) = map_part Node.Entry (rivals S a q) d v in
      let (l, t) = filter_part (λ c. is_before c a && has_box S (meets q) c) (formula_addresses S) b x in
      let (early, met) = and_parts (is_before b a) (has_box S (meets q) b) t in
      let (j, z) = stands_at plan.places b (subst (λ t. Member b t) (sym h.places) l) in
      let (o, f, g) = some_box (box S b) (meets q) met in
      (2 * j + 1, entry_node plan j b z ∙ sym y, G.Leads.once (to_rival k j a b r o s z e f (earlier b j z early (cases_order j k)) (subst (λ t. meets t o ≡ true) w g)))
    where
      only : (q : Range) → Member q (r ∷ []) → q ≡ r
      only q (inl i) = i
      only q (inr i) = absurd i

      earlier : (b : Addr) (j : ℕ) → StandsAt plan.places b j → is_before b a ≡ true → (j ≡ k) ⊎ ((j < k) ⊎ (k < j)) → j < k
      earlier b j z early (inl i) = let y : b ≡ a = same_place plan.places b a k (subst (λ t. StandsAt plan.places b t) i z) s in absurd (never_self a (subst (λ t. is_before t a ≡ true) y early))
      earlier b j z early (inr (inl i)) = i
      earlier b j z early (inr (inr i)) = absurd (never_both b a early (in_order plan.places a b k j h.in_order s z i))

  pub enough : (m : ℕ) (d : Node) → IsReal S plan m → Member d (dependences S (node_of plan m)) → (n : ℕ) × (node_of plan n ≡ d) × G.Leads steps m n
  enough m d (value k {a = a} s) i = value_enough k a d s (subst (λ t. Member d (dependences S t)) (value_node plan k a s) i)
  enough m d (entry k {a = a} {r = r} s e) i = entry_enough k a r d s e (subst (λ t. Member d (dependences S t)) (entry_node plan k a s) i)
