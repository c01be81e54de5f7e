-- The steps between numbers are dependences, and lead to all that they lead to.
use Rattle.std.proofs.Common.{◌≡◌, ◌⊎◌, inl, inr, ℕ, zero, suc, ◌+◌, ◌-◌, ◌*◌, ◌/◌, ◌%◌, ◌==◌, ◌<◌, ◌≤◌, Bool, true, false, ◌&&◌, ◌||◌, List, [], ◌∷◌, map, drop, get_or, refl, sym, subst, ap, ◌∙◌, arith}
use Rattle.std.specs.Prelude.{Option, Some, None, slice_get, option_map, if◌then◌else◌, flat_map, filter}
use Rattle.std.specs.List.{list_any, range_with_len}
use Rattle.std.specs.Option.{option_to_list}
use Rattle.std.proofs.lemmas.Bool.{and_from, eq-eqb, cases_order}
use Rattle.std.proofs.lemmas.Option.{slice_get_within, get_or_from_slice_get, slice_get-map, slice_get-get_or}
use Rattle.gl_calculus.specs.Computation.Lists.{Member}
use Rattle.gl_calculus.specs.Grid.Grid.{Addr, addr, same_addr, is_before, Range, extents, addresses, covers, meets}
use Rattle.gl_calculus.specs.Formulas.Formula.{Form, Cells, content, formula_addresses}
use Rattle.laws_calculus.proofs.Calculus.Settles.{formula_content}
use Rattle.gl_calculus.proofs.Tests.{addr_exact, addr_same}
use Rattle.gl_calculus.specs.Forecast as Fo
use Rattle.gl_calculus.specs.Forecast.{Node, box, cell_nodes, covering, has_box, address_nodes, spill_nodes, piece_nodes, content_pieces, rivals, dependences}
use Rattle.laws_calculus.proofs.Forecast.Values.{flat_member}
use Rattle.laws_calculus.proofs.Forecast.Nodes.{flat_part, filter_part}
use Rattle.laws_calculus.proofs.Forecast.Oracles.{filtered}
use Rattle.gl_graph.specs.Search.{origin}
use Rattle.gl_flow.specs.Pieces.{without_calls, piece_last, last_read, rows_read, IsRead, IsReadPiece, AreReadPieces, AreRead}
use Rattle.gl_flow.specs.Places.{are_in_order, StandsAt}
use Rattle.gl_flow.specs.Columns.{none, some, BoxAt}
use Rattle.gl_flow.specs.Grid.{source, IsInRows, IsSource, formula, constant, blank}
use Rattle.gl_flow.specs.Planning.{IsPlanOf}
use Rattle.gl_flow.specs.Network.{Plan, number_in, top_node, box_of, top_of, source_steps, address_steps, number_steps, piece_steps, first_steps, value_steps, is_rival, rival_steps, entry_steps, node_steps, node_of}
use Rattle.gl_flow.proofs.Placing.{in_order, never_self, first_before, rest_in_order}

-- ---- the addresses of a range

in_row : (c n i : ℕ) (a : Addr) → Member a (map (λ j. addr j i) (range_with_len c n)) → (a.row ≡ i) × (c ≤ a.col) × (a.col < c + n)
in_row c zero i a m = absurd m
in_row c (suc n) i a (inl e) = let f : a.col ≡ c = ap (λ (u : Addr). u.col) e in (ap (λ (u : Addr). u.row) e, omega (arith, f), omega (arith, f))
in_row c (suc n) i a (inr m) = let (p, q, r) = in_row (c + 1) n i a m in (p, omega (arith, q), omega (arith, r))

pub in_rows : (f m i : ℕ) → Member i (range_with_len f m) → (f ≤ i) × (i < f + m)
in_rows f zero i m = absurd m
in_rows f (suc n) i (inl e) = (omega (arith, e), omega (arith, e))
in_rows f (suc n) i (inr m) = let (p, q) = in_rows (f + 1) n i m in (omega (arith, p), omega (arith, q))

pub in_range : (r : Range) (a : Addr) (rows : ℕ) → IsRead r → r.last.row ≤ rows → Member a (addresses r) → IsInRows rows a
in_range r a rows h l m =
    let (i, j, k) = flat_part (λ i. map (λ j. addr j i) (range_with_len r.first.col (extents r).cols)) (range_with_len r.first.row (extents r).rows) a m in
    let (p, q, s) = in_row r.first.col (extents r).cols i a k in
    let (u, v) = in_rows r.first.row (extents r).rows i j in
    let t = h.top in
    let b = h.rows in
    let d = h.left in
    let e = h.cols in
    let f = h.right in
    record { top = omega (arith, p, u, t); bottom = omega (arith, p, v, b, l); left = omega (arith, q, d); right = omega (arith, s, e, f) }

-- ---- the numbers of nodes

even : (k : ℕ) → ((2 * k) % 2 == 0) ≡ true
even k = let e : (2 * k) % 2 ≡ 0 = omega arith in eq-eqb ((2 * k) % 2) 0 e

half : (k : ℕ) → (2 * k) / 2 ≡ k
half k = omega arith

odd : (k : ℕ) → ((2 * k + 1) % 2 == 0) ≡ false
odd k = let e : (2 * k + 1) % 2 ≡ 1 = omega arith in ap (λ t. t == 0) e

half_odd : (k : ℕ) → (2 * k + 1) / 2 ≡ k
half_odd k = omega arith

module _ (plan : Plan) where
  pub value_node : (k : ℕ) (a : Addr) → StandsAt plan.places a k → node_of plan (2 * k) ≡ Node.Value a
  value_node k a s =
      ap (λ b. if b then Node.Value (get_or plan.places ((2 * k) / 2) (addr 0 0)) else Node.Entry (get_or plan.places ((2 * k) / 2) (addr 0 0))) (even k)
      ∙ ap (λ t. Node.Value (get_or plan.places t (addr 0 0))) (half k)
      ∙ ap Node.Value (get_or_from_slice_get plan.places k a (addr 0 0) s)

  pub entry_node : (k : ℕ) (a : Addr) → StandsAt plan.places a k → node_of plan (2 * k + 1) ≡ Node.Entry a
  entry_node k a s =
      ap (λ b. if b then Node.Value (get_or plan.places ((2 * k + 1) / 2) (addr 0 0)) else Node.Entry (get_or plan.places ((2 * k + 1) / 2) (addr 0 0))) (odd k)
      ∙ ap (λ t. Node.Entry (get_or plan.places t (addr 0 0))) (half_odd k)
      ∙ ap Node.Entry (get_or_from_slice_get plan.places k a (addr 0 0) s)

  pub value_from : (k : ℕ) → node_steps plan (2 * k) origin ≡ value_steps plan k 0 0
  value_from k =
      ap (λ b. if b then value_steps plan ((2 * k) / 2) 0 0 else entry_steps plan ((2 * k) / 2) 0 0) (even k)
      ∙ ap (λ t. value_steps plan t 0 0) (half k)

  pub entry_from : (k : ℕ) → node_steps plan (2 * k + 1) origin ≡ entry_steps plan k 0 0
  entry_from k =
      ap (λ b. if b then value_steps plan ((2 * k + 1) / 2) 0 0 else entry_steps plan ((2 * k + 1) / 2) 0 0) (odd k)
      ∙ ap (λ t. entry_steps plan t 0 0) (half_odd k)

  pub from_first : (ps : List Fo.Piece) → first_steps plan ps 0 ≡ flat_map (λ q. piece_steps plan q 0) ps
  from_first [] = refl
  from_first (p ∷ ps) = refl

pub stands_at : (ps : List Addr) (a : Addr) → Member a ps → (k : ℕ) × StandsAt ps a k
stands_at [] a m = absurd m
stands_at (p ∷ ps) a (inl e) = (zero, ap Some (sym e))
stands_at (p ∷ ps) a (inr m) = let (k, s) = stands_at ps a m in (suc k, s)

pub listed_at : (ps : List Addr) (a : Addr) (k : ℕ) → StandsAt ps a k → Member a ps
listed_at [] a k s = absurd (cc s)
listed_at (p ∷ ps) a zero s = let u : p ≡ a = cc s in inl (sym u)
listed_at (p ∷ ps) a (suc k) s = inr (listed_at ps a k s)

pub number_stands : (ps : List Addr) (a : Addr) (k : ℕ) → number_in ps a ≡ Some k → StandsAt ps a k
number_stands [] a k e = absurd (cc e)
number_stands (p ∷ ps) a k e = by (same_addr p a) refl (number_in ps a) refl e (λ j d. number_stands ps a j d)
  where
    by : (b : Bool) → same_addr p a ≡ b → (o : Option ℕ) → number_in ps a ≡ o → (if b then Some 0 else option_map suc o) ≡ Some k → ((j : ℕ) → number_in ps a ≡ Some j → StandsAt ps a j) → StandsAt (p ∷ ps) a k
    by true u o v w f = let x : 0 ≡ k = cc w in subst (λ t. slice_get (p ∷ ps) t ≡ Some a) x (ap Some (addr_exact p a u))
    by false u None v w f = absurd (cc w)
    by false u (Some j) v w f = let x : suc j ≡ k = cc w in subst (λ t. slice_get (p ∷ ps) t ≡ Some a) x (f j v)

-- calls have no nodes
pub kept_piece : (ps : List Fo.Piece) (p : Fo.Piece) → Member p (without_calls ps) → Member p ps
kept_piece [] p m = absurd m
kept_piece (Fo.Piece.Reads r ∷ ps) p (inl e) = inl e
kept_piece (Fo.Piece.Reads r ∷ ps) p (inr m) = inr (kept_piece ps p m)
kept_piece (Fo.Piece.Spills a ∷ ps) p (inl e) = inl e
kept_piece (Fo.Piece.Spills a ∷ ps) p (inr m) = inr (kept_piece ps p m)
kept_piece (Fo.Piece.Calls f ∷ ps) p m = inr (kept_piece ps p m)

pub read_piece : (S : Cells) (d : Node) (ps : List Fo.Piece) (p : Fo.Piece) → Member p ps → Member d (piece_nodes S p) → Member p (without_calls ps)
read_piece S d [] p m i = absurd m
read_piece S d (Fo.Piece.Reads r ∷ ps) p (inl e) i = inl e
read_piece S d (Fo.Piece.Reads r ∷ ps) p (inr m) i = inr (read_piece S d ps p m i)
read_piece S d (Fo.Piece.Spills a ∷ ps) p (inl e) i = inl e
read_piece S d (Fo.Piece.Spills a ∷ ps) p (inr m) i = inr (read_piece S d ps p m i)
read_piece S d (Fo.Piece.Calls f ∷ ps) p (inl e) i = absurd (subst (λ t. Member d (piece_nodes S t)) e i)
read_piece S d (Fo.Piece.Calls f ∷ ps) p (inr m) i = read_piece S d ps p m i

pub each_read : (ps : List Fo.Piece) (p : Fo.Piece) → AreReadPieces ps → Member p ps → IsReadPiece p × (piece_last p ≤ last_read ps)
each_read [] p h m = absurd m
each_read (q ∷ ps) p h (inl e) = (subst IsReadPiece (sym e) h.0, let u : piece_last p ≡ piece_last q = ap piece_last e in omega (arith, u))
each_read (q ∷ ps) p h (inr m) = let (i, l) = each_read ps p h.1 m in (i, omega (arith, l))

pub each_formula : (pss : List (List Fo.Piece)) (k : ℕ) (ps : List Fo.Piece) → AreRead pss → slice_get pss k ≡ Some ps → AreReadPieces ps × (last_read ps ≤ rows_read pss)
each_formula [] k ps h e = absurd (cc e)
each_formula (qs ∷ pss) zero ps h e = let u : qs ≡ ps = cc e in (subst AreReadPieces u h.0, let v : last_read qs ≡ last_read ps = ap last_read u in omega (arith, v))
each_formula (qs ∷ pss) (suc k) ps h e = let (i, l) = each_formula pss k ps h.1 e in (i, omega (arith, l))

pub drop_none : {X : Type 0} (xs : List X) → drop 0 xs ≡ xs
drop_none [] = refl
drop_none (x ∷ xs) = refl

pub map_part : {X Y : Type 0} (f : X → Y) (xs : List X) (y : Y) → Member y (map f xs) → (x : X) × Member x xs × (y ≡ f x)
map_part f [] y m = absurd m
map_part f (x ∷ xs) y (inl e) = (x, inl refl, e)
map_part f (x ∷ xs) y (inr m) = let (z, i, e) = map_part f xs y m in (z, inr i, e)

pub map_in : {X Y : Type 0} (f : X → Y) (xs : List X) (x : X) → Member x xs → Member (f x) (map f xs)
map_in f [] x m = absurd m
map_in f (y ∷ ys) x (inl e) = inl (ap f e)
map_in f (y ∷ ys) x (inr m) = inr (map_in f ys x m)

pub some_box : (o : Option Range) (test : Range → Bool) → list_any test (option_to_list o) ≡ true → (r : Range) × (o ≡ Some r) × (test r ≡ true)
some_box None test e = absurd (cc e)
some_box (Some r) test e = (r, refl, by (test r) refl e)
  where
    by : (b : Bool) → test r ≡ b → (b || false) ≡ true → test r ≡ true
    by true u v = u
    by false u v = absurd (cc v)

pub range_member : (f m i : ℕ) → f ≤ i → i < f + m → Member i (range_with_len f m)
range_member f zero i l u = absurd (omega (arith, l, u))
range_member f (suc m) i l u = by (cases_order f i) (λ v. range_member (f + 1) m i (omega (arith, v)) (omega (arith, u)))
  where
    by : (f ≡ i) ⊎ ((f < i) ⊎ (i < f)) → (f < i → Member i (range_with_len (f + 1) m)) → Member i (range_with_len f (suc m))
    by (inl e) k = inl (sym e)
    by (inr (inl v)) k = inr (k v)
    by (inr (inr v)) k = absurd (omega (arith, l, v))

pub number_at : (ps : List Addr) (a : Addr) (k : ℕ) → are_in_order ps ≡ true → StandsAt ps a k → number_in ps a ≡ Some k
number_at [] a k o s = absurd (cc s)
number_at (p ∷ ps) a zero o s = let u : p ≡ a = cc s in ap (λ b. if b then Some 0 else option_map suc (number_in ps a)) (subst (λ z. same_addr p z ≡ true) u (addr_same p))
number_at (p ∷ ps) a (suc k) o s = ap (λ b. if b then Some 0 else option_map suc (number_in ps a)) (other (same_addr p a) refl) ∙ ap (option_map suc) (number_at ps a k (rest_in_order p ps o) s)
  where
    other : (b : Bool) → same_addr p a ≡ b → same_addr p a ≡ false
    other true e = absurd (never_self a (subst (λ z. is_before z a ≡ true) (addr_exact p a e) (first_before p a ps k o s)))
    other false e = e

-- a number of a node
pub data IsReal (S : Cells) (plan : Plan) : ℕ → Type 0 where
  value : (k : ℕ) {a : Addr} → StandsAt plan.places a k → IsReal S plan (2 * k)
  entry : (k : ℕ) {a : Addr} {r : Range} → StandsAt plan.places a k → box S a ≡ Some r → IsReal S plan (2 * k + 1)

module _ (S : Cells) (rows : ℕ) (plan : Plan) (h : IsPlanOf S rows plan) where
  pub box_is : (k : ℕ) (a : Addr) → StandsAt plan.places a k → slice_get plan.boxes k ≡ Some (box S a)
  box_is k a s = ap (λ t. slice_get t k) h.boxes ∙ slice_get-map (box S) plan.places k ∙ ap (option_map (box S)) s

  pub box_of_is : (k : ℕ) (a : Addr) → StandsAt plan.places a k → box_of plan k ≡ box S a
  box_of_is k a s = get_or_from_slice_get plan.boxes k (box S a) None (box_is k a s)

  pub pieces_is : (k : ℕ) (a : Addr) → StandsAt plan.places a k → slice_get plan.pieces k ≡ Some (without_calls (content_pieces S (content S a)))
  pieces_is k a s = ap (λ t. slice_get t k) h.pieces ∙ slice_get-map (λ a. without_calls (content_pieces S (content S a))) plan.places k ∙ ap (option_map (λ a. without_calls (content_pieces S (content S a)))) s

  pub is_formula : (k : ℕ) (a : Addr) → StandsAt plan.places a k → (f : _) × (content S a ≡ Some (Form f))
  is_formula k a s = formula_content S h.ordered a (subst (λ t. Member a t) h.places (listed_at plan.places a k s))

  pub boxed : (k : ℕ) (b : Range) → BoxAt plan.boxes k b → (a : Addr) × StandsAt plan.places a k × (box S a ≡ Some b)
  boxed k b at = by (slice_get plan.places k) refl
    where
      by : (o : Option Addr) → slice_get plan.places k ≡ o → (a : Addr) × StandsAt plan.places a k × (box S a ≡ Some b)
      by None e = let u : None ≡ Some (Some b) = ap (option_map (box S)) (sym e) ∙ sym (slice_get-map (box S) plan.places k) ∙ ap (λ t. slice_get t k) (sym h.boxes) ∙ at in absurd (cc u)
      by (Some a) e = let u : Some (box S a) ≡ Some (Some b) = sym (box_is k a e) ∙ at in (a, e, cc u)

  -- the top node of a formula cell
  pub top_part : (k : ℕ) (a : Addr) → StandsAt plan.places a k → IsReal S plan (top_of plan k) × Member (node_of plan (top_of plan k)) (cell_nodes S a)
  top_part k a s = by (box S a) refl
    where
      by : (o : Option Range) → box S a ≡ o → IsReal S plan (top_of plan k) × Member (node_of plan (top_of plan k)) (cell_nodes S a)
      by None e =
          let u : top_of plan k ≡ 2 * k = ap (top_node k) (box_of_is k a s ∙ e) in
          subst (λ t. IsReal S plan t × Member (node_of plan t) (cell_nodes S a)) (sym u) (value k s, inl (value_node plan k a s))
      by (Some r) e =
          let u : top_of plan k ≡ 2 * k + 1 = ap (top_node k) (box_of_is k a s ∙ e) in
          subst (λ t. IsReal S plan t × Member (node_of plan t) (cell_nodes S a)) (sym u) (entry k s e, inr (subst (λ t. Member (node_of plan (2 * k + 1)) (map (λ r. Node.Entry a) (option_to_list t))) (sym e) (inl (entry_node plan k a s))))

  -- from what an address reads of
  source_part : (a : Addr) (m n : ℕ) → IsSource S plan.places plan.boxes a m → Member n (source_steps plan m) → IsReal S plan n × Member (node_of plan n) (address_nodes S a (content S a))
  source_part a m n (formula {k = k} s) (inl e) =
      let (f, u) = is_formula k a s in
      subst (λ t. IsReal S plan t × Member (node_of plan t) (address_nodes S a (content S a))) (sym e) (subst (λ t. IsReal S plan (top_of plan k) × Member (node_of plan (top_of plan k)) (address_nodes S a t)) (sym u) (top_part k a s))
  source_part a m n (formula s) (inr i) = absurd i
  source_part a m n (constant u) i = absurd i
  source_part a m n (blank u (none g)) i = absurd i
  source_part a m n (blank u (some {k = k} (b, at, c) g)) (inr i) = absurd i
  source_part a m n (blank u (some {k = k} (b, at, c) g)) (inl e) =
      let (p, s, d) = boxed k b at in
      let (i, j) = top_part k p s in
      let tested : has_box S (λ r. covers r a) p ≡ true = ap (λ o. list_any (λ r. covers r a) (option_to_list o)) d ∙ ap (λ t. t || false) c in
      let member = filtered (has_box S (λ r. covers r a)) (formula_addresses S) p (subst (λ t. Member p t) h.places (listed_at plan.places p k s)) tested in
      subst (λ t. IsReal S plan t × Member (node_of plan t) (address_nodes S a (content S a))) (sym e)
      (i, subst (λ t. Member (node_of plan (top_of plan k)) (address_nodes S a t)) (sym u) (flat_member (cell_nodes S) (covering S a) p (node_of plan (top_of plan k)) member j))

  -- ---- each step is a dependence

  piece_part : (p : Fo.Piece) (n : ℕ) → IsReadPiece p → piece_last p ≤ rows → Member n (piece_steps plan p 0) → IsReal S plan n × Member (node_of plan n) (piece_nodes S p)
  piece_part (Fo.Piece.Calls f) n i l m = absurd m
  piece_part (Fo.Piece.Reads r) n i l m =
      let (a, u, v) = flat_part (address_steps plan) (drop 0 (addresses r)) n m in
      let w = subst (λ t. Member a t) (drop_none (addresses r)) u in
      let (x, y) = source_part a (source plan.columns a) n (h.sources a (in_range r a rows i l w)) v in
      (x, flat_member (λ a. address_nodes S a (content S a)) (addresses r) a (node_of plan n) w y)
  piece_part (Fo.Piece.Spills a) n i l m = by (number_in plan.places a) refl m
    where
      by : (o : Option ℕ) → number_in plan.places a ≡ o → Member n (number_steps plan o) → IsReal S plan n × Member (node_of plan n) (spill_nodes S a (content S a))
      by None e m = absurd m
      by (Some k) e (inr m) = absurd m
      by (Some k) e (inl d) =
          let s = number_stands plan.places a k e in
          let (f, u) = is_formula k a s in
          subst (λ t. IsReal S plan t × Member (node_of plan t) (spill_nodes S a (content S a))) (sym d) (subst (λ t. IsReal S plan (top_of plan k) × Member (node_of plan (top_of plan k)) (spill_nodes S a t)) (sym u) (top_part k a s))

  pub value_list : (k : ℕ) (a : Addr) → StandsAt plan.places a k → node_steps plan (2 * k) origin ≡ flat_map (λ q. piece_steps plan q 0) (without_calls (content_pieces S (content S a)))
  value_list k a s =
      value_from plan k
      ∙ ap (λ t. first_steps plan t 0) (drop_none (get_or plan.pieces k []) ∙ get_or_from_slice_get plan.pieces k (without_calls (content_pieces S (content S a))) [] (pieces_is k a s))
      ∙ from_first plan (without_calls (content_pieces S (content S a)))

  value_part : (k n : ℕ) (a : Addr) → StandsAt plan.places a k → Member n (node_steps plan (2 * k) origin) → IsReal S plan n × Member (node_of plan n) (dependences S (Node.Value a))
  value_part k n a s m =
      let ps = content_pieces S (content S a) in
      let (p, u, v) = flat_part (λ q. piece_steps plan q 0) (without_calls ps) n (subst (λ t. Member n t) (value_list k a s) m) in
      let (r, l) = each_formula plan.pieces k (without_calls ps) h.read (pieces_is k a s) in
      let (i, j) = each_read (without_calls ps) p r u in
      let e = h.lowest in
      let (x, y) = piece_part p n i (omega (arith, l, j, e)) v in
      (x, flat_member (piece_nodes S) ps p (node_of plan n) (kept_piece ps p u) y)

  pub entry_list : (k : ℕ) (a : Addr) (r : Range) → StandsAt plan.places a k → box S a ≡ Some r → node_steps plan (2 * k + 1) origin ≡ 2 * k ∷ map (λ j. 2 * j + 1) (filter (is_rival plan r) (range_with_len 0 (k - 0)))
  entry_list k a r s e = entry_from plan k ∙ ap (λ t. 2 * k ∷ rival_steps plan k t 0) (box_of_is k a s ∙ e)

  stands_within : (k : ℕ) (a : Addr) (j : ℕ) → StandsAt plan.places a k → j < k → (b : Addr) × StandsAt plan.places b j
  stands_within k a j s l =
      let m = slice_get_within plan.places k a s in
      (get_or plan.places j (addr 0 0), slice_get-get_or plan.places j (addr 0 0) (omega (arith, l, m)))

  entry_part : (k n : ℕ) (a : Addr) (r : Range) → StandsAt plan.places a k → box S a ≡ Some r → Member n (node_steps plan (2 * k + 1) origin) → IsReal S plan n × Member (node_of plan n) (dependences S (Node.Entry a))
  entry_part k n a r s e m = by (subst (λ t. Member n t) (entry_list k a r s e) m)
    where
      rival : Member n (map (λ j. 2 * j + 1) (filter (is_rival plan r) (range_with_len 0 (k - 0)))) → IsReal S plan n × Member (node_of plan n) (dependences S (Node.Entry a))
      rival i =
          let (j, u, v) = map_part (λ j. 2 * j + 1) (filter (is_rival plan r) (range_with_len 0 (k - 0))) n i in
          let (w, t) = filter_part (is_rival plan r) (range_with_len 0 (k - 0)) j u in
          let (x, y) = in_rows 0 (k - 0) j w in
          let l : j < k = omega (arith, y) in
          let (b, z) = stands_within k a j s l in
          let (q, d, g) = some_box (box S b) (meets r) (subst (λ o. list_any (meets r) (option_to_list o) ≡ true) (box_of_is j b z) t) in
          let earlier = in_order plan.places b a j k h.in_order z s l in
          let tested : (is_before b a && has_box S (meets r) b) ≡ true = and_from (is_before b a) (has_box S (meets r) b) earlier (subst (λ o. list_any (meets r) (option_to_list o) ≡ true) (box_of_is j b z) t) in
          let member = filtered (λ c. is_before c a && has_box S (meets r) c) (formula_addresses S) b (subst (λ p. Member b p) h.places (listed_at plan.places b j z)) tested in
          let there : Member (Node.Entry b) (flat_map (λ r. map Node.Entry (rivals S a r)) (option_to_list (box S a))) =
          flat_member (λ r. map Node.Entry (rivals S a r)) (option_to_list (box S a)) r (Node.Entry b) (subst (λ o. Member r (option_to_list o)) (sym e) (inl refl)) (map_in Node.Entry (rivals S a r) b member) in
          subst (λ t. IsReal S plan t × Member (node_of plan t) (dependences S (Node.Entry a))) (sym v) (entry j z d, inr (subst (λ t. Member t (flat_map (λ r. map Node.Entry (rivals S a r)) (option_to_list (box S a)))) (sym (entry_node plan j b z)) there))

      by : (n ≡ 2 * k) ⊎ Member n (map (λ j. 2 * j + 1) (filter (is_rival plan r) (range_with_len 0 (k - 0)))) → IsReal S plan n × Member (node_of plan n) (dependences S (Node.Entry a))
      by (inl d) = subst (λ t. IsReal S plan t × Member (node_of plan t) (dependences S (Node.Entry a))) (sym d) (value k s, inl (value_node plan k a s))
      by (inr i) = rival i

  pub part : (m n : ℕ) → IsReal S plan m → Member n (node_steps plan m origin) → IsReal S plan n × Member (node_of plan n) (dependences S (node_of plan m))
  part m n (value k {a = a} s) i = subst (λ t. IsReal S plan n × Member (node_of plan n) (dependences S t)) (sym (value_node plan k a s)) (value_part k n a s i)
  part m n (entry k {a = a} {r = r} s e) i = subst (λ t. IsReal S plan n × Member (node_of plan n) (dependences S t)) (sym (entry_node plan k a s)) (entry_part k n a r s e i)
