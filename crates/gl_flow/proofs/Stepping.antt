-- The steps of a network, one after another.
use Rattle.std.proofs.Common.{◌≡◌, inl, inr, ℕ, zero, suc, ◌+◌, ◌<◌, ◌≤◌, true, List, [], ◌∷◌, ◌++◌, length, drop, get_or, refl, sym, ap, ◌∙◌, arith}
use Rattle.std.specs.Prelude.{Option, Some, None, slice_get, flat_map}
use Rattle.std.specs.declared.vec.Vec.{Vec}
use Rattle.std.specs.declared.alloc.Global.{Global}
use Rattle.std.proofs.lemmas.List.{length-map, get_or-map, drop_more}
use Rattle.std.proofs.lemmas.Option.{slice_get_read, slice_get-get_or}
use Rattle.gl_calculus.specs.Computation.Lists.{Member}
use Rattle.gl_calculus.specs.Grid.Grid.{Addr, Range, addresses}
use Rattle.gl_calculus.specs.Forecast as Fo
use Rattle.gl_flow.specs.declared.reading.Piece.{Piece}
use Rattle.gl_flow.specs.declared.reading.Piece.TheVariants.{Reads, Spills}
use Rattle.gl_flow.specs.Pieces.{piece_tree, piece_trees, piece_lists, piece_last, rows_read, IsRead, IsReadPiece}
use Rattle.gl_flow.specs.Places.{are_in_order, StandsAt}
use Rattle.gl_flow.specs.Grid.{source, IsInRows}
use Rattle.gl_flow.specs.Network.{Plan, number_in, top_of, source_steps, address_steps, number_steps, piece_steps, spill_steps, first_steps, value_steps}
use Rattle.gl_flow.proofs.Counting.{drop_at}
use Rattle.gl_flow.proofs.Dependences.{in_range, number_stands, number_at, from_first}

-- ---- from a range

listed : (xs : List Addr) (i : ℕ) (a : Addr) → Some a ≡ slice_get xs i → Member a xs
listed [] i a e = absurd (cc e)
listed (x ∷ xs) zero a e = let u : a ≡ x = cc e in inl u
listed (x ∷ xs) (suc i) a e = inr (listed xs i a e)

pub lies_in_rows : (r : Range) (i rows : ℕ) (a : Addr) → IsRead r → r.last.row ≤ rows → Some a ≡ slice_get (addresses r) i → IsInRows rows a
lies_in_rows r i rows a h l e = in_range r a rows h l (listed (addresses r) i a e)

module _ (plan : Plan) where
  address_on : (xs : List Addr) (i : ℕ) (a : Addr) → Some a ≡ slice_get xs i → flat_map (address_steps plan) (drop i xs) ≡ address_steps plan a ++ flat_map (address_steps plan) (drop (i + 1) xs)
  address_on xs i a e = ap (flat_map (address_steps plan)) (drop_at xs i a e)

  pub address_taken : (xs : List Addr) (i k n : ℕ) (a : Addr) → Some a ≡ slice_get xs i → n ≡ source plan.columns a → k + 1 ≡ n → flat_map (address_steps plan) (drop i xs) ≡ top_of plan k ∷ flat_map (address_steps plan) (drop (i + 1) xs)
  address_taken xs i k n a e is l =
      let u : source plan.columns a ≡ suc k = omega (arith, is, l) in
      address_on xs i a e ∙ ap (λ t. source_steps plan t ++ flat_map (address_steps plan) (drop (i + 1) xs)) u

  pub address_passed : (xs : List Addr) (i n : ℕ) (a : Addr) → Some a ≡ slice_get xs i → n ≡ source plan.columns a → n ≤ 0 → flat_map (address_steps plan) (drop i xs) ≡ flat_map (address_steps plan) (drop (i + 1) xs)
  address_passed xs i n a e is l =
      let u : source plan.columns a ≡ 0 = omega (arith, is, l) in
      address_on xs i a e ∙ ap (λ t. source_steps plan t ++ flat_map (address_steps plan) (drop (i + 1) xs)) u

  -- ---- from `a#`

  pub spill_taken : (a : Addr) (i k : ℕ) → i ≤ 0 → are_in_order plan.places ≡ true → StandsAt plan.places a k → spill_steps plan a i ≡ top_of plan k ∷ []
  spill_taken a zero k l o s = ap (number_steps plan) (number_at plan.places a k o s)
  spill_taken a (suc i) k l o s = absurd (omega (arith, l))

  pub spill_none : (a : Addr) (i : ℕ) → ((k : ℕ) → StandsAt plan.places a k → ⊥) → spill_steps plan a i ≡ []
  spill_none a (suc i) h = refl
  spill_none a zero h = by (number_in plan.places a) refl
    where
      by : (o : Option ℕ) → number_in plan.places a ≡ o → number_steps plan o ≡ []
      by None e = refl
      by (Some k) e = absurd (h k (number_stands plan.places a k e))

  -- ---- from a value

  pub piece_taken : (p : Fo.Piece) (ps : List Fo.Piece) (i n j : ℕ) → piece_steps plan p i ≡ n ∷ piece_steps plan p j → first_steps plan (p ∷ ps) i ≡ n ∷ first_steps plan (p ∷ ps) j
  piece_taken p ps i n j e = ap (λ t. t ++ flat_map (λ q. piece_steps plan q 0) ps) e

  pub piece_passed : (p : Fo.Piece) (ps : List Fo.Piece) (i : ℕ) → piece_steps plan p i ≡ [] → first_steps plan (p ∷ ps) i ≡ first_steps plan ps 0
  piece_passed p ps i e = ap (λ t. t ++ flat_map (λ q. piece_steps plan q 0) ps) e ∙ sym (from_first plan ps)

-- ---- the pieces of a formula

pub pieces_within : (pieces : List (Vec Piece Global)) (places : List Addr) (k : ℕ) → length (piece_lists pieces) ≡ length places → k < length places → k < length pieces
pieces_within pieces places k e l = let n : length (piece_lists pieces) ≡ length pieces = length-map pieces (λ (v : Vec Piece Global). piece_trees v.items) in omega (arith, n, e, l)

module _ (pieces : List (Vec Piece Global)) where
  pub pieces_are : (k : ℕ) (v : Vec Piece Global) → k < length pieces → v ≡ get_or pieces k v → get_or (piece_lists pieces) k [] ≡ piece_trees v.items
  pieces_are k v l is = get_or-map (λ (v : Vec Piece Global). piece_trees v.items) pieces k v [] l ∙ ap (λ (v : Vec Piece Global). piece_trees v.items) (sym is)

  pub piece_at : (items : List Piece) (part : ℕ) (p : Piece) → part < length items → p ≡ get_or items part p → drop part (piece_trees items) ≡ piece_tree p ∷ drop (part + 1) (piece_trees items)
  piece_at items part p l is =
      let n : length (piece_trees items) ≡ length items = length-map items piece_tree in
      drop_more (piece_trees items) part (piece_tree p) (omega (arith, n, l)) ∙ ap (λ t. t ∷ drop (part + 1) (piece_trees items)) (get_or-map piece_tree items part p (piece_tree p) l ∙ ap piece_tree (sym is))

  list_member : (items : List Piece) (part : ℕ) (p : Piece) → slice_get items part ≡ Some p → Member (piece_tree p) (piece_trees items)
  list_member [] part p e = absurd (cc e)
  list_member (x ∷ xs) zero p e = let u : x ≡ p = cc e in inl (ap piece_tree (sym u))
  list_member (x ∷ xs) (suc part) p e = inr (list_member xs part p e)

  pub piece_read : (k part : ℕ) (v : Vec Piece Global) (p : Piece) → ((k : ℕ) (ps : List Fo.Piece) (r : Range) → slice_get (piece_lists pieces) k ≡ Some ps → Member (Fo.Piece.Reads r) ps → IsRead r × (r.last.row ≤ rows_read (piece_lists pieces))) →
      k < length pieces → v ≡ get_or pieces k v → part < length v.items → p ≡ get_or v.items part p → IsReadPiece (piece_tree p) × (piece_last (piece_tree p) ≤ rows_read (piece_lists pieces))
  piece_read k part v p h l is m has = by p has
    where
      at : slice_get (piece_lists pieces) k ≡ Some (piece_trees v.items)
      at = let n : length (piece_lists pieces) ≡ length pieces = length-map pieces (λ (v : Vec Piece Global). piece_trees v.items) in slice_get-get_or (piece_lists pieces) k [] (omega (arith, n, l)) ∙ ap Some (pieces_are k v l is)

      by : (p : Piece) → p ≡ get_or v.items part p → IsReadPiece (piece_tree p) × (piece_last (piece_tree p) ≤ rows_read (piece_lists pieces))
      by (Reads r) has = h k (piece_trees v.items) r at (list_member v.items part (Reads r) (slice_get_read v.items (length v.items) part (Reads r) refl m has))
      by (Spills a) has = (tt, omega arith)

  -- the steps from a value at one of its pieces
  module _ (plan : Plan) (same : plan.pieces ≡ piece_lists pieces) (k part : ℕ) (v : Vec Piece Global) (p : Piece) (l : k < length pieces) (is : v ≡ get_or pieces k v) (m : part < length v.items) (has : p ≡ get_or v.items part p) where
    value_at : (i : ℕ) → value_steps plan k part i ≡ first_steps plan (piece_tree p ∷ drop (part + 1) (piece_trees v.items)) i
    value_at i = ap (λ t. first_steps plan (drop part t) i) (ap (λ t. get_or t k []) same ∙ pieces_are k v l is) ∙ ap (λ t. first_steps plan t i) (piece_at v.items part p m has)

    pub value_taken : (i n j : ℕ) → piece_steps plan (piece_tree p) i ≡ n ∷ piece_steps plan (piece_tree p) j → value_steps plan k part i ≡ n ∷ value_steps plan k part j
    value_taken i n j e = value_at i ∙ piece_taken plan (piece_tree p) (drop (part + 1) (piece_trees v.items)) i n j e ∙ ap (λ t. n ∷ t) (sym (value_at j))

    pub value_passed : (i : ℕ) → piece_steps plan (piece_tree p) i ≡ [] → value_steps plan k part i ≡ value_steps plan k (part + 1) 0
    value_passed i e =
        value_at i ∙ piece_passed plan (piece_tree p) (drop (part + 1) (piece_trees v.items)) i e
        ∙ ap (λ t. first_steps plan (drop (part + 1) t) 0) (sym (ap (λ t. get_or t k []) same ∙ pieces_are k v l is))
