-- Lists of addresses in row-major order, and the first address of one that passes a test.
use Rattle.std.proofs.Common.{◌≡◌, ◌⊎◌, inl, inr, ℕ, zero, suc, ◌+◌, ◌≤◌, Bool, true, false, cond, List, [], ◌∷◌, ◌++◌, map, filter, refl, ap, sym, subst, arith}
use Rattle.std.specs.List.{flat_map, range_with_len}
use Rattle.gl_calculus.specs.Computation.Lists.{Member}
use Rattle.gl_calculus.specs.Grid.Grid.{Addr, addr, AreInOrder, Range, extents, addresses}
use Rattle.gl_calculus.proofs.Grants.{Before, before_of, of_before, before_trans}

-- ---- lists in order

pub tail : (a : Addr) (rest : List Addr) → AreInOrder (a ∷ rest) → AreInOrder rest
tail a [] o = tt
tail a (b ∷ rest) (p, o) = o

pub behind : (a : Addr) (rest : List Addr) → AreInOrder (a ∷ rest) → (b : Addr) → Member b rest → Before a b
behind a [] o b m = absurd m
behind a (c ∷ rest) (p, o) b (inl e) = subst (λ u. Before a u) (sym e) (before_of a c p)
behind a (c ∷ rest) (p, o) b (inr m) = before_trans a c b (before_of a c p) (behind c rest o b m)

front : (a : Addr) (rest : List Addr) → ((b : Addr) → Member b rest → Before a b) → AreInOrder rest → AreInOrder (a ∷ rest)
front a [] h o = tt
front a (b ∷ rest) h o = (of_before a b (h b (inl refl)), o)

pub member_first : (a : Addr) (xs ys : List Addr) → Member a xs → Member a (xs ++ ys)
member_first a [] ys m = absurd m
member_first a (b ∷ xs) ys (inl e) = inl e
member_first a (b ∷ xs) ys (inr m) = inr (member_first a xs ys m)

pub member_of : (a : Addr) (xs ys : List Addr) → Member a (xs ++ ys) → Member a xs ⊎ Member a ys
member_of a [] ys m = inr m
member_of a (b ∷ xs) ys (inl e) = inl (inl e)
member_of a (b ∷ xs) ys (inr m) = (elim (member_of a xs ys m) as (λ v. Member a (b ∷ xs) ⊎ Member a ys) [ inl n ↦ inl (inr n) | inr n ↦ inr n ])

member_without : (a b : Addr) (xs ys : List Addr) → Member b (xs ++ ys) → Member b (xs ++ a ∷ ys)
member_without a b [] ys m = inr m
member_without a b (x ∷ xs) ys (inl e) = inl e
member_without a b (x ∷ xs) ys (inr m) = inr (member_without a b xs ys m)

-- the first part of a list in order
pub order_first : (xs ys : List Addr) → AreInOrder (xs ++ ys) → AreInOrder xs
order_first [] ys o = tt
order_first (x ∷ xs) ys o = front x xs (λ b m. behind x (xs ++ ys) o b (member_first b xs ys m)) (order_first xs ys (tail x (xs ++ ys) o))

-- the list without one of its addresses
pub order_without : (a : Addr) (xs ys : List Addr) → AreInOrder (xs ++ a ∷ ys) → AreInOrder (xs ++ ys)
order_without a [] ys o = tail a ys o
order_without a (x ∷ xs) ys o = front x (xs ++ ys) (λ b m. behind x (xs ++ a ∷ ys) o b (member_without a b xs ys m)) (order_without a xs ys (tail x (xs ++ a ∷ ys) o))

order_both : (xs ys : List Addr) → AreInOrder xs → AreInOrder ys → ((a b : Addr) → Member a xs → Member b ys → Before a b) → AreInOrder (xs ++ ys)
order_both [] ys o p h = p
order_both (x ∷ xs) ys o p h =
    front x (xs ++ ys)
    (λ b m. elim (member_of b xs ys m) as (λ v. Before x b) [ inl n ↦ behind x xs o b n | inr n ↦ h x b (inl refl) n ])
    (order_both xs ys (tail x xs o) p (λ a b m n. h a b (inr m) n))

-- ---- the addresses of a range

abbrev pub row : ℕ → ℕ → ℕ → List Addr
row c n i = map (λ j. addr j i) (range_with_len c n)

row_member : (c n i : ℕ) (a : Addr) → Member a (row c n i) → (a.row ≡ i) × (c ≤ a.col)
row_member c zero i a m = absurd m
row_member c (suc n) i a (inl e) = (ap (λ u. u.row) e, let f : a.col ≡ c = ap (λ u. u.col) e in omega (arith, f))
row_member c (suc n) i a (inr m) = let (e, l) = row_member (c + 1) n i a m in (e, omega (arith, l))

row_order : (c n i : ℕ) → AreInOrder (row c n i)
row_order c zero i = tt
row_order c (suc n) i = front (addr c i) (row (c + 1) n i) (λ b m. let (e, l) = row_member (c + 1) n i b m in inr (sym e, omega (arith, l))) (row_order (c + 1) n i)

rows_member : (c n f m : ℕ) (a : Addr) → Member a (flat_map (row c n) (range_with_len f m)) → f ≤ a.row
rows_member c n f zero a h = absurd h
rows_member c n f (suc m) a h =
    elim (member_of a (row c n f) (flat_map (row c n) (range_with_len (f + 1) m)) h) as (λ v. f ≤ a.row) [
      | inl k ↦ (let e : a.row ≡ f = (row_member c n f a k).0 in omega (arith, e))
      | inr k ↦ (let l : f + 1 ≤ a.row = rows_member c n (f + 1) m a k in omega (arith, l))
    ]

rows_order : (c n f m : ℕ) → AreInOrder (flat_map (row c n) (range_with_len f m))
rows_order c n f zero = tt
rows_order c n f (suc m) =
    order_both (row c n f) (flat_map (row c n) (range_with_len (f + 1) m)) (row_order c n f) (rows_order c n (f + 1) m)
    (λ a b k l. let e : a.row ≡ f = (row_member c n f a k).0 in let g : f + 1 ≤ b.row = rows_member c n (f + 1) m b l in inl (omega (arith, e, g)))

pub addresses_order : (r : Range) → AreInOrder (addresses r)
addresses_order r = rows_order r.first.col (extents r).cols r.first.row (extents r).rows

-- those that pass a test
member_filter_by : (b : Bool) (x a : Addr) (xs ys : List Addr) → (Member a ys → Member a xs) → Member a (cond b (x ∷ ys) ys) → Member a (x ∷ xs)
member_filter_by true x a xs ys h (inl e) = inl e
member_filter_by true x a xs ys h (inr m) = inr (h m)
member_filter_by false x a xs ys h m = inr (h m)

member_filter : (p : Addr → Bool) (xs : List Addr) (a : Addr) → Member a (filter p xs) → Member a xs
member_filter p [] a m = m
member_filter p (x ∷ xs) a m = member_filter_by (p x) x a xs (filter p xs) (member_filter p xs a) m

order_filter_by : (b : Bool) (x : Addr) (ys : List Addr) → AreInOrder (x ∷ ys) → AreInOrder ys → AreInOrder (cond b (x ∷ ys) ys)
order_filter_by true x ys o p = o
order_filter_by false x ys o p = p

pub order_filter : (p : Addr → Bool) (xs : List Addr) → AreInOrder xs → AreInOrder (filter p xs)
order_filter p [] o = tt
order_filter p (x ∷ xs) o =
    let rest = order_filter p xs (tail x xs o) in
    order_filter_by (p x) x (filter p xs) (front x (filter p xs) (λ b m. behind x xs o b (member_filter p xs b m)) rest) rest
