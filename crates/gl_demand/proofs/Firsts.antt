-- The first address with a property, however it is found.
use Rattle.std.proofs.Common.{◌≡◌, ◌⊎◌, inl, inr, ℕ, zero, suc, ◌+◌, ◌≤◌, ◌<◌, nat_le, Bool, true, false, cond, ◌&&◌, not, is_some, List, [], ◌∷◌, ◌++◌, map, length, Option, Some, None, if◌then◌else◌, refl, ap, sym, subst, ◌∙◌, arith}
use Rattle.std.specs.List.{find, flat_map, range_with_len}
use Rattle.std.proofs.lemmas.Bool.{cases_order, leb-true, le-leb}
use Rattle.gl_calculus.specs.Computation.Lists.{Member}
use Rattle.gl_calculus.specs.Grid.Grid.{Addr, addr, same_addr, is_before, AreInOrder, Range, extents, addresses, covers}
use Rattle.gl_calculus.specs.Formulas.Formula.{Content, Cells, IsSheet, content}
use Rattle.gl_calculus.proofs.Tests.{both, and_true, addr_exact, addr_same}
use Rattle.gl_calculus.proofs.Grants.{Before, before_of, of_before, before_trans, not_same, clash}
use Rattle.gl_cells.specs.Search.{is_in_play}
use Rattle.gl_demand.specs.Blocks.{has_content}
use Rattle.gl_demand.proofs.Ordered.{tail, behind, row, member_of, member_first, addresses_order}

pub not_other : (h e : Bool) → e ≡ true → false ≡ (h && not e)
not_other true true k = refl
not_other false true k = refl
not_other h false k = absurd (cc k)

-- ---- first addresses

-- the address has the property, and none before it has; or no address has it
abbrev pub First : (Addr → Type 0) → Option Addr → Type 0
First P None = (b : Addr) → P b → ⊥
First P (Some a) = P a × ((b : Addr) → P b → Before b a → ⊥)

pub order : (a b : Addr) → (a ≡ b) ⊎ (Before a b ⊎ Before b a)
order a b = by_row (cases_order a.row b.row)
  where
    by_col : a.row ≡ b.row → (a.col ≡ b.col) ⊎ ((a.col < b.col) ⊎ (b.col < a.col)) → (a ≡ b) ⊎ (Before a b ⊎ Before b a)
    by_col e (inl f) = inl (ap (λ c. addr c a.row) f ∙ ap (λ r. addr b.col r) e)
    by_col e (inr (inl l)) = inr (inl (inr (e, l)))
    by_col e (inr (inr l)) = inr (inr (inr (sym e, l)))

    by_row : (a.row ≡ b.row) ⊎ ((a.row < b.row) ⊎ (b.row < a.row)) → (a ≡ b) ⊎ (Before a b ⊎ Before b a)
    by_row (inl e) = by_col e (cases_order a.col b.col)
    by_row (inr (inl l)) = inr (inl (inl l))
    by_row (inr (inr l)) = inr (inr (inl l))

same_by : (P : Addr → Type 0) (a b : Addr) → First P (Some a) → First P (Some b) → (a ≡ b) ⊎ (Before a b ⊎ Before b a) → Some a ≡ Some b
same_by P a b f g (inl e) = ap Some e
same_by P a b f g (inr (inl l)) = absurd (g.1 a f.0 l)
same_by P a b f g (inr (inr l)) = absurd (f.1 b g.0 l)

pub one_first : (P : Addr → Type 0) (o p : Option Addr) → First P o → First P p → o ≡ p
one_first P None None f g = refl
one_first P None (Some b) f g = absurd (f b g.0)
one_first P (Some a) None f g = absurd (g a f.0)
one_first P (Some a) (Some b) f g = same_by P a b f g (order a b)

pub first_iff : (P Q : Addr → Type 0) (o : Option Addr) → ((b : Addr) → P b → Q b) → ((b : Addr) → Q b → P b) → First P o → First Q o
first_iff P Q None to from f = λ b q. f b (from b q)
first_iff P Q (Some a) to from f = (to a f.0, λ b q l. f.1 b (from b q) l)

-- ---- the first of a list in order

abbrev Passes : (Addr → Bool) → List Addr → Addr → Type 0
Passes p xs b = Member b xs × (p b ≡ true)

pass_on : (p : Addr → Bool) (x : Addr) (xs : List Addr) (b : Addr) → p x ≡ false → Passes p (x ∷ xs) b → Passes p xs b
pass_on p x xs b e (inl q, t) = absurd (clash (subst (λ y. p y ≡ true) q t) e)
pass_on p x xs b e (inr m, t) = (m, t)

head_first : (p : Addr → Bool) (x : Addr) (xs : List Addr) → AreInOrder (x ∷ xs) → (b : Addr) → Passes p (x ∷ xs) b → Before b x → ⊥
head_first p x xs o b (inl q, t) l = not_same b x l q
head_first p x xs o b (inr m, t) l = not_same x x (before_trans x b x (behind x xs o b m) l) refl

first_by : (p : Addr → Bool) (x : Addr) (xs : List Addr) → AreInOrder (x ∷ xs) → (c : Bool) → p x ≡ c → First (Passes p xs) (find p xs) → First (Passes p (x ∷ xs)) (cond c (Some x) (find p xs))
first_by p x xs o true e h = ((inl refl, e), head_first p x xs o)
first_by p x xs o false e h = first_iff (Passes p xs) (Passes p (x ∷ xs)) (find p xs) (λ b k. (inr k.0, k.1)) (λ b k. pass_on p x xs b e k) h

pub find_first : (p : Addr → Bool) (xs : List Addr) → AreInOrder xs → First (Passes p xs) (find p xs)
find_first p [] o = λ b h. absurd h.0
find_first p (x ∷ xs) o = first_by p x xs o (p x) refl (find_first p xs (tail x xs o))

-- ---- the addresses of a range are those that it covers

member_second : (a : Addr) (xs ys : List Addr) → Member a ys → Member a (xs ++ ys)
member_second a [] ys m = m
member_second a (x ∷ xs) ys m = inr (member_second a xs ys m)

to_row : (c n i j : ℕ) → c ≤ j → j < c + n → Member (addr j i) (row c n i)
to_row c zero i j l u = absurd (omega (arith, l, u))
to_row c (suc n) i j l u = by (cases_order c j) (λ h. to_row (c + 1) n i j (omega (arith, h)) (omega (arith, u)))
  where
    by : (c ≡ j) ⊎ ((c < j) ⊎ (j < c)) → (c < j → Member (addr j i) (row (c + 1) n i)) → Member (addr j i) (row c (suc n) i)
    by (inl e) k = inl (ap (λ k. addr k i) (sym e))
    by (inr (inl h)) k = inr (k h)
    by (inr (inr h)) k = absurd (omega (arith, l, h))

to_rows : (c n f m i j : ℕ) → c ≤ j → j < c + n → f ≤ i → i < f + m → Member (addr j i) (flat_map (row c n) (range_with_len f m))
to_rows c n f zero i j l u k v = absurd (omega (arith, k, v))
to_rows c n f (suc m) i j l u k v = by (cases_order f i) (λ h. to_rows c n (f + 1) m i j l u (omega (arith, h)) (omega (arith, v)))
  where
    by : (f ≡ i) ⊎ ((f < i) ⊎ (i < f)) → (f < i → Member (addr j i) (flat_map (row c n) (range_with_len (f + 1) m))) → Member (addr j i) (flat_map (row c n) (range_with_len f (suc m)))
    by (inl e) q = subst (λ r. Member (addr j r) (flat_map (row c n) (range_with_len f (suc m)))) e (member_first (addr j f) (row c n f) (flat_map (row c n) (range_with_len (f + 1) m)) (to_row c n f j l u))
    by (inr (inl h)) q = member_second (addr j i) (row c n f) (flat_map (row c n) (range_with_len (f + 1) m)) (q h)
    by (inr (inr h)) q = absurd (omega (arith, k, h))

pub covered_member : (r : Range) (a : Addr) → covers r a ≡ true → Member a (addresses r)
covered_member r a h =
    let (v, k) = both (nat_le r.first.row a.row && nat_le a.row r.last.row) (nat_le r.first.col a.col && nat_le a.col r.last.col) h in
    let (v1, v2) = both (nat_le r.first.row a.row) (nat_le a.row r.last.row) v in
    let (k1, k2) = both (nat_le r.first.col a.col) (nat_le a.col r.last.col) k in
    let a1 = leb-true r.first.row a.row v1 in
    let a2 = leb-true a.row r.last.row v2 in
    let b1 = leb-true r.first.col a.col k1 in
    let b2 = leb-true a.col r.last.col k2 in
    to_rows r.first.col (extents r).cols r.first.row (extents r).rows a.row a.col b1 (omega (arith, b1, b2)) a1 (omega (arith, a1, a2))

record InRow (c n i : ℕ) (a : Addr) : Type 0 where
  row : a.row ≡ i
  from : c ≤ a.col
  below : a.col < c + n

of_row : (c n i : ℕ) (a : Addr) → Member a (row c n i) → InRow c n i a
of_row c zero i a m = absurd m
of_row c (suc n) i a (inl e) = let f : a.col ≡ c = ap (λ u. u.col) e in record { row = ap (λ u. u.row) e; from = omega (arith, f); below = omega (arith, f) }
of_row c (suc n) i a (inr m) = let g = of_row (c + 1) n i a m in record { row = g.row; from = omega (arith, g.from); below = omega (arith, g.below) }

record InRows (c n f m : ℕ) (a : Addr) : Type 0 where
  from : c ≤ a.col
  below : a.col < c + n
  first : f ≤ a.row
  before : a.row < f + m

of_rows : (c n f m : ℕ) (a : Addr) → Member a (flat_map (row c n) (range_with_len f m)) → InRows c n f m a
of_rows c n f zero a h = absurd h
of_rows c n f (suc m) a h =
    elim (member_of a (row c n f) (flat_map (row c n) (range_with_len (f + 1) m)) h) as (λ v. InRows c n f (suc m) a) [
      | inl k ↦ (let g = of_row c n f a k in record { from = g.from; below = g.below; first = omega (arith, g.row); before = omega (arith, g.row) })
      | inr k ↦ (let g = of_rows c n (f + 1) m a k in record { from = g.from; below = g.below; first = omega (arith, g.first); before = omega (arith, g.before) })
    ]

pub member_covered : (r : Range) (a : Addr) → Member a (addresses r) → covers r a ≡ true
member_covered r a m =
    let g = of_rows r.first.col (extents r).cols r.first.row (extents r).rows a m in
    and_true (nat_le r.first.row a.row && nat_le a.row r.last.row) (nat_le r.first.col a.col && nat_le a.col r.last.col)
    (and_true (nat_le r.first.row a.row) (nat_le a.row r.last.row) (le-leb r.first.row a.row g.first) (le-leb a.row r.last.row (omega (arith, g.first, g.before))))
    (and_true (nat_le r.first.col a.col) (nat_le a.col r.last.col) (le-leb r.first.col a.col g.from) (le-leb a.col r.last.col (omega (arith, g.from, g.below))))

-- ---- the addresses with content in a sheet are those that it lists

abbrev keys : Cells → List Addr
keys S = map (λ c. c.0) S

listed_by : (t : Bool) (b a : Addr) (c : Content) (S : Cells) → same_addr a b ≡ t → is_some (if t then Some c else content S a) ≡ true → (is_some (content S a) ≡ true → Member a (keys S)) → Member a (b ∷ keys S)
listed_by true b a c S e h k = inl (addr_exact a b e)
listed_by false b a c S e h k = inr (k h)

pub listed : (S : Cells) (a : Addr) → has_content S a ≡ true → Member a (keys S)
listed [] a h = absurd (cc h)
listed ((b, c) ∷ S) a h = listed_by (same_addr a b) b a c S refl h (listed S a)

unlisted_by : (t : Bool) (b a : Addr) (c : Content) (S : Cells) → same_addr a b ≡ t → (a ≡ b) ⊎ (is_some (content S a) ≡ true) → is_some (if t then Some c else content S a) ≡ true
unlisted_by true b a c S e h = refl
unlisted_by false b a c S e (inl q) = absurd (clash (subst (λ x. same_addr a x ≡ true) q (addr_same a)) e)
unlisted_by false b a c S e (inr h) = h

pub unlisted : (S : Cells) (a : Addr) → Member a (keys S) → has_content S a ≡ true
unlisted [] a m = absurd m
unlisted ((b, c) ∷ S) a (inl e) = unlisted_by (same_addr a b) b a c S refl (inl e)
unlisted ((b, c) ∷ S) a (inr m) = unlisted_by (same_addr a b) b a c S refl (inr (unlisted S a m))

-- ---- what blocks an area of the top

nothing_else : (S : Cells) (root : Addr) (xs : List Addr) → length S ≡ 0 → None ≡ find (λ b. has_content S b && not (same_addr b root)) xs
nothing_else [] root [] h = refl
nothing_else [] root (x ∷ xs) h = nothing_else [] root xs h
nothing_else (c ∷ S) root xs h = absurd (cc h)

module _ (S : Cells) (r : Range) (root : Addr) where
  abbrev pub is_other : Addr → Bool
  is_other b = has_content S b && not (same_addr b root)

  abbrev pub next_after : Option Addr → Option Addr
  next_after after = find (is_in_play r after) (keys S)

  pub empty_top : length S ≡ 0 → None ≡ find is_other (addresses r)
  empty_top h = nothing_else S root (addresses r) h

  -- other content of the area
  record Other (b : Addr) : Type 0 where
    inside : covers r b ≡ true
    held : has_content S b ≡ true
    apart : same_addr b root ≡ false

  not_true : (c : Bool) → not c ≡ true → c ≡ false
  not_true true h = absurd (cc h)
  not_true false h = refl

  not_of : (c : Bool) → c ≡ false → not c ≡ true
  not_of true h = absurd (cc h)
  not_of false h = refl

  others_first : First Other (find is_other (addresses r))
  others_first =
      first_iff (Passes is_other (addresses r)) Other (find is_other (addresses r))
      (λ b h. let (t, n) = both (has_content S b) (not (same_addr b root)) h.1 in record { inside = member_covered r b h.0; held = t; apart = not_true (same_addr b root) n })
      (λ b o. (covered_member r b o.inside, and_true (has_content S b) (not (same_addr b root)) o.held (not_of (same_addr b root) o.apart)))
      (find_first is_other (addresses r) (addresses_order r))

  -- the listed addresses in play
  abbrev Playing : Option Addr → Addr → Type 0
  Playing after = Passes (is_in_play r after) (keys S)

  playing : (b : Addr) → Other b → Playing None b
  playing b o = (listed S b o.held, and_true (covers r b) true o.inside refl)

  module _ (ordered : IsSheet S) where
    pub none_blocks : None ≡ next_after None → None ≡ find is_other (addresses r)
    none_blocks e =
        let f : First (Playing None) None = subst (First (Playing None)) (sym e) (find_first (is_in_play r None) (keys S) ordered) in
        one_first Other None (find is_other (addresses r)) (λ b o. f b (playing b o)) others_first

    pub first_blocks : (a : Addr) → Some a ≡ next_after None → same_addr a root ≡ false → Some a ≡ find is_other (addresses r)
    first_blocks a e n =
        let f : First (Playing None) (Some a) = subst (First (Playing None)) (sym e) (find_first (is_in_play r None) (keys S) ordered) in
        let (c, t) = both (covers r a) true f.0.1 in
        let here : Other a = record { inside = c; held = unlisted S a f.0.0; apart = n } in
        one_first Other (Some a) (find is_other (addresses r)) (here, λ b o l. f.1 b (playing b o) l) others_first

    -- behind a root that is the first content
    later_by : (b : Addr) → (root ≡ b) ⊎ (Before root b ⊎ Before b root) → same_addr b root ≡ false → (Before b root → ⊥) → is_before root b ≡ true
    later_by b (inl e) n h = absurd (clash (subst (λ x. same_addr x root ≡ true) e (addr_same root)) n)
    later_by b (inr (inl l)) n h = of_before root b l
    later_by b (inr (inr l)) n h = absurd (h l)

    apart_by : (c : Bool) (b : Addr) → same_addr b root ≡ c → Before root b → c ≡ false
    apart_by true b e l = absurd (not_same root b l (sym (addr_exact b root e)))
    apart_by false b e l = refl

    pub second_blocks : (o : Option Addr) → Some root ≡ next_after None → o ≡ next_after (Some root) → o ≡ find is_other (addresses r)
    second_blocks o e g =
        let f : First (Playing None) (Some root) = subst (First (Playing None)) (sym e) (find_first (is_in_play r None) (keys S) ordered) in
        let k : First (Playing (Some root)) o = subst (First (Playing (Some root))) (sym g) (find_first (is_in_play r (Some root)) (keys S) ordered) in
        one_first Other o (find is_other (addresses r))
        (first_iff (Playing (Some root)) Other o
        (λ b h. let (c, t) = both (covers r b) (is_before root b) h.1 in record { inside = c; held = unlisted S b h.0; apart = apart_by (same_addr b root) b refl (before_of root b t) })
        (λ b q. (listed S b q.held, and_true (covers r b) (is_before root b) q.inside (later_by b (order root b) q.apart (λ l. f.1 b (playing b q) l))))
        k)
        others_first
