-- The differences of two oracles are told exactly.
use Rattle.std.proofs.Common.{◌≡◌, ◌⊎◌, inl, inr, ◌+◌, ◌-◌, ◌≤◌, ◌<◌, ◌==◌, List, [], ◌∷◌, ◌++◌, map, Bool, true, false, ◌&&◌, ◌||◌, not, Option, Some, None, if◌then◌else◌, refl, sym, ◌∙◌, subst, ap, arith, option_map}
use Rattle.std.specs.Prelude.{nat_lt, nat_le, flat_map}
use Rattle.std.specs.List.{list_any}
use Rattle.std.proofs.lemmas.Bool.{cases_order, eq-eqb, leb-true, le-leb, lt-ltb}
use Rattle.gl_calculus.specs.Computation.Lists.{Member}
use Rattle.gl_calculus.proofs.Members.{either, left, right}
use Rattle.gl_calculus.specs.Grid.Grid.{Addr, addr, same_addr, AreInOrder, Range, range, single, area, covers, meets, Size}
use Rattle.gl_calculus.specs.Values.Value.{Permit, Entry, Oracle}
use Rattle.gl_calculus.specs.Values.Same.{is_permitted, same_permit}
use Rattle.gl_calculus.specs.Evaluation.Oracle.{IsInOrder, entry_at, status, Cover, cover, spills_over, area_of}
use Rattle.gl_calculus.specs.Calculation.Memory.{same_status, same_cover, differs_at}
use Rattle.gl_calculus.proofs.Tests.{both, and_true, addr_exact, addr_same, bool_same, status_exact, cover_exact}
use Rattle.gl_calculus.proofs.Grants.{Before, before_of, before_trans, not_same, clash}
use Rattle.gl_calculus.specs.Calculation.Differences.{spills, AreApart, minus, areas_apart, own_places, by_both, by_entry, by_new, differences}
use Rattle.gl_calculus.specs.Calculation.Telling.{DifferencesTell}

-- ---- tests

pub same_bools : (a b : Bool) → (a ≡ true → b ≡ true) → (b ≡ true → a ≡ true) → a ≡ b
same_bools true b f g = sym (f refl)
same_bools false true f g = absurd (cc (g refl))
same_bools false false f g = refl

flips : (b : Bool) → not b ≡ true → b ≡ false
flips true e = absurd (cc e)
flips false e = refl

no_more : (b : Bool) → (b ≡ true → ⊥) → not b ≡ true
no_more true f = absurd (f refl)
no_more false f = refl

-- ---- lists

any_append : {X : Type 0} (p : X → Bool) (xs ys : List X) → list_any p (xs ++ ys) ≡ (list_any p xs || list_any p ys)
any_append p [] ys = refl
any_append p (x ∷ xs) ys = by (p x) (any_append p xs ys)
  where
    by : (b : Bool) → list_any p (xs ++ ys) ≡ (list_any p xs || list_any p ys) → (b || list_any p (xs ++ ys)) ≡ ((b || list_any p xs) || list_any p ys)
    by true h = refl
    by false h = h

in_flat : {X Y : Type 0} (p : Y → Bool) (f : X → List Y) (xs : List X) → list_any p (flat_map f xs) ≡ true → (x : X) × Member x xs × (list_any p (f x) ≡ true)
in_flat p f [] e = absurd (cc e)
in_flat {X} p f (x ∷ xs) e = by (either (list_any p (f x)) (list_any p (flat_map f xs)) (sym (any_append p (f x) (flat_map f xs)) ∙ e)) (in_flat p f xs)
  where
    by : (list_any p (f x) ≡ true) ⊎ (list_any p (flat_map f xs) ≡ true) → (list_any p (flat_map f xs) ≡ true → (y : X) × Member y xs × (list_any p (f y) ≡ true)) → (y : X) × Member y (x ∷ xs) × (list_any p (f y) ≡ true)
    by (inl h) r = (x, inl refl, h)
    by (inr h) r = let (y, m, u) = r h in (y, inr m, u)

flat_in : {X Y : Type 0} (p : Y → Bool) (f : X → List Y) (xs : List X) (x : X) → Member x xs → list_any p (f x) ≡ true → list_any p (flat_map f xs) ≡ true
flat_in p f [] x m e = absurd m
flat_in p f (y ∷ xs) x (inl i) e = any_append p (f y) (flat_map f xs) ∙ left (list_any p (f y)) (list_any p (flat_map f xs)) (ap (λ u. list_any p (f u)) (sym i) ∙ e)
flat_in p f (y ∷ xs) x (inr m) e = any_append p (f y) (flat_map f xs) ∙ right (list_any p (f y)) (list_any p (flat_map f xs)) (flat_in p f xs x m e)

-- ---- ranges

pub record Within (r : Range) (p : Addr) : Type 0 where
  pub top : r.first.row ≤ p.row
  pub bottom : p.row ≤ r.last.row
  pub near : r.first.col ≤ p.col
  pub far : p.col ≤ r.last.col

pub within : (r : Range) (p : Addr) → covers r p ≡ true → Within r p
within r p c =
    let (v, h) = both (nat_le r.first.row p.row && nat_le p.row r.last.row) (nat_le r.first.col p.col && nat_le p.col r.last.col) c in
    let (a, b) = both (nat_le r.first.row p.row) (nat_le p.row r.last.row) v in
    let (d, e) = both (nat_le r.first.col p.col) (nat_le p.col r.last.col) h in
    record { top = leb-true r.first.row p.row a; bottom = leb-true p.row r.last.row b; near = leb-true r.first.col p.col d; far = leb-true p.col r.last.col e }

pub covered : (r : Range) (p : Addr) → Within r p → covers r p ≡ true
covered r p w =
    and_true (nat_le r.first.row p.row && nat_le p.row r.last.row) (nat_le r.first.col p.col && nat_le p.col r.last.col)
    (and_true (nat_le r.first.row p.row) (nat_le p.row r.last.row) (le-leb r.first.row p.row w.top) (le-leb p.row r.last.row w.bottom))
    (and_true (nat_le r.first.col p.col) (nat_le p.col r.last.col) (le-leb r.first.col p.col w.near) (le-leb p.col r.last.col w.far))

pub meeting : (r s : Range) (p : Addr) → covers r p ≡ true → covers s p ≡ true → meets r s ≡ true
meeting r s p a b =
    let u = within r p a in
    let v = within s p b in
    let ut = u.top in
    let ub = u.bottom in
    let un = u.near in
    let uf = u.far in
    let vt = v.top in
    let vb = v.bottom in
    let vn = v.near in
    let vf = v.far in
    and_true (nat_le r.first.row s.last.row && nat_le s.first.row r.last.row) (nat_le r.first.col s.last.col && nat_le s.first.col r.last.col)
    (and_true (nat_le r.first.row s.last.row) (nat_le s.first.row r.last.row) (le-leb r.first.row s.last.row (omega (arith, ut, vb))) (le-leb s.first.row r.last.row (omega (arith, vt, ub))))
    (and_true (nat_le r.first.col s.last.col) (nat_le s.first.col r.last.col) (le-leb r.first.col s.last.col (omega (arith, un, vf))) (le-leb s.first.col r.last.col (omega (arith, vn, uf))))

single_covers : (a : Addr) → covers (single a) a ≡ true
single_covers a = covered (single a) a (record { top = omega arith; bottom = omega arith; near = omega arith; far = omega arith })

single_only : (a p : Addr) → covers (single a) p ≡ true → p ≡ a
single_only a p c =
    let w = within (single a) p c in
    let t = w.top in
    let b = w.bottom in
    let n = w.near in
    let f = w.far in
    let r : p.row ≡ a.row = omega (arith, t, b) in
    let q : p.col ≡ a.col = omega (arith, n, f) in
    λ i. record { col = q i; row = r i }

one_any : (b : Bool) → (b || false) ≡ true → b ≡ true
one_any true e = refl
one_any false e = absurd (cc e)

one_is : (b : Bool) → b ≡ true → (b || false) ≡ true
one_is true e = refl
one_is false e = absurd (cc e)

abbrev listed : Addr → List Range → Bool
listed p rs = list_any (λ r. covers r p) rs

module _ (r : Addr) (s t : Size) (p : Addr) where
  abbrev below : Range
  below = range (addr r.col ((area r t).last.row + 1)) (area r s).last

  abbrev beyond : Range
  beyond = range (addr ((area r t).last.col + 1) r.row) (area r s).last

  abbrev rows_of : Bool → List Range
  rows_of b = if b then below ∷ [] else []

  abbrev cols_of : Bool → List Range
  cols_of b = if b then beyond ∷ [] else []

  rows_in : (b : Bool) → listed p (rows_of b) ≡ true → covers below p ≡ true
  rows_in true e = one_any (covers below p) e
  rows_in false e = absurd (cc e)

  cols_in : (b : Bool) → listed p (cols_of b) ≡ true → covers beyond p ≡ true
  cols_in true e = one_any (covers beyond p) e
  cols_in false e = absurd (cc e)

  minus_in : listed p (minus (area r s) (area r t)) ≡ true → (covers (area r s) p ≡ true) × (covers (area r t) p ≡ true → ⊥)
  minus_in e = by (either (listed p (rows_of down)) (listed p (cols_of along)) (sym (any_append (λ u. covers u p) (rows_of down) (cols_of along)) ∙ e))
    where
      down : Bool
      down = nat_lt (area r t).last.row (area r s).last.row

      along : Bool
      along = nat_lt (area r t).last.col (area r s).last.col

      by : (listed p (rows_of down) ≡ true) ⊎ (listed p (cols_of along) ≡ true) → (covers (area r s) p ≡ true) × (covers (area r t) p ≡ true → ⊥)
      by (inl h) =
          let w = within below p (rows_in down h) in
          let a = w.top in
          let b = w.bottom in
          let c = w.near in
          let d = w.far in
          (covered (area r s) p (record { top = omega (arith, a); bottom = b; near = c; far = d }), λ o. (let v = within (area r t) p o in let u = v.bottom in absurd (omega (arith, a, u))))
      by (inr h) =
          let w = within beyond p (cols_in along h) in
          let a = w.top in
          let b = w.bottom in
          let c = w.near in
          let d = w.far in
          (covered (area r s) p (record { top = a; bottom = b; near = omega (arith, c); far = d }), λ o. (let v = within (area r t) p o in let u = v.far in absurd (omega (arith, c, u))))

  in_minus : covers (area r s) p ≡ true → (covers (area r t) p ≡ true → ⊥) → listed p (minus (area r s) (area r t)) ≡ true
  in_minus c f = any_append (λ u. covers u p) (rows_of (nat_lt (area r t).last.row (area r s).last.row)) (cols_of (nat_lt (area r t).last.col (area r s).last.col)) ∙ by (cases_order (area r t).last.row p.row) (cases_order (area r t).last.col p.col)
    where
      w : Within (area r s) p
      w = within (area r s) p c

      rows_there : (area r t).last.row < p.row → listed p (rows_of (nat_lt (area r t).last.row (area r s).last.row)) ≡ true
      rows_there l =
          let b = w.bottom in
          let n = w.near in
          let d = w.far in
          let e : nat_lt (area r t).last.row (area r s).last.row ≡ true = lt-ltb (area r t).last.row (area r s).last.row (omega (arith, l, b)) in
          ap (λ u. listed p (rows_of u)) e ∙ one_is (covers below p) (covered below p (record { top = omega (arith, l); bottom = b; near = n; far = d }))

      cols_there : (area r t).last.col < p.col → listed p (cols_of (nat_lt (area r t).last.col (area r s).last.col)) ≡ true
      cols_there l =
          let a = w.top in
          let b = w.bottom in
          let d = w.far in
          let e : nat_lt (area r t).last.col (area r s).last.col ≡ true = lt-ltb (area r t).last.col (area r s).last.col (omega (arith, l, d)) in
          ap (λ u. listed p (cols_of u)) e ∙ one_is (covers beyond p) (covered beyond p (record { top = a; bottom = b; near = omega (arith, l); far = d }))

      neither : p.row ≤ (area r t).last.row → p.col ≤ (area r t).last.col → ⊥
      neither x y = let a = w.top in let n = w.near in f (covered (area r t) p (record { top = a; bottom = x; near = n; far = y }))

      Rows : Bool
      Rows = listed p (rows_of (nat_lt (area r t).last.row (area r s).last.row))

      Cols : Bool
      Cols = listed p (cols_of (nat_lt (area r t).last.col (area r s).last.col))

      along : p.row ≤ (area r t).last.row → ((area r t).last.col ≡ p.col) ⊎ (((area r t).last.col < p.col) ⊎ (p.col < (area r t).last.col)) → (Rows || Cols) ≡ true
      along x (inl e) = absurd (neither x (omega (arith, e)))
      along x (inr (inl l)) = right Rows Cols (cols_there l)
      along x (inr (inr l)) = absurd (neither x (omega (arith, l)))

      by : ((area r t).last.row ≡ p.row) ⊎ (((area r t).last.row < p.row) ⊎ (p.row < (area r t).last.row)) → ((area r t).last.col ≡ p.col) ⊎ (((area r t).last.col < p.col) ⊎ (p.col < (area r t).last.col)) → (Rows || Cols) ≡ true
      by (inl e) o = along (omega (arith, e)) o
      by (inr (inl l)) o = left Rows Cols (rows_there l)
      by (inr (inr l)) o = along (omega (arith, l)) o

-- ---- entries

entry_there : (w : Oracle) (a : Addr) (x : Entry) → entry_at w a ≡ Some x → Member x w × (a ≡ x.root)
entry_there [] a x e = absurd (cc e)
entry_there (y ∷ w) a x e = by (same_addr a y.root) refl e (entry_there w a x)
  where
    by : (b : Bool) → same_addr a y.root ≡ b → (if b then Some y else entry_at w a) ≡ Some x → (entry_at w a ≡ Some x → Member x w × (a ≡ x.root)) → Member x (y ∷ w) × (a ≡ x.root)
    by true t h r = let q : y ≡ x = cc h in (inl (sym q), addr_exact a y.root t ∙ ap (λ u. u.root) q)
    by false t h r = let (m, i) = r h in (inr m, i)

no_entry : (w : Oracle) (a : Addr) (x : Entry) → entry_at w a ≡ None → Member x w → a ≡ x.root → ⊥
no_entry [] a x e m i = m
no_entry (y ∷ w) a x e m i = by (same_addr a y.root) refl e m (no_entry w a x)
  where
    by : (b : Bool) → same_addr a y.root ≡ b → (if b then Some y else entry_at w a) ≡ None → (x ≡ y) ⊎ Member x w → (entry_at w a ≡ None → Member x w → a ≡ x.root → ⊥) → ⊥
    by true t h n r = cc h
    by false t h (inl q) r = clash (subst (λ u. same_addr a u ≡ true) (i ∙ ap (λ u. u.root) q) (addr_same a)) t
    by false t h (inr n) r = r h n i

order_tail : (a : Addr) (rest : List Addr) → AreInOrder (a ∷ rest) → AreInOrder rest
order_tail a [] o = tt
order_tail a (b ∷ rest) (p, o) = o

after_head : (a : Addr) (rest : List Addr) → AreInOrder (a ∷ rest) → (b : Addr) → Member b rest → Before a b
after_head a [] o b m = absurd m
after_head a (c ∷ rest) (p, o) b (inl e) = subst (λ u. Before a u) (sym e) (before_of a c p)
after_head a (c ∷ rest) (p, o) b (inr m) = before_trans a c b (before_of a c p) (after_head c rest o b m)

root_member : (w : Oracle) (x : Entry) → Member x w → Member x.root (map (λ y. y.root) w)
root_member [] x m = m
root_member (y ∷ w) x (inl e) = inl (ap (λ u. u.root) e)
root_member (y ∷ w) x (inr m) = inr (root_member w x m)

entry_found : (w : Oracle) → IsInOrder w → (x : Entry) → Member x w → entry_at w x.root ≡ Some x
entry_found [] o x m = absurd m
entry_found (y ∷ w) o x (inl e) = subst (λ u. (if same_addr x.root u.root then Some u else entry_at w x.root) ≡ Some x) e (ap (λ b. if b then Some x else entry_at w x.root) (addr_same x.root))
entry_found (y ∷ w) o x (inr m) = by (same_addr x.root y.root) refl (entry_found w (order_tail y.root (map (λ z. z.root) w) o) x m)
  where
    by : (b : Bool) → same_addr x.root y.root ≡ b → entry_at w x.root ≡ Some x → (if b then Some y else entry_at w x.root) ≡ Some x
    by true t r = absurd (not_same y.root x.root (after_head y.root (map (λ z. z.root) w) o x.root (root_member w x m)) (sym (addr_exact x.root y.root t)))
    by false t r = r

-- ---- covers

abbrev offs : Addr → Addr → Cover
offs r p = record { root = r; rows = p.row - r.row; cols = p.col - r.col }

cover_there : (w : Oracle) (p : Addr) (c : Cover) → cover w p ≡ Some c → (x : Entry) × Member x w × (spills_over p x ≡ true) × (c ≡ offs x.root p)
cover_there [] p c e = absurd (cc e)
cover_there (x ∷ w) p c e = by (spills_over p x) refl e (cover_there w p c)
  where
    by : (b : Bool) → spills_over p x ≡ b → (if b then Some (offs x.root p) else cover w p) ≡ Some c → (cover w p ≡ Some c → (y : Entry) × Member y w × (spills_over p y ≡ true) × (c ≡ offs y.root p)) → (y : Entry) × Member y (x ∷ w) × (spills_over p y ≡ true) × (c ≡ offs y.root p)
    by true t h r = let q : offs x.root p ≡ c = cc h in (x, inl refl, t, sym q)
    by false t h r = let (y, m, u, q) = r h in (y, inr m, u, q)

spilt : (p : Addr) (x : Entry) → spills_over p x ≡ true → (spills x ≡ true) × (covers (area_of x) p ≡ true)
spilt p x e = both (spills x) (covers (area_of x) p) e

cover_found : (w : Oracle) → AreApart w → (p : Addr) (x : Entry) → Member x w → spills_over p x ≡ true → cover w p ≡ Some (offs x.root p)
cover_found w apart p x m e = by (cover w p) refl
  where
    lost : (v : Oracle) → Member x v → cover v p ≡ None → ⊥
    lost [] n f = n
    lost (y ∷ v) n f = here (spills_over p y) refl f n (lost v)
      where
        here : (b : Bool) → spills_over p y ≡ b → (if b then Some (offs y.root p) else cover v p) ≡ None → (x ≡ y) ⊎ Member x v → (Member x v → cover v p ≡ None → ⊥) → ⊥
        here true t g k r = cc g
        here false t g (inl q) r = clash (subst (λ u. spills_over p u ≡ true) q e) t
        here false t g (inr k) r = r k g

    by : (c : Option Cover) → cover w p ≡ c → cover w p ≡ Some (offs x.root p)
    by None f = absurd (lost w m f)
    by (Some c) f =
        let (y, n, u, q) = cover_there w p c f in
        let (sx, cx) = spilt p x e in
        let (sy, cy) = spilt p y u in
        let r : y.root ≡ x.root = apart y x n m sy sx (meeting (area_of y) (area_of x) p cy cx) in
        f ∙ ap Some (q ∙ ap (λ a. offs a p) r)

-- ---- what differs

abbrev Differs : Oracle → Oracle → Addr → Type 0
Differs w v p = (status w p ≡ status v p → ⊥) ⊎ (cover w p ≡ cover v p → ⊥)

turned : (w v : Oracle) (p : Addr) → Differs w v p → Differs v w p
turned w v p (inl f) = inl (λ e. f (sym e))
turned w v p (inr f) = inr (λ e. f (sym e))

same_status_itself : (s : Option Permit) → same_status s s ≡ true
same_status_itself None = refl
same_status_itself (Some p) = bool_same (is_permitted p)

same_cover_itself : (c : Option Cover) → same_cover c c ≡ true
same_cover_itself None = refl
same_cover_itself (Some c) = and_true (same_addr c.root c.root && (c.rows == c.rows)) (c.cols == c.cols) (and_true (same_addr c.root c.root) (c.rows == c.rows) (addr_same c.root) (eq-eqb c.rows c.rows refl)) (eq-eqb c.cols c.cols refl)

-- what the tests say
says : (w v : Oracle) (p : Addr) → Differs w v p → differs_at [] w v p ≡ true
says w v p (inl f) = left (not (same_status (status v p) (status w p))) (not (same_cover (cover v p) (cover w p))) (no_more (same_status (status v p) (status w p)) (λ e. f (sym (status_exact (status v p) (status w p) e))))
says w v p (inr f) = right (not (same_status (status v p) (status w p))) (not (same_cover (cover v p) (cover w p))) (no_more (same_cover (cover v p) (cover w p)) (λ e. f (sym (cover_exact (cover v p) (cover w p) e))))

-- ---- each range that is listed tells a difference

module _ (w v : Oracle) (p : Addr) (ow : IsInOrder w) (ov : IsInOrder v) (aw : AreApart w) (av : AreApart v) where
  -- the cover by a root, which the other oracle doesn't know in this place
  told_cover : (x : Entry) → Member x w → spills_over p x ≡ true → ((y : Entry) → Member y v → spills_over p y ≡ true → y.root ≡ x.root → ⊥) → Differs w v p
  told_cover x m s f = inr (λ e. by (cover v p) refl e)
    where
      by : (c : Option Cover) → cover v p ≡ c → cover w p ≡ cover v p → ⊥
      by None g e = let q : Some (offs x.root p) ≡ None = sym (cover_found w aw p x m s) ∙ e ∙ g in cc q
      by (Some c) g e =
          let (y, n, u, q) = cover_there v p c g in
          let h : Some (offs x.root p) ≡ Some (offs y.root p) = sym (cover_found w aw p x m s) ∙ e ∙ g ∙ ap Some q in
          let i : offs x.root p ≡ offs y.root p = cc h in
          f y n u (sym (ap (λ c. c.root) i))

  told_own : (x : Entry) → Member x w → entry_at v x.root ≡ None → listed p (own_places x) ≡ true → Differs w v p
  told_own x m e l = by (either (covers (single x.root) p) (listed p (if spills x then area_of x ∷ [] else [])) l)
    where
      at_root : p ≡ x.root → Differs w v p
      at_root q = inl (λ h.
          let a : status w p ≡ Some x.permit = ap (status w) q ∙ ap (option_map (λ (z : Entry). z.permit)) (entry_found w ow x m) in
          let b : status v p ≡ None = ap (status v) q ∙ ap (option_map (λ (z : Entry). z.permit)) e in
          let c : Some x.permit ≡ None = sym a ∙ h ∙ b in
          cc c)

      over : (b : Bool) → spills x ≡ b → listed p (if b then area_of x ∷ [] else []) ≡ true → Differs w v p
      over true s h = told_cover x m (and_true (spills x) (covers (area_of x) p) s (one_any (covers (area_of x) p) h)) (λ y n u q. no_entry v x.root y e n (sym q))
      over false s h = absurd (cc h)

      by : (covers (single x.root) p ≡ true) ⊎ (listed p (if spills x then area_of x ∷ [] else []) ≡ true) → Differs w v p
      by (inl h) = at_root (single_only x.root p h)
      by (inr h) = over (spills x) refl h

  -- a root that both know
  module _ (x y : Entry) (m : Member x w) (e : entry_at v x.root ≡ Some y) where
    same_root : x.root ≡ y.root
    same_root = (entry_there v x.root y e).1

    there : Member y v
    there = (entry_there v x.root y e).0

    the_one : (z : Entry) → Member z v → z.root ≡ x.root → z ≡ y
    the_one z n q = let h : Some z ≡ Some y = sym (entry_found v ov z n) ∙ ap (entry_at v) q ∙ e in cc h

    the_first : (z : Entry) → Member z w → z.root ≡ y.root → z ≡ x
    the_first z n q = let h : Some z ≡ Some x = sym (entry_found w ow z n) ∙ ap (entry_at w) (q ∙ sym same_root) ∙ entry_found w ow x m in cc h

    -- only the first spills over p
    only_first : spills_over p x ≡ true → (spills_over p y ≡ true → ⊥) → Differs w v p
    only_first s f = told_cover x m s (λ z n u q. f (subst (λ k. spills_over p k ≡ true) (the_one z n q) u))

    only_second : spills_over p y ≡ true → (spills_over p x ≡ true → ⊥) → Differs w v p
    only_second s f = inr (λ e. by (cover w p) refl e)
      where
        by : (c : Option Cover) → cover w p ≡ c → cover w p ≡ cover v p → ⊥
        by None g e = let q : Some (offs y.root p) ≡ None = sym (cover_found v av p y there s) ∙ sym e ∙ g in cc q
        by (Some c) g e =
            let (z, n, u, q) = cover_there w p c g in
            let h : Some (offs y.root p) ≡ Some (offs z.root p) = sym (cover_found v av p y there s) ∙ sym e ∙ g ∙ ap Some q in
            let i : offs y.root p ≡ offs z.root p = cc h in
            f (subst (λ k. spills_over p k ≡ true) (the_first z n (sym (ap (λ c. c.root) i))) u)

    corner : (s : Bool) → spills y ≡ s → area_of y ≡ area x.root y.size
    corner s h = ap (λ r. area r y.size) (sym same_root)

    told_areas : (a b : Bool) → spills x ≡ a → spills y ≡ b → listed p (areas_apart a b (area_of x) (area_of y)) ≡ true → Differs w v p
    told_areas true true s t l = by (either (listed p (minus (area_of x) (area_of y))) (listed p (minus (area_of y) (area_of x))) (sym (any_append (λ u. covers u p) (minus (area_of x) (area_of y)) (minus (area_of y) (area_of x))) ∙ l))
      where
        by : (listed p (minus (area_of x) (area_of y)) ≡ true) ⊎ (listed p (minus (area_of y) (area_of x)) ≡ true) → Differs w v p
        by (inl h) =
            let (c, f) = minus_in x.root x.size y.size p (subst (λ u. listed p (minus (area_of x) u) ≡ true) (corner true t) h) in
            only_first (and_true (spills x) (covers (area_of x) p) s c) (λ u. f (subst (λ k. covers k p ≡ true) (corner true t) (spilt p y u).1))
        by (inr h) =
            let (c, f) = minus_in x.root y.size x.size p (subst (λ u. listed p (minus u (area_of x)) ≡ true) (corner true t) h) in
            only_second (and_true (spills y) (covers (area_of y) p) t (subst (λ k. covers k p ≡ true) (sym (corner true t)) c)) (λ u. f (spilt p x u).1)
    told_areas true false s t l = only_first (and_true (spills x) (covers (area_of x) p) s (one_any (covers (area_of x) p) l)) (λ u. clash (spilt p y u).0 t)
    told_areas false true s t l = only_second (and_true (spills y) (covers (area_of y) p) t (one_any (covers (area_of y) p) l)) (λ u. clash (spilt p x u).0 s)
    told_areas false false s t l = absurd (cc l)

    told_status : (b : Bool) → same_permit y.permit x.permit ≡ b → listed p (if b then [] else single x.root ∷ []) ≡ true → Differs w v p
    told_status true s l = absurd (cc l)
    told_status false s l =
        let q = single_only x.root p (one_any (covers (single x.root) p) l) in
        inl (λ h.
        let a : status w p ≡ Some x.permit = ap (status w) q ∙ ap (option_map (λ (z : Entry). z.permit)) (entry_found w ow x m) in
        let b : status v p ≡ Some y.permit = ap (status v) q ∙ ap (option_map (λ (z : Entry). z.permit)) e in
        let c : Some y.permit ≡ Some x.permit = sym b ∙ sym h ∙ a in
        let d : y.permit ≡ x.permit = cc c in
        clash (subst (λ k. same_permit y.permit k ≡ true) d (bool_same (is_permitted y.permit))) s)

    told_both : listed p (by_both x y) ≡ true → Differs w v p
    told_both l = by (either (listed p (if same_permit y.permit x.permit then [] else single x.root ∷ [])) (listed p (areas_apart (spills x) (spills y) (area_of x) (area_of y))) (sym (any_append (λ u. covers u p) (if same_permit y.permit x.permit then [] else single x.root ∷ []) (areas_apart (spills x) (spills y) (area_of x) (area_of y))) ∙ l))
      where
        by : (listed p (if same_permit y.permit x.permit then [] else single x.root ∷ []) ≡ true) ⊎ (listed p (areas_apart (spills x) (spills y) (area_of x) (area_of y)) ≡ true) → Differs w v p
        by (inl h) = told_status (same_permit y.permit x.permit) refl h
        by (inr h) = told_areas (spills x) (spills y) refl refl h

  told_first : (x : Entry) → Member x w → (y : Option Entry) → entry_at v x.root ≡ y → listed p (by_entry x y) ≡ true → Differs w v p
  told_first x m None e l = told_own x m e l
  told_first x m (Some y) e l = told_both x y m e l

-- ---- and each difference is listed

module _ (w v : Oracle) (p : Addr) (ow : IsInOrder w) (ov : IsInOrder v) (aw : AreApart w) (av : AreApart v) where
  told_second : (y : Entry) → Member y v → (x : Option Entry) → entry_at w y.root ≡ x → listed p (by_new y x) ≡ true → Differs w v p
  told_second y m None e l = turned v w p (told_own v w p ov ow av aw y m e l)
  told_second y m (Some x) e l = absurd (cc l)

  all_told : listed p (differences w v) ≡ true → Differs w v p
  all_told l = by (either (listed p (flat_map (λ x. by_entry x (entry_at v x.root)) w)) (listed p (flat_map (λ y. by_new y (entry_at w y.root)) v)) (sym (any_append (λ u. covers u p) (flat_map (λ x. by_entry x (entry_at v x.root)) w) (flat_map (λ y. by_new y (entry_at w y.root)) v)) ∙ l))
    where
      by : (listed p (flat_map (λ x. by_entry x (entry_at v x.root)) w) ≡ true) ⊎ (listed p (flat_map (λ y. by_new y (entry_at w y.root)) v) ≡ true) → Differs w v p
      by (inl h) = let (x, m, g) = in_flat (λ u. covers u p) (λ x. by_entry x (entry_at v x.root)) w h in told_first w v p ow ov aw av x m (entry_at v x.root) refl g
      by (inr h) = let (y, m, g) = in_flat (λ u. covers u p) (λ y. by_new y (entry_at w y.root)) v h in told_second y m (entry_at w y.root) refl g

  in_first : (x : Entry) → Member x w → (y : Option Entry) → entry_at v x.root ≡ y → listed p (by_entry x y) ≡ true → listed p (differences w v) ≡ true
  in_first x m y e l =
      any_append (λ u. covers u p) (flat_map (λ x. by_entry x (entry_at v x.root)) w) (flat_map (λ y. by_new y (entry_at w y.root)) v)
      ∙ left (listed p (flat_map (λ x. by_entry x (entry_at v x.root)) w)) (listed p (flat_map (λ y. by_new y (entry_at w y.root)) v))
      (flat_in (λ u. covers u p) (λ x. by_entry x (entry_at v x.root)) w x m (ap (λ z. listed p (by_entry x z)) e ∙ l))

  in_second : (y : Entry) → Member y v → entry_at w y.root ≡ None → listed p (own_places y) ≡ true → listed p (differences w v) ≡ true
  in_second y m e l =
      any_append (λ u. covers u p) (flat_map (λ x. by_entry x (entry_at v x.root)) w) (flat_map (λ y. by_new y (entry_at w y.root)) v)
      ∙ right (listed p (flat_map (λ x. by_entry x (entry_at v x.root)) w)) (listed p (flat_map (λ y. by_new y (entry_at w y.root)) v))
      (flat_in (λ u. covers u p) (λ y. by_new y (entry_at w y.root)) v y m (ap (λ z. listed p (by_new y z)) e ∙ l))

  at_root : (x : Entry) → p ≡ x.root → listed p (own_places x) ≡ true
  at_root x q = left (covers (single x.root) p) (listed p (if spills x then area_of x ∷ [] else [])) (subst (λ k. covers (single x.root) k ≡ true) (sym q) (single_covers x.root))

  over : (x : Entry) → spills_over p x ≡ true → listed p (own_places x) ≡ true
  over x s =
      let (a, c) = spilt p x s in
      right (covers (single x.root) p) (listed p (if spills x then area_of x ∷ [] else [])) (ap (λ b. listed p (if b then area_of x ∷ [] else [])) a ∙ one_is (covers (area_of x) p) c)

  -- another status
  status_listed : (x y : Option Entry) → entry_at w p ≡ x → entry_at v p ≡ y → same_status (option_map (λ (z : Entry). z.permit) y) (option_map (λ (z : Entry). z.permit) x) ≡ false → listed p (differences w v) ≡ true
  status_listed None None d e f = absurd (cc f)
  status_listed (Some x) None d e f =
      let (m, q) = entry_there w p x d in
      in_first x m None (ap (entry_at v) (sym q) ∙ e) (at_root x q)
  status_listed None (Some y) d e f =
      let (m, q) = entry_there v p y e in
      in_second y m (ap (entry_at w) (sym q) ∙ d) (at_root y q)
  status_listed (Some x) (Some y) d e f =
      let (m, q) = entry_there w p x d in
      in_first x m (Some y) (ap (entry_at v) (sym q) ∙ e)
      (any_append (λ u. covers u p) (if same_permit y.permit x.permit then [] else single x.root ∷ []) (areas_apart (spills x) (spills y) (area_of x) (area_of y))
      ∙ left (listed p (if same_permit y.permit x.permit then [] else single x.root ∷ [])) (listed p (areas_apart (spills x) (spills y) (area_of x) (area_of y)))
      (ap (λ b. listed p (if b then [] else single x.root ∷ [])) f ∙ one_is (covers (single x.root) p) (subst (λ k. covers (single x.root) k ≡ true) (sym q) (single_covers x.root))))

  by_areas : (x y : Entry) → Member x w → entry_at v x.root ≡ Some y → listed p (areas_apart (spills x) (spills y) (area_of x) (area_of y)) ≡ true → listed p (differences w v) ≡ true
  by_areas x y m e l =
      in_first x m (Some y) e
      (any_append (λ u. covers u p) (if same_permit y.permit x.permit then [] else single x.root ∷ []) (areas_apart (spills x) (spills y) (area_of x) (area_of y))
      ∙ right (listed p (if same_permit y.permit x.permit then [] else single x.root ∷ [])) (listed p (areas_apart (spills x) (spills y) (area_of x) (area_of y))) l)

  -- an area that only the first spills over p
  first_listed : (x y : Entry) → x.root ≡ y.root → spills_over p x ≡ true → (spills_over p y ≡ true → ⊥) → (b : Bool) → spills y ≡ b → listed p (areas_apart (spills x) b (area_of x) (area_of y)) ≡ true
  first_listed x y q s f true t =
      let (a, c) = spilt p x s in
      let r : area_of y ≡ area x.root y.size = ap (λ k. area k y.size) (sym q) in
      let g : covers (area x.root y.size) p ≡ true → ⊥ = λ u. f (and_true (spills y) (covers (area_of y) p) t (subst (λ k. covers k p ≡ true) (sym r) u)) in
      ap (λ b. listed p (areas_apart b true (area_of x) (area_of y))) a
      ∙ any_append (λ u. covers u p) (minus (area_of x) (area_of y)) (minus (area_of y) (area_of x))
      ∙ left (listed p (minus (area_of x) (area_of y))) (listed p (minus (area_of y) (area_of x))) (ap (λ k. listed p (minus (area_of x) k)) r ∙ in_minus x.root x.size y.size p c g)
  first_listed x y q s f false t =
      let (a, c) = spilt p x s in
      ap (λ b. listed p (areas_apart b false (area_of x) (area_of y))) a ∙ one_is (covers (area_of x) p) c

  second_listed : (x y : Entry) → x.root ≡ y.root → spills_over p y ≡ true → (spills_over p x ≡ true → ⊥) → (b : Bool) → spills x ≡ b → listed p (areas_apart b (spills y) (area_of x) (area_of y)) ≡ true
  second_listed x y q s f true t =
      let (a, c) = spilt p y s in
      let r : area_of x ≡ area y.root x.size = ap (λ k. area k x.size) q in
      let g : covers (area y.root x.size) p ≡ true → ⊥ = λ u. f (and_true (spills x) (covers (area_of x) p) t (subst (λ k. covers k p ≡ true) (sym r) u)) in
      ap (λ b. listed p (areas_apart true b (area_of x) (area_of y))) a
      ∙ any_append (λ u. covers u p) (minus (area_of x) (area_of y)) (minus (area_of y) (area_of x))
      ∙ right (listed p (minus (area_of x) (area_of y))) (listed p (minus (area_of y) (area_of x))) (ap (λ k. listed p (minus (area_of y) k)) r ∙ in_minus y.root y.size x.size p c g)
  second_listed x y q s f false t =
      let (a, c) = spilt p y s in
      ap (λ b. listed p (areas_apart false b (area_of x) (area_of y))) a ∙ one_is (covers (area_of y) p) c

  -- another cover
  lacks : (x : Entry) → Member x w → spills_over p x ≡ true → (cover w p ≡ cover v p → ⊥) → (y : Option Entry) → entry_at v x.root ≡ y → listed p (differences w v) ≡ true
  lacks x m s f None e = in_first x m None e (over x s)
  lacks x m s f (Some y) e =
      let (n, q) = entry_there v x.root y e in
      by_areas x y m e (first_listed x y q s (λ u. f (cover_found w aw p x m s ∙ ap (λ r. Some (offs r p)) q ∙ sym (cover_found v av p y n u))) (spills y) refl)

  gains : (y : Entry) → Member y v → spills_over p y ≡ true → cover w p ≡ None → (x : Option Entry) → entry_at w y.root ≡ x → listed p (differences w v) ≡ true
  gains y m s g None e = in_second y m e (over y s)
  gains y m s g (Some x) e =
      let (n, q) = entry_there w y.root x e in
      let d : entry_at v x.root ≡ Some y = ap (entry_at v) (sym q) ∙ entry_found v ov y m in
      by_areas x y n d (second_listed x y (sym q) s (λ u. (let h : Some (offs x.root p) ≡ None = sym (cover_found w aw p x n u) ∙ g in cc h)) (spills x) refl)

  cover_listed : (c d : Option Cover) → cover w p ≡ c → cover v p ≡ d → same_cover d c ≡ false → listed p (differences w v) ≡ true
  cover_listed None None g h f = absurd (cc f)
  cover_listed None (Some d) g h f = let (y, m, s, q) = cover_there v p d h in gains y m s g (entry_at w y.root) refl
  cover_listed (Some c) d g h f =
      let (x, m, s, q) = cover_there w p c g in
      lacks x m s (λ e. clash (subst (λ k. same_cover k (Some c) ≡ true) (sym g ∙ e ∙ h) (same_cover_itself (Some c))) f) (entry_at v x.root) refl

  all_listed : differs_at [] w v p ≡ true → listed p (differences w v) ≡ true
  all_listed e = by (either (not (same_status (status v p) (status w p))) (not (same_cover (cover v p) (cover w p))) e)
    where
      by : (not (same_status (status v p) (status w p)) ≡ true) ⊎ (not (same_cover (cover v p) (cover w p)) ≡ true) → listed p (differences w v) ≡ true
      by (inl h) = status_listed (entry_at w p) (entry_at v p) refl refl (flips (same_status (status v p) (status w p)) h)
      by (inr h) = cover_listed (cover w p) (cover v p) refl refl (flips (same_cover (cover v p) (cover w p)) h)

pub tells : DifferencesTell
tells w v p ow ov aw av = same_bools (listed p (differences w v)) (differs_at [] w v p) (λ l. says w v p (all_told w v p ow ov aw av l)) (all_listed w v p ow ov aw av)
