-- An oracle to which the calculation settles is consistent.
use Rattle.std.proofs.Common.{◌≡◌, ◌⊎◌, inl, inr, ℕ, List, [], ◌∷◌, map, true, false, if◌then◌else◌, Option, Some, None, Ok, refl, sym, ◌∙◌, subst, ap}
use Rattle.gl_calculus.specs.Computation.Lists.{Member}
use Rattle.gl_calculus.specs.Computation.Query.{next, run, val}
use Rattle.gl_calculus.specs.Computation.Evaluation.{given}
use Rattle.laws_calculus.proofs.Query.Levels.{Has-one, Has-Loops}
use Rattle.gl_calculus.specs.Grid.Grid.{Addr, same_addr, AreInOrder, Size, grid}
use Rattle.gl_calculus.specs.Values.Value.{Permit, Entry, Oracle, Scalars, Value, Array, Top}
use Rattle.gl_calculus.specs.Formulas.Formula.{Version, Formula, Content, Const, Form, Cells, IsSheet, content, formula_addresses}
use Rattle.gl_calculus.specs.Evaluation.Oracle.{Sizes, AreSizes, sizes_of, ArePermits}
use Rattle.gl_calculus.specs.Evaluation.Facts.{facts}
use Rattle.gl_calculus.specs.Evaluation.Key.{Cell, Outcome, Settled, Abort, own_value}
use Rattle.gl_calculus.specs.Evaluation.Reference.{value_of, held_top}
use Rattle.gl_calculus.specs.Evaluation.World.{World, world}
use Rattle.gl_calculus.specs.Evaluation.Evaluation.{program}
use Rattle.gl_calculus.specs.Calculation.Calculation as C
use Rattle.gl_calculus.specs.Calculation.Calculation.{has_content, is_array, Arrays, none, array, other, TopHas, TopFails, IsNext, Ends, settled, IsAnswer}
use Rattle.gl_calculus.specs.Calculation.Consistency.{Owns, IsConsistent}
use Rattle.gl_calculus.proofs.Tests.{addr_exact, addr_same}
use Rattle.gl_calculus.proofs.Grants.{Before, before_of, of_before, before_trans, not_same, split, clash, grant_permits}

-- ---- lists of addresses in order

order_tail : (a : Addr) (rest : List Addr) → AreInOrder (a ∷ rest) → AreInOrder rest
order_tail a [] o = tt
order_tail a (b ∷ rest) (p, o) = o

after_head : (a : Addr) (rest : List Addr) → AreInOrder (a ∷ rest) → (b : Addr) → Member b rest → Before a b
after_head a [] o b m = absurd m
after_head a (c ∷ rest) (p, o) b (inl e) = subst (λ u. Before a u) (sym e) (before_of a c p)
after_head a (c ∷ rest) (p, o) b (inr m) = before_trans a c b (before_of a c p) (after_head c rest o b m)

order_cons : (a : Addr) (rest : List Addr) → ((b : Addr) → Member b rest → Before a b) → AreInOrder rest → AreInOrder (a ∷ rest)
order_cons a [] h o = tt
order_cons a (b ∷ rest) h o = (of_before a b (h b (inl refl)), o)

-- ---- the formulas of a sheet

formula_member : (S : Cells) (a : Addr) → Member a (formula_addresses S) → Member a (map (λ c. c.0) S)
formula_member [] a m = m
formula_member ((b, Form f) ∷ S) a (inl e) = inl e
formula_member ((b, Form f) ∷ S) a (inr m) = inr (formula_member S a m)
formula_member ((b, Const x) ∷ S) a m = inr (formula_member S a m)

pub formula_order : (S : Cells) → IsSheet S → AreInOrder (formula_addresses S)
formula_order [] o = tt
formula_order ((b, Form f) ∷ S) o = order_cons b (formula_addresses S) (λ a m. after_head b (map (λ c. c.0) S) o a (formula_member S a m)) (formula_order S (order_tail b (map (λ c. c.0) S) o))
formula_order ((b, Const x) ∷ S) o = formula_order S (order_tail b (map (λ c. c.0) S) o)

other_content : (b a : Addr) (c : Content) (S : Cells) → Before b a → content ((b, c) ∷ S) a ≡ content S a
other_content b a c S p = by (split (same_addr a b))
  where
    by : (same_addr a b ≡ true) ⊎ (same_addr a b ≡ false) → content ((b, c) ∷ S) a ≡ content S a
    by (inl e) = absurd (not_same b a p (sym (addr_exact a b e)))
    by (inr e) = rw e refl

pub formula_content : (S : Cells) → IsSheet S → (a : Addr) → Member a (formula_addresses S) → (f : Formula) × (content S a ≡ Some (Form f))
formula_content [] o a m = absurd m
formula_content ((b, Form f) ∷ S) o a (inl e) = (f, subst (λ u. content ((b, Form f) ∷ S) u ≡ Some (Form f)) (sym e) (rw (addr_same b) refl))
formula_content ((b, Form f) ∷ S) o a (inr m) =
    let (g, p) = formula_content S (order_tail b (map (λ c. c.0) S) o) a m in
    (g, other_content b a (Form f) S (after_head b (map (λ c. c.0) S) o a (formula_member S a m)) ∙ p)
formula_content ((b, Const x) ∷ S) o a m =
    let (g, p) = formula_content S (order_tail b (map (λ c. c.0) S) o) a m in
    (g, other_content b a (Const x) S (after_head b (map (λ c. c.0) S) o a (formula_member S a m)) ∙ p)

pub formula_listed : (S : Cells) (a : Addr) (f : Formula) → content S a ≡ Some (Form f) → Member a (formula_addresses S)
formula_listed [] a f e = absurd (cc e)
formula_listed ((b, Form g) ∷ S) a f e =
    (elim (same_addr a b) as (λ v. same_addr a b ≡ v → (if v then Some (Form g) else content S a) ≡ Some (Form f) → Member a (b ∷ formula_addresses S)) [
      | true ↦ λ u h. inl (addr_exact a b u)
      | false ↦ λ u h. inr (formula_listed S a f h)
    ]) refl e
formula_listed ((b, Const x) ∷ S) a f e =
    (elim (same_addr a b) as (λ v. (if v then Some (Const x) else content S a) ≡ Some (Form f) → Member a (formula_addresses S)) [
      | true ↦ λ h. absurd (cc h)
      | false ↦ λ h. formula_listed S a f h
    ]) e

-- ---- entries and sizes

pub size_of_entry : (w : Oracle) (a : Addr) (z : Size) (p : Permit) → Member (record { root = a; size = z; permit = p }) w → Member (a, z) (sizes_of w)
size_of_entry [] a z p m = m
size_of_entry (x ∷ xs) a z p (inl e) = inl (ap (λ u. (u.root, u.size)) e)
size_of_entry (x ∷ xs) a z p (inr m) = inr (size_of_entry xs a z p m)

abbrev entry : Addr → Size → Permit → Entry
entry a s p = record { root = a; size = s; permit = p }

pub entry_of_size : (w : Oracle) (a : Addr) (z : Size) → Member (a, z) (sizes_of w) → (p : Permit) × Member (entry a z p) w
entry_of_size [] a z m = absurd m
entry_of_size (x ∷ xs) a z (inl e) = (x.permit, inl (ap (λ u. entry u.0 u.1 x.permit) e))
entry_of_size (x ∷ xs) a z (inr m) = let (p, n) = entry_of_size xs a z m in (p, inr n)

pub roots_of : (w : Oracle) → map (λ x. x.root) w ≡ map (λ x. x.0) (sizes_of w)
roots_of [] = refl
roots_of (x ∷ xs) = ap (λ u. x.root ∷ u) (roots_of xs)

module _ (W : World) where
  -- ---- the arrays of a round

  pub array_root : (rest : List Addr) (zs : Sizes) → Arrays W rest zs → (a : Addr) → Member a (map (λ x. x.0) zs) → Member a rest
  array_root _ _ none a m = m
  array_root _ _ (array xs h r) a (inl e) = inl e
  array_root _ _ (array xs h r) a (inr m) = inr (array_root _ _ r a m)
  array_root _ _ (other f r) a m = inr (array_root _ _ r a m)

  pub array_order : (rest : List Addr) (zs : Sizes) → Arrays W rest zs → AreInOrder rest → AreSizes zs
  array_order _ _ none o = tt
  array_order _ _ (array {a = a} {rest = rest} {zs = zs} xs h r) o = order_cons a (map (λ x. x.0) zs) (λ b m. after_head a rest o b (array_root rest zs r b m)) (array_order rest zs r (order_tail a rest o))
  array_order _ _ (other {a = a} {rest = rest} {zs = zs} f r) o = array_order rest zs r (order_tail a rest o)

  abbrev pub ArrayAt : Addr → Size → Type 0
  ArrayAt a z = (xs : Scalars) × TopHas W a (Outcome.Value (Array z xs))

  pub array_has : (rest : List Addr) (zs : Sizes) → Arrays W rest zs → (a : Addr) (z : Size) → Member (a, z) zs → Member a rest × ArrayAt a z
  array_has _ _ none a z m = absurd m
  array_has _ _ (array xs h r) a z (inl e) = (inl (ap (λ u. u.0) e), (xs, subst (λ u. TopHas W u.0 (Outcome.Value (Array u.1 xs))) (sym e) h))
  array_has _ _ (array xs h r) a z (inr m) = let (n, t) = array_has _ _ r a z m in (inr n, t)
  array_has _ _ (other f r) a z m = let (n, t) = array_has _ _ r a z m in (inr n, t)

  no_other : (a : Addr) (z : Size) (xs : Scalars) → TopHas W a (Outcome.Value (Array z xs)) → TopFails W is_array a → ⊥
  no_other a z xs h (inl l) = Has-Loops (program W) (Cell Top a) _ h l
  no_other a z xs h (inr (o, g, f)) =
      let e : o ≡ Outcome.Value (Array z xs) = Has-one (program W) (Cell Top a) _ _ g h in
      let t : is_array o ≡ true = rw e refl in
      clash t f

  pub has_array : (rest : List Addr) (zs : Sizes) → Arrays W rest zs → (a : Addr) (z : Size) (xs : Scalars) → Member a rest → TopHas W a (Outcome.Value (Array z xs)) → Member (a, z) zs
  has_array _ _ none a z xs m h = m
  has_array _ _ (array {a = b} {z = y} ys g r) a z xs (inl e) h =
      let g' : TopHas W a (Outcome.Value (Array y ys)) = subst (λ u. TopHas W u (Outcome.Value (Array y ys))) (sym e) g in
      let q : Outcome.Value (Array z xs) ≡ Outcome.Value (Array y ys) = Has-one (program W) (Cell Top a) _ _ h g' in
      let s : z ≡ y = cc q in
      let p : (a, z) ≡ (b, y) = cc (e, s) in
      inl p
  has_array _ _ (array ys g r) a z xs (inr m) h = inr (has_array _ _ r a z xs m h)
  has_array _ _ (other {a = b} f r) a z xs (inl e) h = absurd (no_other a z xs h (subst (λ u. TopFails W is_array u) (sym e) f))
  has_array _ _ (other f r) a z xs (inr m) h = has_array _ _ r a z xs m h

  -- ---- own values

  owns_of : (a : Addr) (f : Formula) (v : Value) → content W.sheet a ≡ Some (Form f) → TopHas W a (Outcome.Value v) → Owns W a v
  owns_of a f v p (n, e) = (n, rw (p, e) refl)

  owns_array : (a : Addr) (z : Size) (xs : Scalars) → Owns W a (Array z xs) → (f : Formula) × (content W.sheet a ≡ Some (Form f)) × TopHas W a (Outcome.Value (Array z xs))
  owns_array a z xs (n, e) =
      (elim (content W.sheet a) as (λ c. content W.sheet a ≡ c → run (val (program W) n) (given (facts W.sheet W.oracle) (value_of Top a (held_top c))) ≡ Some (Ok (Some (Array z xs))) → (f : Formula) × (content W.sheet a ≡ Some (Form f)) × TopHas W a (Outcome.Value (Array z xs))) [
        | None ↦ λ p h. absurd (cc h)
        | Some (Const x) ↦ λ p h. absurd (cc h)
        | Some (Form f) ↦ λ p h. (f, p, (n, answers (val (program W) n (Cell Top a)) h))
      ]) refl e
    where
      answers : (o : Option Outcome) → next None o (λ x. run (val (program W) n) (given (facts W.sheet W.oracle) (own_value x))) ≡ Some (Ok (Some (Array z xs))) → o ≡ Some (Outcome.Value (Array z xs))
      answers None h = absurd (cc h)
      answers (Some (Outcome.Value v)) h = let q : v ≡ Array z xs = cc h in ap (λ u. Some (Outcome.Value u)) q
      answers (Some (Settled o)) h = absurd (cc h)
      answers (Some (Abort b)) h = absurd (cc h)

  -- ---- a fixed oracle

  pub fixed_consistent : IsSheet W.sheet → IsNext W W.oracle → IsConsistent W
  fixed_consistent o (zs, ar, e) = record {
    in_order = subst AreInOrder (sym (roots_of W.oracle ∙ ap (map (λ x. x.0)) sizes)) (array_order _ _ ar (formula_order W.sheet o));
    entries = λ a z. (λ m. there a z m, λ m. back a z m);
    permits = subst (λ u. ArePermits grid (has_content W.sheet) u) (sym e) (grant_permits grid (has_content W.sheet) zs (array_order _ _ ar (formula_order W.sheet o))).1;
  }
    where
      sizes : sizes_of W.oracle ≡ zs
      sizes = ap sizes_of e ∙ (grant_permits grid (has_content W.sheet) zs (array_order _ _ ar (formula_order W.sheet o))).0

      there : (a : Addr) (z : Size) → (p : Permit) × Member (entry a z p) W.oracle → (xs : Scalars) × Owns W a (Array z xs)
      there a z (p, m) =
          let (n, t) = array_has _ _ ar a z (subst (λ u. Member (a, z) u) sizes (size_of_entry W.oracle a z p m)) in
          let (f, c) = formula_content W.sheet o a n in
          (t.0, owns_of a f (Array z t.0) c t.1)

      back : (a : Addr) (z : Size) → (xs : Scalars) × Owns W a (Array z xs) → (p : Permit) × Member (entry a z p) W.oracle
      back a z (xs, h) =
          let (f, c, t) = owns_array a z xs h in
          entry_of_size W.oracle a z (subst (λ u. Member (a, z) u) (sym sizes) (has_array _ _ ar a z xs (formula_listed W.sheet a f c) t))

settled_next : (version : Version) (S : Cells) (i : ℕ) (v w : Oracle) (n : ℕ) → Ends version S i v (C.Answer.Settled w n) → IsNext (world version S w) w
settled_next version S i v w n (settled u next) = next

pub settled_consistent : (W : World) (n : ℕ) → IsSheet W.sheet → IsAnswer W.version W.sheet (C.Answer.Settled W.oracle n) → IsConsistent W
settled_consistent W n o r = fixed_consistent W o (settled_next W.version W.sheet r.round r.oracle W.oracle n r.ends)
