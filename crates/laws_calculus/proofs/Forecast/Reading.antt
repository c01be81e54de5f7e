-- References go the same way under two oracles of rounds that have the same entries of what is depended on.
use Rattle.std.proofs.Common.{◌≡◌, inl, inr, ℕ, suc, Bool, true, false, IsTrue, List, [], ◌∷◌, ◌++◌, length, map, Option, Some, None, Result, Ok, Err, if◌then◌else◌, refl, sym, ◌∙◌, subst, ap, option_map}
use Rattle.std.specs.List.{flat_map}
use Rattle.gl_calculus.specs.Computation.Lists.{Member}
use Rattle.gl_calculus.specs.Computation.Evaluation.{given}
use Rattle.gl_calculus.specs.Grid.Grid.{Addr, same_addr, Range, single, extents, addresses}
use Rattle.gl_calculus.specs.Values.ErrKind.{ErrKind}
use Rattle.gl_calculus.specs.Values.Value as V
use Rattle.gl_calculus.specs.Values.Value.{Permit, Scalar, Value, One, Array, scalars, Oracle, Top}
use Rattle.gl_calculus.specs.Formulas.Formula.{Formula, Content, Const, Form, Cells, content}
use Rattle.gl_calculus.specs.Evaluation.Oracle.{entry_at, Cover, cover, status}
use Rattle.gl_calculus.specs.Evaluation.Facts.{Fact, fact, facts, find_fact, fact_at}
use Rattle.gl_calculus.specs.Evaluation.Key.{Key, Cell, Budget, Outcome, Settled, Abort, Eval, give, on_result, ◌>>=◌, own_value}
use Rattle.gl_calculus.specs.Evaluation.Reference.{held_top, value_of, own, spilling, at_address, at_range, whole, spill_of}
use Rattle.gl_machine.specs.Seen.{seen_or_looked, Reading, covered_seen, shown_seen, deref_seen, deref_all_seen}
use Rattle.laws_calculus.proofs.Calculus.ReadsOnce.{reads_once, reads_alone}
use Rattle.laws_calculus.proofs.Calculus.Proper.{fact_at_single}
use Rattle.gl_calculus.specs.Formulas.Fit.{AreFit}
use Rattle.laws_calculus.proofs.Sound.Values.{IsSound, AllSound, IsSoundValue, array_sound, extents_of}
use Rattle.laws_calculus.proofs.Sound.References.{content_fit, shown_sound, spilled_sound, facts_count}
use Rattle.laws_calculus.proofs.Sound.Sheets.{SoundIf}
use Rattle.gl_calculus.specs.Forecast as Fo
use Rattle.gl_calculus.specs.Forecast.{Node, Entry, spilled_shape, covering, cell_nodes, address_nodes, spill_nodes}
use Rattle.laws_calculus.proofs.Forecast.Alike.{Alike, both_return, both_look, both_ask, alike_bind, alike_weaken}
use Rattle.gl_calculus.specs.Evaluation.Sound.{is_size}
use Rattle.laws_calculus.proofs.Forecast.Oracles.{IsFit, cover_entry, spill_parts, boxed_covering, unheld, unboxed, shaped_formula, formula_fact, constant_fact, blank_fact}
use Rattle.laws_calculus.proofs.Forecast.Shapes.{Fits}

-- a value of the cell: sound, and within its shape to any number of levels
abbrev pub IsValueOf : Cells → Addr → Value → Type 0
IsValueOf S a v = IsSoundValue v × ((n : ℕ) → Fits (spilled_shape S n a) v)

-- what a key comes to
abbrev pub Comes : Cells → Key → Outcome → Type 0
Comes S (Cell e a) (Outcome.Value v) = IsValueOf S a v
Comes S k o = ⊥

-- a result, and no spent budget
abbrev pub Gets : {X : Type 0} → (X → Type 0) → Result X Budget → Type 0
Gets Q (Ok x) = Q x
Gets Q (Err b) = ⊥

abbrev pub IsScalar : Value → Type 0
IsScalar (One x) = Unit {0}
IsScalar (Array z xs) = ⊥

module _ (S : Cells) (fit : AreFit S) (w w' : Oracle) (fits : IsFit S w) (fits' : IsFit S w') (needs : List Node) (same : (r : Addr) → Member (Entry r) needs → entry_at w r ≡ entry_at w' r) where
  -- the key is of a cell whose value is needed
  abbrev pub IsNeeded : Key → Type 0
  IsNeeded k = (a : Addr) × (k ≡ Cell Top a) × Member (Fo.Node.Value a) needs

  abbrev pub Good : {X : Type 0} → (X → Type 0) → Eval X → Eval X → Type 0
  Good Q p p' = Alike IsNeeded (Comes S) (Gets Q) (given (facts S w) p) (given (facts S w') p')

  pub good_then : {X Y : Type 0} (Q : X → Type 0) (R : Y → Type 0) (p p' : Eval X) (g g' : X → Eval Y) → Good Q p p' → ((x : X) → Q x → Good R (g x) (g' x)) → Good R (p >>= g) (p' >>= g')
  good_then Q R p p' g g' e h = alike_bind IsNeeded (Comes S) (Gets Q) (Gets R) (facts S w) (facts S w') (on_result g) (on_result g') (elim [ Ok x ↦ λ q. h x q | Err b ↦ λ q. absurd q ]) p p' e

  -- ---- own values

  -- what is known of the own value of an address with this content
  abbrev IsOwn : Addr → Option Content → Option Value → Type 0
  IsOwn a (Some (Form f)) (Some v) = IsValueOf S a v
  IsOwn a (Some (Const x)) (Some v) = v ≡ One x
  IsOwn a None None = Unit {0}
  IsOwn a c o = ⊥

  -- what the address with this content depends on is needed
  abbrev pub Needed : Addr → Option Content → Type 0
  Needed a c = (n : Node) → Member n (address_nodes S a c) → Member n needs

  own_good : (a : Addr) (c : Option Content) → ((f : Formula) → c ≡ Some (Form f) → Member (Fo.Node.Value a) needs) → Good (IsOwn a c) (value_of Top a (held_top c)) (value_of Top a (held_top c))
  own_good a None h = both_return tt
  own_good a (Some (Const x)) h = both_return refl
  own_good a (Some (Form f)) h = both_ask {c = λ o. given (facts S w) (own_value o)} {c' = λ o. given (facts S w') (own_value o)} (a, refl, h f refl) (elim [ Outcome.Value v ↦ λ t. both_return t | Settled o ↦ λ t. absurd t | Abort b ↦ λ t. absurd t ])

  own_sound : (a : Addr) (c : Option Content) (o : Option Value) → content S a ≡ c → IsOwn a c o → SoundIf o
  own_sound a (Some (Form f)) (Some v) e h = h.0
  own_sound a (Some (Const x)) (Some v) e h = let t = content_fit S a fit in subst SoundIf (ap Some (sym h)) (rw e at t)
  own_sound a None None e h = tt
  own_sound a (Some (Form f)) None e h = absurd h
  own_sound a (Some (Const x)) None e h = absurd h
  own_sound a None (Some v) e h = absurd h

  -- ---- facts

  pub member_flat : {X Y : Type 0} (g : X → List Y) (xs : List X) (x : X) (y : Y) → Member x xs → Member y (g x) → Member y (flat_map g xs)
  member_flat g [] x y m n = absurd m
  member_flat g (z ∷ xs) x y (inl e) n = front (g z) (flat_map g xs) (subst (λ u. Member y (g u)) e n)
    where
      front : (us vs : List _) → Member y us → Member y (us ++ vs)
      front [] vs m = absurd m
      front (u ∷ us) vs (inl e) = inl e
      front (u ∷ us) vs (inr m) = inr (front us vs m)
  member_flat g (z ∷ xs) x y (inr m) n = back (g z) (member_flat g xs x y m n)
    where
      back : (us : List _) → Member y (flat_map g xs) → Member y (us ++ flat_map g xs)
      back [] m = m
      back (u ∷ us) m = inr (back us m)

  -- a cell whose nodes are all needed has the same entry in both
  cell_same : (a : Addr) → ((n : Node) → Member n (cell_nodes S a) → Member n needs) → entry_at w a ≡ entry_at w' a
  cell_same a h =
      (elim (Fo.cell_shape S a) as (λ o. Fo.cell_shape S a ≡ o → entry_at w a ≡ entry_at w' a) [
        | None ↦ λ e. unboxed S w fits a e ∙ sym (unboxed S w' fits' a e)
        | Some z ↦ λ e. same a (h (Entry a) (inr (rw e (inl refl))))
      ]) refl

  same_fact : (a : Addr) → Needed a (content S a) → fact S w a ≡ fact S w' a
  same_fact a h =
      (elim (content S a) as (λ c. content S a ≡ c → Needed a c → fact S w a ≡ fact S w' a) [
        | None ↦ λ e k. blank_fact S w w' fits fits' a e (λ r m. cell_same r (λ n i. k n (member_flat (cell_nodes S) (covering S a) r n m i)))
        | Some (Const x) ↦ λ e k. constant_fact S w w' fits fits' a x e
        | Some (Form f) ↦ λ e k. formula_fact S w w' fits fits' a f e (cell_same a k)
      ]) refl h

  same_facts : (places : List Addr) → ((a : Addr) → Member a places → Needed a (content S a)) → map (fact S w) places ≡ map (fact S w') places
  same_facts [] h = refl
  same_facts (a ∷ places) h = ap (λ u. u ∷ map (fact S w) places) (same_fact a (h a (inl refl))) ∙ ap (λ u. fact S w' a ∷ u) (same_facts places (λ b m. h b (inr m)))

  -- ---- addresses

  -- the fact of a formula cell whose nodes are needed
  abbrev IsRoot : Fact → Type 0
  IsRoot y = (r : Addr) × (y ≡ fact S w r) × ((n : Node) → Member n (cell_nodes S r) → Member n needs)

  abbrev AreRoots : List Fact → Type 0
  AreRoots [] = Unit {0}
  AreRoots (y ∷ seen) = IsRoot y × AreRoots seen

  abbrev FoundRoot : Option Fact → Type 0
  FoundRoot None = Unit {0}
  FoundRoot (Some y) = IsRoot y

  found_root : (seen : List Fact) (a : Addr) → AreRoots seen → FoundRoot (find_fact seen a)
  found_root [] a h = tt
  found_root (y ∷ seen) a h = by (same_addr y.address a) (found_root seen a h.1)
    where
      by : (b : Bool) → FoundRoot (find_fact seen a) → FoundRoot (if b then Some y else find_fact seen a)
      by true k = h.0
      by false k = k

  abbrev pub IsReading : Reading → Type 0
  IsReading y = IsSound y.0 × AreRoots y.1

  root_good : (r : Addr) (o : Option Fact) → ((n : Node) → Member n (cell_nodes S r) → Member n needs) → (f : Formula) → content S r ≡ Some (Form f) → FoundRoot o → Good IsRoot (seen_or_looked r o) (seen_or_looked r o)
  root_good r (Some y) h f e k = both_return k
  root_good r None h f e k =
      let q : fact S w r ≡ fact S w' r = formula_fact S w w' fits fits' r f e (cell_same r h) in
      let p : fact_at (facts S w (single r)) r ≡ fact S w r = fact_at_single S w r in
      let p' : fact_at (facts S w' (single r)) r ≡ fact_at (facts S w (single r)) r = fact_at_single S w' r ∙ sym q ∙ sym p in
      both_look (subst (λ u. Good IsRoot (give (fact_at (facts S w (single r)) r)) (give u)) (sym p') (both_return (r, p, h)))

  abbrev IsSoundOwn : Option Value → Type 0
  IsSoundOwn o = SoundIf o

  root_own : (y : Fact) → IsRoot y → Good IsSoundOwn (own Top y) (own Top y)
  root_own y (r, e, h) =
      subst (λ u. Good IsSoundOwn (own Top u) (own Top u)) (sym e)
      (alike_weaken (Gets (IsOwn r (content S r))) (Gets IsSoundOwn) (elim [ Ok o ↦ λ k. own_sound r (content S r) o refl k | Err b ↦ λ k. absurd k ]) (own_good r (content S r) (λ f u. h (Fo.Node.Value r) (inl refl))))

  covered_good : (seen : List Fact) (c : Cover) (f : Formula) → content S c.root ≡ Some (Form f) → ((n : Node) → Member n (cell_nodes S c.root) → Member n needs) → AreRoots seen → Good IsReading (covered_seen Top seen (Some c)) (covered_seen Top seen (Some c))
  covered_good seen c f e h t =
      good_then IsRoot IsReading _ _ _ _ (root_good c.root (find_fact seen c.root) h f e (found_root seen c.root t))
      (λ y k. good_then IsSoundOwn IsReading _ _ _ _ (root_own y k) (λ v u. both_return (spilled_sound v c.rows c.cols u, (k, t))))

  blank_good : (a : Addr) (seen : List Fact) (o : Option Cover) → content S a ≡ None → cover w a ≡ o → Needed a None → AreRoots seen → Good IsReading (covered_seen Top seen o) (covered_seen Top seen o)
  blank_good a seen None d e h t = both_return (refl, t)
  blank_good a seen (Some c) d e h t =
      let (x, m, s, q) = cover_entry w a c e in
      let (p, v) = spill_parts a x s in
      let i : Member x.root (covering S a) = boxed_covering S w fits a x m v in
      let (z, g, l, k) = fits.boxed x m in
      let (f, u) = shaped_formula S x.root z g in
      let r : x.root ≡ c.root = ap (λ y. y.root) (sym q) in
      covered_good seen c f (subst (λ y. content S y ≡ Some (Form f)) r u) (λ n j. h n (member_flat (cell_nodes S) (covering S a) c.root n (subst (λ y. Member y (covering S a)) r i) j)) t

  shown_good : (a : Addr) (seen : List Fact) (c : Option Content) (o : Option Value) → content S a ≡ c → Needed a c → AreRoots seen → IsOwn a c o → Good IsReading (shown_seen Top seen (fact S w a) o) (shown_seen Top seen (fact S w a) o)
  shown_good a seen (Some (Form f)) (Some v) e h t k = both_return (shown_sound (fact S w a).status v k.0, t)
  shown_good a seen (Some (Const x)) (Some v) e h t k = both_return (shown_sound (fact S w a).status v (own_sound a (Some (Const x)) (Some v) e k), t)
  shown_good a seen None None e h t k = blank_good a seen (cover w a) e refl h t
  shown_good a seen (Some (Form f)) None e h t k = absurd k
  shown_good a seen (Some (Const x)) None e h t k = absurd k
  shown_good a seen None (Some v) e h t k = absurd k

  value_needed : (a : Addr) (c : Option Content) → Needed a c → (f : Formula) → c ≡ Some (Form f) → Member (Fo.Node.Value a) needs
  value_needed a c h f e = (subst (Needed a) e h) (Fo.Node.Value a) (inl refl)

  deref_good : (a : Addr) (seen : List Fact) → Needed a (content S a) → AreRoots seen → Good IsReading (deref_seen Top seen (fact S w a)) (deref_seen Top seen (fact S w a))
  deref_good a seen h t =
      good_then (IsOwn a (content S a)) IsReading _ _ _ _ (own_good a (content S a) (value_needed a (content S a) h)) (λ o k. shown_good a seen (content S a) o refl h t k)

  abbrev IsSoundScalar : Value → Type 0
  IsSoundScalar v = IsSoundValue v × IsScalar v

  pub address_good : (a : Addr) → Needed a (content S a) → Good IsSoundScalar (at_address Top a) (at_address Top a)
  address_good a h =
      let p : fact_at (facts S w (single a)) a ≡ fact S w a = fact_at_single S w a in
      let p' : fact_at (facts S w' (single a)) a ≡ fact S w a = fact_at_single S w' a ∙ sym (same_fact a h) in
      subst (λ p. Good IsSoundScalar p p) (sym (reads_alone Top a))
      (both_look (subst (λ u. Good IsSoundScalar (deref_seen Top [] u >>= λ y. give (One y.0)) (deref_seen Top [] (fact_at (facts S w' (single a)) a) >>= λ y. give (One y.0))) (sym p)
      (subst (λ u. Good IsSoundScalar (deref_seen Top [] (fact S w a) >>= λ y. give (One y.0)) (deref_seen Top [] u >>= λ y. give (One y.0))) (sym p')
      (good_then IsReading IsSoundScalar _ _ _ _ (deref_good a [] h tt) (λ y k. both_return (k.0, tt))))))

  abbrev IsList : ℕ → List Scalar → Type 0
  IsList n ys = (length ys ≡ n) × AllSound ys

  all_good : (places : List Addr) (seen : List Fact) → ((a : Addr) → Member a places → Needed a (content S a)) → AreRoots seen → Good (IsList (length (map (fact S w) places))) (deref_all_seen Top seen (map (fact S w) places)) (deref_all_seen Top seen (map (fact S w) places))
  all_good [] seen h t = both_return (refl, tt)
  all_good (a ∷ places) seen h t =
      good_then IsReading (IsList (suc (length (map (fact S w) places)))) _ _ _ _ (deref_good a seen (h a (inl refl)) t)
      (λ y k. good_then (IsList (length (map (fact S w) places))) (IsList (suc (length (map (fact S w) places)))) _ _ _ _ (all_good places y.1 (λ b m. h b (inr m)) k.1) (λ ys z. both_return (ap suc z.0, (k.0, z.1))))

  pub range_good : (r : Range) → IsTrue (is_size (extents r)) → ((a : Addr) → Member a (addresses r) → Needed a (content S a)) → Good (λ v. IsSoundValue v × ((xs : _) × (v ≡ Array (extents r) xs))) (at_range Top r) (at_range Top r)
  range_good r z h =
      let e : facts S w r ≡ facts S w' r = same_facts (addresses r) h in
      subst (λ p. Good (λ v. IsSoundValue v × ((xs : _) × (v ≡ Array (extents r) xs))) p p) (sym (reads_once Top r))
      (both_look (subst (λ u. Good (λ v. IsSoundValue v × ((xs : _) × (v ≡ Array (extents r) xs))) (deref_all_seen Top [] (facts S w r) >>= λ ys. give (Array (extents r) (scalars ys))) (deref_all_seen Top [] u >>= λ ys. give (Array (extents r) (scalars ys)))) e
      (good_then (IsList (length (facts S w r))) (λ v. IsSoundValue v × ((xs : _) × (v ≡ Array (extents r) xs))) _ _ _ _ (all_good (addresses r) [] h tt)
      (λ ys k. both_return (array_sound (extents r) ys (extents_of (extents r) z) (k.0 ∙ facts_count S w r) k.1, (scalars ys, refl))))))

  -- ---- `a#`

  module _ (n : ℕ) where
    abbrev pub IsSpill : Addr → Value → Type 0
    IsSpill a v = IsSoundValue v × Fits (spilled_shape S n a) v

    spilling_is : (a : Addr) (f : Formula) (o : Option Value) → content S a ≡ Some (Form f) → IsOwn a (Some (Form f)) o → IsSpill a (spilling o)
    spilling_is a f (Some (Array z xs)) e k = (k.0, k.1 n)
    spilling_is a f (Some (One x)) e k = (refl, tt)
    spilling_is a f None e k = absurd k

    whole_good : (a : Addr) (f : Formula) (p : Option Permit) → content S a ≡ Some (Form f) → Member (Fo.Node.Value a) needs → Good (IsSpill a) (whole Top (fact S w a) (held_top (Some (Form f))) p) (whole Top (fact S w a) (held_top (Some (Form f))) p)
    whole_good a f (Some V.Permit.Permitted) e m =
        good_then (IsOwn a (Some (Form f))) (IsSpill a) _ _ _ _
        (subst (λ c. Good (IsOwn a (Some (Form f))) (value_of Top a (held_top c)) (value_of Top a (held_top c))) (sym e) (own_good a (Some (Form f)) (λ g u. m)))
        (λ o k. both_return (spilling_is a f o e k))
    whole_good a f (Some V.Permit.Refused) e m = both_return (refl, tt)
    whole_good a f None e m = both_return (refl, tt)

    SpillNeeded : Addr → Option Content → Type 0
    SpillNeeded a c = (m : Node) → Member m (spill_nodes S a c) → Member m needs

    spill_by : (a : Addr) (c : Option Content) → content S a ≡ c → SpillNeeded a c → Good (IsSpill a) (whole Top (fact S w a) (held_top c) (status w a)) (whole Top (fact S w' a) (held_top c) (status w' a))
    unfolding SpillNeeded
    spill_by a None e h = both_return (refl, tt)
    spill_by a (Some (Const x)) e h =
        let none = λ (f : Formula) (u : content S a ≡ Some (Form f)). let g : Some (Const x) ≡ Some (Form f) = sym e ∙ u in absurd (cc g) in
        let p : entry_at w a ≡ None = unheld S w fits a none in
        let p' : entry_at w' a ≡ None = unheld S w' fits' a none in
        rw (p, p') (both_return {r = Ok (One (Scalar.Err ErrKind.Ref))} (refl, tt))
    spill_by a (Some (Form f)) e h =
        let s : entry_at w a ≡ entry_at w' a = cell_same a h in
        let q : fact S w a ≡ fact S w' a = formula_fact S w w' fits fits' a f e s in
        subst (λ u. Good (IsSpill a) (whole Top (fact S w a) (held_top (Some (Form f))) (status w a)) (whole Top u (held_top (Some (Form f))) (status w' a))) q
        (subst (λ u. Good (IsSpill a) (whole Top (fact S w a) (held_top (Some (Form f))) (status w a)) (whole Top (fact S w a) (held_top (Some (Form f))) (option_map (λ (z : V.Entry). z.permit) u))) s
        (whole_good a f (status w a) e (h (Fo.Node.Value a) (inl refl))))

    pub spill_good : (a : Addr) → ((m : Node) → Member m (spill_nodes S a (content S a)) → Member m needs) → Good (IsSpill a) (spill_of Top a) (spill_of Top a)
    unfolding SpillNeeded
    spill_good a h =
        let p : fact_at (facts S w (single a)) a ≡ fact S w a = fact_at_single S w a in
        let p' : fact_at (facts S w' (single a)) a ≡ fact S w' a = fact_at_single S w' a in
        both_look (subst (λ u. Good (IsSpill a) (whole Top u (held_top u.content) u.status) (whole Top (fact_at (facts S w' (single a)) a) (held_top (fact_at (facts S w' (single a)) a).content) (fact_at (facts S w' (single a)) a).status)) (sym p)
        (subst (λ u. Good (IsSpill a) (whole Top (fact S w a) (held_top (fact S w a).content) (fact S w a).status) (whole Top u (held_top u.content) u.status)) (sym p')
        (spill_by a (content S a) refl h)))
