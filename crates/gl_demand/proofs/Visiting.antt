-- The arrays of a round, found address by address.
use Rattle.std.proofs.Common.{◌≡◌, Bool, true, false, cond, is_some, List, [], ◌∷◌, ◌++◌, map, filter, Option, Some, None, Result, Ok, Err, OnOk, IfErr, IfOk, refl, ap, sym, subst, ◌∙◌}
use Rattle.std.proofs.lemmas.List.{append-nil}
use Rattle.gl_calculus.specs.Computation.Query.{Ready, Need}
use Rattle.gl_calculus.specs.Computation.Evaluation.{given}
use Rattle.gl_calculus.specs.Grid.Grid.{Addr, Size, AreInOrder, Range, addresses}
use Rattle.gl_calculus.specs.Values.Value.{Value, One, Array, Oracle, SheetValue, sheet_value, Frame, In, region}
use Rattle.gl_calculus.specs.Evaluation.Oracle.{Sizes, AreSizes}
use Rattle.gl_calculus.specs.Formulas.Formula.{Content, content}
use Rattle.gl_calculus.specs.Evaluation.Facts.{Fact, fact, facts}
use Rattle.gl_calculus.specs.Evaluation.Key.{Budget, Eval, give, on_result, ◌>>=◌}
use Rattle.gl_calculus.specs.Evaluation.Reference.{Held, own_content, own, value_of}
use Rattle.gl_calculus.specs.Evaluation.Evaluation.{array_at, arrays}
use Rattle.gl_demand.specs.Walk.{Inputs, Trail, End, walk, then_walk, behind}
use Rattle.gl_machine.specs.Ahead.Ahead.{IsAhead}
use Rattle.gl_machine.specs.Ahead.Demands.{is_value}
use Rattle.gl_machine.specs.Ahead.Reading as A
use Rattle.gl_machine.specs.Ahead.Reading.{keys_from}
use Rattle.laws_calculus.proofs.Ahead.Ranges.{round_demands}
use Rattle.gl_demand.specs.Stopped.{IsHaltIn}
use Rattle.gl_demand.specs.Walks.{EndsWalk, Walks, trail_tree}
use Rattle.gl_demand.specs.Blocks.{has_content_in}
use Rattle.gl_demand.specs.Places.{filled_places}
use Rattle.gl_demand.specs.Settling.{Visits, round_arrays, Gives, Fails}
use Rattle.gl_demand.specs.declared.trail.Trail as Code
use Rattle.gl_demand.specs.declared.trail.Halt.{Halt}
use Rattle.gl_demand.specs.declared.trail.Halt.TheVariants as halt
use Rattle.gl_demand.proofs.Walking.{walk-bind, walk-on, walk-found, ends, ends_later, ends_bind, halts_in, behind_twice, behind_none, joined}
use Rattle.gl_demand.proofs.Ordered.{order_first, order_without}

-- ---- one address after another

module _ (w : Inputs) (e : Frame) where
  -- on behind an own value
  abbrev on : Addr → List Fact → Option Value → Eval Sizes
  on a rest v = arrays e rest >>= λ zs. give (array_at a v ++ zs)

  on_walk : (a : Addr) (rest : List Fact) (v : Option Value) (u : Trail) → walk w (on a rest v) u ≡ behind (array_at a v) (walk w (arrays e rest) u)
  on_walk a rest v u = walk-bind w (on_result (λ zs. give (array_at a v ++ zs))) (arrays e rest) u ∙ joined w (array_at a v) (walk w (arrays e rest) u)

  visit_walk : (x : Fact) (rest : List Fact) (zs : Sizes) (t u : Trail) (v : Option Value) → walk w (own e x) t ≡ (Ready (Ok v), u) → behind zs (walk w (arrays e (x ∷ rest)) t) ≡ behind (zs ++ array_at x.address v) (walk w (arrays e rest) u)
  visit_walk x rest zs t u v h =
      ap (behind zs) (walk-on w (on x.address rest) (own e x) t v u h ∙ on_walk x.address rest v u) ∙ behind_twice zs (array_at x.address v) (walk w (arrays e rest) u)

  pub visited : (x : Fact) (zs zs' : Sizes) (old mid : Code.Trail) (v : Option Value) (r : Result (Unit {0}) Halt) → walk w (own e x) (trail_tree old) ≡ (Ready (Ok v), trail_tree mid) → OnOk r (zs' ≡ zs ++ array_at x.address v) → IfErr r (λ h. h ≡ halt.NoMemory) → Visits w e x zs old r zs' mid
  visited x zs zs' old mid v (Ok u) h g k = λ rest. visit_walk x rest zs (trail_tree old) (trail_tree mid) v h ∙ ap (λ l. behind l (walk w (arrays e rest) (trail_tree mid))) (sym g)
  visited x zs zs' old mid v (Err f) h g k = λ rest. subst (λ l. EndsWalk {T = Sizes} w (arrays e (x ∷ rest)) (λ ys. ys) old (Err l) mid) (sym k) tt

  pub visit_halts : {A : Type 0} (x : Fact) (zs zs' : Sizes) (old new : Code.Trail) (f : A → Option Value) (h : Halt) → Walks w (own e x) f old (Err h) new → Visits w e x zs old (Err h) zs' new
  visit_halts x zs zs' old new f h g = λ rest. ends_bind w (on x.address rest) (own e x) f (λ (ys : Sizes). ys) old new h (ends w (own e x) f old new (Err h) g)

  -- a halt ends the whole
  pub all_halt : (p : Eval Sizes) (x : Fact) (rest : List Fact) (zs : Sizes) (old mid new : Code.Trail) (h : Halt) → walk w p (trail_tree old) ≡ behind zs (walk w (arrays e (x ∷ rest)) (trail_tree mid)) → EndsWalk {T = Sizes} w (arrays e (x ∷ rest)) (λ ys. ys) mid (Err h) new → EndsWalk {T = Sizes} w p (λ ys. ys) old (Err h) new
  all_halt p x rest zs old mid new (halt.Need k a) q m = q ∙ ap (behind zs) m
  all_halt p x rest zs old mid new (halt.Spent b) q m = q ∙ ap (behind zs) m
  all_halt p x rest zs old mid new halt.NoMemory q m = tt

  pub all_visited : (p : Eval Sizes) (zs : Sizes) (old t : Trail) → walk w p old ≡ behind zs (walk w (arrays e []) t) → walk w p old ≡ (Ready (Ok zs), t)
  all_visited p zs old t h = h ∙ ap (λ l. (Ready (Ok l), t)) (append-nil zs)

-- ---- the addresses of the arrays, in order before those that are left

roots_more : (zs : Sizes) (a : Addr) (z : Size) (rest : List Addr) → map (λ x. x.0) (zs ++ (a, z) ∷ []) ++ rest ≡ map (λ x. x.0) zs ++ a ∷ rest
roots_more [] a z rest = refl
roots_more (y ∷ ys) a z rest = ap (λ l. y.0 ∷ l) (roots_more ys a z rest)

pub last_in_order : (zs : Sizes) (a : Addr) (z : Size) (rest : List Addr) → AreInOrder (map (λ x. x.0) zs ++ a ∷ rest) → AreSizes (zs ++ (a, z) ∷ [])
last_in_order zs a z rest o = order_first (map (λ x. x.0) (zs ++ (a, z) ∷ [])) rest (subst AreInOrder (sym (roots_more zs a z rest)) o)

still_by : (zs zs' : Sizes) (a : Addr) (v : Option Value) (rest : List Addr) → zs' ≡ zs ++ array_at a v → AreInOrder (map (λ x. x.0) zs ++ a ∷ rest) → AreInOrder (map (λ x. x.0) zs' ++ rest)
still_by zs zs' a (Some (Array s xs)) rest e o = subst (λ l. AreInOrder (map (λ x. x.0) l ++ rest)) (sym e) (subst AreInOrder (sym (roots_more zs a s rest)) o)
still_by zs zs' a (Some (One x)) rest e o = subst (λ l. AreInOrder (map (λ x. x.0) l ++ rest)) (sym (e ∙ append-nil zs)) (order_without a (map (λ x. x.0) zs) rest o)
still_by zs zs' a None rest e o = subst (λ l. AreInOrder (map (λ x. x.0) l ++ rest)) (sym (e ∙ append-nil zs)) (order_without a (map (λ x. x.0) zs) rest o)

pub still_in_order : (zs zs' : Sizes) (a : Addr) (v : Option Value) (r : Result (Unit {0}) Halt) → OnOk r (zs' ≡ zs ++ array_at a v) → (rest : List Addr) → AreInOrder (map (λ x. x.0) zs ++ a ∷ rest) → OnOk r (AreInOrder (map (λ x. x.0) zs' ++ rest))
still_in_order zs zs' a v (Ok u) g rest o = still_by zs zs' a v rest g o
still_in_order zs zs' a v (Err h) g rest o = tt

-- ---- addresses without content have no array

module _ (w : Inputs) (e : Frame) (p : Addr → Bool) (none : (a : Addr) → p a ≡ false → own e (fact w.cells w.oracle a) ≡ give None) where
  same_on : (a : Addr) (xs ys : List Fact) (z : End (Result (Option Value) Budget)) → ((u : Trail) → walk w (arrays e xs) u ≡ walk w (arrays e ys) u) → then_walk z (λ r u. walk w (on_result (on w e a xs) r) u) ≡ then_walk z (λ r u. walk w (on_result (on w e a ys) r) u)
  same_on a xs ys (Ready (Ok v), u) h = on_walk w e a xs v u ∙ ap (behind (array_at a v)) (h u) ∙ sym (on_walk w e a ys v u)
  same_on a xs ys (Ready (Err b), u) h = refl
  same_on a xs ys (Need k, u) h = refl

  filled_step : (t : Bool) (a : Addr) (xs ys : List Fact) (u : Trail) → p a ≡ t → ((u : Trail) → walk w (arrays e xs) u ≡ walk w (arrays e ys) u) → walk w (arrays e (fact w.cells w.oracle a ∷ xs)) u ≡ walk w (arrays e (cond t (fact w.cells w.oracle a ∷ ys) ys)) u
  filled_step true a xs ys u t h =
      walk-bind w (on_result (on w e a xs)) (own e (fact w.cells w.oracle a)) u
      ∙ same_on a xs ys (walk w (own e (fact w.cells w.oracle a)) u) h
      ∙ sym (walk-bind w (on_result (on w e a ys)) (own e (fact w.cells w.oracle a)) u)
  filled_step false a xs ys u t h =
      ap (λ q. walk w (q >>= on w e a xs) u) (none a t) ∙ on_walk w e a xs None u ∙ behind_none (walk w (arrays e xs) u) ∙ h u

  map_cond : (t : Bool) (a : Addr) (bs : List Addr) → map (fact w.cells w.oracle) (cond t (a ∷ bs) bs) ≡ cond t (fact w.cells w.oracle a ∷ map (fact w.cells w.oracle) bs) (map (fact w.cells w.oracle) bs)
  map_cond true a bs = refl
  map_cond false a bs = refl

  pub filled_walk : (bs : List Addr) (u : Trail) → walk w (arrays e (map (fact w.cells w.oracle) bs)) u ≡ walk w (arrays e (map (fact w.cells w.oracle) (filter p bs))) u
  filled_walk [] u = refl
  filled_walk (a ∷ bs) u =
      filled_step (p a) a (map (fact w.cells w.oracle) bs) (map (fact w.cells w.oracle) (filter p bs)) u refl (λ t. filled_walk bs t)
      ∙ ap (λ l. walk w (arrays e l) u) (sym (map_cond (p a) a (filter p bs)))

-- an address's content is the same under each oracle
any_oracle : (c : Option Content) (s : SheetValue) (o : Oracle) (a : Addr) → own_content c (In s o) a ≡ own_content c (In s []) a
any_oracle c (sheet_value r os e k n) o a = refl

no_value : (e : Frame) (a : Addr) (h : Option Held) → is_some h ≡ false → value_of e a h ≡ give None
no_value e a None h = refl
no_value e a (Some x) h = absurd (cc h)

module _ (w : Inputs) (s : SheetValue) (o : Oracle) where
  none_own : (a : Addr) → has_content_in w.cells s a ≡ false → own (In s o) (fact w.cells w.oracle a) ≡ give None
  none_own a h = no_value (In s o) a (own_content (content w.cells a) (In s o) a) (ap is_some (any_oracle (content w.cells a) s o a) ∙ h)

  -- a round by the addresses with content
  pub round_walk : (e : Frame) (bs : List Addr) (old new : Code.Trail) (r : Result Sizes Halt) → e ≡ In s o → bs ≡ filled_places w.cells s → EndsWalk w (arrays e (map (fact w.cells w.oracle) bs)) (λ zs. zs) old r new → EndsWalk w (round_arrays w s o) (λ zs. zs) old r new
  round_walk e bs old new r f g h =
      let same : walk w (round_arrays w s o) (trail_tree old) ≡ walk w (arrays e (map (fact w.cells w.oracle) bs)) (trail_tree old) =
      filled_walk w (In s o) (has_content_in w.cells s) none_own (addresses (region s)) (trail_tree old)
      ∙ ap (λ l. walk w (arrays (In s o) (map (fact w.cells w.oracle) l)) (trail_tree old)) (sym g)
      ∙ ap (λ d. walk w (arrays d (map (fact w.cells w.oracle) bs)) (trail_tree old)) (sym f) in
      ends_later w (round_arrays w s o) (arrays e (map (fact w.cells w.oracle) bs)) (λ zs. zs) old old new r same h

  -- what a round demands is ahead of it
  round_ahead : IsAhead is_value (given (facts w.cells w.oracle) (round_arrays w s o)) w.known (keys_from w.cells w.oracle (A.Round (In s o) (region s)) 0)
  round_ahead v n i d = (round_demands w.cells w.oracle (In s o) (facts w.cells w.oracle (region s)) v).0 i d

  pub round_halts : (e : Frame) (r : Range) (old new : Code.Trail) (h h' : Halt) → e ≡ In s o → r ≡ region s → EndsWalk {T = Sizes} w (round_arrays w s o) (λ zs. zs) old (Err h) new → IsHaltIn (A.Round e r) h h' → Walks {T = Sizes} w (round_arrays w s o) (λ zs. zs) old (Err h') new
  round_halts e r old new h h' f g k i =
      halts_in w (round_arrays w s o) (λ (zs : Sizes). zs) (λ (zs : Sizes). zs) (A.Round (In s o) (region s)) old new h h' round_ahead k
      (subst (λ z. IsHaltIn (A.Round z (region s)) h h') f (subst (λ z. IsHaltIn (A.Round e z) h h') g i))

  pub round_gives : (old new : Code.Trail) (r : Result Sizes Halt) → Walks w (round_arrays w s o) (λ zs. zs) old r new → IfOk r (λ zs. Gives w s o zs)
  round_gives old new (Ok zs) h = sym (walk-found w (round_arrays w s o) (trail_tree old)) ∙ ap (λ z. z.0) h
  round_gives old new (Err h) g = tt

  fails_by : (old new : Code.Trail) (h : Halt) → Walks {T = Sizes} w (round_arrays w s o) (λ zs. zs) old (Err h) new → Fails w s o h
  fails_by old new (halt.Need k a) g = sym (walk-found w (round_arrays w s o) (trail_tree old)) ∙ ap (λ z. z.0) g.0
  fails_by old new (halt.Spent b) g = sym (walk-found w (round_arrays w s o) (trail_tree old)) ∙ ap (λ z. z.0) g
  fails_by old new halt.NoMemory g = tt

  pub round_fails : (old new : Code.Trail) (r : Result Sizes Halt) → Walks w (round_arrays w s o) (λ zs. zs) old r new → IfErr r (λ h. Fails w s o h)
  round_fails old new (Ok zs) h = tt
  round_fails old new (Err h) g = fails_by old new h g
