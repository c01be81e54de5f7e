-- The addresses of a range read one after another.
use Rattle.std.proofs.Common.{◌≡◌, IsTrue, List, [], ◌∷◌, ◌++◌, map, Result, Ok, Err, IfOk, IfErr, ap, sym, subst, ◌∙◌}
use Rattle.std.proofs.lemmas.List.{append-nil, map-append}
use Rattle.std.specs.declared.alloc.Global.{Global}
use Rattle.std.specs.declared.vec.Vec.{Vec}
use Rattle.gl_calculus.specs.Computation.Query.{Ready}
use Rattle.gl_calculus.specs.Computation.Evaluation.{given}
use Rattle.gl_calculus.specs.Grid.Grid.{Addr, Range, extents}
use Rattle.gl_calculus.specs.Values.Value as V
use Rattle.gl_calculus.specs.Values.Value.{Frame}
use Rattle.gl_calculus.specs.Evaluation.Facts.{Fact, facts}
use Rattle.gl_calculus.specs.Evaluation.Key.{Eval, give, on_result, ◌>>=◌}
use Rattle.gl_calculus.specs.Evaluation.Reference.{at_range}
use Rattle.gl_machine.specs.Seen.{Reading, deref_seen, deref_all_seen}
use Rattle.gl_calculus.specs.Evaluation.Sound.{is_sound_scalar, are_sound}
use Rattle.gl_lift.proofs.Soundness.{sound_more}
use Rattle.gl_value.specs.View.{scalar_tree, value_tree, item_trees}
use Rattle.gl_value.specs.declared.Scalar.{Scalar}
use Rattle.gl_value.specs.declared.Value.{Value}
use Rattle.gl_demand.specs.Walk.{Inputs, Trail, walk, then_walk, looking, behind}
use Rattle.gl_machine.specs.Ahead.Ahead.{IsAhead}
use Rattle.gl_machine.specs.Ahead.Demands.{is_value}
use Rattle.gl_machine.specs.Ahead.Reading as A
use Rattle.gl_machine.specs.Ahead.Reading.{keys_from}
use Rattle.laws_calculus.proofs.Ahead.Ranges.{range_demands}
use Rattle.laws_calculus.proofs.Calculus.ReadsOnce.{reads_once}
use Rattle.gl_demand.specs.Stopped.{IsHaltIn}
use Rattle.gl_demand.specs.Walks.{EndsWalk, Walks, trail_tree}
use Rattle.gl_demand.specs.Seen.{AreSeen, ReadsOne}
use Rattle.gl_demand.specs.declared.trail.Trail as Code
use Rattle.gl_demand.specs.declared.trail.Halt.{Halt}
use Rattle.gl_demand.specs.declared.trail.Halt.TheVariants as halt
use Rattle.gl_demand.proofs.Walking.{over, Same, now, walk-bind, walk-on, goes_on, later, ends_later, ends_bind, halts_in, behind_twice, behind_none, joined}
use Rattle.gl_demand.proofs.Seeing.{none_seen}
use Rattle.gl_demand.proofs.References.{gives}

-- What a reference has read so far: its walk goes on with the facts that are left.
pub record ReadSoFar (w : Inputs) (e : Frame) (all : List Fact) (start : Code.Trail) (roots : List Addr) (before : List Scalar) (rest : List Fact) (now : Code.Trail) : Type 0 where
  pub seen : List Fact
  pub are_seen : AreSeen w roots seen
  pub walked : walk w (deref_all_seen e [] all) (trail_tree start) ≡ behind (map scalar_tree before) (walk w (deref_all_seen e seen rest) (trail_tree now))

pub still_sound : (xs ys : List Scalar) (x : Scalar) → ys ≡ xs ++ x ∷ [] → IsTrue (are_sound (item_trees xs)) → IsTrue (is_sound_scalar (scalar_tree x)) → IsTrue (are_sound (item_trees ys))
still_sound xs ys x e h k = subst (λ zs. IsTrue (are_sound (item_trees zs))) (sym e) (sound_more xs x h k)

module _ (w : Inputs) (e : Frame) where
  module _ (s : List Fact) (x : Fact) (rest : List Fact) where
    abbrev on : Reading → Eval (List V.Scalar)
    on y = deref_all_seen e y.1 rest >>= λ ys. give (y.0 ∷ ys)

    next_walk : (out : List V.Scalar) (t u : Trail) (y : V.Scalar) (s' : List Fact) → walk w (deref_seen e s x) t ≡ (Ready (Ok (y, s')), u)
        → behind out (walk w (deref_all_seen e s (x ∷ rest)) t) ≡ behind (out ++ y ∷ []) (walk w (deref_all_seen e s' rest) u)
    next_walk out t u y s' h =
        ap (behind out) (walk-on w on (deref_seen e s x) t (y, s') u h ∙ walk-bind w (on_result (λ ys. give (y ∷ ys))) (deref_all_seen e s' rest) u ∙ joined w (y ∷ []) (walk w (deref_all_seen e s' rest) u))
        ∙ behind_twice out (y ∷ []) (walk w (deref_all_seen e s' rest) u)

  module _ (all : List Fact) (start : Code.Trail) where
    pub read_none : (roots : List Addr) (items : List Scalar) → roots ≡ [] → items ≡ [] → ReadSoFar w e all start roots items all start
    read_none roots items h k = record {
      seen = [];
      are_seen = subst (λ ks. AreSeen w ks []) (sym h) (none_seen w);
      walked = sym (behind_none (walk w (deref_all_seen e [] all) (trail_tree start))) ∙ ap (λ xs. behind (map scalar_tree xs) (walk w (deref_all_seen e [] all) (trail_tree start))) (sym k);
    }

    module _ (x : Fact) (rest left : List Fact) (roots roots' : List Addr) (before after : List Scalar) (mid new : Code.Trail) (far : ReadSoFar w e all start roots before left mid) (split : left ≡ x ∷ rest) where
      opened : walk w (deref_all_seen e [] all) (trail_tree start) ≡ behind (map scalar_tree before) (walk w (deref_all_seen e far.seen (x ∷ rest)) (trail_tree mid))
      opened = far.walked ∙ ap (λ l. behind (map scalar_tree before) (walk w (deref_all_seen e far.seen l) (trail_tree mid))) split

      pub read_more : (y : Scalar) → ReadsOne w (deref_seen e far.seen x) mid (Ok y) roots' new → after ≡ before ++ y ∷ [] → ReadSoFar w e all start roots' after rest new
      read_more y r k = record {
        seen = r.seen;
        are_seen = r.are_seen;
        walked =
            opened
            ∙ next_walk far.seen x rest (map scalar_tree before) (trail_tree mid) (trail_tree new) (scalar_tree y) r.seen r.walk
            ∙ ap (λ l. behind l (walk w (deref_all_seen e r.seen rest) (trail_tree new))) (sym (ap (map scalar_tree) k ∙ map-append scalar_tree before (y ∷ [])));
      }

      -- a halt ends the whole
      pub read_halts : (h : Halt) → ReadsOne w (deref_seen e far.seen x) mid (Err h) roots' new → EndsWalk {T = Vec Scalar Global} w (deref_all_seen e [] all) (λ v. map scalar_tree v.items) start (Err h) new
      read_halts (halt.Need k a) r = opened ∙ ap (behind (map scalar_tree before)) (walk-bind w (on_result (on far.seen x rest)) (deref_seen e far.seen x) (trail_tree mid) ∙ ap (λ z. then_walk z (λ o v. walk w (on_result (on far.seen x rest) o) v)) r.walk.0)
      read_halts (halt.Spent b) r = opened ∙ ap (behind (map scalar_tree before)) (walk-bind w (on_result (on far.seen x rest)) (deref_seen e far.seen x) (trail_tree mid) ∙ ap (λ z. then_walk z (λ o v. walk w (on_result (on far.seen x rest) o) v)) r.walk)
      read_halts halt.NoMemory r = tt

    pub read_all : (roots : List Addr) (items : List Scalar) (left : List Fact) (now : Code.Trail) → ReadSoFar w e all start roots items left now → left ≡ [] → walk w (deref_all_seen e [] all) (trail_tree start) ≡ (Ready (Ok (map scalar_tree items)), trail_tree now)
    read_all roots items left now far h =
        far.walked ∙ ap (λ l. behind (map scalar_tree items) (walk w (deref_all_seen e far.seen l) (trail_tree now))) h ∙ ap (λ l. (Ready (Ok l), trail_tree now)) (append-nil (map scalar_tree items))

  -- ---- a range

  module _ (r : Range) (old mid new : Code.Trail) where
    abbrev made : List V.Scalar → Eval V.Value
    made ys = give (V.Value.Array (extents r) (V.scalars ys))

    abbrev scalars_read : Eval (List V.Scalar)
    scalars_read = deref_all_seen e [] (facts w.cells w.oracle r)

    range_walk : trail_tree mid ≡ looking r (trail_tree old) → Same w (at_range e r) (trail_tree old) (scalars_read >>= made) (trail_tree mid)
    range_walk m = subst (λ p. Same w p (trail_tree old) (scalars_read >>= made) (trail_tree mid)) (sym (reads_once e r)) (λ v n. ap (walk (over w v) (scalars_read >>= made)) (sym m))

    pub range_on : (items : Vec Scalar Global) (o : Result Value Halt) → trail_tree mid ≡ looking r (trail_tree old) → EndsWalk w scalars_read (λ (v : Vec Scalar Global). map scalar_tree v.items) mid (Ok items) new
        → IfOk o (λ v. value_tree v ≡ V.Value.Array (extents r) (item_trees items.items)) → IfErr o (λ h. h ≡ halt.NoMemory) → Walks w (at_range e r) value_tree old o new
    range_on items o m k c d =
        later w (at_range e r) (scalars_read >>= made) value_tree old mid new o (range_walk m)
        (goes_on w made scalars_read (λ (v : Vec Scalar Global). map scalar_tree v.items) value_tree mid new new items o k (gives w (V.Value.Array (extents r) (item_trees items.items)) value_tree new o c d))

    -- what a range demands is ahead of it
    range_ahead : IsAhead is_value (given (facts w.cells w.oracle) (at_range e r)) w.known (keys_from w.cells w.oracle (A.Area e r) 0)
    range_ahead v n i d = (range_demands w.cells w.oracle e r v).0 i d

    pub range_halts : (h h' : Halt) → trail_tree mid ≡ looking r (trail_tree old) → EndsWalk w scalars_read (λ (v : Vec Scalar Global). map scalar_tree v.items) mid (Err h) new → IsHaltIn (A.Area e r) h h' → Walks w (at_range e r) value_tree old (Err h') new
    range_halts h h' m k s =
        halts_in w (at_range e r) value_tree value_tree (A.Area e r) old new h h' range_ahead
        (ends_later w (at_range e r) (scalars_read >>= made) value_tree old mid new (Err h) (now w (at_range e r) (scalars_read >>= made) (trail_tree old) (trail_tree mid) (range_walk m))
        (ends_bind w made scalars_read (λ (v : Vec Scalar Global). map scalar_tree v.items) value_tree mid new h k)) s
