-- How a spilled array is read: the parts put together.
use Rattle.std.proofs.Common.{◌≡◌, Option, Some, None, Result, Ok, Err, IfSome, IsTrue, option_map, refl, ap, sym, subst, ◌∙◌}
use Rattle.gl_calculus.specs.Computation.Query.{Ready}
use Rattle.gl_calculus.specs.Grid.Grid.{Addr, single}
use Rattle.gl_calculus.specs.Values.Value as V
use Rattle.gl_calculus.specs.Values.Value.{Frame, Permitted}
use Rattle.gl_calculus.specs.Formulas.Formula.{content}
use Rattle.gl_calculus.specs.Evaluation.Facts.{Fact, fact}
use Rattle.gl_calculus.specs.Evaluation.Key.{Eval, give}
use Rattle.gl_calculus.specs.Evaluation.Reference.{Held, home, own, own_content, status_in, whole, spilling, spill_of}
use Rattle.gl_calculus.specs.Evaluation.Sound.{is_sound_value}
use Rattle.laws_calculus.proofs.Calculus.Proper.{fact_at_single}
use Rattle.gl_value.specs.View.{value_tree}
use Rattle.gl_value.specs.declared.Value.{Value}
use Rattle.gl_demand.specs.Walk.{Inputs, walk, looking}
use Rattle.gl_demand.specs.Walks.{Walks, trail_tree}
use Rattle.gl_demand.specs.declared.trail.Trail.{Trail}
use Rattle.gl_demand.specs.declared.trail.Halt.{Halt}
use Rattle.gl_demand.proofs.Walking.{over, goes_on, halts, later}

pub spilling_sound : (o : Option Value) → IfSome o (λ x. IsTrue (is_sound_value (value_tree x))) → IsTrue (is_sound_value (spilling (option_map value_tree o)))
spilling_sound None h = refl
spilling_sound (Some v) h = by (value_tree v) h
  where
    by : (x : V.Value) → IsTrue (is_sound_value x) → IsTrue (is_sound_value (spilling (Some x)))
    by (V.Value.One y) k = refl
    by (V.Value.Array s xs) k = k

module _ (w : Inputs) (e : Frame) (a : Addr) (old mid new : Trail) where
  pub permitted_ok : (h : Held) (v : Option Value) (x : Value) → Walks w (own e (fact w.cells w.oracle a)) (option_map value_tree) old (Ok v) new → value_tree x ≡ spilling (option_map value_tree v) → Walks w (whole e (fact w.cells w.oracle a) (Some h) (Some Permitted)) value_tree old (Ok x) new
  permitted_ok h v x m q = goes_on w (λ o. give (spilling o)) (own e (fact w.cells w.oracle a)) (option_map value_tree) value_tree old new new v (Ok x) m (ap (λ z. (Ready (Ok z), trail_tree new)) (sym q))

  pub permitted_halts : (h : Held) (n : Halt) → Walks w (own e (fact w.cells w.oracle a)) (option_map value_tree) old (Err n) new → Walks w (whole e (fact w.cells w.oracle a) (Some h) (Some Permitted)) value_tree old (Err n) new
  permitted_halts h n m = halts w (λ o. give (spilling o)) (own e (fact w.cells w.oracle a)) (option_map value_tree) value_tree old new n m

  -- what is read in the home frame
  abbrev at_home : Frame → Fact → Eval V.Value
  at_home h x = whole h x (own_content x.content h a) (status_in x h)

  pub spill_on : (h : Frame) (r : Result Value Halt) → h ≡ home e a → trail_tree mid ≡ looking (single a) (trail_tree old) → Walks w (whole h (fact w.cells w.oracle a) (own_content (content w.cells a) h a) (status_in (fact w.cells w.oracle a) h)) value_tree mid r new → Walks w (spill_of e a) value_tree old r new
  spill_on h r q m k =
      later w (spill_of e a) (at_home (home e a) (fact w.cells w.oracle a)) value_tree old mid new r
      (λ v n. ap (λ x. walk (over w v) (at_home (home e a) x) (looking (single a) (trail_tree old))) (fact_at_single w.cells w.oracle a) ∙ ap (walk (over w v) (at_home (home e a) (fact w.cells w.oracle a))) (sym m))
      (subst (λ z. Walks w (at_home z (fact w.cells w.oracle a)) value_tree mid r new) q k)
