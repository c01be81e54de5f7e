-- The root that is kept from one blank of a range to the next.
use Rattle.std.specs.Prelude.{◌≡◌, Bool, true, false, List, Option, Ok, IsTrue, IfSome, option_map}
use Rattle.std.specs.List.{list_any}
use Rattle.gl_calculus.specs.Computation.Query.{Ready}
use Rattle.gl_calculus.specs.Grid.Grid.{Addr, same_addr}
use Rattle.gl_calculus.specs.Evaluation.Facts.{fact}
use Rattle.gl_calculus.specs.Evaluation.Reference.{own}
use Rattle.gl_calculus.specs.Evaluation.Sound.{is_sound_value}
use Rattle.gl_calculus.specs.Values.Value.{Frame, Top}
use Rattle.gl_value.specs.View.{value_tree}
use Rattle.gl_value.specs.declared.Value.{Value}
use Rattle.gl_demand.specs.Walk.{Inputs, walk}
use Rattle.gl_demand.specs.Walks.{trail_tree}
use Rattle.gl_demand.specs.declared.covering.Roots.{Roots}
use Rattle.gl_demand.specs.declared.trail.Trail.{Trail}

-- the home of a root that is kept: the top, or the frame of the range
abbrev pub kept_home : Bool → Frame → Frame
kept_home true e = Top
kept_home false e = e

-- A root was looked at, and its own value, read again, is this and leaves the trail.
pub record IsRead (w : Inputs) (e : Frame) (root : Addr) (v : Option Value) (roots : List Addr) (t : Trail) : Type 0 where
  pub seen : list_any (same_addr root) roots ≡ true
  pub own : walk w (own e (fact w.cells w.oracle root)) (trail_tree t) ≡ (Ready (Ok (option_map value_tree v)), trail_tree t)
  pub sound : IfSome v (λ x. IsTrue (is_sound_value (value_tree x)))

-- so it is with the root that is kept, if there is one
abbrev pub IsKept : Inputs → Frame → Roots → Trail → Type 0
IsKept w e r t = IfSome r.last (λ k. IsRead w (kept_home k.top e) k.root k.value r.seen.keys t)
