-- How the addresses that a formula reads first are gone through.
use Rattle.std.specs.Prelude.{◌≡◌, ℕ, ◌<◌, List, drop, Result, Ok, Err, Some, None, IsTrue}
use Rattle.gl_calculus.specs.Grid.Grid.{Addr}
use Rattle.gl_calculus.specs.Values.Value.{Frame}
use Rattle.gl_calculus.specs.Evaluation.Facts.{fact}
use Rattle.gl_calculus.specs.Evaluation.Key as K
use Rattle.gl_calculus.specs.Evaluation.Sound.{is_sound_key}
use Rattle.gl_plane.specs.declared.NoMemory.{NoMemory}
use Rattle.gl_machine.specs.Ahead.Ahead.{first_lacked, LackSame}
use Rattle.gl_machine.specs.Ahead.Demands.{is_value, reads_keys}
use Rattle.gl_demand.specs.View.{key_tree}
use Rattle.gl_demand.specs.Walk.{Inputs}
use Rattle.gl_demand.specs.declared.lacking.Passing.{Passing}
use Rattle.gl_demand.specs.declared.lacking.Passing.TheVariants.{On, Lacks, Ends}
use Rattle.gl_demand.specs.declared.own_reads.Way.{Way}

-- what these addresses demand from the i-th on
abbrev pub own_keys_from : Inputs → Frame → List Addr → ℕ → List K.Key
own_keys_from w e all i = reads_keys (fact w.cells w.oracle) e (drop i all)

-- What is needed from the first place on is needed by what is left, and from this place on, where what is left stands unless the place is the last that can be told.
abbrev pub Stands : Inputs → Frame → (all : List Addr) → (from : ℕ) → (left : List Addr) → (place : ℕ) → Type 0
Stands w e all from left place =
    LackSame is_value w.known (own_keys_from w e all from) (reads_keys (fact w.cells w.oracle) e left) ×
    LackSame is_value w.known (own_keys_from w e all from) (own_keys_from w e all place) ×
    (place < 4294967295 → drop place all ≡ left)

-- the way goes on with what follows, or ends at a key that is needed, or where none is
abbrev pub Goes : Inputs → Frame → (all : List Addr) → (from : ℕ) → (on : List Addr) → Passing → Way → Type 0
Goes w e all from on On way = Stands w e all from (drop way.skip on) way.place
Goes w e all from on (Lacks k) way = (first_lacked is_value w.known (own_keys_from w e all from) ≡ Some (key_tree k)) × LackSame is_value w.known (own_keys_from w e all from) (own_keys_from w e all way.place) × IsTrue (is_sound_key (key_tree k))
Goes w e all from on Ends way = first_lacked is_value w.known (own_keys_from w e all from) ≡ None

-- These reads are gone through, whatever follows them.
abbrev pub Passes : Inputs → Frame → (List Addr → List Addr) → Way → Result Passing NoMemory → Way → Type 0
Passes w e reads old (Ok p) new = (all : List Addr) (from : ℕ) (on : List Addr) → Stands w e all from (drop old.skip (reads on)) old.place → Goes w e all from on p new
Passes w e reads old (Err n) new = Unit {0}
