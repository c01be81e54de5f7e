-- Edits in the order of their taking, with an index in the order of their addresses.
use Rattle.std.specs.Prelude.{◌≡◌, ℕ, List, [], ◌∷◌, map, length, Option, Some, None, slice_get}
use Rattle.std.specs.List.{AllByRecursion}
use Rattle.gl_calculus.specs.Computation.Lists.{AreDistinct}
use Rattle.gl_calculus.specs.Grid.Grid.{Addr, AreInOrder}
use Rattle.gl_calculus.specs.Edits.Replicas as R
use Rattle.gl_merge.specs.Edit.{EditValue, edit_tree}

-- addresses, each with the slot of its edit
abbrev pub Index : Type 0
Index = List (Addr × ℕ)

abbrev pub places : Index → List Addr
places ix = map (λ (p : Addr × ℕ). p.0) ix

abbrev pub slots : Index → List ℕ
slots ix = map (λ (p : Addr × ℕ). p.1) ix

abbrev pub and_edit : Option EditValue → List EditValue → List EditValue
and_edit (Some e) es = e ∷ es
and_edit None es = es

-- the edits at the slots of an index
abbrev pub listed : List EditValue → Index → List EditValue
listed es [] = []
listed es (p ∷ ix) = and_edit (slice_get es p.1) (listed es ix)

abbrev pub trees : List EditValue → List R.Edit
trees es = map {B = R.Edit} edit_tree es

abbrev pub registers : List EditValue → Index → List R.Edit
registers es ix = trees (listed es ix)

-- the slot holds an edit of this address
abbrev pub StandsAt : List EditValue → Addr × ℕ → Type 0
StandsAt es p = (e : EditValue) × (slice_get es p.1 ≡ Some e) × (e.place ≡ p.0)

pub record IsIndex (es : List EditValue) (ix : Index) : Type 0 where
  pub ordered : AreInOrder (places ix)
  pub apart : AreDistinct (slots ix)
  pub stands : AllByRecursion (StandsAt es) ix
  pub count : length ix ≡ length es

-- the register of an address
abbrev pub register_in : List EditValue → Index → Addr → Option R.Edit
register_in es ix a = R.register_at (registers es ix) a
