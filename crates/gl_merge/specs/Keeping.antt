-- What the registers are with one edit more.
use Rattle.std.specs.Prelude.{◌≡◌, ◌+◌, ◌<◌, ◌≤◌, ◌⊎◌, ℕ, List, Some, slice_get, slice_set, IsSome, is_some, if◌then◌else◌, Vec, vec_len, vec_capacity}
use Rattle.std.specs.List.{AllByRecursion}
use Rattle.gl_calculus.specs.Grid.Grid.{Addr}
use Rattle.gl_calculus.specs.Edits.Limits.{max_registers}
use Rattle.gl_calculus.specs.Edits.Replicas.{is_earlier, with_edit}
use Rattle.gl_merge.specs.Edit.{EditValue, edit_tree}
use Rattle.gl_merge.specs.Index.{IsIndex, register_in, registers}

-- one edit more, and its place in the index, need no memory, and pass no limit
pub record HasRoom {Z : Type 0} (es : Vec EditValue Z) (ix : Vec (Addr × ℕ) Z) : Type 0 where
  pub few : vec_len ix < max_registers
  pub edits : vec_len es < vec_capacity es
  pub index : vec_len ix < vec_capacity ix

-- there is a register of its address, or room for one more
abbrev pub CanKeep : {Z : Type 0} → Vec EditValue Z → Vec (Addr × ℕ) Z → EditValue → Type 0
CanKeep es ix e = IsSome (register_in es.items ix.items e.place) ⊎ HasRoom es ix

-- the edit stands in the slot where that is one of an earlier edit
abbrev pub Replaces : List EditValue → ℕ → EditValue → List EditValue → Type 0
Replaces es s e es' =
    (d : EditValue) → slice_get es s ≡ Some d → es' ≡ (if is_earlier d.stamp e.stamp then slice_set es s e else es)

pub record Keeps {Z : Type 0} (es : Vec EditValue Z) (ix : Vec (Addr × ℕ) Z) (e : EditValue) (es' : Vec EditValue Z) (ix' : Vec (Addr × ℕ) Z) : Type 0 where
  pub index : IsIndex es'.items ix'.items
  pub kept : registers es'.items ix'.items ≡ with_edit (registers es.items ix.items) (edit_tree e)
  pub edits_count : vec_len es' ≡ vec_len es + (if is_some (register_in es.items ix.items e.place) then 0 else 1)
  pub index_count : vec_len ix' ≡ vec_len ix + (if is_some (register_in es.items ix.items e.place) then 0 else 1)
  pub edits_capacity : vec_capacity es' ≡ vec_capacity es
  pub index_capacity : vec_capacity ix' ≡ vec_capacity ix
  pub past : (n : ℕ) → AllByRecursion (λ (d : EditValue). d.stamp.time ≤ n) es.items → e.stamp.time ≤ n → AllByRecursion (λ (d : EditValue). d.stamp.time ≤ n) es'.items
