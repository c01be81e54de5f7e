-- The handle and its parts own what a box at the same types owns.
use mir.Syntax.{impl, tnil, dnil}
use mathlib.Core.List.{[]}
use mathlib.Core.Path.{◌≡◌, refl}
use Rattle.std.specs.Prelude.{Option, Some, None}
use denote.Signature.{Slot, plain}
use Rattle.std_alloc.proofs.BoxSteps.Form.{Bx}
use Rattle.std_heap.specs.contracts.Global as Heap
use Rattle.std_heap.specs.contracts.GlobalAllocator.TheImpl.{ghosts, dict}
use Rattle.std_heap.proofs.Global.TheLaws as heap
use Rattle.gridlet_c.specs.contracts.live.Live as Live
use Rattle.gridlet_c.proofs.live.Live.TheLaws as live
use Rattle.gridlet_c.specs.contracts.handle.parts.Parts as Parts
use Rattle.gridlet_c.specs.contracts.handle.Session as Session

abbrev pub E : Bx
E = record { row = Live.the_row; laws = live.the_row_laws; al = record { row = Heap.the_row; laws = heap.the_row_laws; g = ghosts; d = dict; drops = impl [] tnil dnil } }

abbrev pub FromParts : Slot 0
FromParts = plain (λ _. Parts.the_row Live.the_row Heap.the_row ghosts)

abbrev pub FromSession : Slot 0
FromSession = plain (λ _. Session.the_row)

pub some_of : {A : Type 0} (o : Option A) → (o ≡ None → ⊥) → (x : A) × (o ≡ Some x)
some_of None h = absurd (h refl)
some_of (Some x) h = (x, refl)
