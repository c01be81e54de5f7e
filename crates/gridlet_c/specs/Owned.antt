-- What the handle of a session owns: a box with the session, or nothing.
use base.Fml.{Fml, ftrue}
use base.Stored.{Coded}
use denote.RawPtr.{Ptr}
use Rattle.std.specs.Coded.{coded_option}
use Rattle.std.specs.Prelude.{Option, None, Some}
use Rattle.std.specs.Box.Ownership.{box_owns}
use Rattle.std_heap.specs.declared.Global.{Global}
use Rattle.std_heap.specs.contracts.GlobalAllocator.TheImpl.{ghosts}
use Rattle.gridlet_c.specs.contracts.live.Live.{the_row}

abbrev pub owned : Global → Ptr → Option the_row.Denot → Fml
owned alloc p None = ftrue
owned alloc p (Some live) = box_owns (ghosts.dealloc_token alloc) the_row p live

abbrev pub live_coded : Coded (Option the_row.Denot)
live_coded = coded_option the_row.coded
