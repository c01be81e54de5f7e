-- The statuses of calls from C, and what a call leaves.
use Rattle.std.specs.Prelude.{◌≡◌, ℕ, nat_lt, Bool, false, ◌||◌, ◌==◌, IsTrue}
use Rattle.std.specs.declared.option.Option.{Option}
use Rattle.gl_language.specs.Texts.Text.{Bytes}
use Rattle.gl_protocol.specs.Scripts.Output.{is_within_limit, items_of}
use Rattle.gl_protocol.specs.Run.Out.{WroteAll, WroteAllTelling, WroteSome, WroteCut, Exceeds}
use Rattle.gl_run.specs.declared.top.Status.{Status}
use Rattle.gl_run.specs.declared.top.Status.TheVariants.{Done, Usage, NoMemory, ReadFault, WriteFault, InputLimit}

-- no rule has this order, or there is no room for a reply
abbrev pub is_unusable : (order room : ℕ) → Bool
is_unusable order room = nat_lt 2 order || room == 0

-- What a call with this status leaves of a script, over the bytes taken before and after; and for which n so many bytes had room.
abbrev pub Leaves : Status → Bytes → Option Bytes → Option Bytes → (ℕ → Type 0) → Type 0
Leaves (Done refused) script old new room = IsTrue (is_within_limit script) × WroteAllTelling old new (items_of script) refused
Leaves Usage script old new room = ⊥
Leaves NoMemory script old new room = WroteSome old new (items_of script)
Leaves ReadFault script old new room = ⊥
Leaves WriteFault script old new room = WroteCut old new (items_of script) × ((n : ℕ) → room n → Exceeds n (items_of script))
Leaves InputLimit script old new room = (is_within_limit script ≡ false) × WroteAll old new (items_of script)

-- the call ended by its script, so that the replies are whole
abbrev pub IsWhole : Status → Type 0
IsWhole (Done refused) = Unit {0}
IsWhole InputLimit = Unit {0}
IsWhole x = ⊥
