-- What a session has been fed, and the replies that it has given.
use Rattle.std.specs.Prelude.{◌≡◌, ◌≤◌, ℕ, false, Some, [], ◌++◌, length, drop, IsTrue, Bool, true, ◌<◌, ◌+◌}
use Rattle.gl_calculus.specs.Grid.Limits.{max_script}
use Rattle.gl_language.specs.Texts.Text.{Bytes}
use Rattle.gl_protocol.specs.Scripts.Output.{is_within_limit, items_of}
use Rattle.gl_protocol.specs.Run.Out.{WroteAll, WroteAllTelling, WroteSome}
use Rattle.gl_run.specs.Reads.{ReadsOn, has_refused}
use Rattle.gl_run.specs.declared.session.Session.{Session}
use Rattle.gl_run.specs.declared.top.Status.{Status}
use Rattle.gl_run.specs.declared.top.Status.TheVariants.{Usage, WriteFault}
use Rattle.gridlet_c.specs.Statuses.{Leaves}
use Rattle.gridlet_c.specs.declared.live.Live.{Live}
use Rattle.gridlet_c.specs.declared.live.Phase.{Phase}
use Rattle.gridlet_c.specs.declared.live.Phase.TheVariants.{Going, Quit, Limit, NoMemory, Ended}

-- the replies that wait
abbrev pub waiting_of : Live → Bytes
waiting_of live = drop live.at live.replies.taken.items

-- What holds of a session in this phase, with its count of steps, that has been fed these bytes, and whose replies so far are these: they are what a run writes for those bytes, and where it reads no more, whatever comes behind.
abbrev pub Holds : Phase → Session → ℕ → Bytes → Bytes → Type 0
Holds Going s n fed out = ReadsOn s n fed out
Holds Quit s n fed out = (more : Bytes) → IsTrue (is_within_limit (fed ++ more)) × WroteAllTelling (Some []) (Some out) (items_of (fed ++ more)) (has_refused s)
Holds Limit s n fed out = (more : Bytes) → (is_within_limit (fed ++ more) ≡ false) × WroteAll (Some []) (Some out) (items_of (fed ++ more))
Holds NoMemory s n fed out = (more : Bytes) → WroteSome (Some []) (Some out) (items_of (fed ++ more))
Holds (Ended status) s n fed out = Leaves status fed (Some []) (Some out) (λ _. ⊥)

-- while it reads on, its count is of the bytes fed
abbrev pub Counts : Phase → ℕ → Bytes → Type 0
Counts Going count fed = count ≡ length fed
Counts Quit count fed = Unit {0}
Counts Limit count fed = Unit {0}
Counts NoMemory count fed = Unit {0}
Counts (Ended status) count fed = Unit {0}

-- The session was fed these bytes, and these replies were taken from it. They and those that wait are its replies so far.
pub record HasHistory (live : Live) (fed given : Bytes) : Type 0 where
  pub holds : Holds live.phase live.session live.steps fed (given ++ waiting_of live)
  pub counts : Counts live.phase live.count fed
  pub in_replies : live.at ≤ length live.replies.taken.items

-- what was fed to a session behind a feed: all of it, unless the end was told before
abbrev pub fed_by : Phase → Bytes → Bytes → Bytes
fed_by Going fed bytes = fed ++ bytes
fed_by Quit fed bytes = fed ++ bytes
fed_by Limit fed bytes = fed ++ bytes
fed_by NoMemory fed bytes = fed ++ bytes
fed_by (Ended status) fed bytes = fed

-- the end of the input was told
abbrev pub is_ended : Phase → Bool
is_ended Going = false
is_ended Quit = false
is_ended Limit = false
is_ended NoMemory = false
is_ended (Ended status) = true

-- A feed of these bytes: it ends no session, and where one does not read on, nothing changes.
pub record Feeds (old new : Live) (bytes : Bytes) : Type 0 where
  pub unended : is_ended old.phase ≡ false → is_ended new.phase ≡ false
  pub unread : ¬ (old.phase ≡ Going) → new ≡ old
  pub history : (fed given : Bytes) → HasHistory old fed given → HasHistory new (fed_by old.phase fed bytes) given

-- These replies are taken, which waited in front, and wait no more.
pub record Takes (old new : Live) (bytes : Bytes) : Type 0 where
  pub waited : waiting_of old ≡ bytes ++ waiting_of new
  pub phase : new.phase ≡ old.phase
  pub history : (fed given : Bytes) → HasHistory old fed given → HasHistory new fed (given ++ bytes)

-- What a session that reads on is after these bytes, with more that come behind where they are cut at the limit.
abbrev pub Reads : Live → Live → Bytes → Bool → Type 0
Reads old new bytes is_cut =
    (fed given more : Bytes) → ReadsOn old.session old.steps fed (given ++ waiting_of old) → old.count ≡ length fed
    → old.at ≤ length old.replies.taken.items → (is_cut ≡ false → more ≡ []) → (is_cut ≡ true → (length fed + length bytes ≡ max_script) × (0 < length more))
    → HasHistory new (fed ++ (bytes ++ more)) given

-- but for the phase
abbrev pub IsAsBefore : Live → Live → Type 0
IsAsBefore old new = (new.session ≡ old.session) × (new.steps ≡ old.steps) × (new.replies ≡ old.replies) × (new.at ≡ old.at)

-- the end of the input is told: what was fed and taken stays, and the phase has the status of a run
abbrev pub Ends : Live → Live → Status → Type 0
Ends old new result =
    (new.phase ≡ Ended result) × ¬ (result ≡ WriteFault)
    × ((fed given : Bytes) → HasHistory old fed given → HasHistory new fed given)

-- the same by the phase before: told again, nothing changes
abbrev pub EndsBy : Phase → Live → Live → Status → Type 0
EndsBy Going old new result = Ends old new result
EndsBy Quit old new result = Ends old new result
EndsBy Limit old new result = Ends old new result
EndsBy NoMemory old new result = Ends old new result
EndsBy (Ended status) old new result = (result ≡ Usage) × (new ≡ old)

abbrev pub EndsAs : Live → Live → Status → Type 0
EndsAs old new result = EndsBy old.phase old new result
