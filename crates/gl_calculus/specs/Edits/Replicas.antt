-- Stamped edits, and the replica that keeps the latest one of each address.
use Rattle.std.specs.Prelude.{◌≡◌, ◌≢◌, ℕ, ◌+◌, ◌==◌, max, nat_lt, nat_le, Bool, ◌&&◌, ◌||◌, IsTrue}
use Rattle.std.specs.Prelude.{⊤, List, [], ◌∷◌, length, Option, Some, None, if◌then◌else◌, count_by}
use Rattle.std.specs.Prelude.{is_none, find, fold, map}
use Rattle.std.specs.List.{AllByRecursion}
use Rattle.gl_calculus.specs.Grid.Grid.{Addr, same_addr, is_before}
use Rattle.gl_calculus.specs.Formulas.Formula.{Content, Cells}
use Rattle.gl_calculus.specs.Edits.Limits.{max_time, max_site, max_registers}

pub record Stamp : Type 0 where
  pub time : ℕ
  pub site : ℕ

abbrev pub stamp : ℕ → ℕ → Stamp
stamp t n = record { time = t; site = n }

-- by time, then by site
abbrev pub is_earlier : Stamp → Stamp → Bool
is_earlier s t = nat_lt s.time t.time || ((s.time == t.time) && nat_lt s.site t.site)

-- the numbers of a stamp
abbrev pub is_stamp : ℕ → ℕ → Bool
is_stamp t n = (nat_lt 0 t && nat_le t max_time) && nat_le n max_site

-- an address with the content that it gets, or with none where it loses its content
abbrev pub Changes : Type 0
Changes = List (Addr × Option Content)

pub record Edit : Type 0 where
  pub stamp : Stamp
  pub place : Addr
  pub content : Option Content

-- what an edit is to the register of its address
pub data Judged : Type 0 where
  Wins Loses Same Conflict : Judged

abbrev pub IsJudged : Option Edit → Edit → Judged → Type 0
IsJudged None e Wins = ⊤
IsJudged None e j = ⊥
IsJudged (Some r) e Wins = IsTrue (is_earlier r.stamp e.stamp)
IsJudged (Some r) e Loses = IsTrue (is_earlier e.stamp r.stamp)
IsJudged (Some r) e Same = (r.stamp ≡ e.stamp) × (r.content ≡ e.content)
IsJudged (Some r) e Conflict = (r.stamp ≡ e.stamp) × (r.content ≢ e.content)

-- it is no conflict with the register
abbrev pub IsTakeable : Option Edit → Edit → Type 0
IsTakeable o e = (j : Judged) × IsJudged o e j × (j ≢ Conflict)

-- the register of an address, of registers in the order of their addresses
abbrev pub register_at : List Edit → Addr → Option Edit
register_at rs a = find (λ r. same_addr a r.place) rs

-- with an edit: the later of two at one address stays
abbrev pub with_edit : List Edit → Edit → List Edit
with_edit [] e = e ∷ []
with_edit (r ∷ rs) e =
    if same_addr e.place r.place then (if is_earlier r.stamp e.stamp then e else r) ∷ rs
    else if is_before e.place r.place then e ∷ r ∷ rs else r ∷ with_edit rs e

-- what the registers hold
abbrev pub contents_of : List Edit → Cells
contents_of [] = []
contents_of (e ∷ es) = and_then e.content (contents_of es)
  where
    and_then : Option Content → Cells → Cells
    and_then (Some c) S = (e.place, c) ∷ S
    and_then None S = S

-- its clock is the greatest time that it has seen
pub record Replica : Type 0 where
  pub site : ℕ
  pub clock : ℕ
  pub registers : List Edit

abbrev pub new_replica : ℕ → Replica
new_replica n = record { site = n; clock = 0; registers = [] }

abbrev pub next_stamp : Replica → Option Stamp
next_stamp r = if nat_lt r.clock max_time then Some (stamp (r.clock + 1) r.site) else None

-- the replica that has taken an edit, or one edit after the other
abbrev pub taking : Replica → Edit → Replica
taking r e =
    record { site = r.site; clock = max r.clock e.stamp.time; registers = with_edit r.registers e }

abbrev pub taking_all : Replica → List Edit → Replica
taking_all = fold taking

-- each edit is no conflict with what those before it leave
abbrev pub AreTakeable : Replica → List Edit → Type 0
AreTakeable r [] = ⊤
AreTakeable r (e ∷ es) =
    IsTakeable (register_at r.registers e.place) e × AreTakeable (taking r e) es

-- the edits that changes of its own are
abbrev pub stamped : Stamp → Changes → List Edit
stamped s cs = map (λ c. record { stamp = s; place = c.0; content = c.1 }) cs

abbrev pub has_room : Replica → Bool
has_room r = nat_le (length r.registers) max_registers

-- how many of these addresses have no register
abbrev pub missing : List Edit → List Addr → ℕ
missing rs ps = count_by (λ a. is_none (register_at rs a)) ps

-- every edit with this stamp wins over the register
abbrev pub IsOlder : Option Edit → Stamp → Type 0
IsOlder None t = ⊤
IsOlder (Some r) t = IsTrue (is_earlier r.stamp t)

abbrev pub AreOlder : List Edit → Stamp → Changes → Type 0
AreOlder rs t cs = AllByRecursion (λ (c : Addr × Option Content). IsOlder (register_at rs c.0) t) cs
