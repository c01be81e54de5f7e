-- How an address, a range and a spilled array are read in a frame.
use Rattle.std.specs.Prelude.{ℕ, Bool, true, false, List, [], ◌∷◌, Option, Some, None}
use Rattle.std.specs.Prelude.{if◌then◌else◌}
use Rattle.gl_calculus.specs.Computation.Evaluation.{Done, LookAt, Demand}
use Rattle.gl_calculus.specs.Grid.Grid.{Addr, Range, single, extents, covers}
use Rattle.gl_calculus.specs.Values.ErrKind.{ErrKind}
use Rattle.gl_calculus.specs.Values.Value.{Permit, Permitted, Refused, Scalar, Blank, Value, One}
use Rattle.gl_calculus.specs.Values.Value.{Array, scalars, sheet_value, Frame, Top, In, region}
use Rattle.gl_calculus.specs.Values.Sheet.{override_at}
use Rattle.gl_calculus.specs.Formulas.Formula.{Formula, Content, Const, Form}
use Rattle.gl_calculus.specs.Evaluation.Oracle.{status, Cover, cover}
use Rattle.gl_calculus.specs.Evaluation.Facts.{Fact, find_fact, fact_at}
use Rattle.gl_calculus.specs.Values.Lift.{item, item_or}
use Rattle.gl_calculus.specs.Evaluation.Key.{Cell, Eval, give, ◌>>=◌, own_value}

-- ---- frames

-- the frame in which an address is read: the nearest outward whose region has it, or the top
abbrev pub home : Frame → Addr → Frame
home Top a = Top
home (In (sheet_value r os e k w) o) a =
    if covers r a then In (sheet_value r os e k w) o else home e a

-- what an address holds in a frame: a value that is given, or a formula
pub data Held : Type 0 where
  Given : Value → Held
  Computed : Formula → Held

-- a formula is held
abbrev pub is_computed : Option Held → Bool
is_computed None = false
is_computed (Some (Given v)) = false
is_computed (Some (Computed f)) = true

abbrev pub held_top : Option Content → Option Held
held_top None = None
held_top (Some (Const x)) = Some (Given (One x))
held_top (Some (Form f)) = Some (Computed f)

abbrev pub override_or : Option Value → Option Held → Option Held
override_or (Some v) h = Some (Given v)
override_or None h = h

-- the nearest override outward, else the content that the sheet has there
abbrev pub content_in : Option Content → Frame → Addr → Option Held
content_in c Top a = held_top c
content_in c (In (sheet_value r os e k w) o) a = override_or (override_at os a) (content_in c e a)

abbrev pub in_region : Frame → Addr → Bool
in_region Top a = true
in_region (In s o) a = covers (region s) a

-- the content of an address that is in the region of the frame
abbrev pub own_content : Option Content → Frame → Addr → Option Held
own_content c e a = if in_region e a then content_in c e a else None

-- what the oracle of a frame says of an address
abbrev pub status_in : Fact → Frame → Option Permit
status_in x Top = x.status
status_in x (In s o) = status o x.address

abbrev pub cover_in : Fact → Frame → Option Cover
cover_in x Top = x.cover
cover_in x (In s o) = cover o x.address

-- ---- own values

-- a formula's value is demanded, any other one is given
abbrev pub value_of : Frame → Addr → Option Held → Eval (Option Value)
value_of e a None = give None
value_of e a (Some (Given v)) = give (Some v)
value_of e a (Some (Computed f)) = Demand (Cell e a) own_value

-- the own value of an address, if it has content in the frame's region
abbrev pub own : Frame → Fact → Eval (Option Value)
own e x = value_of e x.address (own_content x.content e x.address)

-- ---- references

-- what an address with content shows: an array its corner, unless it is refused
abbrev pub shown : Option Permit → Value → Scalar
shown p (One x) = x
shown (Some Refused) v = Scalar.Err ErrKind.Spill
shown p v = item v 0 0

-- the element at an offset of a root's own value; a blank where there is none
abbrev pub spilled : Option Value → ℕ → ℕ → Scalar
spilled (Some (Array s xs)) i j = item_or Blank (Array s xs) i j
spilled v i j = Blank

-- the array that spills from a root
abbrev pub spilling : Option Value → Value
spilling (Some (Array s xs)) = Array s xs
spilling v = One (Scalar.Err ErrKind.Ref)

-- what a covering root shows at an address
abbrev pub covered : Frame → Option Cover → Eval Scalar
covered e None = give Blank
covered e (Some c) = LookAt (single c.root) (λ xs.
    own e (fact_at xs c.root) >>= λ v. give (spilled v c.rows c.cols))

-- what an address shows, by its own value
abbrev pub shown_by : Frame → Fact → Option Value → Eval Scalar
shown_by e x (Some v) = give (shown (status_in x e) v)
shown_by e x None = covered e (cover_in x e)

-- the scalar at an address, read in its home frame
abbrev pub deref : Frame → Fact → Eval Scalar
deref e x = let h = home e x.address in own h x >>= shown_by h x

abbrev pub deref_all : Frame → List Fact → Eval (List Scalar)
deref_all e [] = give []
deref_all e (x ∷ xs) = deref e x >>= λ y. deref_all e xs >>= λ ys. give (y ∷ ys)

-- the same evaluation, where what was looked at alone is not looked at again
abbrev pub once : {R : Type 0} → List Fact → Eval R → Eval R
once seen (Done r) = Done r
once seen (Demand k c) = Demand k (λ o. once seen (c o))
once seen (LookAt r c) = elim (find_fact seen r.first) [
  | Some x ↦ once seen (c (x ∷ []))
  | None ↦ LookAt r (λ xs. once (fact_at xs r.first ∷ seen) (c xs))
]

-- `a`, `a:b` and `a#`: each looks at its address or range as written, and then reads it; one
-- reference to a range looks at a root once
abbrev pub at_address : Frame → Addr → Eval Value
at_address e a = LookAt (single a) (λ xs. deref e (fact_at xs a) >>= λ y. give (One y))

abbrev pub at_range : Frame → Range → Eval Value
at_range e r = LookAt r (λ xs.
    once [] (deref_all e xs >>= λ ys. give (Array (extents r) (scalars ys))))

-- a whole array, where the address has content and its frame's oracle permits it
abbrev pub whole : Frame → Fact → Option Held → Option Permit → Eval Value
whole e x (Some h) (Some Permitted) = own e x >>= λ v. give (spilling v)
whole e x (Some h) (Some Refused) = give (One (Scalar.Err ErrKind.Spill))
whole e x h p = give (One (Scalar.Err ErrKind.Ref))

abbrev pub spill_of : Frame → Addr → Eval Value
spill_of e a = LookAt (single a) (λ xs.
    let x = fact_at xs a in
    let h = home e a in
    whole h x (own_content x.content h a) (status_in x h))
