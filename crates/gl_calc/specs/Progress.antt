-- How far the rounds of a calculation are: the tables from before of those that are to come, those that were made of the first ones, and that of the last one behind these.
use Rattle.std.specs.Prelude.{Bool, true, false, List, [], ◌∷◌, ◌++◌, length, nat_lt, if◌then◌else◌, Option, Some, None}
use Rattle.gl_calculus.specs.Grid.Limits.{kept_rounds}
use Rattle.gl_calculus.specs.Grid.Grid.{Addr}
use Rattle.gl_calculus.specs.Calculation.Memory.{Table, no_table}

pub record Progress : Type 0 where
  pub earlier : List Table
  pub made : List Table
  pub beyond : Option Table

abbrev pub first_of : {X : Type 0} → List X → Option X
first_of [] = None
first_of (x ∷ xs) = Some x

abbrev pub rest_of : {X : Type 0} → List X → List X
rest_of [] = []
rest_of (x ∷ xs) = xs

abbrev pub last_of : {X : Type 0} → List X → Option X
last_of [] = None
last_of (x ∷ []) = Some x
last_of (x ∷ y ∷ ys) = last_of (y ∷ ys)

abbrev pub either : {X : Type 0} → Option X → Option X → Option X
either (Some x) o = Some x
either None o = o

-- the table of the last round that was made
abbrev pub before_of : Progress → Option Table
before_of p = either p.beyond (last_of p.made)

-- what a round begins with, and what was touched since, where there may be no round before it
abbrev pub base_by : Option Table → List Addr → Option Table → Table × List Addr
base_by (Some t) touched before = (t, touched)
base_by None touched (Some t) = (t, [])
base_by None touched None = (no_table, [])

-- what the next round begins with
abbrev pub next_base : Progress → List Addr → Table × List Addr
next_base p touched = base_by (first_of p.earlier) touched (before_of p)

-- what was touched since the table was made
abbrev pub since : Bool → List Addr → List Addr
since true touched = touched
since false touched = []

-- the tables with one more
abbrev pub made_with : List Table → Table → List Table
made_with made t = if nat_lt (length made) kept_rounds then made ++ t ∷ [] else made

abbrev pub beyond_with : List Table → Table → Option Table
beyond_with made t = if nat_lt (length made) kept_rounds then None else Some t
