-- The addresses that a command touches.
use Rattle.std.specs.Prelude.{List, [], ◌∷◌, ◌++◌, map, fold, Option, Some, None, Bool, true}
use Rattle.std.specs.Prelude.{if◌then◌else◌}
use Rattle.std.specs.Option.{option_map_or}
use Rattle.gl_calculus.specs.Grid.Grid.{Addr, single}
use Rattle.gl_calculus.specs.Formulas.Formula.{Content, Cells}
use Rattle.gl_calculus.specs.Edits.Replicas.{Changes, Edit, is_earlier}
use Rattle.gl_calculus.specs.Edits.Steps.{Step, befores, afters}
use Rattle.gl_protocol.specs.Scripts.Commands.{Request, Set, Clear, Undo, Redo, Merge}
use Rattle.gl_calculus.specs.Edits.Sheets.{places_in, with_contents, without}
use Rattle.gl_protocol.specs.Scripts.Script.{Script, register_of}
use Rattle.gl_calculus.specs.Edits.Sheets.{coming}

-- ---- changes that are put, and then cleared

-- the addresses that lose their contents by changes
abbrev pub going : Changes → List Addr
going [] = []
going (c ∷ cs) = elim c.1 [ Some x ↦ going cs | None ↦ c.0 ∷ going cs ]

-- a sheet without the contents of these addresses, one after the other, and the addresses that had
-- one
abbrev pub without_these : Cells → List Addr → Cells
without_these = fold (λ S a. without S (single a))

abbrev pub cleared : Cells → List Addr → List Addr
cleared S [] = []
cleared S (a ∷ ps) = places_in S (single a) ++ cleared (without S (single a)) ps

-- what changes touch that are put all at once, and then cleared one by one
abbrev pub touched_by_all : Cells → Changes → List Addr
touched_by_all S cs = map (λ c. c.0) (coming cs) ++ cleared (with_contents S (coming cs)) (going cs)

-- what one change touches
abbrev pub touched_by_one : Cells → Addr → Option Content → List Addr
touched_by_one S a (Some c) = a ∷ []
touched_by_one S a None = places_in S (single a)

-- ---- commands

-- the changes that the latest of these steps is for
abbrev pub latest_changes : (Step → Changes) → List Step → Changes
latest_changes f [] = []
latest_changes f (d ∷ ds) = f d

-- the edit is later than the register of its address, if there is one
abbrev pub is_later : Option Edit → Edit → Bool
is_later o e = option_map_or (λ r. is_earlier r.stamp e.stamp) o true

-- the addresses whose content a request sets or removes, where it isn't refused
abbrev pub touched_by : Script → Request → List Addr
touched_by s (Set a c) = a ∷ []
touched_by s (Clear r) = places_in s.sheet r
touched_by s Undo = touched_by_all s.sheet (latest_changes befores s.history.done)
touched_by s Redo = touched_by_all s.sheet (latest_changes afters s.history.undone)
touched_by s (Merge e) =
    if is_later (register_of s e.place) e then touched_by_one s.sheet e.place e.content else []
touched_by s x = []
