-- The row-major order as facts on rows and columns.
use Rattle.std.proofs.Common.{IfSome, IfNone, MatchOption, Option, None, Some, ◌+◌, ◌-◌, ◌*◌, ℕ, arith}
use Rattle.std.proofs.lemmas.Grind.{common_steps}
use Rattle.std.specs.BTreeMap.Range.{IsLeBy}
use Rattle.gl_calculus.specs.Grid.Grid.{Addr}
use Rattle.gl_cells.specs.Search.{After, AtOrAfter, Before, Covers, InPlay}
use Rattle.gl_cells.specs.Sheet.{addr_cmp}

pub after_from_le : (a b : Addr) → IsLeBy addr_cmp a b → AtOrAfter a b
after_from_le a b h = grind (arith, common_steps)

pub le_from_after : (a b : Addr) → AtOrAfter a b → IsLeBy addr_cmp a b
le_from_after a b h = grind (arith, common_steps)

pub ruleset orders = (after_from_le, le_from_after)

-- how many addresses are left from one on, at most
abbrev pub places_left : Option Addr → ℕ
places_left None = 0
places_left (Some p) = (10000 - p.row) * 1000 + (1000 - p.col)

-- what comes after a later address comes after an earlier one
later : (from a b : Addr) (after : Option Addr) → After after from → AtOrAfter from a → Before a b → After after b
later from a b None h i j = tt
later from a b (Some p) h i j = grind (arith, common_steps)

pub keeps_inside : (from a : Addr) (after : Option Addr) (first last : Addr) → InPlay first last after from → AtOrAfter from a → (o : Option Addr) → IfSome o (InPlay first last (Some a)) → IfSome o (InPlay first last after)
keeps_inside from a after first last h i None g = tt
keeps_inside from a after first last h i (Some b) g = (g.0, later from a b after h.1 i g.1)

-- what comes at or after an address that is not in the range, and is in it, comes after it
past : (first last a q : Addr) → Covers first last q → ¬ (Covers first last a) → AtOrAfter a q → Before a q
past first last a q in_range out h = grind (arith, common_steps)

pub keeps_rest : (first last a : Addr) (after : Option Addr) (o : Option Addr) (q : Addr) → ¬ (Covers first last a) → InPlay first last after q → AtOrAfter a q → IfSome o (λ b. (p : Addr) → InPlay first last (Some a) p → AtOrAfter b p) → IfNone o ((p : Addr) → ¬ (InPlay first last (Some a) p)) → MatchOption o ⊥ (λ f. AtOrAfter f q)
keeps_rest first last a after None q out play at least none = none q (play.0, past first last a q play.0 out at)
keeps_rest first last a after (Some b) q out play at least none = least q (play.0, past first last a q play.0 out at)
