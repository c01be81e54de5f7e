-- What a calculator answers.
use Rattle.std.specs.Prelude.{◌≡◌, ℕ, List, Option, Some, None, IsTrue}
use Rattle.gl_calculus.specs.Grid.Grid.{Addr}
use Rattle.gl_calculus.specs.Values.Value.{Oracle}
use Rattle.gl_calculus.specs.Formulas.Formula.{Version, Cells}
use Rattle.gl_calculus.specs.Calculation.Calculation as C
use Rattle.gl_calculus.specs.Calculation.Calculation.{IsAnswer, IsShown}
use Rattle.gl_calculus.specs.Calculation.Consistency.{IsConsistent}
use Rattle.gl_calculus.specs.Calculation.Memory.{Table}
use Rattle.gl_value.specs.Made.{shown_tree}
use Rattle.gl_value.specs.declared.Shown.{Shown}
use Rattle.gl_calc.specs.Shown.{is_sound_shown}
use Rattle.gl_calculus.specs.Steps.Rounds.{Costs}
use Rattle.gl_calculus.specs.Evaluation.World.{world}
use Rattle.gl_calc.specs.declared.answers.Answer.{Answer}
use Rattle.gl_calc.specs.declared.answers.Answer.TheVariants.{Settled, Spent}
use Rattle.gl_calc.specs.declared.answers.SpentKind.{SpentKind}
use Rattle.gl_calc.specs.declared.answers.SpentKind.TheVariants.{Rounds, CopyRounds, Depth, Work}

abbrev pub spent_tree : SpentKind → C.SpentKind
spent_tree (Rounds a) = C.SpentKind.Rounds a
spent_tree (CopyRounds a) = C.SpentKind.CopyRounds a
spent_tree (Depth a) = C.SpentKind.Depth a
spent_tree Work = C.SpentKind.Work

-- what `refresh` answers, and what is held afterwards: the settled oracle, or what was held before
abbrev pub Answers : Version → Cells → Answer → Option (Version × Oracle) → Option (Version × Oracle) → Type 0
Answers version S (Settled rounds) old new =
    (w : Oracle) × IsAnswer version S (C.Settled w rounds) × (new ≡ Some (version, w)) × IsConsistent (world version S w) × ((a : Addr) → (x : C.Shown) × IsShown (world version S w) a x)
Answers version S (Spent k) old new = IsAnswer version S (C.Spent (spent_tree k)) × (new ≡ old)

-- the steps that it takes go from n to m, where rounds begin with these tables, after these addresses were touched
abbrev pub Takes : Version → Cells → List Table → List Addr → Answer → ℕ → ℕ → Type 0
Takes version S tables touched (Settled rounds) n m = (w : Oracle) × Costs version S tables touched (C.Settled w rounds) n m
Takes version S tables touched (Spent k) n m = Costs version S tables touched (C.Spent (spent_tree k)) n m

-- what an address shows by the held answer: nothing exactly where none is held
abbrev pub IsShownBy : Cells → Option (Version × Oracle) → Addr → Option Shown → Type 0
IsShownBy S None a o = o ≡ None
IsShownBy S (Some h) a None = ⊥
IsShownBy S (Some h) a (Some x) = IsShown (world h.0 S h.1) a (shown_tree x) × IsTrue (is_sound_shown (shown_tree x))
