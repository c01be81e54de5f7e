-- The laws that public functions state.
use Rattle.std.specs.Prelude.{◌≡◌, IsTrue, List, Option, Some}
use Rattle.std.specs.List.{AllByRecursion}
use Rattle.gl_calculus.specs.Computation.Lists.{Member}
use Rattle.gl_calculus.specs.Computation.Query.{Has, Ready, Need, found, asked}
use Rattle.gl_calculus.specs.Computation.Demanded.{Demanded}
use Rattle.gl_calculus.specs.Formulas.Formula.{Formula, Cells}
use Rattle.gl_calculus.specs.Evaluation.Key.{Key, Outcome}
use Rattle.gl_calculus.specs.Evaluation.World.{World}
use Rattle.gl_calculus.specs.Evaluation.Evaluation.{program}
use Rattle.gl_calculus.specs.Evaluation.Sound.{is_sound_key, is_sound_outcome, is_outcome_of, IsProperKey}
use Rattle.gl_language.specs.Reading.Grammar.{IsWellFormed}
use Rattle.gl_language.specs.Reading.Content.{IsProperContent}
use Rattle.gl_calculus.specs.Formulas.Fit.{is_fit, AreFit}

-- sound, and of the key's kind
abbrev pub IsSoundOutcome : Key → Outcome → Type 0
IsSoundOutcome k o = IsTrue (is_sound_outcome o) × IsTrue (is_outcome_of k o)

-- Over fit contents a sound key has a sound outcome.
abbrev pub SoundOutcomes : Type 0
SoundOutcomes = (W : World) (k : Key) (o : Outcome) → AreFit W.sheet → IsTrue (is_sound_key k) → Has (program W) k o → IsSoundOutcome k o

-- Each demanded key is sound, if the seeds are.
abbrev pub SoundDemands : Type 0
SoundDemands =
    (W : World) (seeds : List Key) (k : Key) → AreFit W.sheet → ((j : Key) → Member j seeds → IsTrue (is_sound_key j)) →
    Demanded (program W) seeds k → IsTrue (is_sound_key k)

-- the known outcomes of sound keys are sound
abbrev pub AreSoundOutcomes : (Key → Option Outcome) → Type 0
AreSoundOutcomes known = (k : Key) (o : Outcome) → IsTrue (is_sound_key k) → known k ≡ Some o → IsSoundOutcome k o

-- One level of a sound key over sound known outcomes comes to a sound outcome, or needs a sound and proper key; and each key that it asks for is sound and proper.
abbrev pub SoundReads : Type 0
SoundReads =
    (W : World) (known : Key → Option Outcome) (k : Key) → AreFit W.sheet → AreSoundOutcomes known → IsTrue (is_sound_key k) →
    ((o : Outcome) → found known (program W k) ≡ Ready o → IsSoundOutcome k o) ×
    ((j : Key) → found known (program W k) ≡ Need j → IsTrue (is_sound_key j) × IsProperKey W.sheet j) ×
    ((j : Key) → Member j (asked known (program W k)) → IsTrue (is_sound_key j) × IsProperKey W.sheet j)

-- A well formed formula is fit, and so is a sheet whose contents are proper.
abbrev pub WellFormedIsFit : Type 0
WellFormedIsFit = (f : Formula) → IsWellFormed f → IsTrue (is_fit f)

abbrev pub ProperIsFit : Type 0
ProperIsFit = (S : Cells) → AllByRecursion (λ c. IsProperContent c.1) S → AreFit S
