-- Sound tables of outcomes, and sound findings.
use Rattle.std.specs.Prelude.{◌≡◌, List, Option, Some, IsTrue}
use Rattle.gl_calculus.specs.Computation.Query.{Found, Ready, Need}
use Rattle.gl_calculus.specs.Computation.Lists.{Member}
use Rattle.gl_calculus.specs.Evaluation.Key.{Key, Outcome}
use Rattle.gl_calculus.specs.Evaluation.Sound.{is_sound_key, is_sound_outcome, is_outcome_of}

-- each outcome is sound, and is one of its key
abbrev pub IsSoundTable : (Key → Option Outcome) → Type 0
IsSoundTable f = (k : Key) (o : Outcome) → f k ≡ Some o → IsTrue (is_sound_outcome o) × IsTrue (is_outcome_of k o)

-- a sound outcome of this key, or a sound key
abbrev pub IsSoundFound : Key → Found Key Outcome → Type 0
IsSoundFound k (Ready o) = IsTrue (is_sound_outcome o) × IsTrue (is_outcome_of k o)
IsSoundFound k (Need j) = IsTrue (is_sound_key j)

abbrev pub AreSoundKeys : List Key → Type 0
AreSoundKeys ks = (k : Key) → Member k ks → IsTrue (is_sound_key k)
