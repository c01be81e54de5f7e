-- The next key that is needed by what was being read, and what one address says of those behind it.
use Rattle.std.specs.Prelude.{◌≡◌, ℕ, List, [], ◌∷◌, ◌++◌, Option, Some, None, IsTrue}
use Rattle.gl_calculus.specs.Evaluation.Key as K
use Rattle.gl_calculus.specs.Evaluation.Sound.{is_sound_key}
use Rattle.gl_machine.specs.Ahead.Ahead.{first_lacked, AreThrough, LackSame}
use Rattle.gl_machine.specs.Ahead.Demands.{is_value}
use Rattle.gl_demand.specs.View.{key_tree}
use Rattle.gl_demand.specs.declared.lacking.Lacked.{Lacked}
use Rattle.gl_demand.specs.declared.lacking.Passing.{Passing}
use Rattle.gl_demand.specs.declared.lacking.Passing.TheVariants.{On, Lacks, Ends}

-- The keys of an address are gone through, or are one without outcome, or end what is needed.
abbrev pub IsPassing : (K.Key → Option K.Outcome) → List K.Key → Passing → Type 0
IsPassing f ks On = AreThrough is_value f ks
IsPassing f ks (Lacks k) = (ks ≡ key_tree k ∷ []) × (f (key_tree k) ≡ None) × IsTrue (is_sound_key (key_tree k))
IsPassing f ks Ends = (js : List K.Key) → first_lacked is_value f (ks ++ js) ≡ None

-- From a place on no key is needed, or this one, which stands at a place behind which the same is needed.
abbrev pub IsNext : (K.Key → Option K.Outcome) → (ℕ → List K.Key) → ℕ → Option Lacked → Type 0
IsNext f keys from None = first_lacked is_value f (keys from) ≡ None
IsNext f keys from (Some x) = (first_lacked is_value f (keys from) ≡ Some (key_tree x.key)) × LackSame is_value f (keys from) (keys x.place) × IsTrue (is_sound_key (key_tree x.key))
