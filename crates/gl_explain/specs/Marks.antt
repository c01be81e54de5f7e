-- What keys that wait will need next: what each was reading, and a place in it.
use Rattle.std.specs.Prelude.{List, [], ◌∷◌}
use Rattle.gl_calculus.specs.Computation.Query.{Found, Ready, Need}
use Rattle.gl_calculus.specs.Evaluation.Key as K
use Rattle.gl_calculus.specs.Evaluation.Key.{same_key}
use Rattle.gl_calculus.specs.Evaluation.World.{World}
use Rattle.gl_calculus.specs.Evaluation.Evaluation.{program}
use Rattle.gl_calculus.specs.Explanation.Walk.{Claim, noted}
use Rattle.gl_machine.specs.Ahead.Ahead.{IsAhead}
use Rattle.gl_machine.specs.Ahead.Demands.{is_value}
use Rattle.gl_machine.specs.Ahead.Reading.{keys_from}
use Rattle.gl_demand.specs.View.{key_tree, outcome_tree}
use Rattle.gl_demand.specs.Marks.{PlainMark, mark_tree}
use Rattle.gl_explain.specs.declared.reading.Reached.{Reached}

-- the keys from there on are ahead of the key, over these notes
abbrev pub IsMark : World → List (Claim K.Key K.Outcome) → K.Key → PlainMark → Type 0
IsMark W done k m = IsAhead is_value (program W k) (noted same_key done) (keys_from W.sheet W.oracle m.0 m.1)

-- each key has a mark, in the same order
abbrev pub AreMarked : (K.Key → PlainMark → Type 0) → List K.Key → List PlainMark → Type 0
AreMarked Is [] [] = Unit {0}
AreMarked Is (k ∷ ks) (m ∷ ms) = Is k m × AreMarked Is ks ms
AreMarked Is ks ms = ⊥

-- each key of the stack has a mark of its own
abbrev pub AreMarks : World → List (Claim K.Key K.Outcome) → List K.Key → List PlainMark → Type 0
AreMarks W done up ms = AreMarked (IsMark W done) up ms

-- ---- what a key comes to

abbrev pub reached_tree : Reached → Found K.Key K.Outcome
reached_tree (Reached.Ready o) = Ready (outcome_tree o)
reached_tree (Reached.Need k m) = Need (key_tree k)

-- where it needs a key, its mark is such a one
abbrev pub IsMarked : (PlainMark → Type 0) → Reached → Type 0
IsMarked Is (Reached.Ready o) = Unit {0}
IsMarked Is (Reached.Need k m) = Is (mark_tree m)
