-- Keys and notes by numbers.
use Rattle.std.specs.Prelude.{◌≡◌, ℕ, zero, suc, ◌<◌, ◌^◌, ◌++◌, List, [], ◌∷◌, length, map, slice_get, slice_index, Option, Some, None, Result, OnErr, IfOk}
use Rattle.gl_calculus.specs.Computation.Lists.{Member, AreDistinct}
use Rattle.gl_calculus.specs.Computation.Notes.{Note}
use Rattle.gl_calculus.specs.Grid.Grid.{Range}
use Rattle.gl_calculus.specs.Evaluation.Key as K
use Rattle.gl_calculus.specs.Values.Value as V
use Rattle.gl_calculus.specs.Calculation.Memory.{Notes}
use Rattle.gl_plane.specs.declared.NoMemory.{NoMemory}
use Rattle.gl_support.specs.Rows.{notes_of}
use Rattle.gl_support.specs.declared.row.Row.{Row}
use Rattle.gl_demand.specs.View.{outcome_tree}
use Rattle.gl_demand.specs.Sound.{AreSoundKeys}
use Rattle.gl_demand.specs.declared.outcome.Outcome.{Outcome}

-- each item passes
abbrev pub Each : {X : Type 0} → (X → Type 0) → List X → Type 0
Each P [] = Unit {0}
Each P (x ∷ xs) = P x × Each P xs

-- the key with a number; the first address stands for a number that no key has
abbrev pub key_at : List K.Key → ℕ → K.Key
key_at [] n = K.Cell V.Top (record { col = 0; row = 0 })
key_at (k ∷ ks) zero = k
key_at (k ∷ ks) (suc n) = key_at ks n

-- the keys with these numbers
abbrev pub keys_at : List K.Key → List ℕ → List K.Key
keys_at ks ns = map (key_at ks) ns

-- some keys stand behind the old ones
abbrev pub Grows : List K.Key → List K.Key → Type 0
Grows old new = (more : List K.Key) × (new ≡ old ++ more)

-- a note by numbers as one by keys
abbrev pub named : List K.Key → Note ℕ Outcome Range → Note K.Key K.Outcome Range
named ks n = record { key = key_at ks n.key; outcome = outcome_tree n.outcome; reads = keys_at ks n.reads; looked = n.looked }

abbrev pub row_notes : List K.Key → List (Row Outcome Range) → Notes
row_notes ks rs = map (named ks) (notes_of rs)

-- the outcome at a place among the rows; a spent budget stands for that of no row
abbrev pub outcome_at : List (Row Outcome Range) → ℕ → K.Outcome
outcome_at [] r = K.Abort K.Depth
outcome_at (x ∷ xs) zero = outcome_tree x.outcome
outcome_at (x ∷ xs) (suc r) = outcome_at xs r

-- the numbers of a note are below n
abbrev pub IsBelow : ℕ → Row Outcome Range → Type 0
IsBelow n r = (r.by < n) × Each (λ j. j < n) r.reads.items

-- the numbers of the rows
abbrev pub numbers_of : List (Row Outcome Range) → List ℕ
numbers_of rs = map (λ (r : Row Outcome Range). r.by) rs

-- At each number of the list stands one more than its place, and at each other number 0.
pub record IsIndex (ns places : List ℕ) : Type 0 where
  pub there : (p n : ℕ) → slice_get ns p ≡ Some n → slice_index places n ≡ suc p
  pub back : (n p : ℕ) → slice_index places n ≡ suc p → slice_get ns p ≡ Some n

-- what is read there
abbrev pub IsPlace : ℕ → Option ℕ → Type 0
IsPlace v None = v ≡ 0
IsPlace v (Some p) = v ≡ suc p

-- the key's number, or none where it isn't in the list
abbrev pub IsNumber : List K.Key → K.Key → Option ℕ → Type 0
IsNumber ks k None = Member k ks → ⊥
IsNumber ks k (Some n) = slice_get ks n ≡ Some k

-- what a book keeps: distinct sound keys, of which a number of 32 bits can be had
pub record AreBooked (ks : List K.Key) : Type 0 where
  pub apart : AreDistinct ks
  pub sound : AreSoundKeys ks
  pub few : length ks < 2 ^ 32

-- A key gets its number, or has it already, and only more keys come. Without memory the keys stay.
pub record GetsNumber (k : K.Key) (old : List K.Key) (r : Result ℕ NoMemory) (new : List K.Key) : Type 0 where
  pub number : IfOk r (λ n. slice_get new n ≡ Some k)
  pub grows : Grows old new
  pub booked : AreBooked old → AreBooked new
  pub err : OnErr r (new ≡ old)

-- the numbers of these keys
abbrev pub AreNumbers : List K.Key → List ℕ → List K.Key → Type 0
AreNumbers ks ns js = (keys_at ks ns ≡ js) × Each (λ n. n < length ks) ns

-- the place of the row of a number
abbrev pub IsRowOf : List (Row Outcome Range) → ℕ → Option ℕ → Type 0
IsRowOf rs n None = Member n (numbers_of rs) → ⊥
IsRowOf rs n (Some r) = (x : Row Outcome Range) × (slice_get rs r ≡ Some x) × (x.by ≡ n)
