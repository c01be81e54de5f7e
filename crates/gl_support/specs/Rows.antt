-- Rows of a table, whose keys are numbers, as notes.
use Rattle.std.specs.Prelude.{◌≡◌, ℕ, ◌<◌, Bool, true, ◌||◌, ◌&&◌, List, [], ◌∷◌, map, nat_eq, All}
use Rattle.gl_calculus.specs.Computation.Lists.{Member, has_member}
use Rattle.gl_calculus.specs.Computation.Notes.{Note, IsReached}
use Rattle.gl_machine.specs.InOrder.{must_go, gone_after}
use Rattle.gl_support.specs.Reach.{is_marked, has}
use Rattle.gl_support.specs.declared.row.Row.{Row}

abbrev pub note_of : {O A : Type 0} → Row O A → Note ℕ O A
note_of r = record { key = r.by; outcome = r.outcome; reads = r.reads.items; looked = r.looked.items }

abbrev pub notes_of : {O A : Type 0} → List (Row O A) → List (Note ℕ O A)
notes_of rs = map note_of rs

-- exactly the members are marked
abbrev pub AreMarked : List Bool → List ℕ → Type 0
AreMarked marks ks = (k : ℕ) → is_marked marks k ≡ has_member nat_eq k ks

-- the number of each row is below n
abbrev pub AreBelow : {O A : Type 0} → ℕ → List (Row O A) → Type 0
AreBelow n rs = All (λ r. r.by < n) rs

-- the numbers that one pass drops
abbrev pub gone_numbers : {O A : Type 0} → (A → Bool) → List (Row O A) → List ℕ
gone_numbers touched rs = gone_after nat_eq touched [] (notes_of rs)

-- the numbers that are gone, with that of one more row if it goes
abbrev pub gone_with : {O A : Type 0} → (A → Bool) → List ℕ → Row O A → List ℕ
gone_with touched ks r = gone_after nat_eq touched ks (note_of r ∷ [])

-- the answer is whether the row goes where the marked numbers are gone
abbrev pub Goes : {O A : Type 0} → (A → Bool) → List Bool → Row O A → Bool → Type 0
Goes touched marks r b = (ks : List ℕ) → AreMarked marks ks → b ≡ must_go nat_eq touched ks (note_of r)

-- the number was marked, or is in the list
abbrev pub marked_or : List Bool → List ℕ → ℕ → Bool
marked_or old ks k = is_marked old k || has ks k

-- the number was marked, or the row was and read it
abbrev pub marked_or_read : {O A : Type 0} → List Bool → Row O A → ℕ → Bool
marked_or_read old r k = is_marked old k || (is_marked old r.by && has r.reads.items k)

-- all is marked that a marked note read
abbrev pub AreFollowed : {O A : Type 0} → List (Note ℕ O A) → List Bool → Type 0
AreFollowed {O} {A} notes marks = (n : Note ℕ O A) → Member n notes → is_marked marks n.key ≡ true → (j : ℕ) → Member j n.reads → is_marked marks j ≡ true

-- each marked number is reached from a seed
abbrev pub AreReached : {O A : Type 0} → List (Note ℕ O A) → List ℕ → List Bool → Type 0
AreReached notes seeds marks = (k : ℕ) → is_marked marks k ≡ true → (s : ℕ) × Member s seeds × IsReached notes s k
