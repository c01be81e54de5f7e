-- Notes of what keys gave, and which of them stay true for another program.
use Rattle.std.specs.Prelude.{◌≡◌, List, Bool, true, false, Option}
use Rattle.gl_calculus.specs.Computation.Lists.{Member}
use Rattle.gl_calculus.specs.Computation.Query.{Query, found, asked, looked}
use Rattle.gl_calculus.specs.Computation.Reads.{IsNote}
use Rattle.gl_calculus.specs.Computation.Notes.{Note}

-- every note is true for the program
abbrev pub AreTrue : {K O A : Type 0} → (K → K → Bool) → (K → Query K O A O) → List (Note K O A) → Type 0
AreTrue {K} {O} {A} same program notes = (n : Note K O A) → Member n notes → IsNote same program n.key n.outcome n.reads n.looked

-- each key that a note read has a note
abbrev pub AreClosed : {K O A : Type 0} → List (Note K O A) → Type 0
AreClosed {K} {O} {A} notes = (n : Note K O A) → Member n notes → (j : K) → Member j n.reads → (m : Note K O A) × Member m notes × (m.key ≡ j)

-- no note looked at a touched place
abbrev pub AreUntouched : {K O A : Type 0} → (A → Bool) → List (Note K O A) → Type 0
AreUntouched {K} {O} {A} touched notes = (n : Note K O A) → Member n notes → (a : A) → Member a n.looked → touched a ≡ false

-- One level of the second program goes as one of the first where the answers are the same and no place on the way is touched.
abbrev pub Agree : {K O A : Type 0} → (A → Bool) → (K → Query K O A O) → (K → Query K O A O) → Type 0
Agree {K} {O} {A} touched program program' =
    (f : K → Option O) (k : K) → ((a : A) → Member a (looked f (program k)) → touched a ≡ false) →
    (found f (program' k) ≡ found f (program k)) × (asked f (program' k) ≡ asked f (program k)) × (looked f (program' k) ≡ looked f (program k))

-- the keys to drop: the least set that holds each key whose note looked at a touched place, and each whose note reads a member
pub data IsDropped {K O A : Type 0} (touched : A → Bool) (notes : List (Note K O A)) : K → Type 0 where
  Touched : {k : K} (n : Note K O A) (a : A) → Member n notes → k ≡ n.key → Member a n.looked → touched a ≡ true → IsDropped touched notes k
  Reads : {k : K} (n : Note K O A) (j : K) → Member n notes → k ≡ n.key → Member j n.reads → IsDropped touched notes j → IsDropped touched notes k

-- at most one note for a key
abbrev pub AreSingle : {K O A : Type 0} → List (Note K O A) → Type 0
AreSingle {K} {O} {A} notes = (n m : Note K O A) → Member n notes → Member m notes → n.key ≡ m.key → n ≡ m

-- the notes that are not dropped
abbrev pub AreTheKept : {K O A : Type 0} → (A → Bool) → List (Note K O A) → List (Note K O A) → Type 0
AreTheKept {K} {O} {A} touched notes kept =
    ((n : Note K O A) → Member n kept → Member n notes × (IsDropped touched notes n.key → ⊥)) × ((n : Note K O A) → Member n notes → (IsDropped touched notes n.key → ⊥) → Member n kept)
