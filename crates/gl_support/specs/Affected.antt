-- Which keys an edit may affect.
use Rattle.std.specs.Prelude.{◌≡◌, Bool, true, List, [], map, filter}
use Rattle.std.specs.List.{list_any, AllZip}
use Rattle.gl_calculus.specs.Computation.Lists.{Member, AreDistinct, IsEquality, has_member, distinct}
use Rattle.gl_calculus.specs.Computation.Notes.{Note}
use Rattle.gl_machine.specs.InOrder.{AreOrdered, gone_after}
use Rattle.gl_calculus.specs.Computation.Notes.{note_keys}

-- a key, with the keys that it read and the places that it looked at
pub record Triple (K A : Type 0) : Type 0 where
  pub by : K
  pub reads : List K
  pub looked : List A

-- one of the places touches one of the others
abbrev pub is_touched : {A : Type 0} → (A → A → Bool) → List A → List A → Bool
is_touched touches looked changed = list_any (λ s. list_any (λ c. touches s c) changed) looked

-- A set of keys, as a test that tells no equal keys apart. It has each key that looked at what changed, and each that read a member.
pub record IsClosed {K A : Type 0} (same : K → K → Bool) (touches : A → A → Bool) (ts : List (Triple K A)) (changed : List A) (test : K → Bool) : Type 0 where
  pub alike : (x y : K) → same x y ≡ true → test x ≡ test y
  pub touched : (t : Triple K A) → Member t ts → is_touched touches t.looked changed ≡ true → test t.by ≡ true
  pub read : (t : Triple K A) (k : K) → Member t ts → Member k t.reads → test k ≡ true → test t.by ≡ true

-- the key looked at what changed, or read such a key: so it is in every such set, be it a test or any property
pub data IsAffected {K A : Type 0} (same : K → K → Bool) (touches : A → A → Bool) (ts : List (Triple K A)) (changed : List A) : K → Type 0 where
  Looked : {k : K} (t : Triple K A) → Member t ts → same k t.by ≡ true → is_touched touches t.looked changed ≡ true → IsAffected same touches ts changed k
  Read : {k : K} (t : Triple K A) (j : K) → Member t ts → same k t.by ≡ true → Member j t.reads → IsAffected same touches ts changed j → IsAffected same touches ts changed k

-- The keys are the least such set, each once, in the order in which they were first added.
pub record AreAffected {K A : Type 0} (same : K → K → Bool) (touches : A → A → Bool) (ts : List (Triple K A)) (changed : List A) (ks : List K) : Type 0 where
  pub closed : IsClosed same touches ts changed (λ k. has_member same k ks)
  pub least : (k : K) → has_member same k ks ≡ true → IsAffected same touches ts changed k
  pub order : AllZip (λ x y. same x y ≡ true) (filter (λ k. has_member same k ks) (distinct same (map (λ t. t.by) ts))) ks

-- the triples as notes of keys without outcomes
abbrev pub notes_of_triples : {K A : Type 0} → List (Triple K A) → List (Note K (Unit {0}) A)
notes_of_triples ts = map (λ t. record { key = t.by; outcome = tt; reads = t.reads; looked = t.looked }) ts

-- The keys that are affected, of triples in the order of noting, are those that one pass over their notes drops.
abbrev pub AffectedAreGone : (K A : Type 0) → Type 0
AffectedAreGone K A =
    (same : K → K → Bool) (touches : A → A → Bool) (ts : List (Triple K A)) (changed : List A) (ks : List K) (k : K) → IsEquality same →
    AreDistinct (note_keys (notes_of_triples ts)) → AreOrdered [] (notes_of_triples ts) → AreAffected same touches ts changed ks →
    has_member same k ks ≡ has_member same k (gone_after same (λ a. list_any (touches a) changed) [] (notes_of_triples ts))
