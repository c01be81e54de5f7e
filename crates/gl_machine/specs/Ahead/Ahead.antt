-- What the evaluation of a key will need next, whatever the values are.
use Rattle.std.specs.Prelude.{◌≡◌, List, [], ◌∷◌, Bool, true, cond, Option, Some, None}
use Rattle.gl_calculus.specs.Computation.Query.{Query, Need, next, found}

-- the second table has each outcome of the first
abbrev pub Extends : {K O : Type 0} → (K → Option O) → (K → Option O) → Type 0
Extends {K} {O} f g = (k : K) (o : O) → f k ≡ Some o → g k ≡ Some o

-- the first of the keys without outcome, where those before it have outcomes that go on
abbrev pub first_lacked : {K O : Type 0} → (O → Bool) → (K → Option O) → List K → Option K
first_lacked on f [] = None
first_lacked on f (k ∷ ks) = next (Some k) (f k) (λ o. cond (on o) (first_lacked on f ks) None)

-- each of the keys has an outcome that goes on
abbrev pub AreThrough : {K O : Type 0} → (O → Bool) → (K → Option O) → List K → Type 0
AreThrough on f [] = Unit {0}
AreThrough {K} {O} on f (k ∷ ks) = ((o : O) × (f k ≡ Some o) × (on o ≡ true)) × AreThrough on f ks

-- The keys are those that the query needs next: over each table that extends this one it needs the first of them without outcome, where those before it have outcomes that go on.
abbrev pub IsAhead : {K O A R : Type 0} → (O → Bool) → Query K O A R → (K → Option O) → List K → Type 0
IsAhead {K} {O} on q f ks = (g : K → Option O) → Extends f g → (i : K) → first_lacked on g ks ≡ Some i → found g q ≡ Need i

-- Over each table that extends this one, both lists lack the same first key: so it is where the second is what is left of the first behind keys that are gone through.
abbrev pub LackSame : {K O : Type 0} → (O → Bool) → (K → Option O) → List K → List K → Type 0
LackSame {K} {O} on f ks js = (g : K → Option O) → Extends f g → first_lacked on g ks ≡ first_lacked on g js
