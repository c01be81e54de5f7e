-- A table without a range, and the first content of a range.
use Rattle.std.proofs.Common.{IsSome, IfSome, IfNone, Some, is_some, ◌≡◌, ◌∙◌, ◌&&◌, Bool, true, false, cond, not, Option, None, [], ◌∷◌, map, find, filter, refl, sym, ap, arith}
use Rattle.std.proofs.lemmas.Grind.{common_steps}
use Rattle.std.specs.BTreeMap.{is_at}
use Rattle.std.proofs.lemmas.Map.Keys.{sorted_head, sorted_tail}
use Rattle.std.specs.List.{AllByRecursion}
use Rattle.std.specs.List.Sorted.{IsStrictlySortedBy}
use Rattle.std.specs.Map.{keys_of, lookup, remove_entry}
use Rattle.gl_calculus.specs.Grid.Grid.{Addr, Range, covers, is_before}
use Rattle.gl_cells.specs.declared.content.Content.{Content}
use Rattle.gl_cells.specs.Search.{Covers, AtOrAfter, Before, InPlay, is_in_play}
use Rattle.gl_cells.specs.Sheet.{Table, sheet, addr_cmp}
use Rattle.gl_cells.proofs.TableLemmas.{addr_exact, addr_total}
use Rattle.std.specs.Cmp.{tied_itself}
use Rattle.std.specs.Ordering.{is_eq}
use Rattle.std.specs.declared.cmp.Ordering.{Ordering}
use Rattle.std.specs.declared.cmp.Ordering.TheVariants.{Less, Equal, Greater}

and_true : (a b : Bool) → (a && b) ≡ true → (a ≡ true) × (b ≡ true)
and_true true b h = (refl, h)
and_true false b h = let no : false ≡ true = h in cc

pub covered : (r : Range) (q : Addr) → covers r q ≡ true → Covers r.first r.last q
covered r q h = grind (arith, common_steps)

pub covers_yes : (r : Range) (q : Addr) → Covers r.first r.last q → covers r q ≡ true
covers_yes r q h = grind (arith, common_steps)

-- an entry that is not kept may go first
pub filter-remove : (p : Addr → Bool) (a : Addr) (es : Table) → p a ≡ false → filter (λ e. p e.0) (remove_entry (is_at (addr_cmp a)) es) ≡ filter (λ e. p e.0) es
filter-remove p a [] h = refl
filter-remove p a (e ∷ es) h = by (addr_cmp a e.0) refl (filter-remove p a es h)
  where
    by : (r : Ordering) → addr_cmp a e.0 ≡ r → filter (λ x. p x.0) (remove_entry (is_at (addr_cmp a)) es) ≡ filter (λ x. p x.0) es → filter (λ x. p x.0) (cond (is_eq r) es (e ∷ remove_entry (is_at (addr_cmp a)) es)) ≡ filter (λ x. p x.0) (e ∷ es)
    by Less k ih = ap (λ xs. cond (p e.0) (e ∷ xs) xs) ih
    by Equal k ih = sym (ap (λ b. cond b (e ∷ filter (λ x. p x.0) es) (filter (λ x. p x.0) es)) (ap p (sym (addr_exact a e.0 k)) ∙ h))
    by Greater k ih = ap (λ xs. cond (p e.0) (e ∷ xs) xs) ih

-- an entry that passes is found
some_here : (e : Addr × Content) (es : Table) → IsSome (lookup (is_at (addr_cmp e.0)) (e ∷ es))
some_here e es = ap (λ r. is_some (cond (is_eq r) (Some e.1) (lookup (is_at (addr_cmp e.0)) es))) (tied_itself addr_total e.0)

some_later : (q : Addr) (e : Addr × Content) (es : Table) → IsSome (lookup (is_at (addr_cmp q)) es) → IsSome (lookup (is_at (addr_cmp q)) (e ∷ es))
some_later q e es h = by (is_at (addr_cmp q) e.0)
  where
    by : (b : Bool) → IsSome (cond b (Some e.1) (lookup (is_at (addr_cmp q)) es))
    by true = refl
    by false = h

-- where nothing is to go, all is kept
pub filter_same : (p : Addr → Bool) (es : Table) → ((q : Addr) → p q ≡ false → IsSome (lookup (is_at (addr_cmp q)) es) → ⊥) → es ≡ filter (λ e. p e.0) es
filter_same p [] h = refl
filter_same p (e ∷ es) h = by (p e.0) refl (filter_same p es (λ q n some. h q n (some_later q e es some)))
  where
    by : (b : Bool) → p e.0 ≡ b → es ≡ filter (λ x. p x.0) es → e ∷ es ≡ cond b (e ∷ filter (λ x. p x.0) es) (filter (λ x. p x.0) es)
    by true k ih = ap (λ (xs : Table). e ∷ xs) ih
    by false k ih = absurd (h e.0 k (some_here e es))

apart_comes_before : (a q : Addr) → is_at (addr_cmp a) q ≡ false → AtOrAfter a q → Before a q
apart_comes_before a q h at = grind (arith, common_steps)

-- what is left after an address is removed comes after it
pub left_after : {X : Type 0} (a q : Addr) (old new : Option X) → new ≡ cond (is_at (addr_cmp a) q) None old → IsSome new → (IsSome old → AtOrAfter a q) → Before a q
left_after {X} a q old new e some h =
    elim (is_at (addr_cmp a) q) as (λ b. is_at (addr_cmp a) q ≡ b → new ≡ cond b None old → Before a q) [
      | true ↦ λ is n. let no : true ≡ false = sym some ∙ ap is_some n in cc
      | false ↦ λ is n. apart_comes_before a q is (h (sym (ap is_some n) ∙ some))
    ] refl e

pub not_false : (b : Bool) → not b ≡ false → b ≡ true
not_false true h = refl
not_false false h = let no : true ≡ false = h in cc

in_play : (r : Range) (after : Option Addr) (q : Addr) → is_in_play r after q ≡ true → InPlay r.first r.last after q
in_play r None q h = (covered r q (and_true (covers r q) true h).0, tt)
in_play r (Some a) q h = (covered r q (and_true (covers r q) (is_before a q) h).0, before a q (and_true (covers r q) (is_before a q) h).1)
  where
    before : (a q : Addr) → is_before a q ≡ true → Before a q
    before a q h = grind (arith, common_steps)

in_play_yes : (r : Range) (after : Option Addr) (q : Addr) → InPlay r.first r.last after q → is_in_play r after q ≡ true
in_play_yes r None q h = ap (λ b. b && true) (covers_yes r q h.0)
in_play_yes r (Some a) q h = ap (λ b. b && is_before a q) (covers_yes r q h.0) ∙ before a q h.1
  where
    before : (a q : Addr) → Before a q → is_before a q ≡ true
    before a q h = grind (arith, common_steps)

-- a found address comes after all that is below the table
below_found : (x a : Addr) (es : Table) → AllByRecursion (λ y. addr_cmp x y ≡ Less) (keys_of es) → IsSome (lookup (is_at (addr_cmp a)) es) → addr_cmp x a ≡ Less
below_found x a [] all some = let no : false ≡ true = some in cc
below_found x a (e ∷ es) all some = by (addr_cmp a e.0) refl some (below_found x a es all.1)
  where
    by : (r : Ordering) → addr_cmp a e.0 ≡ r → IsSome (cond (is_eq r) (Some e.1) (lookup (is_at (addr_cmp a)) es)) → (IsSome (lookup (is_at (addr_cmp a)) es) → addr_cmp x a ≡ Less) → addr_cmp x a ≡ Less
    by Less k s ih = ih s
    by Equal k s ih = ap (addr_cmp x) (addr_exact a e.0 k) ∙ all.0
    by Greater k s ih = ih s

not_both : (x a : Addr) → addr_cmp x a ≡ Less → AtOrAfter a x → ⊥
not_both x a h at = absurd (grind (arith, common_steps))

-- the least address that passes is the first in the order
pub find_least : (p : Addr → Bool) (es : Table) (o : Option Addr) → IsStrictlySortedBy addr_cmp (keys_of es)
    → IfSome o (λ a. (p a ≡ true) × IsSome (lookup (is_at (addr_cmp a)) es))
    → IfSome o (λ a. (q : Addr) → p q ≡ true → IsSome (lookup (is_at (addr_cmp q)) es) → AtOrAfter a q)
    → IfNone o ((q : Addr) → p q ≡ true → lookup (is_at (addr_cmp q)) es ≡ None)
    → o ≡ find p (map (λ c. c.0) (sheet es))
find_least p [] None s f l n = refl
find_least p [] (Some a) s f l n = let no : false ≡ true = f.1 in cc
find_least p (e ∷ es) None s f l n =
    by (p e.0) refl (find_least p es None (sorted_tail addr_cmp e.0 (keys_of es) s) tt tt (λ q h. none_of _ (λ some. let no : true ≡ false = sym (some_later q e es some) ∙ ap is_some (n q h) in absurd (no_way no))))
  where
    no_way : true ≡ false → ⊥
    no_way h = let no : ⊥ = cc in no

    none_of : (x : Option Content) → (IsSome x → ⊥) → x ≡ None
    none_of None h = refl
    none_of (Some x) h = absurd (h refl)

    by : (b : Bool) → p e.0 ≡ b → None ≡ find p (map (λ c. c.0) (sheet es)) → None ≡ cond b (Some e.0) (find p (map (λ c. c.0) (sheet es)))
    by false k ih = ih
    by true k ih = let no : true ≡ false = sym (some_here e es) ∙ ap is_some (n e.0 k) in cc
find_least p (e ∷ es) (Some a) s f l n = by (p e.0) refl (addr_cmp a e.0) refl (λ g. find_least p es (Some a) (sorted_tail addr_cmp e.0 (keys_of es) s) (f.0, g) (λ q h some. l q h (some_later q e es some)) tt)
  where
    later : (r : Ordering) → IsSome (cond (is_eq r) (Some e.1) (lookup (is_at (addr_cmp a)) es)) → is_eq r ≡ false → IsSome (lookup (is_at (addr_cmp a)) es)
    later Less h k = h
    later Equal h k = let no : true ≡ false = k in cc
    later Greater h k = h

    by : (b : Bool) → p e.0 ≡ b → (r : Ordering) → addr_cmp a e.0 ≡ r → (IsSome (lookup (is_at (addr_cmp a)) es) → Some a ≡ find p (map (λ c. c.0) (sheet es))) → Some a ≡ cond b (Some e.0) (find p (map (λ c. c.0) (sheet es)))
    by true k Equal h ih = ap (λ (x : Addr). Some x) (addr_exact a e.0 h)
    by true k Less h ih = absurd (not_both e.0 a (below_found e.0 a es (sorted_head addr_cmp e.0 (keys_of es) s) (later Less (ap (λ r. is_some (cond (is_eq r) (Some e.1) (lookup (is_at (addr_cmp a)) es))) (sym h) ∙ f.1) refl)) (l e.0 k (some_here e es)))
    by true k Greater h ih = absurd (not_both e.0 a (below_found e.0 a es (sorted_head addr_cmp e.0 (keys_of es) s) (later Greater (ap (λ r. is_some (cond (is_eq r) (Some e.1) (lookup (is_at (addr_cmp a)) es))) (sym h) ∙ f.1) refl)) (l e.0 k (some_here e es)))
    by false k Equal h ih = let no : true ≡ false = sym f.0 ∙ ap p (addr_exact a e.0 h) ∙ k in cc
    by false k Less h ih = ih (later Less (ap (λ r. is_some (cond (is_eq r) (Some e.1) (lookup (is_at (addr_cmp a)) es))) (sym h) ∙ f.1) refl)
    by false k Greater h ih = ih (later Greater (ap (λ r. is_some (cond (is_eq r) (Some e.1) (lookup (is_at (addr_cmp a)) es))) (sym h) ∙ f.1) refl)

if_some : {X : Type 0} {P Q : X → Type 0} (o : Option X) → ((x : X) → P x → Q x) → IfSome o P → IfSome o Q
if_some None f h = tt
if_some (Some x) f h = f x h

if_none : {X : Type 0} {P Q : Type 0} (o : Option X) → (P → Q) → IfNone o P → IfNone o Q
if_none None f h = f h
if_none (Some x) f h = tt

-- what a search of the table says
pub next_is : (es : Table) (r : Range) (after : Option Addr) (o : Option Addr) → IsStrictlySortedBy addr_cmp (keys_of es)
    → IfSome o (λ a. InPlay r.first r.last after a × IsSome (lookup (is_at (addr_cmp a)) es))
    → IfSome o (λ a. (q : Addr) → InPlay r.first r.last after q → IsSome (lookup (is_at (addr_cmp q)) es) → AtOrAfter a q)
    → IfNone o ((q : Addr) → InPlay r.first r.last after q → lookup (is_at (addr_cmp q)) es ≡ None)
    → o ≡ find (is_in_play r after) (map (λ c. c.0) (sheet es))
next_is es r after o s f l n = find_least (is_in_play r after) es o s
    (if_some o (λ a h. (in_play_yes r after a h.0, h.1)) f)
    (if_some o (λ a h q k some. h q (in_play r after q k) some) l)
    (if_none o (λ h q k. h q (in_play r after q k)) n)
