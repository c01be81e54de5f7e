-- The formulas of a sheet stand first among the known keys.
use Rattle.std.proofs.Common.{◌≡◌, ℕ, zero, suc, ◌<◌, get_or, List, [], ◌∷◌, map, take, length, slice_get, cond, Bool, true, false, Some, inl, inr, refl, sym, ap, subst, ◌∙◌, arith}
use Rattle.gl_calculus.specs.Computation.Lists.{Member, AreDistinct}
use Rattle.gl_machine.specs.Machine.{at, keys}
use Rattle.gl_calculus.specs.Grid.Grid.{Addr}
use Rattle.gl_calculus.specs.Values.Value.{Top}
use Rattle.gl_calculus.specs.Evaluation.Key.{Key, Cell, same_key}
use Rattle.gl_calculus.proofs.Tests.{key_equality}
use Rattle.gl_core.specs.State.{State, first_keys}
use Rattle.gl_calc.specs.Visits.{StandFirst, status_at}

-- the item at an index
pub item_at : (ps : List Addr) (i : ℕ) (a : Addr) → a ≡ get_or ps i a → i < length ps → slice_get ps i ≡ Some a
item_at [] i a e l = absurd (omega (arith, l))
item_at (b ∷ ps) zero a e l = ap (λ (x : Addr). Some x) (sym e)
item_at (b ∷ ps) (suc i) a e l = item_at ps i a e (omega (arith, l))

-- a key that stands behind is known
behind : (ps : List Addr) (st : State) (i : ℕ) (a : Addr) → StandFirst ps st → slice_get ps i ≡ Some a → Member (Cell Top a) (keys st)
behind [] st i a f e = absurd (cc e)
behind (b ∷ ps) [] i a f e = absurd f
behind (b ∷ ps) (x ∷ xs) zero a f e = inl (let s : b ≡ a = cc e in sym (f.0 ∙ ap (Cell Top) s))
behind (b ∷ ps) (x ∷ xs) (suc i) a f e = inr (behind ps xs i a f.1 e)

not_same : (k j : Key) (ks : List Key) → (Member j ks → ⊥) → Member k ks → same_key k j ≡ false
not_same k j ks none m = by (same_key k j) refl
  where
    by : (t : Bool) → same_key k j ≡ t → same_key k j ≡ false
    by false e = e
    by true e = absurd (none (subst (λ (z : Key). Member z ks) (key_equality.0 k j e) m))

pub status_first : (ps : List Addr) (st : State) (i : ℕ) (a : Addr) → StandFirst ps st → AreDistinct (keys st) → slice_get ps i ≡ Some a → status_at st i ≡ at same_key st (Cell Top a)
status_first [] st i a f d e = absurd (cc e)
status_first (b ∷ ps) [] i a f d e = absurd f
status_first (b ∷ ps) (x ∷ xs) zero a f d e =
    let s : b ≡ a = cc e in
    let k : same_key (Cell Top a) x.key ≡ true = subst (λ (z : Key). same_key (Cell Top a) z ≡ true) (sym (f.0 ∙ ap (Cell Top) s)) (key_equality.1 (Cell Top a)) in
    sym (ap (λ (t : Bool). cond t (Some x.status) (at same_key xs (Cell Top a))) k)
status_first (b ∷ ps) (x ∷ xs) (suc i) a f d e =
    let other = not_same (Cell Top a) x.key (keys xs) d.0 (behind ps xs i a f.1 e) in
    status_first ps xs i a f.1 d.1 e ∙ sym (ap (λ (t : Bool). cond t (Some x.status) (at same_key xs (Cell Top a))) other)

-- the first keys are these
pub stand_first : (n : ℕ) (ps : List Addr) (st : State) → first_keys n st ≡ map (Cell Top) ps → StandFirst ps st
stand_first n [] st e = tt
stand_first zero (a ∷ ps) st e = absurd (cc e)
stand_first (suc n) (a ∷ ps) [] e = absurd (cc e)
stand_first (suc n) (a ∷ ps) (x ∷ xs) e = ((let k : x.key ≡ Cell Top a = cc e in k), stand_first n ps xs (let r : take n (keys xs) ≡ map (Cell Top) ps = cc e in r))
