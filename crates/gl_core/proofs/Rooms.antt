-- Room for places, and statuses that are not idle.
use Rattle.std.proofs.Common.{◌≡◌, ℕ, zero, suc, ◌+◌, ◌≤◌, ◌/◌, List, [], ◌∷◌, ◌++◌, length, slice_get, slice_index, Option, Some, None, refl, sym, ap, ◌∙◌, subst, arith}
use Rattle.gl_calculus.specs.Grid.Grid.{Range}
use Rattle.gl_support.specs.declared.row.Row.{Row}
use Rattle.gl_demand.specs.declared.outcome.Outcome.{Outcome}
use Rattle.gl_core.specs.Counts.{HasRoom}
use Rattle.gl_core.specs.Numbers.{IsRowOf}
use Rattle.gl_core.specs.Table.{IsBegun, AreBegun, status_by}
use Rattle.gl_core.proofs.Numbered.{index_of_get}
use Rattle.gl_core.specs.Statuses.{one_idle, idle_at, count_idle}
use Rattle.gl_core.specs.declared.status.Status.{Status}
use Rattle.gl_core.specs.declared.status.Status.TheVariants.{Resolved}

-- what has room for a place has it for each before
pub room_below : (ls : List (List ℕ)) (p q : ℕ) → q ≤ p → HasRoom ls p → HasRoom ls q
room_below [] p q l h = omega (arith, l, h)
room_below (x ∷ ls) p q l h = (let a = h.0 in omega (arith, l, a), room_below ls (p / 2) (q / 2) (omega (arith, l)) h.1)

pub idle_same : (ss : List Status) (r q : ℕ) → idle_at (ss ++ Resolved r ∷ []) q ≡ idle_at ss q
idle_same [] r zero = refl
idle_same [] r (suc q) = refl
idle_same (s ∷ ss) r zero = refl
idle_same (s ∷ ss) r (suc q) = idle_same ss r q

pub count_same : (ss : List Status) (r : ℕ) → count_idle (ss ++ Resolved r ∷ []) ≡ count_idle ss
count_same [] r = refl
count_same (s ∷ ss) r = ap (λ n. one_idle s + n) (count_same ss r)

push_cases : {P : Type 0} (ss : List Status) (x : Status) (p : ℕ) (s : Status) → slice_get (ss ++ x ∷ []) p ≡ Some s → (slice_get ss p ≡ Some s → P) → (p ≡ length ss → x ≡ s → P) → P
push_cases [] x zero s e old new = let d : x ≡ s = cc in new refl d
push_cases [] x (suc p) s e old new = absurd (cc e)
push_cases (y ∷ ss) x zero s e old new = old e
push_cases (y ∷ ss) x (suc p) s e old new = push_cases ss x p s e old (λ a b. new (ap suc a) b)

begun_by : (rows : List (Row Outcome Range)) (n : ℕ) (v : Option ℕ) → IsRowOf rows n v → IsBegun rows n (status_by v)
begun_by rows n None h = h
begun_by rows n (Some r) h = h

-- one more status of a beginning
pub begun_more : (rows : List (Row Outcome Range)) (known : List ℕ) (ss : List Status) (i : ℕ) (v : Option ℕ) → AreBegun rows known ss → length ss ≡ i → IsRowOf rows (slice_index known i) v → AreBegun rows known (ss ++ status_by v ∷ [])
begun_more rows known ss i v h l r p n s e f = push_cases ss (status_by v) p s f (h p n s e) (λ a b.
    let q : slice_index known i ≡ n = ap (slice_index known) (sym l ∙ sym a) ∙ index_of_get known p n e in
    subst (IsBegun rows n) b (subst (λ m. IsBegun rows m (status_by v)) q (begun_by rows (slice_index known i) v r)))

pub begun_none : (rows : List (Row Outcome Range)) (known : List ℕ) → AreBegun rows known []
begun_none rows known p n s e f = absurd (cc f)
