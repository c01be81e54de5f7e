-- Lists: what holds of each of some items, and an item that is replaced or put in.
use Rattle.std.proofs.Common.{◌≡◌, ℕ, ◌<◌, ◌≤◌, zero, suc, List, [], ◌∷◌, ◌++◌, map, length, get_or, set, take, drop, Option, Some, None, slice_get, option_copied, is_some, IfSome, Bor, ltb, Bool, cond, refl, sym, ap, subst, arith}
use Rattle.std.specs.List.{AllByRecursion}
use Rattle.std.proofs.lemmas.Bool.Decides.{nat_tests}
use Rattle.std.proofs.lemmas.Option.{slice_get_past}

pub all_at : {X : Type 0} (P : X → Type 0) (xs : List X) (i : ℕ) (x : X) → AllByRecursion P xs → slice_get xs i ≡ Some x → P x
all_at P [] i x h e = cc e
all_at P (y ∷ xs) zero x h e = let s : y ≡ x = cc e in subst P s h.0
all_at P (y ∷ xs) (suc i) x h e = all_at P xs i x h.1 e

pub all_then : {X : Type 0} (P Q : X → Type 0) (xs : List X) → ((x : X) → P x → Q x) → AllByRecursion P xs → AllByRecursion Q xs
all_then P Q [] f h = tt
all_then P Q (x ∷ xs) f h = (f x h.0, all_then P Q xs f h.1)

pub all_set : {X : Type 0} (P : X → Type 0) (xs : List X) (i : ℕ) (x : X) → AllByRecursion P xs → P x → AllByRecursion P (set xs i x)
all_set P [] i x h k = tt
all_set P (y ∷ xs) zero x h k = (k, h.1)
all_set P (y ∷ xs) (suc i) x h k = (h.0, all_set P xs i x h.1 k)

pub all_push : {X : Type 0} (P : X → Type 0) (xs : List X) (x : X) → AllByRecursion P xs → P x → AllByRecursion P (xs ++ x ∷ [])
all_push P [] x h k = (k, tt)
all_push P (y ∷ xs) x h k = (h.0, all_push P xs x h.1 k)

pub all_insert : {X : Type 0} (P : X → Type 0) (xs : List X) (i : ℕ) (x : X) → AllByRecursion P xs → P x → AllByRecursion P (take i xs ++ x ∷ drop i xs)
all_insert P xs zero x h k = (k, h)
all_insert P [] (suc i) x h k = (k, tt)
all_insert P (y ∷ xs) (suc i) x h k = (h.0, all_insert P xs i x h.1 k)

pub get_set_same : {X : Type 0} (xs : List X) (i : ℕ) (d x : X) → slice_get xs i ≡ Some d → slice_get (set xs i x) i ≡ Some x
get_set_same [] i d x e = cc e
get_set_same (y ∷ xs) zero d x e = refl
get_set_same (y ∷ xs) (suc i) d x e = get_set_same xs i d x e

pub get_set_other : {X : Type 0} (xs : List X) (i k : ℕ) (x : X) → (k ≡ i → ⊥) → slice_get (set xs i x) k ≡ slice_get xs k
get_set_other [] i k x n = refl
get_set_other (y ∷ xs) zero zero x n = absurd (n refl)
get_set_other (y ∷ xs) zero (suc k) x n = refl
get_set_other (y ∷ xs) (suc i) zero x n = refl
get_set_other (y ∷ xs) (suc i) (suc k) x n = get_set_other xs i k x (λ e. n (ap suc e))

pub get_push_before : {X : Type 0} (xs : List X) (x d : X) (i : ℕ) → slice_get xs i ≡ Some d → slice_get (xs ++ x ∷ []) i ≡ Some d
get_push_before [] x d i e = cc e
get_push_before (y ∷ xs) x d zero e = e
get_push_before (y ∷ xs) x d (suc i) e = get_push_before xs x d i e

pub get_push_last : {X : Type 0} (xs : List X) (x : X) → slice_get (xs ++ x ∷ []) (length xs) ≡ Some x
get_push_last [] x = refl
get_push_last (y ∷ xs) x = get_push_last xs x

pub map_insert : {X Y : Type 0} (f : X → Y) (xs : List X) (i : ℕ) (x : X) → map f (take i xs ++ x ∷ drop i xs) ≡ take i (map f xs) ++ f x ∷ drop i (map f xs)
map_insert f xs zero x = refl
map_insert f [] (suc i) x = refl
map_insert f (y ∷ xs) (suc i) x = ap (λ zs. f y ∷ zs) (map_insert f xs i x)

pub get_read : {X : Type 0} (xs : List X) (i : ℕ) (x : X) → i < length xs → x ≡ get_or xs i x → slice_get xs i ≡ Some x
get_read [] i x h e = absurd (omega arith)
get_read (y ∷ xs) zero x h e = ap Some (sym e)
get_read (y ∷ xs) (suc i) x h e = get_read xs i x (omega arith) e

-- what `get` gives
pub get_gives : {X : Type 0} (xs : List X) (i : ℕ) (o : Option (Bor X)) → is_some o ≡ ltb i (length xs) → IfSome o (λ x. x.now ≡ get_or xs i x.now) → option_copied o ≡ slice_get xs i
get_gives xs i None h k = let past : length xs ≤ i = grind (arith, nat_tests) in sym (slice_get_past xs i past)
get_gives xs i (Some x) h k = let l : i < length xs = grind (arith, nat_tests) in sym (get_read xs i x.now l k)

-- what is added where a test says no
abbrev pub one_if_not : Bool → ℕ
one_if_not b = cond b 0 1
