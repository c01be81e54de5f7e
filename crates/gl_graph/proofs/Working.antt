-- The work that is left of a search.
use Rattle.std.proofs.Common.{◌≡◌, ℕ, zero, suc, ◌+◌, ◌<◌, ◌≤◌, Bool, true, false, List, [], ◌∷◌, ◌++◌, length, set, refl, ap, ◌∙◌, arith, length-set}
use Rattle.std.specs.Prelude.{sum_by, if◌then◌else◌}
use Rattle.std.proofs.lemmas.List.Sums.{sum_by-append}
use Rattle.gl_graph.specs.Search.{mark_of, is_new, is_shut, new_work, shut_count, frame_work}
use Rattle.gl_graph.specs.declared.graph.Place.{Place}
use Rattle.gl_graph.specs.declared.mark.Mark.{Mark}
use Rattle.gl_graph.specs.declared.mark.Mark.TheVariants.{New, Circle}
use Rattle.gl_graph.specs.declared.state.Frame.{Frame}

-- where the same nodes are new, the work is the same
pub same_work : (cost : ℕ → ℕ) (n : ℕ) (xs ys : List Mark) → length xs ≡ length ys → ((m : ℕ) → is_new (mark_of xs m) ≡ is_new (mark_of ys m)) → new_work cost n xs ≡ new_work cost n ys
same_work cost n [] [] e h = refl
same_work cost n [] (y ∷ ys) e h = absurd (omega (arith, e))
same_work cost n (x ∷ xs) [] e h = absurd (omega (arith, e))
same_work cost n (x ∷ xs) (y ∷ ys) e h =
    let rest : new_work cost (n + 1) xs ≡ new_work cost (n + 1) ys = same_work cost (n + 1) xs ys (omega (arith, e)) (λ m. h (suc m)) in
    ap (λ b. (if b then cost n else 0) + new_work cost (n + 1) xs) (h zero) ∙ ap (λ t. (if is_new y then cost n else 0) + t) rest

-- a node that is no longer new takes its work away
pub less_work : (cost : ℕ → ℕ) (n : ℕ) (xs : List Mark) (m : ℕ) (x : Mark) → mark_of xs m ≡ New → m < length xs → is_new x ≡ false → new_work cost n (set xs m x) + cost (n + m) ≡ new_work cost n xs
less_work cost n [] m x e l f = absurd (omega (arith, l))
less_work cost n (y ∷ ys) zero x e l f =
    let u : (if is_new x then cost n else 0) ≡ 0 = ap (λ b. if b then cost n else 0) f in
    let v : (if is_new y then cost n else 0) ≡ cost n = ap (λ t. if is_new t then cost n else 0) e in
    let w : cost (n + 0) ≡ cost n = ap cost (omega arith) in
    omega (arith, u, v, w)
less_work cost n (y ∷ ys) (suc m) x e l f =
    let u = less_work cost (n + 1) ys m x e (omega (arith, l)) f in
    let w : cost (n + suc m) ≡ cost (n + 1 + m) = ap cost (omega arith) in
    omega (arith, u, w)

pub frames_push : (left : ℕ → Place → List ℕ) (fs : List Frame) (f : Frame) → sum_by (frame_work left) (fs ++ f ∷ []) ≡ sum_by (frame_work left) fs + frame_work left f
frames_push left fs f = let u = sum_by-append (frame_work left) fs (f ∷ []) in omega (arith, u)

shut_set : (xs : List Mark) (m : ℕ) (x : Mark) → m < length xs → shut_count (set xs m x) + (if is_shut (mark_of xs m) then 1 else 0) ≡ shut_count xs + (if is_shut x then 1 else 0)
shut_set [] m x l = absurd (omega (arith, l))
shut_set (y ∷ ys) zero x l = omega arith
shut_set (y ∷ ys) (suc m) x l = omega (arith, shut_set ys m x (omega (arith, l)))

-- a mark that becomes shut counts
pub more_shut : (xs : List Mark) (m : ℕ) (x : Mark) → m < length xs → is_shut (mark_of xs m) ≡ false → is_shut x ≡ true → shut_count (set xs m x) ≡ shut_count xs + 1
more_shut xs m x l e f =
    let u = shut_set xs m x l in
    let none : ℕ = 0 in
    let v : (if is_shut (mark_of xs m) then 1 else 0) ≡ none = ap (λ b. if b then 1 else 0) e in
    let one : ℕ = 1 in
    let w : (if is_shut x then 1 else 0) ≡ one = ap (λ b. if b then 1 else 0) f in
    omega (arith, u, v, w)

-- one that isn't shut before or after doesn't
pub same_shut : (xs : List Mark) (m : ℕ) (x : Mark) → m < length xs → is_shut (mark_of xs m) ≡ false → is_shut x ≡ false → shut_count (set xs m x) ≡ shut_count xs
same_shut xs m x l e f =
    let u = shut_set xs m x l in
    let none : ℕ = 0 in
    let v : (if is_shut (mark_of xs m) then 1 else 0) ≡ none = ap (λ b. if b then 1 else 0) e in
    let w : (if is_shut x then 1 else 0) ≡ none = ap (λ b. if b then 1 else 0) f in
    omega (arith, u, v, w)

pub few_shut : (xs : List Mark) → shut_count xs ≤ length xs
few_shut [] = omega arith
few_shut (x ∷ xs) = let u : shut_count xs ≤ length xs = few_shut xs in let v : (if is_shut x then 1 else 0) ≤ 1 = one (is_shut x) in let w : (if is_shut x then 1 else 0) + shut_count xs ≤ suc (length xs) = omega (arith, u, v) in w
  where
    one : (b : Bool) → (if b then 1 else 0) ≤ 1
    one true = omega arith
    one false = omega arith

-- a node past the list is new
pub known_within : (xs : List Mark) (m : ℕ) → (mark_of xs m ≡ New → ⊥) → m < length xs
known_within [] m h = absurd (h refl)
known_within (x ∷ xs) zero h = omega arith
known_within (x ∷ xs) (suc m) h = omega (arith, known_within xs m h)

-- where one isn't shut they are fewer than all
pub fewer_shut : (xs : List Mark) (m : ℕ) → m < length xs → is_shut (mark_of xs m) ≡ false → shut_count xs < length xs
fewer_shut xs m l e = let u : shut_count (set xs m Circle) ≡ shut_count xs + 1 = more_shut xs m Circle l e refl in let v = few_shut (set xs m Circle) in let w = length-set xs m Circle in omega (arith, u, v, w)
