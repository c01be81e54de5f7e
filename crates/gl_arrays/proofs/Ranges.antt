-- Lists made from a function of the index.
use Rattle.std.proofs.Common.{◌≡◌, ℕ, zero, suc, ◌+◌, ◌*◌, ◌-◌, ◌<◌, ◌≤◌, List, [], ◌∷◌, ◌++◌, length, map, take, drop, replicate, get_or, refl, ap, ◌∙◌, arith}
use Rattle.std.specs.List.{range_with_len, flat_map}
use Rattle.std.proofs.lemmas.List.{get_or_append_left, get_or-append_right}
use Rattle.std.proofs.lemmas.List.FromFn.{length-map-range_with_len, get_or-map-range_with_len}
use Rattle.std.proofs.lemmas.List.{length-append}

pub map_same : {X : Type 0} (f g : ℕ → X) (a n : ℕ) → ((k : ℕ) → a ≤ k → k < a + n → f k ≡ g k) → map f (range_with_len a n) ≡ map g (range_with_len a n)
map_same f g a zero h = refl
map_same f g a (suc n) h =
    ap (λ y. y ∷ map f (range_with_len (a + 1) n)) (h a (omega arith) (omega arith))
    ∙ ap (λ ys. g a ∷ ys) (map_same f g (a + 1) n (λ k p q. h k (omega arith) (omega arith)))

pub flat_map_same : {X : Type 0} (f g : ℕ → List X) (a n : ℕ) → ((k : ℕ) → a ≤ k → k < a + n → f k ≡ g k) → flat_map f (range_with_len a n) ≡ flat_map g (range_with_len a n)
flat_map_same f g a zero h = refl
flat_map_same f g a (suc n) h =
    ap (λ y. y ++ flat_map f (range_with_len (a + 1) n)) (h a (omega arith) (omega arith))
    ∙ ap (λ ys. g a ++ ys) (flat_map_same f g (a + 1) n (λ k p q. h k (omega arith) (omega arith)))

pub map_shift : {X : Type 0} (f : ℕ → X) (s a b n : ℕ) → b ≡ s + a → map f (range_with_len b n) ≡ map (λ i. f (s + i)) (range_with_len a n)
map_shift f s a b zero e = refl
map_shift f s a b (suc n) e =
    ap (λ k. f k ∷ map f (range_with_len (b + 1) n)) e
    ∙ ap (λ ys. f (s + a) ∷ ys) (map_shift f s (a + 1) (b + 1) n (omega arith))

pub take_map : {X : Type 0} (f : ℕ → X) (a n k m : ℕ) → k ≤ n → m ≡ k → take m (map f (range_with_len a n)) ≡ map f (range_with_len a k)
take_map f a n k m h e = rw e (take_front f a n k h)
  where
    take_front : {X : Type 0} (f : ℕ → X) (a n k : ℕ) → k ≤ n → take k (map f (range_with_len a n)) ≡ map f (range_with_len a k)
    take_front f a n zero h = refl
    take_front f a zero (suc k) h = absurd (omega arith)
    take_front f a (suc n) (suc k) h = ap (λ ys. f a ∷ ys) (take_front f (a + 1) n k (omega arith))

pub drop_map : {X : Type 0} (f : ℕ → X) (a n k : ℕ) → drop k (map f (range_with_len a n)) ≡ map f (range_with_len (a + k) (n - k))
drop_map f a n zero =
    let e : a + 0 ≡ a = omega arith in
    let d : n - 0 ≡ n = omega arith in
    rw (e, d) refl
drop_map f a zero (suc k) =
    let d : zero - suc k ≡ zero = omega arith in
    rw d refl
drop_map f a (suc n) (suc k) =
    let e : a + suc k ≡ a + 1 + k = omega arith in
    let d : suc n - suc k ≡ n - k = omega arith in
    rw (e, d) (drop_map f (a + 1) n k)

-- the element in a row and a column of rows of one length, one after another
pub get_or_rows : {X : Type 0} (f : ℕ → ℕ → X) (m a n i j : ℕ) (d : X) → i < n → j < m → get_or (flat_map (λ k. map (f k) (range_with_len 0 m)) (range_with_len a n)) (i * m + j) d ≡ f (a + i) j
get_or_rows f m a zero i j d h k = absurd (omega arith)
get_or_rows f m a (suc n) zero j d h k =
    let here = map (f a) (range_with_len 0 m) in
    let count : length here ≡ m = length-map-range_with_len (f a) 0 m in
    let e : zero * m + j ≡ j = grind arith in
    let z : a + zero ≡ a = omega arith in
    rw (e, z) (get_or_append_left here (flat_map (λ k. map (f k) (range_with_len 0 m)) (range_with_len (a + 1) n)) d j (omega arith) ∙ get_or-map-range_with_len (f a) 0 m j j d k (omega arith))
get_or_rows f m a (suc n) (suc i) j d h k =
    let here = map (f a) (range_with_len 0 m) in
    let more : suc i * m + j ≡ m + (i * m + j) = grind arith in
    let less : suc i * m + j - m ≡ i * m + j = omega arith in
    let z : a + suc i ≡ a + 1 + i = omega arith in
    get_or-append_right here (flat_map (λ k. map (f k) (range_with_len 0 m)) (range_with_len (a + 1) n)) m (suc i * m + j) d (length-map-range_with_len (f a) 0 m) (omega arith)
    ∙ rw (less, z) (get_or_rows f m (a + 1) n i j d (omega arith) k)

pub count_rows : {X : Type 0} (f : ℕ → ℕ → X) (m a n : ℕ) → length (flat_map (λ k. map (f k) (range_with_len 0 m)) (range_with_len a n)) ≡ n * m
count_rows f m a zero = grind arith
count_rows f m a (suc n) =
    let here = map (f a) (range_with_len 0 m) in
    let rest = flat_map (λ k. map (f k) (range_with_len 0 m)) (range_with_len (a + 1) n) in
    let one : length here ≡ m = length-map-range_with_len (f a) 0 m in
    let others : length rest ≡ n * m = count_rows f m (a + 1) n in
    let more : suc n * m ≡ m + n * m = grind arith in
    length-append here rest ∙ omega (arith, one, others, more)

pub range_append : {X : Type 0} (f : ℕ → X) (a m n : ℕ) → map f (range_with_len a (m + n)) ≡ map f (range_with_len a m) ++ map f (range_with_len (a + m) n)
range_append f a zero n =
    let e : zero + n ≡ n = omega arith in
    let z : a + zero ≡ a = omega arith in
    rw (e, z) refl
range_append f a (suc m) n =
    let e : suc m + n ≡ suc (m + n) = omega arith in
    let z : a + suc m ≡ a + 1 + m = omega arith in
    rw (e, z) (ap (λ ys. f a ∷ ys) (range_append f (a + 1) m n))

pub map_const : {X : Type 0} (f : ℕ → X) (d : X) (a n : ℕ) → ((k : ℕ) → a ≤ k → f k ≡ d) → map f (range_with_len a n) ≡ replicate n d
map_const f d a zero h = refl
map_const f d a (suc n) h =
    ap (λ y. y ∷ map f (range_with_len (a + 1) n)) (h a (omega arith))
    ∙ ap (λ ys. d ∷ ys) (map_const f d (a + 1) n (λ k p. h k (omega arith)))

pub map_map : {X Y Z : Type 0} (f : Y → Z) (g : X → Y) (xs : List X) → map f (map g xs) ≡ map (λ x. f (g x)) xs
map_map f g [] = refl
map_map f g (x ∷ xs) = ap (λ ys. f (g x) ∷ ys) (map_map f g xs)
