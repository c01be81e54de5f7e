-- Keys and notes by numbers.
use Rattle.std.proofs.Common.{◌≡◌, ℕ, zero, suc, ◌+◌, ◌<◌, ◌≤◌, ◌≢◌, ◌||◌, nat_eq, Bool, true, false, List, [], ◌∷◌, ◌++◌, length, map, set, slice_get, slice_index, get_or, Some, refl, sym, ap, ◌∙◌, subst, arith, inl, inr, length-append, eqb-true, eq-eqb}
use Rattle.std.proofs.lemmas.Option.{slice_get-get_or}
use Rattle.gl_calculus.specs.Computation.Lists.{Member, AreDistinct}
use Rattle.gl_calculus.specs.Grid.Grid.{Range}
use Rattle.gl_calculus.specs.Evaluation.Key as K
use Rattle.gl_calculus.specs.Evaluation.Key.{same_key}
use Rattle.gl_calculus.proofs.Tests.{key_equality}
use Rattle.gl_support.specs.declared.row.Row.{Row}
use Rattle.gl_demand.specs.View.{outcome_tree}
use Rattle.gl_demand.specs.declared.outcome.Outcome.{Outcome}
use Rattle.gl_core.specs.State.{is_noted}
use Rattle.gl_core.specs.Numbers.{Each, key_at, keys_at, named, row_notes, numbers_of, outcome_at, IsBelow, IsIndex}
use Rattle.gl_core.proofs.Trees.{same_or_other}
use Rattle.gl_core.proofs.Wakes.{get_within, get_front, get_last}
use Rattle.gl_core.proofs.Places.{member_at, place_of, one_place}

-- ---- lists

pub all_at : {X : Type 0} (P : X → Type 0) (xs : List X) → Each P xs → (q : ℕ) (x : X) → slice_get xs q ≡ Some x → P x
all_at P [] a q x e = absurd (cc e)
all_at {X} P (y ∷ ys) a zero x e = let d : y ≡ x = cc in subst P d a.0
all_at P (y ∷ ys) a (suc q) x e = all_at P ys a.1 q x e

pub all_by : {X : Type 0} (P : X → Type 0) (xs : List X) → ((x : X) → Member x xs → P x) → Each P xs
all_by P [] h = tt
all_by P (x ∷ xs) h = (h x (inl refl), all_by P xs (λ y m. h y (inr m)))

pub all_in : {X : Type 0} (P : X → Type 0) (xs : List X) → Each P xs → (x : X) → Member x xs → P x
all_in P xs a x m = let (q, e) = place_of xs x m in all_at P xs a q x e

pub all_push : {X : Type 0} (P : X → Type 0) (xs : List X) (x : X) → Each P xs → P x → Each P (xs ++ x ∷ [])
all_push P [] x a p = (p, tt)
all_push P (y ∷ ys) x a p = (a.0, all_push P ys x a.1 p)

pub index_of_get : (xs : List ℕ) (p x : ℕ) → slice_get xs p ≡ Some x → slice_index xs p ≡ x
index_of_get [] p x e = absurd (cc e)
index_of_get (y ∷ xs) zero x e = let d : y ≡ x = cc in d
index_of_get (y ∷ xs) (suc p) x e = index_of_get xs p x e

pub get_of_index : (xs : List ℕ) (p : ℕ) → p < length xs → slice_get xs p ≡ Some (slice_index xs p)
get_of_index [] p h = absurd (omega arith)
get_of_index (y ∷ xs) zero h = refl
get_of_index (y ∷ xs) (suc p) h = get_of_index xs p (omega arith)

pub item_at : {X : Type 0} (xs : List X) (i : ℕ) (x : X) → x ≡ get_or xs i x → i < length xs → slice_get xs i ≡ Some x
item_at xs i x e h = slice_get-get_or xs i x h ∙ ap Some (sym e)

pub get_map : {X Y : Type 0} (f : X → Y) (xs : List X) (q : ℕ) (x : X) → slice_get xs q ≡ Some x → slice_get (map f xs) q ≡ Some (f x)
get_map f [] q x e = absurd (cc e)
get_map f (y ∷ ys) zero x e = let d : y ≡ x = cc in ap (λ t. Some (f t)) d
get_map f (y ∷ ys) (suc q) x e = get_map f ys q x e

pub map_get : {X Y : Type 0} (f : X → Y) (xs : List X) (q : ℕ) (y : Y) → slice_get (map f xs) q ≡ Some y → (x : X) × (slice_get xs q ≡ Some x) × (f x ≡ y)
map_get f [] q y e = absurd (cc e)
map_get f (x ∷ xs) zero y e = let d : f x ≡ y = cc in (x, refl, d)
map_get f (x ∷ xs) (suc q) y e = map_get f xs q y e

pub length-map : {X Y : Type 0} (f : X → Y) (xs : List X) → length (map f xs) ≡ length xs
length-map f [] = refl
length-map f (x ∷ xs) = ap suc (length-map f xs)

pub map_push : {X Y : Type 0} (f : X → Y) (xs : List X) (x : X) → map f (xs ++ x ∷ []) ≡ map f xs ++ f x ∷ []
map_push f [] x = refl
map_push f (y ∷ ys) x = ap (λ t. f y ∷ t) (map_push f ys x)

-- ---- keys with numbers

pub key_is : (ks : List K.Key) (n : ℕ) (k : K.Key) → slice_get ks n ≡ Some k → key_at ks n ≡ k
key_is [] n k e = absurd (cc e)
key_is (x ∷ ks) zero k e = let d : x ≡ k = cc in d
key_is (x ∷ ks) (suc n) k e = key_is ks n k e

pub get_key : (ks : List K.Key) (n : ℕ) → n < length ks → slice_get ks n ≡ Some (key_at ks n)
get_key [] n h = absurd (omega arith)
get_key (x ∷ ks) zero h = refl
get_key (x ∷ ks) (suc n) h = get_key ks n (omega arith)

pub key_more : (ks more : List K.Key) (n : ℕ) → n < length ks → key_at (ks ++ more) n ≡ key_at ks n
key_more [] more n h = absurd (omega arith)
key_more (x ∷ ks) more zero h = refl
key_more (x ∷ ks) more (suc n) h = key_more ks more n (omega arith)

pub keys_more : (ks more : List K.Key) (ns : List ℕ) → Each (λ n. n < length ks) ns → keys_at (ks ++ more) ns ≡ keys_at ks ns
keys_more ks more [] a = refl
keys_more ks more (n ∷ ns) a = let b = key_more ks more n a.0 in let c = keys_more ks more ns a.1 in rw (b, c) refl

pub rows_more : (ks more : List K.Key) (rs : List (Row Outcome Range)) → Each (IsBelow (length ks)) rs → row_notes (ks ++ more) rs ≡ row_notes ks rs
rows_more ks more [] a = refl
rows_more ks more (r ∷ rs) a =
    let b = key_more ks more r.by a.0.0 in
    let d = keys_more ks more r.reads.items a.0.1 in
    let e = rows_more ks more rs a.1 in
    rw (b, d, e) refl

below_more : (n m : ℕ) → n ≤ m → (ns : List ℕ) → Each (λ j. j < n) ns → Each (λ j. j < m) ns
below_more n m h [] a = tt
below_more n m h (j ∷ ns) a = ((let b = a.0 in omega (arith, b, h)), below_more n m h ns a.1)

pub numbers_below_more : (ks more : List K.Key) (ns : List ℕ) → Each (λ j. j < length ks) ns → Each (λ j. j < length (ks ++ more)) ns
numbers_below_more ks more ns a = let l = length-append ks more in below_more (length ks) (length (ks ++ more)) (omega (arith, l)) ns a

pub rows_below_more : (ks more : List K.Key) (rs : List (Row Outcome Range)) → Each (IsBelow (length ks)) rs → Each (IsBelow (length (ks ++ more))) rs
rows_below_more ks more [] a = tt
rows_below_more ks more (r ∷ rs) a = let l = length-append ks more in let b = a.0.0 in ((omega (arith, l, b), numbers_below_more ks more r.reads.items a.0.1), rows_below_more ks more rs a.1)

-- one key has one number
pub one_number : (ks : List K.Key) → AreDistinct ks → (n m : ℕ) → n < length ks → m < length ks → key_at ks n ≡ key_at ks m → n ≡ m
one_number ks d n m h g e = one_place ks d n m (key_at ks m) (get_key ks n h ∙ ap Some e) (get_key ks m g)

-- numbers are the same where their keys are
pub same_number : (ks : List K.Key) → AreDistinct ks → (n m : ℕ) → n < length ks → m < length ks → same_key (key_at ks n) (key_at ks m) ≡ nat_eq n m
same_number ks apart n m h g = unlike (same_key (key_at ks n) (key_at ks m)) (nat_eq n m) (λ t. eq-eqb n m (one_number ks apart n m h g (key_equality.0 _ _ t))) (λ t. ap (λ x. same_key (key_at ks x) (key_at ks m)) (eqb-true n m t) ∙ key_equality.1 (key_at ks m))
  where
    unlike : (a b : Bool) → (a ≡ true → b ≡ true) → (b ≡ true → a ≡ true) → a ≡ b
    unlike true b f g = sym (f refl)
    unlike false true f g = g refl
    unlike false false f g = refl

pub number_in : (ks : List K.Key) → AreDistinct ks → (n : ℕ) → n < length ks → (ns : List ℕ) → Each (λ j. j < length ks) ns → Member (key_at ks n) (keys_at ks ns) → Member n ns
number_in ks d n h [] a m = absurd m
number_in ks d n h (j ∷ ns) a (inl e) = inl (one_number ks d n j h a.0 e)
number_in ks d n h (j ∷ ns) a (inr m) = inr (number_in ks d n h ns a.1 m)

pub key_in : (ks : List K.Key) (n : ℕ) (ns : List ℕ) → Member n ns → Member (key_at ks n) (keys_at ks ns)
key_in ks n [] m = absurd m
key_in ks n (j ∷ ns) (inl e) = inl (ap (key_at ks) e)
key_in ks n (j ∷ ns) (inr m) = inr (key_in ks n ns m)

pub keys_apart : (ks : List K.Key) → AreDistinct ks → (ns : List ℕ) → Each (λ j. j < length ks) ns → AreDistinct ns → AreDistinct (keys_at ks ns)
keys_apart ks d [] a e = tt
keys_apart ks d (n ∷ ns) a e = ((λ m. e.0 (number_in ks d n a.0 ns a.1 m)), keys_apart ks d ns a.1 e.1)

-- ---- outcomes of rows

pub outcome_is : (rs : List (Row Outcome Range)) (r : ℕ) (x : Row Outcome Range) → slice_get rs r ≡ Some x → outcome_at rs r ≡ outcome_tree x.outcome
outcome_is [] r x e = absurd (cc e)
outcome_is (y ∷ rs) zero x e = let d : y ≡ x = cc in ap (λ (t : Row Outcome Range). outcome_tree t.outcome) d
outcome_is (y ∷ rs) (suc r) x e = outcome_is rs r x e

pub outcome_more : (rs more : List (Row Outcome Range)) (r : ℕ) → r < length rs → outcome_at (rs ++ more) r ≡ outcome_at rs r
outcome_more [] more r h = absurd (omega arith)
outcome_more (y ∷ rs) more zero h = refl
outcome_more (y ∷ rs) more (suc r) h = outcome_more rs more r (omega arith)

-- ---- places of numbers

pub index_there : (xs : List ℕ) (n : ℕ) (v : ℕ) → n < length xs → slice_index (set xs n v) n ≡ v
index_there [] n v h = absurd (omega arith)
index_there (x ∷ xs) zero v h = refl
index_there (x ∷ xs) (suc n) v h = index_there xs n v (omega arith)

pub index_other : (xs : List ℕ) (n q : ℕ) (v : ℕ) → q ≢ n → slice_index (set xs n v) q ≡ slice_index xs q
index_other [] n q v d = refl
index_other (x ∷ xs) zero zero v d = absurd (d refl)
index_other (x ∷ xs) zero (suc q) v d = refl
index_other (x ∷ xs) (suc n) zero v d = refl
index_other (x ∷ xs) (suc n) (suc q) v d = index_other xs n q v (λ e. d (ap suc e))

pub index_within : (xs : List ℕ) (n p : ℕ) → slice_index xs n ≡ suc p → n < length xs
index_within [] n p e = absurd (cc e)
index_within (x ∷ xs) zero p e = omega arith
index_within (x ∷ xs) (suc n) p e = let a = index_within xs n p e in omega arith

push_places : {P : Type 0} (ns : List ℕ) (n q m : ℕ) → slice_get (ns ++ n ∷ []) q ≡ Some m → (slice_get ns q ≡ Some m → P) → (q ≡ length ns → m ≡ n → P) → P
push_places [] n zero m e old new = let d : n ≡ m = cc in new refl (sym d)
push_places [] n (suc q) m e old new = absurd (cc e)
push_places (x ∷ ns) n zero m e old new = old e
push_places (x ∷ ns) n (suc q) m e old new = push_places ns n q m e old (λ a b. new (ap suc a) b)

-- one number more
pub index_push : (ns places : List ℕ) (n : ℕ) → IsIndex ns places → n < length places → (Member n ns → ⊥) → IsIndex (ns ++ n ∷ []) (set places n (length ns + 1))
index_push ns places n i h new = record {
  there = λ p m e. push_places ns n p m e
      (λ d. index_other places n m (length ns + 1) (λ s. new (subst (λ t. Member t ns) s (member_at ns p m d))) ∙ i.there p m d)
      (λ a b. ap (slice_index (set places n (length ns + 1))) b ∙ index_there places n (length ns + 1) h ∙ (let c : length ns + 1 ≡ suc p = omega (arith, a) in c));
  back = λ m p e. elim (same_or_other m n) [
    | inl s ↦
        let a : length ns + 1 ≡ suc p = sym (index_there places n (length ns + 1) h) ∙ ap (slice_index (set places n (length ns + 1))) (sym s) ∙ e in
        let b : p ≡ length ns = omega (arith, a) in
        ap (slice_get (ns ++ n ∷ [])) b ∙ get_last ns n ∙ ap Some (sym s)
    | inr d ↦
        let a = i.back m p (sym (index_other places n m (length ns + 1) d) ∙ e) in
        get_front ns (n ∷ []) p (get_within ns p m a) ∙ a
  ];
}

-- the same places read from another list
pub index_read : (ns xs ys : List ℕ) → ((q : ℕ) → slice_index ys q ≡ slice_index xs q) → IsIndex ns xs → IsIndex ns ys
index_read ns xs ys h i = record { there = λ p n e. h n ∙ i.there p n e; back = λ n p e. i.back n p (sym (h n) ∙ e) }

-- a number without a place is not in the list
pub index_absent : (ns places : List ℕ) (n : ℕ) → IsIndex ns places → slice_index places n ≡ 0 → Member n ns → ⊥
index_absent ns places n i z m =
    let (p, e) = place_of ns n m in
    let a : 0 ≡ suc p = sym z ∙ i.there p n e in
    cc a

-- numbers with places are distinct
pub distinct_by : {X : Type 0} (ns : List X) → ((p q : ℕ) (n : X) → slice_get ns p ≡ Some n → slice_get ns q ≡ Some n → p ≡ q) → AreDistinct ns
distinct_by [] h = tt
distinct_by (n ∷ ns) h = ((λ m. let (q, e) = place_of ns n m in let a : 0 ≡ suc q = h 0 (suc q) n refl e in cc a), distinct_by ns (λ p q j e f. let a = h (suc p) (suc q) j e f in omega arith))

pub index_apart : (ns places : List ℕ) → IsIndex ns places → AreDistinct ns
index_apart ns places i = distinct_by ns (λ p q n e f. let a : suc p ≡ suc q = sym (i.there p n e) ∙ i.there q n f in omega arith)

-- ---- noted keys

pub noted_number : (ks : List K.Key) (rs : List (Row Outcome Range)) (n : ℕ) → Member n (numbers_of rs) → is_noted (row_notes ks rs) (key_at ks n) ≡ true
noted_number ks [] n m = absurd m
noted_number ks (r ∷ rs) n (inl e) = ap (λ b. b || is_noted (row_notes ks rs) (key_at ks n)) (ap (λ j. same_key (key_at ks n) (key_at ks j)) (sym e) ∙ key_equality.1 (key_at ks n))
noted_number ks (r ∷ rs) n (inr m) = by (same_key (key_at ks n) (key_at ks r.by)) (noted_number ks rs n m)
  where
    by : (b : Bool) → is_noted (row_notes ks rs) (key_at ks n) ≡ true → (b || is_noted (row_notes ks rs) (key_at ks n)) ≡ true
    by true e = refl
    by false e = e

pub number_noted : (ks : List K.Key) → AreDistinct ks → (rs : List (Row Outcome Range)) → Each (IsBelow (length ks)) rs → (n : ℕ) → n < length ks → is_noted (row_notes ks rs) (key_at ks n) ≡ true → Member n (numbers_of rs)
number_noted ks d [] a n h e = absurd (cc e)
number_noted ks d (r ∷ rs) a n h e = by (same_key (key_at ks n) (key_at ks r.by)) refl e (number_noted ks d rs a.1 n h)
  where
    by : (b : Bool) → same_key (key_at ks n) (key_at ks r.by) ≡ b → (b || is_noted (row_notes ks rs) (key_at ks n)) ≡ true → (is_noted (row_notes ks rs) (key_at ks n) ≡ true → Member n (numbers_of rs)) → Member n (numbers_of (r ∷ rs))
    by true t f g = inl (one_number ks d n r.by h a.0.0 (key_equality.0 _ _ t))
    by false t f g = inr (g f)

pub not_noted : (ks : List K.Key) → AreDistinct ks → (rs : List (Row Outcome Range)) → Each (IsBelow (length ks)) rs → (n : ℕ) → n < length ks → (Member n (numbers_of rs) → ⊥) → is_noted (row_notes ks rs) (key_at ks n) ≡ false
not_noted ks d rs a n h non = by (is_noted (row_notes ks rs) (key_at ks n)) refl
  where
    by : (b : Bool) → is_noted (row_notes ks rs) (key_at ks n) ≡ b → b ≡ false
    by true e = absurd (non (number_noted ks d rs a n h e))
    by false e = refl

pub row_note_at : (ks : List K.Key) (rs : List (Row Outcome Range)) (r : ℕ) (x : Row Outcome Range) → slice_get rs r ≡ Some x → slice_get (row_notes ks rs) r ≡ Some (named ks (record { key = x.by; outcome = x.outcome; reads = x.reads.items; looked = x.looked.items }))
row_note_at ks [] r x e = absurd (cc e)
row_note_at ks (y ∷ rs) zero x e = let d : y ≡ x = cc in ap (λ (t : Row Outcome Range). Some (named ks (record { key = t.by; outcome = t.outcome; reads = t.reads.items; looked = t.looked.items }))) d
row_note_at ks (y ∷ rs) (suc r) x e = row_note_at ks rs r x e
