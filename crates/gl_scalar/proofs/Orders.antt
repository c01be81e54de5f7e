-- What `cmp` answers at numbers, texts and truth values is how they stand to each other.
use Rattle.std.proofs.Common.{◌≡◌, ℕ, ℤ, pos, negsuc, Bool, true, false, List, Some, refl, sym, ◌∙◌, arith, int_lt, bytes_eq, cond, [], ◌∷◌, ◌==◌, nat_lt, ◌||◌, ◌&&◌}
use Rattle.std.proofs.lemmas.Bool.Decides.{nat_tests}
use Rattle.std.proofs.lemmas.Cmp.{same_from_slice_cmp}
use Rattle.std.specs.Cmp.Lexicographic.{slice_cmp}
use Rattle.std.specs.Ordering.{nat_cmp, int_cmp, bool_cmp, is_lt, is_eq, is_gt}
use Rattle.std.specs.declared.cmp.Ordering.{Ordering}
use Rattle.std.specs.declared.cmp.Ordering.TheVariants.{Less, Equal, Greater}
use Rattle.gl_calculus.specs.Values.Value as V
use Rattle.gl_value.specs.Ints.{int_test}
use Rattle.gl_scalar.specs.Rules.{Stands, is_less, is_equal, is_greater}

less_is : (o : Ordering) → is_lt o ≡ is_less (Some o)
less_is Less = refl
less_is Equal = refl
less_is Greater = refl

equal_is : (o : Ordering) → is_eq o ≡ is_equal (Some o)
equal_is Less = refl
equal_is Equal = refl
equal_is Greater = refl

greater_is : (o : Ordering) → is_gt o ≡ is_greater (Some o)
greater_is Less = refl
greater_is Equal = refl
greater_is Greater = refl

-- ---- numbers

not_both : (m n : ℤ) → int_lt m n ≡ true → int_lt n m ≡ false
not_both (pos m) (pos n) h = grind (arith, nat_tests)
not_both (pos m) (negsuc n) h = absurd (cc h)
not_both (negsuc m) (pos n) h = refl
not_both (negsuc m) (negsuc n) h = grind (arith, nat_tests)

int_less : (b c : Bool) → b ≡ is_less (Some (cond b Less (cond c Greater Equal)))
int_less true c = refl
int_less false true = refl
int_less false false = refl

int_greater : (b c : Bool) → (b ≡ true → c ≡ false) → c ≡ is_greater (Some (cond b Less (cond c Greater Equal)))
int_greater true c h = h refl
int_greater false true h = refl
int_greater false false h = refl

pub stands_int : (m n : ℤ) → Stands (Some (int_cmp m n)) (V.Scalar.Int m) (V.Scalar.Int n)
stands_int m n = record {
  less = int_less (int_lt m n) (int_lt n m);
  equal = sym (int_test m n) ∙ equal_is (int_cmp m n);
  greater = int_greater (int_lt m n) (int_lt n m) (not_both m n);
}

-- ---- texts

-- the first text is below the second
abbrev text_below : List ℕ → List ℕ → Bool
text_below s [] = false
text_below [] (c ∷ t) = true
text_below (b ∷ s) (c ∷ t) = nat_lt b c || ((b == c) && text_below s t)

text_less : (s t : List ℕ) (o : Ordering) → o ≡ slice_cmp nat_cmp s t → is_lt o ≡ text_below s t
text_less = same_from_slice_cmp nat_cmp is_lt text_below refl (λ _ _. refl) (λ _ _. refl) (λ x y xs ys o h. grind (arith, nat_tests))

text_greater : (s t : List ℕ) (o : Ordering) → o ≡ slice_cmp nat_cmp s t → is_gt o ≡ text_below t s
text_greater = same_from_slice_cmp nat_cmp is_gt (λ s t. text_below t s) refl (λ _ _. refl) (λ _ _. refl) (λ x y xs ys o h. grind (arith, nat_tests))

text_equal : (s t : List ℕ) (o : Ordering) → o ≡ slice_cmp nat_cmp s t → is_eq o ≡ bytes_eq s t
text_equal = same_from_slice_cmp nat_cmp is_eq bytes_eq refl (λ _ _. refl) (λ _ _. refl) (λ x y xs ys o h. grind (arith, nat_tests))

pub stands_text : (s t : List ℕ) → Stands (Some (slice_cmp nat_cmp s t)) (V.Scalar.Text s) (V.Scalar.Text t)
stands_text s t = let o = slice_cmp nat_cmp s t in record {
  less = less_is o;
  equal = sym (text_equal s t o refl) ∙ equal_is o;
  greater = text_less t s (slice_cmp nat_cmp t s) refl ∙ sym (text_greater s t o refl) ∙ greater_is o;
}

-- ---- truth values

pub stands_bool : (b c : Bool) → Stands (Some (bool_cmp b c)) (V.Scalar.Bool b) (V.Scalar.Bool c)
stands_bool true true = record { less = refl; equal = refl; greater = refl }
stands_bool true false = record { less = refl; equal = refl; greater = refl }
stands_bool false true = record { less = refl; equal = refl; greater = refl }
stands_bool false false = record { less = refl; equal = refl; greater = refl }

pub ruleset orders = (stands_int, stands_text, stands_bool)
