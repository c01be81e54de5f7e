-- Lists of keys that are equal place by place.
use Rattle.std.proofs.Common.{◌≡◌, ◌∙◌, Bool, true, false, cond, ◌||◌, List, [], ◌∷◌, ◌++◌, refl, sym, ap, subst, append_assoc, filter, if◌then◌else◌}
use Rattle.std.proofs.lemmas.List.{append-nil}
use Rattle.std.proofs.lemmas.List.Elements.{AllZip-push}
use Rattle.std.proofs.lemmas.List.Folds.{list_any-append}
use Rattle.std.proofs.lemmas.List.Sums.{fold-append}
use Rattle.std.specs.Cmp.{IsEquivalence}
use Rattle.std.specs.List.{list_any, AllZip}
use Rattle.indexmap.specs.IndexSet.{insert_key, insert_all}
use Rattle.gl_calculus.specs.Computation.Lists.{has_member, fresh, distinct}

pub or_false : (b : Bool) → (b || false) ≡ b
or_false true = refl
or_false false = refl

pub or_right : (b : Bool) → (b || true) ≡ true
or_right true = refl
or_right false = refl

pub has_member-any : {K : Type 0} (same : K → K → Bool) (k : K) (ks : List K) → has_member same k ks ≡ list_any (same k) ks
has_member-any same k [] = refl
has_member-any same k (x ∷ xs) = ap (cond (same k x) true) (has_member-any same k xs) ∙ cond_or (same k x) (list_any (same k) xs)
  where
    cond_or : (a b : Bool) → cond a true b ≡ (a || b)
    cond_or true b = refl
    cond_or false b = refl

module _ {K : Type 0} {same : K → K → Bool} (laws : IsEquivalence same) where
  pub alike_right : (x u k : K) → same u k ≡ true → same x u ≡ same x k
  alike_right x u k h = laws.symm x u ∙ laws.congr u k x h ∙ laws.symm k x

  -- equal lists have equal keys
  pub any_alike : (x : K) (us ks : List K) → AllZip (λ a b. same a b ≡ true) us ks → list_any (same x) us ≡ list_any (same x) ks
  any_alike x [] [] h = refl
  any_alike x [] (k ∷ ks) h = absurd h
  any_alike x (u ∷ us) [] h = absurd h
  any_alike x (u ∷ us) (k ∷ ks) h = ap (λ b. b || list_any (same x) us) (alike_right x u k h.0) ∙ ap (λ b. same x k || b) (any_alike x us ks h.1)

  pub any_congr : (x y : K) (ks : List K) → same x y ≡ true → list_any (same x) ks ≡ list_any (same y) ks
  any_congr x y [] h = refl
  any_congr x y (k ∷ ks) h = ap (λ b. b || list_any (same x) ks) (laws.congr x y k h) ∙ ap (λ b. same y k || b) (any_congr x y ks h)

  pub AllZip-trans : (xs ys zs : List K) → AllZip (λ a b. same a b ≡ true) xs ys → AllZip (λ a b. same a b ≡ true) ys zs → AllZip (λ a b. same a b ≡ true) xs zs
  AllZip-trans [] [] [] h i = tt
  AllZip-trans [] [] (z ∷ zs) h i = absurd i
  AllZip-trans [] (y ∷ ys) zs h i = absurd h
  AllZip-trans (x ∷ xs) [] zs h i = absurd h
  AllZip-trans (x ∷ xs) (y ∷ ys) [] h i = absurd i
  AllZip-trans (x ∷ xs) (y ∷ ys) (z ∷ zs) h i = (laws.congr x y z h.0 ∙ i.0, AllZip-trans xs ys zs h.1 i.1)

  -- a test that tells no equal keys apart keeps equal keys
  pub filter_alike : (test : K → Bool) → ((x y : K) → same x y ≡ true → test x ≡ test y) → (us ks : List K) → AllZip (λ a b. same a b ≡ true) us ks → AllZip (λ a b. same a b ≡ true) (filter test us) (filter test ks)
  filter_alike test alike [] [] h = tt
  filter_alike test alike [] (k ∷ ks) h = absurd h
  filter_alike test alike (u ∷ us) [] h = absurd h
  filter_alike test alike (u ∷ us) (k ∷ ks) h = by (test u) (test k) (alike u k h.0) (filter_alike test alike us ks h.1)
    where
      by : (a b : Bool) → a ≡ b → AllZip (λ a b. same a b ≡ true) (filter test us) (filter test ks) → AllZip (λ a b. same a b ≡ true) (cond a (u ∷ filter test us) (filter test us)) (cond b (k ∷ filter test ks) (filter test ks))
      by true true e rest = (h.0, rest)
      by false false e rest = rest
      by true false e rest = let no : true ≡ false = e in cc
      by false true e rest = let no : false ≡ true = e in cc

  -- equal keys are inserted into equal lists alike
  insert_by : (b c : Bool) (us ks : List K) (x y : K) → b ≡ c → AllZip (λ a b. same a b ≡ true) us ks → same x y ≡ true → AllZip (λ a b. same a b ≡ true) (if b then us else us ++ x ∷ []) (if c then ks else ks ++ y ∷ [])
  insert_by true true us ks x y e h s = h
  insert_by false false us ks x y e h s = AllZip-push (λ a b. same a b ≡ true) us ks x y h s
  insert_by true false us ks x y e h s = let no : true ≡ false = e in cc
  insert_by false true us ks x y e h s = let no : false ≡ true = e in cc

  insert_alike : (us ks : List K) (x y : K) → AllZip (λ a b. same a b ≡ true) us ks → same x y ≡ true → AllZip (λ a b. same a b ≡ true) (insert_key same us x) (insert_key same ks y)
  insert_alike us ks x y h s = insert_by (list_any (same x) us) (list_any (same y) ks) us ks x y (any_alike x us ks h ∙ any_congr x y ks s) h s

  pub insert_all-push : (xs ks : List K) (x y : K) → AllZip (λ a b. same a b ≡ true) (insert_all same [] xs) ks → same x y ≡ true → AllZip (λ a b. same a b ≡ true) (insert_all same [] (xs ++ x ∷ [])) (insert_key same ks y)
  insert_all-push xs ks x y h s = subst (λ (us : List K). AllZip (λ a b. same a b ≡ true) us (insert_key same ks y)) (sym (fold-append (insert_key same) [] xs (x ∷ []))) (insert_alike (insert_all same [] xs) ks x y h s)

  -- the keys that are inserted in turn are all of them
  any_insert_key : (x y : K) (acc : List K) → list_any (same x) (insert_key same acc y) ≡ (list_any (same x) acc || same x y)
  any_insert_key x y acc = by (list_any (same y) acc) refl
    where
      held : (b : Bool) → same x y ≡ b → list_any (same y) acc ≡ true → list_any (same x) acc ≡ (list_any (same x) acc || b)
      held true e h = let is : list_any (same x) acc ≡ true = any_congr x y acc e ∙ h in is ∙ sym (ap (λ b. b || true) is)
      held false e h = sym (or_false (list_any (same x) acc))

      by : (b : Bool) → list_any (same y) acc ≡ b → list_any (same x) (if b then acc else acc ++ y ∷ []) ≡ (list_any (same x) acc || same x y)
      by true h = held (same x y) refl h
      by false h = list_any-append (same x) acc (y ∷ []) ∙ ap (λ b. list_any (same x) acc || b) (or_false (same x y))

  or_assoc : (a b c : Bool) → ((a || b) || c) ≡ (a || (b || c))
  or_assoc true b c = refl
  or_assoc false b c = refl

  pub any_insert_all : (x : K) (acc xs : List K) → list_any (same x) (insert_all same acc xs) ≡ (list_any (same x) acc || list_any (same x) xs)
  any_insert_all x acc [] = sym (or_false (list_any (same x) acc))
  any_insert_all x acc (y ∷ ys) = any_insert_all x (insert_key same acc y) ys ∙ ap (λ b. b || list_any (same x) ys) (any_insert_key x y acc) ∙ or_assoc (list_any (same x) acc) (same x y) (list_any (same x) ys)

  -- keys that are inserted in turn stand where they stand first
  inserted : (xs acc seen : List K) → ((k : K) → has_member same k seen ≡ list_any (same k) acc) → insert_all same acc xs ≡ acc ++ fresh same seen xs
  inserted [] acc seen h = sym (append-nil acc)
  inserted (x ∷ xs) acc seen h = by (list_any (same x) acc) (has_member same x seen) (sym (h x)) (λ a s g. inserted xs a s g)
    where
      push_seen : (k : K) → has_member same k (x ∷ seen) ≡ list_any (same k) (acc ++ x ∷ [])
      push_seen k = has_member-any same k (x ∷ seen) ∙ swap (same k x) (list_any (same k) seen) (list_any (same k) acc) (sym (has_member-any same k seen) ∙ h k) ∙ sym (list_any-append (same k) acc (x ∷ []) ∙ ap (λ b. list_any (same k) acc || b) (or_false (same k x)))
        where
          swap : (a b c : Bool) → b ≡ c → (a || b) ≡ (c || a)
          swap true b true e = refl
          swap true b false e = refl
          swap false true true e = refl
          swap false false false e = refl
          swap false true false e = let no : true ≡ false = e in cc
          swap false false true e = let no : false ≡ true = e in cc

      by : (b c : Bool) → b ≡ c → ((a s : List K) → ((k : K) → has_member same k s ≡ list_any (same k) a) → insert_all same a xs ≡ a ++ fresh same s xs) → insert_all same (if b then acc else acc ++ x ∷ []) xs ≡ acc ++ cond c (fresh same seen xs) (x ∷ fresh same (x ∷ seen) xs)
      by true true e rest = rest acc seen h
      by false false e rest = rest (acc ++ x ∷ []) (x ∷ seen) push_seen ∙ append_assoc acc (x ∷ []) (fresh same (x ∷ seen) xs)
      by true false e rest = let no : true ≡ false = e in cc
      by false true e rest = let no : false ≡ true = e in cc

  pub distinct-insert_all : (xs : List K) → insert_all same [] xs ≡ distinct same xs
  distinct-insert_all xs = inserted xs [] [] (λ k. refl)
