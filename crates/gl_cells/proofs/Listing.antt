-- How the list of contents changes with the addresses and with what they hold.
use Rattle.std.proofs.Common.{suc, ◌≡◌, ◌∙◌, Bool, true, false, cond, List, [], ◌∷◌, filter, length, Option, None, Some, refl, sym, ap, subst, is_some}
use Rattle.std.specs.Prelude.{◌||◌}
use Rattle.std.proofs.lemmas.Map.Entries.{length-keys_of}
use Rattle.std.proofs.lemmas.Map.Keys.{sorted_head, sorted_tail}
use Rattle.std.specs.BTreeMap.{insert_entry, is_at}
use Rattle.std.specs.BTreeSet.{insert_key}
use Rattle.std.specs.Cmp.{tied_itself}
use Rattle.std.specs.List.{AllByRecursion, list_any}
use Rattle.std.specs.List.Sorted.{IsStrictlySortedBy}
use Rattle.std.specs.Map.{keys_of, lookup, remove_entry}
use Rattle.std.specs.Ordering.{match_ordering, is_eq}
use Rattle.std.specs.Set.{remove_key}
use Rattle.std.specs.declared.cmp.Ordering.{Ordering}
use Rattle.std.specs.declared.cmp.Ordering.TheVariants.{Less, Equal, Greater}
use Rattle.gl_calculus.specs.Formulas.Formula.{formula_addresses}
use Rattle.gl_calculus.specs.Grid.Grid.{Addr, same_addr}
use Rattle.gl_cells.specs.declared.content.Content.{Content}
use Rattle.gl_cells.specs.declared.content.Content.TheVariants.{Const, Form}
use Rattle.gl_cells.specs.Content.{content_tree, is_formula}
use Rattle.gl_cells.specs.Sheet.{Table, addr_cmp, sheet}
use Rattle.gl_cells.specs.Listed.{entry_before, kind, listed, IsListed}
use Rattle.gl_cells.proofs.Steps.{absent_below}
use Rattle.gl_cells.proofs.TableLemmas.{addr_exact, addr_total, at_same}

-- what passes the test of an address is that address
exact : (a q : Addr) → is_at (addr_cmp a) q ≡ true → a ≡ q
exact a q h = by (addr_cmp a q) refl h
  where
    by : (r : Ordering) → addr_cmp a q ≡ r → is_eq r ≡ true → a ≡ q
    by Less k i = let no : false ≡ true = i in cc
    by Equal k i = addr_exact a q k
    by Greater k i = let no : false ≡ true = i in cc

itself : (a : Addr) → is_at (addr_cmp a) a ≡ true
itself a = ap is_eq (tied_itself addr_total a)

pub none_from : (o : Option Content) → is_some o ≡ false → o ≡ None
none_from None h = refl
none_from (Some c) h = let no : true ≡ false = h in cc

-- where no kind is told, there is no content
pub none_told : (o : Option Content) → kind o ≡ None → o ≡ None
none_told None h = refl
none_told (Some c) h = let no : Some (is_formula (content_tree c)) ≡ None = h in cc

-- a kind is told where there is a content
pub some_kind : (o : Option Content) → is_some (kind o) ≡ is_some o
some_kind None = refl
some_kind (Some c) = refl

-- an address is in the order where its kind is told
told_listed : (test : Addr → Bool) (ks : List (Addr × Bool)) → is_some (lookup test ks) ≡ list_any test (keys_of ks)
told_listed test [] = refl
told_listed test (k ∷ ks) = by (test k.0) (told_listed test ks)
  where
    by : (b : Bool) → is_some (lookup test ks) ≡ list_any test (keys_of ks) → is_some (cond b (Some k.1) (lookup test ks)) ≡ b || list_any test (keys_of ks)
    by true h = refl
    by false h = h

-- the addresses that hold a content are those of the order
pub present : (f : Addr → Option Content) (ks : List (Addr × Bool)) → IsListed f ks → (q : Addr) → is_some (f q) ≡ list_any (is_at (addr_cmp q)) (keys_of ks)
present f ks h q = sym (some_kind (f q)) ∙ ap is_some (h.same q) ∙ told_listed (is_at (addr_cmp q)) ks

-- the order with one more address, or with another kind at one
pub keys_insert : (ks : List (Addr × Bool)) (a : Addr) (b : Bool) → keys_of (insert_entry addr_cmp ks a b) ≡ insert_key addr_cmp (keys_of ks) a
keys_insert [] a b = refl
keys_insert (k ∷ ks) a b = by (addr_cmp a k.0) (keys_insert ks a b)
  where
    by : (r : Ordering) → keys_of (insert_entry addr_cmp ks a b) ≡ insert_key addr_cmp (keys_of ks) a
        → keys_of (match_ordering r ((a, b) ∷ k ∷ ks) ((k.0, b) ∷ ks) (k ∷ insert_entry addr_cmp ks a b)) ≡ match_ordering r (a ∷ k.0 ∷ keys_of ks) (k.0 ∷ keys_of ks) (k.0 ∷ insert_key addr_cmp (keys_of ks) a)
    by Less h = refl
    by Equal h = refl
    by Greater h = ap (λ qs. k.0 ∷ qs) h

-- the order without an address
pub keys_remove : (test : Addr → Bool) (ks : List (Addr × Bool)) → keys_of (remove_entry test ks) ≡ remove_key test (keys_of ks)
keys_remove test [] = refl
keys_remove test (k ∷ ks) = by (test k.0) (keys_remove test ks)
  where
    by : (b : Bool) → keys_of (remove_entry test ks) ≡ remove_key test (keys_of ks) → keys_of (cond b ks (k ∷ remove_entry test ks)) ≡ cond b (keys_of ks) (k.0 ∷ remove_key test (keys_of ks))
    by true h = refl
    by false h = ap (λ qs. k.0 ∷ qs) h

module _ (f : Addr → Option Content) where
  -- the list finds what an address holds
  pub lookup_listed : (qs : List Addr) (a : Addr) → is_some (f a) ≡ list_any (is_at (addr_cmp a)) qs → lookup (is_at (addr_cmp a)) (listed f qs) ≡ f a
  lookup_listed qs a h = found qs (λ some. sym h ∙ some)
    where
      found : (qs : List Addr) → (is_some (f a) ≡ true → list_any (is_at (addr_cmp a)) qs ≡ true) → lookup (is_at (addr_cmp a)) (listed f qs) ≡ f a
      found [] h = by (f a) refl
        where
          by : (o : Option Content) → f a ≡ o → None ≡ f a
          by None k = sym k
          by (Some c) k = let no : false ≡ true = h (ap is_some k) in cc
      found (q ∷ qs) h = by (f q) refl (is_at (addr_cmp a) q) refl (found qs)
        where
          rest : is_at (addr_cmp a) q ≡ false → is_some (f a) ≡ true → list_any (is_at (addr_cmp a)) qs ≡ true
          rest k some = ap (λ b. b || list_any (is_at (addr_cmp a)) qs) (sym k) ∙ h some

          by : (o : Option Content) → f q ≡ o → (b : Bool) → is_at (addr_cmp a) q ≡ b
              → ((is_some (f a) ≡ true → list_any (is_at (addr_cmp a)) qs ≡ true) → lookup (is_at (addr_cmp a)) (listed f qs) ≡ f a)
              → lookup (is_at (addr_cmp a)) (entry_before q (f q) (listed f qs)) ≡ f a
          by (Some c) i true k ih = ap (λ o. lookup (is_at (addr_cmp a)) (entry_before q o (listed f qs))) i ∙ ap (λ b. cond b (Some c) (lookup (is_at (addr_cmp a)) (listed f qs))) k ∙ sym (ap f (exact a q k) ∙ i)
          by (Some c) i false k ih = ap (λ o. lookup (is_at (addr_cmp a)) (entry_before q o (listed f qs))) i ∙ ap (λ b. cond b (Some c) (lookup (is_at (addr_cmp a)) (listed f qs))) k ∙ ih (rest k)
          by None i true k ih = ap (λ o. lookup (is_at (addr_cmp a)) (entry_before q o (listed f qs))) i ∙ ih (λ some. let no : true ≡ false = sym some ∙ ap (λ x. is_some (f x)) (exact a q k) ∙ ap is_some i in cc)
          by None i false k ih = ap (λ o. lookup (is_at (addr_cmp a)) (entry_before q o (listed f qs))) i ∙ ih (rest k)

  -- all that the order has hold a content
  all_held : (qs : List Addr) → ((q : Addr) → list_any (is_at (addr_cmp q)) qs ≡ true → is_some (f q) ≡ true) → AllByRecursion (λ q. is_some (f q) ≡ true) qs
  all_held [] h = tt
  all_held (q ∷ qs) h = (h q (ap (λ b. b || list_any (is_at (addr_cmp q)) qs) (itself q)), all_held qs (λ p k. h p (later (is_at (addr_cmp p) q) _ k)))
    where
      later : (b c : Bool) → c ≡ true → b || c ≡ true
      later true c k = refl
      later false c k = k

  pub held : (ks : List (Addr × Bool)) → IsListed f ks → AllByRecursion (λ q. is_some (f q) ≡ true) (keys_of ks)
  held ks h = all_held (keys_of ks) (λ q k. present f ks h q ∙ k)

  some_entry : (q : Addr) (es : Table) → is_some (f q) ≡ true → (P : Table → Type 0) → ((c : Content) → f q ≡ Some c → P ((q, c) ∷ es)) → P (entry_before q (f q) es)
  some_entry q es h P g = by (f q) refl
    where
      by : (o : Option Content) → f q ≡ o → P (entry_before q (f q) es)
      by None k = let no : true ≡ false = sym h ∙ ap is_some k in cc
      by (Some c) k = subst (λ o. P (entry_before q o es)) (sym k) (g c k)

  -- the addresses of the list
  pub keys_listed : (qs : List Addr) → AllByRecursion (λ q. is_some (f q) ≡ true) qs → keys_of (listed f qs) ≡ qs
  keys_listed [] h = refl
  keys_listed (q ∷ qs) h = some_entry q (listed f qs) h.0 (λ es. keys_of es ≡ q ∷ qs) (λ c k. ap (λ ps. q ∷ ps) (keys_listed qs h.1))

  pub length_listed : (ks : List (Addr × Bool)) → IsListed f ks → length (listed f (keys_of ks)) ≡ length ks
  length_listed ks h = by (keys_of ks) (held ks h) ∙ length-keys_of ks
    where
      by : (qs : List Addr) → AllByRecursion (λ q. is_some (f q) ≡ true) qs → length (listed f qs) ≡ length qs
      by [] all = refl
      by (q ∷ qs) all = some_entry q (listed f qs) all.0 (λ es. length es ≡ length (q ∷ qs)) (λ c k. ap suc (by qs all.1))

  pub sorted_listed : (ks : List (Addr × Bool)) → IsListed f ks → IsStrictlySortedBy addr_cmp (keys_of (listed f (keys_of ks)))
  sorted_listed ks h = subst (IsStrictlySortedBy addr_cmp) (sym (keys_listed (keys_of ks) (held ks h))) h.ordered

  -- the same, by a list that is shown equal
  pub seen_listed : (ks : List (Addr × Bool)) (a : Addr) {es : Table} → IsListed f ks → listed f (keys_of ks) ≡ es → lookup (is_at (addr_cmp a)) es ≡ f a
  seen_listed ks a h e = ap (λ (xs : Table). lookup (is_at (addr_cmp a)) xs) (sym e) ∙ lookup_listed (keys_of ks) a (present f ks h a)

  -- the list finds exactly the addresses of the order
  pub is_listed : (ks : List (Addr × Bool)) (q : Addr) {es : Table} → IsListed f ks → listed f (keys_of ks) ≡ es → kind (lookup (is_at (addr_cmp q)) es) ≡ lookup (is_at (addr_cmp q)) ks
  is_listed ks q h e = ap kind (seen_listed ks q h e) ∙ h.same q

  -- each address of the order tells the kind of its content
  abbrev Told : List (Addr × Bool) → Type 0
  Told ks = AllByRecursion (λ k. kind (f k.0) ≡ Some k.1) ks

  told : (ks : List (Addr × Bool)) → IsStrictlySortedBy addr_cmp (keys_of ks) → ((q : Addr) (b : Bool) → lookup (is_at (addr_cmp q)) ks ≡ Some b → kind (f q) ≡ Some b) → Told ks
  told [] sorted h = tt
  told (k ∷ ks) sorted h = (h k.0 k.1 (ap (λ b. cond b (Some k.1) (lookup (is_at (addr_cmp k.0)) ks)) (itself k.0)), told ks (sorted_tail addr_cmp k.0 (keys_of ks) sorted) (λ q b found. h q b (by q b found (is_at (addr_cmp q) k.0) refl)))
    where
      by : (q : Addr) (b : Bool) → lookup (is_at (addr_cmp q)) ks ≡ Some b → (s : Bool) → is_at (addr_cmp q) k.0 ≡ s → cond (is_at (addr_cmp q) k.0) (Some k.1) (lookup (is_at (addr_cmp q)) ks) ≡ Some b
      by q b found false i = ap (λ s. cond s (Some k.1) (lookup (is_at (addr_cmp q)) ks)) i ∙ found
      by q b found true i =
          let none = ap (λ (a : Addr). lookup (is_at (addr_cmp a)) ks) (exact q k.0 i) ∙ absent_below k.0 ks (sorted_head addr_cmp k.0 (keys_of ks) sorted) in
          let no : None ≡ Some b = sym none ∙ found in
          cc

  -- the addresses that are told to hold a formula are those of the list
  pub formulas_told : (ks : List (Addr × Bool)) {es : Table} → IsListed f ks → listed f (keys_of ks) ≡ es → keys_of (filter (λ k. k.1) ks) ≡ formula_addresses (sheet es)
  formulas_told ks h e = by ks (told ks h.ordered (λ q b found. h.same q ∙ found)) ∙ ap (λ (xs : Table). formula_addresses (sheet xs)) e
    where
      one : (q : Addr) (b : Bool) (ks : List (Addr × Bool)) (es : Table) (o : Option Content) → kind o ≡ Some b → keys_of (filter (λ k. k.1) ks) ≡ formula_addresses (sheet es)
          → keys_of (filter (λ k. k.1) ((q, b) ∷ ks)) ≡ formula_addresses (sheet (entry_before q o es))
      one q b ks es None k h = let no : None ≡ Some b = k in cc
      one q true ks es (Some (Form x)) k h = ap (λ qs. q ∷ qs) h
      one q false ks es (Some (Form x)) k h = let no : Some true ≡ Some false = k in cc
      one q true ks es (Some (Const x)) k h = let no : Some false ≡ Some true = k in cc
      one q false ks es (Some (Const x)) k h = h

      by : (ks : List (Addr × Bool)) → Told ks → keys_of (filter (λ k. k.1) ks) ≡ formula_addresses (sheet (listed f (keys_of ks)))
      by [] all = refl
      by (k ∷ ks) all = one k.0 k.1 ks (listed f (keys_of ks)) (f k.0) all.0 (by ks all.1)

module _ (f g : Addr → Option Content) where
  -- what is held tells the list
  pub listed_same : (qs : List Addr) → ((q : Addr) → g q ≡ f q) → listed g qs ≡ listed f qs
  listed_same [] h = refl
  listed_same (q ∷ qs) h = ap (λ o. entry_before q o (listed g qs)) (h q) ∙ ap (entry_before q (f q)) (listed_same qs h)

  module _ (a : Addr) (apart : (q : Addr) → is_at (addr_cmp a) q ≡ false → g q ≡ f q) where
    -- the list behind an address does not change with what that one holds
    listed_behind : (qs : List Addr) → AllByRecursion (λ q. addr_cmp a q ≡ Less) qs → listed g qs ≡ listed f qs
    listed_behind [] h = refl
    listed_behind (q ∷ qs) h = ap (λ o. entry_before q o (listed g qs)) (apart q (ap is_eq h.0)) ∙ ap (entry_before q (f q)) (listed_behind qs h.1)

    below : (q : Addr) (qs : List Addr) → addr_cmp a q ≡ Less → AllByRecursion (λ p. addr_cmp q p ≡ Less) qs → AllByRecursion (λ p. addr_cmp a p ≡ Less) qs
    below q [] h all = tt
    below q (p ∷ qs) h all = (addr_total.trans a q p h all.0, below q qs h all.1)

    -- the address holds the content c
    pub listed_insert : (c : Content) (qs : List Addr) → g a ≡ Some c → IsStrictlySortedBy addr_cmp qs → AllByRecursion (λ q. is_some (f q) ≡ true) qs
        → listed g (insert_key addr_cmp qs a) ≡ insert_entry addr_cmp (listed f qs) a c
    listed_insert c [] h sorted all = ap (λ o. entry_before a o []) h
    listed_insert c (q ∷ qs) h sorted all = some_entry f q (listed f qs) all.0 (λ es. listed g (insert_key addr_cmp (q ∷ qs) a) ≡ insert_entry addr_cmp es a c)
        (λ d k. by d k (addr_cmp a q) refl (listed_insert c qs h (sorted_tail addr_cmp q qs sorted) all.1))
      where
        by : (d : Content) → f q ≡ Some d → (r : Ordering) → addr_cmp a q ≡ r → listed g (insert_key addr_cmp qs a) ≡ insert_entry addr_cmp (listed f qs) a c
            → listed g (match_ordering (addr_cmp a q) (a ∷ q ∷ qs) (q ∷ qs) (q ∷ insert_key addr_cmp qs a))
            ≡ match_ordering (addr_cmp a q) ((a, c) ∷ (q, d) ∷ listed f qs) ((q, c) ∷ listed f qs) ((q, d) ∷ insert_entry addr_cmp (listed f qs) a c)
        by d k Less i ih =
            ap (λ r. listed g (match_ordering r (a ∷ q ∷ qs) (q ∷ qs) (q ∷ insert_key addr_cmp qs a))) i
            ∙ ap (λ o. entry_before a o (listed g (q ∷ qs))) h
            ∙ ap (λ (es : Table). (a, c) ∷ es) (listed_behind (q ∷ qs) (i, below q qs i (sorted_head addr_cmp q qs sorted)) ∙ ap (λ o. entry_before q o (listed f qs)) k)
            ∙ ap (λ r. match_ordering r ((a, c) ∷ (q, d) ∷ listed f qs) ((q, c) ∷ listed f qs) ((q, d) ∷ insert_entry addr_cmp (listed f qs) a c)) (sym i)
        by d k Equal i ih =
            let e : a ≡ q = addr_exact a q i in
            ap (λ r. listed g (match_ordering r (a ∷ q ∷ qs) (q ∷ qs) (q ∷ insert_key addr_cmp qs a))) i
            ∙ ap (λ o. entry_before q o (listed g qs)) (ap g (sym e) ∙ h)
            ∙ ap (λ (es : Table). (q, c) ∷ es) (listed_behind qs (subst (λ x. AllByRecursion (λ p. addr_cmp x p ≡ Less) qs) (sym e) (sorted_head addr_cmp q qs sorted)))
            ∙ ap (λ r. match_ordering r ((a, c) ∷ (q, d) ∷ listed f qs) ((q, c) ∷ listed f qs) ((q, d) ∷ insert_entry addr_cmp (listed f qs) a c)) (sym i)
        by d k Greater i ih =
            ap (λ r. listed g (match_ordering r (a ∷ q ∷ qs) (q ∷ qs) (q ∷ insert_key addr_cmp qs a))) i
            ∙ ap (λ o. entry_before q o (listed g (insert_key addr_cmp qs a))) (apart q (ap is_eq i) ∙ k)
            ∙ ap (λ (es : Table). (q, d) ∷ es) ih
            ∙ ap (λ r. match_ordering r ((a, c) ∷ (q, d) ∷ listed f qs) ((q, c) ∷ listed f qs) ((q, d) ∷ insert_entry addr_cmp (listed f qs) a c)) (sym i)

    -- the address goes
    pub listed_remove : (qs : List Addr) → IsStrictlySortedBy addr_cmp qs → AllByRecursion (λ q. is_some (f q) ≡ true) qs
        → listed g (remove_key (is_at (addr_cmp a)) qs) ≡ remove_entry (is_at (addr_cmp a)) (listed f qs)
    listed_remove [] sorted all = refl
    listed_remove (q ∷ qs) sorted all = some_entry f q (listed f qs) all.0 (λ es. listed g (remove_key (is_at (addr_cmp a)) (q ∷ qs)) ≡ remove_entry (is_at (addr_cmp a)) es)
        (λ d k. by d k (is_at (addr_cmp a) q) refl (listed_remove qs (sorted_tail addr_cmp q qs sorted) all.1))
      where
        by : (d : Content) → f q ≡ Some d → (b : Bool) → is_at (addr_cmp a) q ≡ b → listed g (remove_key (is_at (addr_cmp a)) qs) ≡ remove_entry (is_at (addr_cmp a)) (listed f qs)
            → listed g (cond (is_at (addr_cmp a) q) qs (q ∷ remove_key (is_at (addr_cmp a)) qs))
            ≡ cond (is_at (addr_cmp a) q) (listed f qs) ((q, d) ∷ remove_entry (is_at (addr_cmp a)) (listed f qs))
        by d k true i ih =
            ap (λ b. listed g (cond b qs (q ∷ remove_key (is_at (addr_cmp a)) qs))) i
            ∙ listed_behind qs (subst (λ x. AllByRecursion (λ p. addr_cmp x p ≡ Less) qs) (sym (exact a q i)) (sorted_head addr_cmp q qs sorted))
            ∙ ap (λ b. cond b (listed f qs) ((q, d) ∷ remove_entry (is_at (addr_cmp a)) (listed f qs))) (sym i)
        by d k false i ih =
            ap (λ b. listed g (cond b qs (q ∷ remove_key (is_at (addr_cmp a)) qs))) i
            ∙ ap (λ o. entry_before q o (listed g (remove_key (is_at (addr_cmp a)) qs))) (apart q i ∙ k)
            ∙ ap (λ (es : Table). (q, d) ∷ es) ih
            ∙ ap (λ b. cond b (listed f qs) ((q, d) ∷ remove_entry (is_at (addr_cmp a)) (listed f qs))) (sym i)

-- what is found after the content of an address is written, or taken
abbrev pub Writes : (f g : Addr → Option Content) → Addr → Option Content → Type 0
Writes f g a w = (q : Addr) → g q ≡ cond (same_addr a q) w (f q)

module _ (f g : Addr → Option Content) (a : Addr) (w : Option Content) (writes : Writes f g a w) where
  pub written : g a ≡ w
  written = writes a ∙ ap (λ b. cond b w (f a)) (sym (at_same a a) ∙ itself a)

  pub kept : (q : Addr) → is_at (addr_cmp a) q ≡ false → g q ≡ f q
  kept q h = writes q ∙ ap (λ b. cond b w (f q)) (sym (at_same a q) ∙ h)

  -- the order has the address where it is written, and no longer where it is taken
  pub listed_then : (ks ps : List (Addr × Bool)) → IsListed f ks → IsStrictlySortedBy addr_cmp (keys_of ps)
      → ((q : Addr) → lookup (is_at (addr_cmp q)) ps ≡ cond (is_at (addr_cmp a) q) (kind w) (lookup (is_at (addr_cmp q)) ks)) → IsListed g ps
  listed_then ks ps h sorted has = record {
    ordered = sorted;
    same = λ q. by q (is_at (addr_cmp a) q) refl;
  }
    where
      by : (q : Addr) (b : Bool) → is_at (addr_cmp a) q ≡ b → kind (g q) ≡ lookup (is_at (addr_cmp q)) ps
      by q true k = ap (λ x. kind (g x)) (sym (exact a q k)) ∙ ap kind written ∙ ap (λ b. cond b (kind w) (lookup (is_at (addr_cmp q)) ks)) (sym k) ∙ sym (has q)
      by q false k = ap kind (kept q k) ∙ h.same q ∙ ap (λ b. cond b (kind w) (lookup (is_at (addr_cmp q)) ks)) (sym k) ∙ sym (has q)

-- what is written at an address that held nothing, and taken again, leaves what was
pub taken_back : (f g h : Addr → Option Content) (a : Addr) (c : Content) → f a ≡ None → Writes f g a (Some c) → Writes g h a None → (q : Addr) → h q ≡ f q
taken_back f g h a c none writes takes q = by (is_at (addr_cmp a) q) refl
  where
    by : (b : Bool) → is_at (addr_cmp a) q ≡ b → h q ≡ f q
    by true k = ap h (sym (exact a q k)) ∙ written g h a None takes ∙ sym none ∙ ap f (exact a q k)
    by false k = kept g h a None takes q k ∙ kept f g a (Some c) writes q k

-- a list that is held as before
pub listed_still : (f g : Addr → Option Content) (ks ps : List (Addr × Bool)) → ((q : Addr) → g q ≡ f q) → ps ≡ ks → IsListed f ks → IsListed g ps
listed_still f g ks ps h e l = record {
  ordered = subst (λ es. IsStrictlySortedBy addr_cmp (keys_of es)) (sym e) l.ordered;
  same = λ q. ap kind (h q) ∙ l.same q ∙ ap (lookup (is_at (addr_cmp q))) (sym e);
}
