-- Steps back.
use Rattle.std.proofs.Common.{IfSome, ◌≡◌, ◌∙◌, cond, List, [], ◌∷◌, ◌++◌, Option, None, Some, IsSome, refl, sym, ap, subst, is_some}
use Rattle.std.proofs.lemmas.Map.Keys.{sorted_head, sorted_tail}
use Rattle.std.specs.BTreeMap.{insert_entry, is_at}
use Rattle.std.specs.Cmp.{tied_itself}
use Rattle.std.specs.List.{AllByRecursion}
use Rattle.std.specs.List.Sorted.{IsStrictlySortedBy}
use Rattle.std.specs.Map.{keys_of, lookup, remove_entry}
use Rattle.std.specs.Ordering.{match_ordering, is_eq}
use Rattle.std.specs.declared.cmp.Ordering.{Ordering}
use Rattle.std.specs.declared.cmp.Ordering.TheVariants.{Less, Equal, Greater}
use Rattle.gl_calculus.specs.Grid.Grid.{Addr}
use Rattle.gl_language.specs.Reading.Content.{IsProperContent}
use Rattle.gl_cells.specs.declared.content.Content.{Content}
use Rattle.gl_cells.specs.Content.{content_tree}
use Rattle.gl_cells.specs.Sheet.{Table, addr_cmp, restored, undo_all, CanUndo, HasPlace}
use Rattle.gl_cells.proofs.TableLemmas.{addr_total}

-- one more step
pub undo_all-push : (us : List (Addr × Option Content)) (u : Addr × Option Content) (s : Table) → undo_all (us ++ u ∷ []) s ≡ undo_all us (restored u s)
undo_all-push [] u s = refl
undo_all-push (x ∷ us) u s = ap (restored x) (undo_all-push us u s)

pub CanUndo-push : (us : List (Addr × Option Content)) (u : Addr × Option Content) (s : Table) → CanUndo us (restored u s) → HasPlace u s → CanUndo (us ++ u ∷ []) s
CanUndo-push [] u s can has = (tt, has)
CanUndo-push (x ∷ us) u s can has = (CanUndo-push us u s can.0 has, subst (HasPlace x) (sym (undo_all-push us u s)) can.1)

pub CanUndo-pop : (us : List (Addr × Option Content)) (u : Addr × Option Content) (s : Table) → CanUndo (us ++ u ∷ []) s → CanUndo us (restored u s) × HasPlace u s
CanUndo-pop [] u s can = (tt, can.1)
CanUndo-pop (x ∷ us) u s can = let r = CanUndo-pop us u s can.0 in ((r.0, subst (HasPlace x) (undo_all-push us u s) can.1), r.1)

itself : (a : Addr) → addr_cmp a a ≡ Equal
itself a = tied_itself addr_total a

-- what comes after an address is not found where all comes later
pub absent_below : {X : Type 0} (a : Addr) (es : List (Addr × X)) → AllByRecursion (λ y. addr_cmp a y ≡ Less) (keys_of es) → lookup (is_at (addr_cmp a)) es ≡ None
absent_below a [] h = refl
absent_below a (e ∷ es) h = ap (λ r. cond (is_eq r) (Some e.1) (lookup (is_at (addr_cmp a)) es)) h.0 ∙ absent_below a es h.1

-- a new content goes out again
out : (es : Table) (a : Addr) (c : Content) → lookup (is_at (addr_cmp a)) es ≡ None → remove_entry (is_at (addr_cmp a)) (insert_entry addr_cmp es a c) ≡ es
out [] a c h = ap (λ r. cond (is_eq r) [] ((a, c) ∷ [])) (itself a)
out (e ∷ es) a c h = by (addr_cmp a e.0) refl h (out es a c)
  where
    by : (r : Ordering) → addr_cmp a e.0 ≡ r → cond (is_eq r) (Some e.1) (lookup (is_at (addr_cmp a)) es) ≡ None → (lookup (is_at (addr_cmp a)) es ≡ None → remove_entry (is_at (addr_cmp a)) (insert_entry addr_cmp es a c) ≡ es)
        → remove_entry (is_at (addr_cmp a)) (match_ordering r ((a, c) ∷ e ∷ es) ((e.0, c) ∷ es) (e ∷ insert_entry addr_cmp es a c)) ≡ e ∷ es
    by Less k n ih = ap (λ r. cond (is_eq r) (e ∷ es) ((a, c) ∷ remove_entry (is_at (addr_cmp a)) (e ∷ es))) (itself a)
    by Equal k n ih = let no : Some e.1 ≡ None = n in cc
    by Greater k n ih = ap (λ r. cond (is_eq r) (insert_entry addr_cmp es a c) (e ∷ remove_entry (is_at (addr_cmp a)) (insert_entry addr_cmp es a c))) k ∙ ap (λ (xs : Table). e ∷ xs) (ih n)

-- a content that was there comes back
back : (es : Table) (a : Addr) (c d : Content) → IsStrictlySortedBy addr_cmp (keys_of es) → lookup (is_at (addr_cmp a)) es ≡ Some d → insert_entry addr_cmp (insert_entry addr_cmp es a c) a d ≡ es
back [] a c d s h = let no : None ≡ Some d = h in cc
back (e ∷ es) a c d s h = by (addr_cmp a e.0) refl h (back es a c d (sorted_tail addr_cmp e.0 (keys_of es) s))
  where
    below : (xs : List Addr) → addr_cmp a e.0 ≡ Less → AllByRecursion (λ y. addr_cmp e.0 y ≡ Less) xs → AllByRecursion (λ y. addr_cmp a y ≡ Less) xs
    below [] k all = tt
    below (y ∷ ys) k all = (addr_total.trans a e.0 y k all.0, below ys k all.1)

    by : (r : Ordering) → addr_cmp a e.0 ≡ r → cond (is_eq r) (Some e.1) (lookup (is_at (addr_cmp a)) es) ≡ Some d → (lookup (is_at (addr_cmp a)) es ≡ Some d → insert_entry addr_cmp (insert_entry addr_cmp es a c) a d ≡ es)
        → insert_entry addr_cmp (match_ordering r ((a, c) ∷ e ∷ es) ((e.0, c) ∷ es) (e ∷ insert_entry addr_cmp es a c)) a d ≡ e ∷ es
    by Less k n ih = let no : None ≡ Some d = sym (absent_below a es (below (keys_of es) k (sorted_head addr_cmp e.0 (keys_of es) s))) ∙ n in cc
    by Equal k n ih = ap (λ r. match_ordering r ((a, d) ∷ (e.0, c) ∷ es) ((e.0, d) ∷ es) ((e.0, c) ∷ insert_entry addr_cmp es a d)) k ∙ ap (λ (x : Content). (e.0, x) ∷ es) (let is : Some e.1 ≡ Some d = n in cc)
    by Greater k n ih = ap (λ r. match_ordering r ((a, d) ∷ e ∷ insert_entry addr_cmp es a c) ((e.0, d) ∷ insert_entry addr_cmp es a c) (e ∷ insert_entry addr_cmp (insert_entry addr_cmp es a c) a d)) k ∙ ap (λ (xs : Table). e ∷ xs) (ih n)

-- the step back of a put
pub restored-insert : (es : Table) (a : Addr) (c : Content) (was : Option Content) → IsStrictlySortedBy addr_cmp (keys_of es) → was ≡ lookup (is_at (addr_cmp a)) es → restored (a, was) (insert_entry addr_cmp es a c) ≡ es
restored-insert es a c None s e = out es a c (sym e)
restored-insert es a c (Some d) s e = back es a c d s (sym e)

-- what was put is there
pub has_insert : (es : Table) (a : Addr) (c : Content) → IsSome (lookup (is_at (addr_cmp a)) (insert_entry addr_cmp es a c))
has_insert [] a c = ap (λ r. is_some (cond (is_eq r) (Some c) None)) (itself a)
has_insert (e ∷ es) a c = by (addr_cmp a e.0) refl (has_insert es a c)
  where
    by : (r : Ordering) → addr_cmp a e.0 ≡ r → IsSome (lookup (is_at (addr_cmp a)) (insert_entry addr_cmp es a c)) → IsSome (lookup (is_at (addr_cmp a)) (match_ordering r ((a, c) ∷ e ∷ es) ((e.0, c) ∷ es) (e ∷ insert_entry addr_cmp es a c)))
    by Less k ih = ap (λ r. is_some (cond (is_eq r) (Some c) (lookup (is_at (addr_cmp a)) (e ∷ es)))) (itself a)
    by Equal k ih = ap (λ r. is_some (cond (is_eq r) (Some c) (lookup (is_at (addr_cmp a)) es))) k
    by Greater k ih = ap (λ r. is_some (cond (is_eq r) (Some e.1) (lookup (is_at (addr_cmp a)) (insert_entry addr_cmp es a c)))) k ∙ ih

pub has_place : (es : Table) (a : Addr) (c : Content) (was : Option Content) → IfSome was (λ x. IsProperContent (content_tree x)) → HasPlace (a, was) (insert_entry addr_cmp es a c)
has_place es a c None proper = tt
has_place es a c (Some d) proper = (has_insert es a c, proper)

-- a put is noted by its step back
pub noted : (us : List (Addr × Option Content)) (s t : Table) (a : Addr) (c : Content) (was : Option Content) → IsStrictlySortedBy addr_cmp (keys_of s) → t ≡ insert_entry addr_cmp s a c → was ≡ lookup (is_at (addr_cmp a)) s → IfSome was (λ x. IsProperContent (content_tree x)) → CanUndo us s → CanUndo (us ++ (a, was) ∷ []) t × (undo_all (us ++ (a, was) ∷ []) t ≡ undo_all us s)
noted us s t a c was sorted is had proper can =
    let again : restored (a, was) t ≡ s = ap (restored (a, was)) is ∙ restored-insert s a c was sorted had in (
      CanUndo-push us (a, was) t (subst (CanUndo us) (sym again) can) (subst (HasPlace (a, was)) (sym is) (has_place s a c was proper)),
      undo_all-push us (a, was) t ∙ ap (undo_all us) again,
    )
