-- The table against the sheet that it stands for.
use Rattle.std.proofs.Common.{IfSome, Bor, option_copied, Result, Ok, Err, suc, ◌≡◌, ◌∙◌, ℕ, ◌≤◌, ◌+◌, Bool, true, false, cond, not, [], ◌∷◌, length, filter, Option, None, Some, refl, sym, ap, subst, arith, option_map, unwrap_or, sum_by, if◌then◌else◌}
use Rattle.std.proofs.lemmas.Grind.{common_steps}
use Rattle.std.proofs.lemmas.Map.Entries.{sum_by-insert_entry, sum_by-remove_entry}
use Rattle.std.proofs.lemmas.List.Elements.{All-nil}
use Rattle.std.proofs.lemmas.List.Sums.{sum_by-cons}
use Rattle.std.proofs.lemmas.Map.Lookups.{CmpEqualImpliesEq, exact_pairs, exact_unsigned}
use Rattle.std.proofs.lemmas.Map.Keys.{sorted_head, sorted_tail}
use Rattle.std.proofs.lemmas.Map.Views.{All-keys-insert_entry, All-map-remove_entry}
use Rattle.std.proofs.lemmas.Cmp.{on_total, then_total}
use Rattle.std.specs.BTreeMap.{insert_entry, is_at}
use Rattle.std.specs.Cmp.{IsTotalOrder, nat_cmp_total}
use Rattle.std.specs.List.Sorted.{IsStrictlySortedBy}
use Rattle.std.specs.Map.{keys_of, values_of, lookup, remove_entry}
use Rattle.std.specs.Ordering.{nat_cmp, match_ordering}
use Rattle.std.specs.declared.cmp.Ordering.{Ordering}
use Rattle.std.specs.declared.cmp.Ordering.TheVariants.{Less, Equal, Greater}
use Rattle.gl_calculus.specs.Grid.Grid.{Addr, same_addr, is_before, Range, covers}
use Rattle.gl_calculus.specs.Formulas.Formula as F
use Rattle.gl_calculus.specs.Formulas.Formula.{IsSheet, content, formula_addresses}
use Rattle.gl_calculus.specs.Grid.Limits.{max_formulas, max_contents}
use Rattle.gl_language.specs.Reading.Content.{IsProperContent}
use Rattle.gl_plane.specs.Parts.{IsAddr}
use Rattle.gl_calculus.specs.Edits.Sheets.{with_content, with_contents, without}
use Rattle.gl_cells.specs.declared.content.Content.{Content}
use Rattle.gl_cells.specs.declared.content.Content.TheVariants.{Const, Form}
use Rattle.gl_cells.specs.declared.fault.PutFault.{PutFault}
use Rattle.gl_cells.specs.declared.fault.PutFault.TheVariants as f
use Rattle.gl_cells.specs.Content.{content_tree, form_weight}
use Rattle.gl_cells.specs.Sheet.{Table, sheet, addr_cmp, put_each, AreProper, IsTable, IsWithin, Answers}

pub addr_exact : CmpEqualImpliesEq addr_cmp
addr_exact a b h = ap (λ (p : ℕ × ℕ). record { row = p.0; col = p.1 }) (exact_pairs nat_cmp nat_cmp exact_unsigned exact_unsigned (a.row, a.col) (b.row, b.col) h)

pub addr_total : IsTotalOrder addr_cmp
addr_total = then_total (on_total (λ s. s.row) nat_cmp_total) (on_total (λ s. s.col) nat_cmp_total)

-- the order and its tests
pub less_apart : (a b : Addr) → addr_cmp a b ≡ Less → same_addr a b ≡ false
less_apart a b h = grind (arith, common_steps)

pub less_before : (a b : Addr) → addr_cmp a b ≡ Less → is_before a b ≡ true
less_before a b h = grind (arith, common_steps)

pub equal_same : (a b : Addr) → addr_cmp a b ≡ Equal → same_addr a b ≡ true
equal_same a b h = grind (arith, common_steps)

pub greater_apart : (a b : Addr) → addr_cmp a b ≡ Greater → same_addr a b ≡ false
greater_apart a b h = grind (arith, common_steps)

pub greater_after : (a b : Addr) → addr_cmp a b ≡ Greater → is_before a b ≡ false
greater_after a b h = grind (arith, common_steps)

pub at_same : (a b : Addr) → is_at (addr_cmp a) b ≡ same_addr a b
at_same a b = by (addr_cmp a b) refl
  where
    by : (r : Ordering) → addr_cmp a b ≡ r → is_at (λ (k : Addr). r) b ≡ same_addr a b
    by Less h = sym (less_apart a b h)
    by Equal h = sym (equal_same a b h)
    by Greater h = sym (greater_apart a b h)

-- a content is put
pub put_sheet : (es : Table) (a : Addr) (c : Content) → sheet (insert_entry addr_cmp es a c) ≡ with_content (sheet es) a (content_tree c)
put_sheet [] a c = refl
put_sheet (e ∷ es) a c = by (addr_cmp a e.0) refl (put_sheet es a c)
  where
    chosen : (b d : Bool) → same_addr a e.0 ≡ b → is_before a e.0 ≡ d → (if b then (a, content_tree c) ∷ sheet es else if d then (a, content_tree c) ∷ (e.0, content_tree e.1) ∷ sheet es else (e.0, content_tree e.1) ∷ with_content (sheet es) a (content_tree c)) ≡ with_content (sheet (e ∷ es)) a (content_tree c)
    chosen b d p q = ap (λ x. if x then (a, content_tree c) ∷ sheet es else if d then (a, content_tree c) ∷ (e.0, content_tree e.1) ∷ sheet es else (e.0, content_tree e.1) ∷ with_content (sheet es) a (content_tree c)) (sym p)
        ∙ ap (λ y. if same_addr a e.0 then (a, content_tree c) ∷ sheet es else if y then (a, content_tree c) ∷ (e.0, content_tree e.1) ∷ sheet es else (e.0, content_tree e.1) ∷ with_content (sheet es) a (content_tree c)) (sym q)

    by : (r : Ordering) → addr_cmp a e.0 ≡ r → sheet (insert_entry addr_cmp es a c) ≡ with_content (sheet es) a (content_tree c) → sheet (match_ordering r ((a, c) ∷ e ∷ es) ((e.0, c) ∷ es) (e ∷ insert_entry addr_cmp es a c)) ≡ with_content (sheet (e ∷ es)) a (content_tree c)
    by Less h ih = chosen false true (less_apart a e.0 h) (less_before a e.0 h)
    by Equal h ih = ap (λ (x : Addr). (x, content_tree c) ∷ sheet es) (sym (addr_exact a e.0 h)) ∙ chosen true (is_before a e.0) (equal_same a e.0 h) refl
    by Greater h ih = ap (λ (xs : F.Cells). (e.0, content_tree e.1) ∷ xs) ih ∙ chosen false false (greater_apart a e.0 h) (greater_after a e.0 h)

pub put_each_sheet : (ps es : Table) → sheet (put_each ps es) ≡ with_contents (sheet es) (sheet ps)
put_each_sheet [] es = refl
put_each_sheet (p ∷ ps) es = put_each_sheet ps (insert_entry addr_cmp es p.0 p.1) ∙ ap (λ s. with_contents s (sheet ps)) (put_sheet es p.0 p.1)

-- a range is removed
pub without_sheet : (es : Table) (r : Range) → sheet (filter (λ e. not (covers r e.0)) es) ≡ without (sheet es) r
without_sheet [] r = refl
without_sheet (e ∷ es) r = by (not (covers r e.0)) (without_sheet es r)
  where
    by : (b : Bool) → sheet (filter (λ x. not (covers r x.0)) es) ≡ without (sheet es) r → sheet (cond b (e ∷ filter (λ x. not (covers r x.0)) es) (filter (λ x. not (covers r x.0)) es)) ≡ cond b ((e.0, content_tree e.1) ∷ without (sheet es) r) (without (sheet es) r)
    by true ih = ap (λ (xs : F.Cells). (e.0, content_tree e.1) ∷ xs) ih
    by false ih = ih

-- what the sheet has at an address
pub content_sheet : (es : Table) (q : Addr) → content (sheet es) q ≡ option_map content_tree (lookup (is_at (addr_cmp q)) es)
content_sheet [] q = refl
content_sheet (e ∷ es) q = ap (λ b. if b then Some (content_tree e.1) else content (sheet es) q) (sym (at_same q e.0)) ∙ by (is_at (addr_cmp q) e.0) (content_sheet es q)
  where
    by : (b : Bool) → content (sheet es) q ≡ option_map content_tree (lookup (is_at (addr_cmp q)) es) → (if b then Some (content_tree e.1) else content (sheet es) q) ≡ option_map content_tree (cond b (Some e.1) (lookup (is_at (addr_cmp q)) es))
    by true ih = refl
    by false ih = ih

pub one_at_most : (p : F.Content) → form_weight p ≤ 1
one_at_most (F.Const x) = omega arith
one_at_most (F.Form f) = omega arith

-- the formulas among the entries are at most the entries
pub few_forms : (es : Table) → sum_by (λ c. form_weight (content_tree c)) (values_of es) ≤ length es
few_forms [] = omega arith
few_forms (e ∷ es) =
    let first : sum_by (λ c. form_weight (content_tree c)) (values_of (e ∷ es)) ≡ form_weight (content_tree e.1) + sum_by (λ c. form_weight (content_tree c)) (values_of es) = sum_by-cons (λ c. form_weight (content_tree c)) e.1 (values_of es) in
    omega (arith, first, few_forms es, one_at_most (content_tree e.1))

-- the count of a table is that of its sheet
pub formulas_sheet : (es : Table) → length (formula_addresses (sheet es)) ≡ sum_by (λ c. form_weight (content_tree c)) (values_of es)
formulas_sheet [] = refl
formulas_sheet ((a, Const x) ∷ es) =
    let first : sum_by (λ c. form_weight (content_tree c)) (values_of ((a, Const x) ∷ es)) ≡ 0 + sum_by (λ c. form_weight (content_tree c)) (values_of es) = sum_by-cons (λ c. form_weight (content_tree c)) (Const x) (values_of es) in
    omega (arith, first, formulas_sheet es)
formulas_sheet ((a, Form x) ∷ es) =
    let first : sum_by (λ c. form_weight (content_tree c)) (values_of ((a, Form x) ∷ es)) ≡ 1 + sum_by (λ c. form_weight (content_tree c)) (values_of es) = sum_by-cons (λ c. form_weight (content_tree c)) (Form x) (values_of es) in
    omega (arith, first, formulas_sheet es)

pub length_sheet : (es : Table) → length (sheet es) ≡ length es
length_sheet [] = refl
length_sheet (e ∷ es) = ap (λ n. suc n) (length_sheet es)

-- it lists its addresses in row-major order
pub ordered_sheet : (es : Table) → IsStrictlySortedBy addr_cmp (keys_of es) → IsSheet (sheet es)
ordered_sheet [] h = tt
ordered_sheet (e ∷ []) h = tt
ordered_sheet (e ∷ d ∷ es) h = (less_before e.0 d.0 (sorted_head addr_cmp e.0 (keys_of (d ∷ es)) h).0, ordered_sheet (d ∷ es) (sorted_tail addr_cmp e.0 (keys_of (d ∷ es)) h))

proper_insert : (es : Table) (a : Addr) (c : Content) → AreProper es → IsProperContent (content_tree c) → AreProper (insert_entry addr_cmp es a c)
proper_insert [] a c h p = (p, tt)
proper_insert (e ∷ es) a c h p = elim (addr_cmp a e.0) as (λ r. AreProper (match_ordering r ((a, c) ∷ e ∷ es) ((e.0, c) ∷ es) (e ∷ insert_entry addr_cmp es a c))) [
  | Less ↦ (p, h)
  | Equal ↦ (p, h.1)
  | Greater ↦ (h.0, proper_insert es a c h.1 p)
]

proper_remove : (test : Addr → Bool) (es : Table) → AreProper es → AreProper (remove_entry test es)
proper_remove test [] h = tt
proper_remove test (e ∷ es) h = elim (test e.0) as (λ b. AreProper (cond b es (e ∷ remove_entry test es))) [ true ↦ h.1 | false ↦ (h.0, proper_remove test es h.1) ]

pub proper_at : (test : Addr → Bool) (es : Table) → AreProper es → IfSome (lookup test es) (λ x. IsProperContent (content_tree x))
proper_at test [] h = tt
proper_at test (e ∷ es) h = elim (test e.0) as (λ b. IfSome (cond b (Some e.1) (lookup test es)) (λ x. IsProperContent (content_tree x))) [ true ↦ h.0 | false ↦ proper_at test es h.1 ]

-- the count after a content is put
pub count_put : (es : Table) (a : Addr) (c : Content) → IsStrictlySortedBy addr_cmp (keys_of es) → sum_by (λ c. form_weight (content_tree c)) (values_of (insert_entry addr_cmp es a c)) + unwrap_or (option_map (λ c. form_weight (content_tree c)) (lookup (is_at (addr_cmp a)) es)) 0 ≡ sum_by (λ c. form_weight (content_tree c)) (values_of es) + form_weight (content_tree c)
count_put es a c h = sum_by-insert_entry (λ c. form_weight (content_tree c)) addr_total es a c h

pub count_take : (es : Table) (a : Addr) → sum_by (λ c. form_weight (content_tree c)) (values_of (remove_entry (is_at (addr_cmp a)) es)) + unwrap_or (option_map (λ c. form_weight (content_tree c)) (lookup (is_at (addr_cmp a)) es)) 0 ≡ sum_by (λ c. form_weight (content_tree c)) (values_of es)
count_take es a = sum_by-remove_entry (λ c. form_weight (content_tree c)) (is_at (addr_cmp a)) es

-- the table after a content is put, with the count that the code reckons
pub table_put : (es fs : Table) (forms new : ℕ) (a : Addr) (c : Content) → IsTable es forms → IsProperContent (content_tree c) → IsAddr a → fs ≡ insert_entry addr_cmp es a c → IsStrictlySortedBy addr_cmp (keys_of fs) → new + unwrap_or (option_map (λ c. form_weight (content_tree c)) (lookup (is_at (addr_cmp a)) es)) 0 ≡ forms + form_weight (content_tree c) → IsTable fs new
table_put es fs forms new a c h p g is sorted n = record {
  ordered = sorted;
  counted = rw is (omega (arith, count_put es a c h.ordered, h.counted));
  proper = rw is (proper_insert es a c h.proper p);
  placed = rw is (All-keys-insert_entry addr_cmp a c IsAddr es h.placed g);
}

pub table_take : (es fs : Table) (forms new : ℕ) (a : Addr) → IsTable es forms → fs ≡ remove_entry (is_at (addr_cmp a)) es → IsStrictlySortedBy addr_cmp (keys_of fs) → new + unwrap_or (option_map (λ c. form_weight (content_tree c)) (lookup (is_at (addr_cmp a)) es)) 0 ≡ forms → IsTable fs new
table_take es fs forms new a h is sorted n = record {
  ordered = sorted;
  counted = rw is (omega (arith, count_take es a, h.counted));
  proper = rw is (proper_remove (is_at (addr_cmp a)) es h.proper);
  placed = rw is (All-map-remove_entry (is_at (addr_cmp a)) (λ e. e.0) IsAddr es h.placed);
}

-- within the limits, by the sheet alone
pub within : (es : Table) (n : ℕ) → IsTable es n → length (formula_addresses (sheet es)) ≤ max_formulas → length (sheet es) ≤ max_contents → IsWithin es n
within es n h g c = record {
  table = h;
  few_formulas = omega (arith, h.counted, formulas_sheet es, g);
  few_contents = omega (arith, length_sheet es, c);
}

pub within_nothing : IsWithin [] 0
unfolding IsStrictlySortedBy
within_nothing = record {
  table = record {
    ordered = tt;
    counted = refl;
    proper = tt;
    placed = All-nil IsAddr;
  };
  few_formulas = omega arith;
  few_contents = omega arith;
}

pub within_same : (es fs : Table) (n k : ℕ) → IsWithin es n → IsTable fs k → sheet fs ≡ sheet es → IsWithin fs k
within_same es fs n k h t e = within fs k t
    (let a = ap (λ s. length (formula_addresses s)) e in omega (arith, a, formulas_sheet es, h.table.counted, h.few_formulas))
    (let a = ap length e in omega (arith, a, length_sheet es, h.few_contents))

-- after an edit
pub within_answer : (r : Result (Unit {0}) PutFault) (es fs : Table) (n k : ℕ) (s : F.Cells) → IsWithin es n → IsTable fs k → Answers r (sheet es) s (sheet fs) → IsWithin fs k
within_answer (Ok x) es fs n k s h t a = within fs k t (subst (λ g. length (formula_addresses g) ≤ max_formulas) (sym a.0) a.1) (subst (λ (g : F.Cells). length g ≤ max_contents) (sym a.0) a.2)
within_answer (Err f.Formulas) es fs n k s h t a = within_same es fs n k h t a.0
within_answer (Err f.Contents) es fs n k s h t a = within_same es fs n k h t a.0
within_answer (Err f.NoMemory) es fs n k s h t a = within_same es fs n k h t a

pub proper_copied : (o : Option (Bor Content)) → IfSome (option_copied o) (λ x. IsProperContent (content_tree x)) → IfSome o (λ x. IsProperContent (content_tree x.now))
proper_copied None h = tt
proper_copied (Some c) h = h

-- the counts of a table are those of the sheet that it stands for
pub forms_of_goal : (es : Table) (n : ℕ) (s : F.Cells) → IsTable es n → sheet es ≡ s → length (formula_addresses s) ≡ n
forms_of_goal es n s h e = ap (λ t. length (formula_addresses t)) (sym e) ∙ formulas_sheet es ∙ sym h.counted

pub size_of_goal : (es : Table) (s : F.Cells) → sheet es ≡ s → length s ≡ length es
size_of_goal es s e = ap length (sym e) ∙ length_sheet es
