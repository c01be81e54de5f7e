-- The addresses of what is imported are in row-major order.
use Rattle.std.specs.Prelude.{codes}
use Rattle.std.proofs.Common.{◌≡◌, ◌∙◌, ℕ, ◌+◌, ◌<◌, ◌≤◌, Bool, true, false, cond, List, [], ◌∷◌, ◌++◌, map, IsTrue, Option, Some, None, refl, sym, ap, subst, arith}
use Rattle.std.proofs.lemmas.Grind.{common_steps}
use Rattle.std.proofs.lemmas.List.{map-append}
use Rattle.std.specs.List.{AllByRecursion, list_all}
use Rattle.std.specs.Str.{is_utf8}
use Rattle.gl_calculus.specs.Formulas.Formula as F
use Rattle.gl_calculus.specs.Formulas.Formula.{IsSheet}
use Rattle.gl_calculus.specs.Grid.Grid.{Addr, shifted, is_before, AreInOrder}
use Rattle.gl_language.specs.Texts.Text.{Bytes}
use Rattle.gl_protocol.specs.Scripts.Commands.{Read, Is, Not, fields_of_record, fields, field_fault, contents, imported}
use Rattle.gl_language.specs.Texts.Plain.{plain_scalar}

abbrev pub Fields : Type 0
Fields = List (Addr × Bytes)

abbrev places : Fields → List Addr
places xs = map (λ (x : Addr × Bytes). x.0) xs

before : (a b : Addr) → a.row < b.row → IsTrue (is_before a b)
before a b h = grind (arith, common_steps)

beside : (a b : Addr) → b.row ≡ a.row → a.col < b.col → IsTrue (is_before a b)
beside a b h k = grind (arith, common_steps)

abbrev Above : Addr → List Addr → Type 0
Above a bs = AllByRecursion (λ b. IsTrue (is_before a b)) bs

in_front : (a : Addr) (bs : List Addr) → Above a bs → AreInOrder bs → AreInOrder (a ∷ bs)
in_front a [] h k = tt
in_front a (b ∷ bs) h k = (h.0, k)

-- each address is in the row, from the column on
abbrev InRow : ℕ → ℕ → List Addr → Type 0
InRow r c bs = AllByRecursion (λ b. (b.row ≡ r) × (c ≤ b.col)) bs

-- each address is in the row or below
abbrev FromRow : ℕ → List Addr → Type 0
FromRow r bs = AllByRecursion (λ b. r ≤ b.row) bs

in_row : (c r : ℕ) (p : Addr) (xs : List Bytes) → p.row ≡ r → c ≤ p.col → InRow r c (places (fields_of_record p xs))
in_row c r p [] h l = tt
in_row c r p ([] ∷ xs) h l = in_row c r (shifted p 0 1) xs (omega (arith, h)) (omega (arith, l))
in_row c r p ((b ∷ bs) ∷ xs) h l = ((h, l), in_row c r (shifted p 0 1) xs (omega (arith, h)) (omega (arith, l)))

right_of : (a : Addr) (bs : List Addr) → InRow a.row (a.col + 1) bs → Above a bs
right_of a [] h = tt
right_of a (b ∷ bs) h = (beside a b h.0.0 (omega (arith, h.0.1)), right_of a bs h.1)

row_rises : (p : Addr) (xs : List Bytes) → AreInOrder (places (fields_of_record p xs))
row_rises p [] = tt
row_rises p ([] ∷ xs) = row_rises (shifted p 0 1) xs
row_rises p ((b ∷ bs) ∷ xs) =
    in_front p (places (fields_of_record (shifted p 0 1) xs))
    (right_of p (places (fields_of_record (shifted p 0 1) xs)) (in_row (p.col + 1) p.row (shifted p 0 1) xs (omega arith) (omega arith)))
    (row_rises (shifted p 0 1) xs)

row_from : (r : ℕ) (p : Addr) (xs : List Bytes) → r ≤ p.row → FromRow r (places (fields_of_record p xs))
row_from r p [] h = tt
row_from r p ([] ∷ xs) h = row_from r (shifted p 0 1) xs (omega (arith, h))
row_from r p ((b ∷ bs) ∷ xs) h = (h, row_from r (shifted p 0 1) xs (omega (arith, h)))

all_from : (r : ℕ) (cs bs : List Addr) → FromRow r cs → FromRow r bs → FromRow r (cs ++ bs)
all_from r [] bs h k = k
all_from r (a ∷ cs) bs h k = (h.0, all_from r cs bs h.1 k)

places-append : (xs ys : Fields) → places (xs ++ ys) ≡ places xs ++ places ys
places-append xs ys = map-append (λ (x : Addr × Bytes). x.0) xs ys

rows_from : (r : ℕ) (p : Addr) (rs : List (List Bytes)) → r ≤ p.row → FromRow r (places (fields p rs))
rows_from r p [] h = tt
rows_from r p (x ∷ rs) h =
    subst (FromRow r) (sym (places-append (fields_of_record p x) (fields (shifted p 1 0) rs)))
    (all_from r (places (fields_of_record p x)) (places (fields (shifted p 1 0) rs)) (row_from r p x h) (rows_from r (shifted p 1 0) rs (omega (arith, h))))

below : (r : ℕ) (a : Addr) (bs : List Addr) → a.row ≡ r → FromRow (r + 1) bs → Above a bs
below r a [] e h = tt
below r a (b ∷ bs) e h = (before a b (omega (arith, e, h.0)), below r a bs e h.1)

-- a row, and then rows below it
row_then : (r c : ℕ) (cs bs : List Addr) → InRow r c cs → AreInOrder cs → FromRow (r + 1) bs → AreInOrder bs → AreInOrder (cs ++ bs)
row_then r c [] bs h k g l = l
row_then r c (a ∷ []) bs h k g l = in_front a bs (below r a bs h.0.0 g) l
row_then r c (a ∷ b ∷ cs) bs h k g l = (k.0, row_then r c (b ∷ cs) bs h.1 k.1 g l)

fields_rise : (p : Addr) (rs : List (List Bytes)) → AreInOrder (places (fields p rs))
fields_rise p [] = tt
fields_rise p (x ∷ rs) =
    subst AreInOrder (sym (places-append (fields_of_record p x) (fields (shifted p 1 0) rs)))
    (row_then p.row p.col (places (fields_of_record p x)) (places (fields (shifted p 1 0) rs)) (in_row p.col p.row p x refl (omega arith)) (row_rises p x) (rows_from (p.row + 1) (shifted p 1 0) rs (omega arith)) (fields_rise (shifted p 1 0) rs))

-- ---- the addresses of contents are those of their fields

abbrev pub constant : Addr × Bytes → Addr × F.Content
constant x = (x.0, F.Const (plain_scalar x.1))

-- the contents of a field and of those behind it
abbrev pub then_contents : Option Bytes → Addr × Bytes → Read F.Cells → Read F.Cells
then_contents (Some w) x r = Not w
then_contents None x (Is cs) = Is (constant x ∷ cs)
then_contents None x (Not w) = Not w

pub contents_by : (x : Addr × Bytes) (xs : Fields) (o : Option Bytes) (r : Read F.Cells) → field_fault x ≡ o → contents xs ≡ r → contents (x ∷ xs) ≡ then_contents o x r
contents_by x xs (Some w) r h k = rw h refl
contents_by x xs None (Is cs) h k = rw (h, k) refl
contents_by x xs None (Not w) h k = rw (h, k) refl

is_cells : (cs ds : F.Cells) → Is cs ≡ Is ds → cs ≡ ds
is_cells cs ds h = cc

no_cells : (w : Bytes) (cs : F.Cells) → Not w ≡ Is cs → ⊥
no_cells w cs h = cc

abbrev SamePlaces : Fields → F.Cells → Type 0
SamePlaces xs cs = contents xs ≡ Is cs → map (λ (c : Addr × F.Content). c.0) cs ≡ places xs

one_more : (x : Addr × Bytes) (xs : Fields) (cs : F.Cells) (o : Option Bytes) (r : Read F.Cells) → ((ds : F.Cells) → SamePlaces xs ds) → field_fault x ≡ o → contents xs ≡ r → SamePlaces (x ∷ xs) cs
one_more x xs cs (Some w) r rest i j h = absurd (no_cells w cs (sym (contents_by x xs (Some w) r i j) ∙ h))
one_more x xs cs None (Not w) rest i j h = absurd (no_cells w cs (sym (contents_by x xs None (Not w) i j) ∙ h))
one_more x xs cs None (Is ds) rest i j h =
    ap (map (λ (c : Addr × F.Content). c.0)) (sym (is_cells (constant x ∷ ds) cs (sym (contents_by x xs None (Is ds) i j) ∙ h)))
    ∙ ap (λ (ps : List Addr). x.0 ∷ ps) (rest ds j)

same_places : (xs : Fields) (cs : F.Cells) → SamePlaces xs cs
same_places [] cs h = ap (map (λ (c : Addr × F.Content). c.0)) (sym (is_cells [] cs h))
same_places (x ∷ xs) cs h = one_more x xs cs (field_fault x) (contents xs) (λ ds. same_places xs ds) refl refl h

pub rises : (p : Addr) (rs : List (List Bytes)) (cs : F.Cells) → contents (fields p rs) ≡ Is cs → IsSheet cs
rises p rs cs h = subst AreInOrder (sym (same_places (fields p rs) cs h)) (fields_rise p rs)

pub imported_rise : (a : Addr) (rs : List (List Bytes)) (cs : F.Cells) → imported a rs ≡ Is cs → IsSheet cs
imported_rise a rs cs h = by (list_all (list_all is_utf8) rs) h
  where
    by : (b : Bool) → cond b (contents (fields a rs)) (Not (codes "utf8")) ≡ Is cs → IsSheet cs
    by true k = rises a rs cs k
    by false k = absurd (no_cells (codes "utf8") cs k)
