-- The contents of fields, one field after the other.
use Rattle.std.specs.Prelude.{codes}
use Rattle.std.proofs.Common.{◌≡◌, ◌∙◌, ℕ, ◌+◌, List, [], ◌∷◌, ◌++◌, Err, refl, ap, arith, append-nil}
use Rattle.gl_calculus.specs.Formulas.Formula as F
use Rattle.gl_calculus.specs.Grid.Grid.{Addr, addr, shifted}
use Rattle.gl_language.specs.Texts.Text.{Bytes}
use Rattle.gl_protocol.specs.Scripts.Commands.{Read, Is, Not, fields_of_record, contents}
use Rattle.laws_protocol.proofs.Scripts.Rising.{Fields}
use Rattle.gl_cells.specs.Sheet.{Table, sheet}
use Rattle.gl_csvin.specs.declared.fault.CsvFault.{CsvFault}
use Rattle.gl_csvin.specs.declared.fault.CsvFault.TheVariants as f
use Rattle.gl_csvin.specs.Import.{behind, Adds}

not_behind : (cs : F.Cells) (r : Read F.Cells) (w : Bytes) → behind cs r ≡ Not w → r ≡ Not w
not_behind cs (Is ds) w h = absurd (is_not _ w h)
  where
    is_not : (ds : F.Cells) (w : Bytes) → Is ds ≡ Not w → ⊥
    is_not ds w e = cc
not_behind cs (Not v) w h = h

-- ---- the fields of a record

pub next_field : (c r j : ℕ) (x : Bytes) (xs : List Bytes) (ys : Fields) → fields_of_record (addr (c + j) r) (x ∷ xs) ++ ys ≡ fields_of_record (addr (c + j) r) (x ∷ []) ++ (fields_of_record (addr (c + (j + 1)) r) xs ++ ys)
next_field c r j x xs ys = first x ∙ ap (λ (p : Addr). fields_of_record (addr (c + j) r) (x ∷ []) ++ (fields_of_record p xs ++ ys)) same
  where
    same : shifted (addr (c + j) r) 0 1 ≡ addr (c + (j + 1)) r
    same = let e : (c + j) + 1 ≡ c + (j + 1) = omega arith in let k : r + 0 ≡ r = omega arith in ap (λ n. addr n (r + 0)) e ∙ ap (addr (c + (j + 1))) k

    first : (x : Bytes) → fields_of_record (addr (c + j) r) (x ∷ xs) ++ ys ≡ fields_of_record (addr (c + j) r) (x ∷ []) ++ (fields_of_record (shifted (addr (c + j) r) 0 1) xs ++ ys)
    first [] = refl
    first (b ∷ bs) = refl

-- a refusal behind what was read is a refusal of the whole
pub fails : (e : CsvFault) (one all : Fields) (was now o n o' n' : Table) → ((ys : Fields) → (zs : Fields) × (behind (sheet was) (contents (all ++ ys)) ≡ behind (sheet now) (contents (one ++ zs)))) → Adds one o n (Err e) → Adds all o' n' (Err e)
fails f.Utf8 one all was now o n o' n' so_far h = h
fails f.Field one all was now o n o' n' so_far h = λ ys. let s = so_far ys in not_behind (sheet was) _ (codes "field") (s.1 ∙ ap (behind (sheet now)) (h s.0))
fails f.Grid one all was now o n o' n' so_far h = λ ys. let s = so_far ys in not_behind (sheet was) _ (codes "grid") (s.1 ∙ ap (behind (sheet now)) (h s.0))
fails f.NoMemory one all was now o n o' n' so_far h = tt

-- nothing is read behind all records
pub all_read : (es : Table) → behind (sheet es) (contents []) ≡ Is (sheet es)
all_read es = ap Is (append-nil (sheet es))
