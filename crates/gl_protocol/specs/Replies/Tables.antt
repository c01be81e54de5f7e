-- The texts of tables, oracles and lists, as bytes.
use Rattle.std.specs.Prelude.{ℕ, ◌-◌, max, nat_lt, List, [], ◌∷◌, ◌++◌, length, map, flat_map, take}
use Rattle.std.specs.Prelude.{replicate, fold, codes, Option, encode_utf8_all, if◌then◌else◌}
use Rattle.std.specs.List.{join_with_byte}
use Rattle.std.specs.Option.{option_map_or}
use Rattle.std.specs.Str.{chars}
use Rattle.std.specs.Fmt.{decimal}
use Rattle.gl_calculus.specs.Grid.Grid.{Addr}
use Rattle.gl_calculus.specs.Edits.Replicas.{Edit}
use Rattle.gl_calculus.specs.Values.Value.{Permit, Permitted, Refused, Entry, Oracle}
use Rattle.gl_calculus.specs.Formulas.Formula.{Content}
use Rattle.gl_calculus.specs.Calculation.Calculation.{Shown}
use Rattle.gl_calculus.specs.Grid.Notation.{address_text}
use Rattle.gl_language.specs.Texts.Text.{Bytes, size_text, shown_text, content_text}

-- ---- tables

abbrev pub line : Bytes → Bytes
line t = t ++ 10 ∷ []

-- at most 24 characters, or the first 23 and a `~`
abbrev pub cell_text : Bytes → Bytes
cell_text t =
    if nat_lt 24 (length (chars t)) then encode_utf8_all (take 23 (chars t)) ++ codes "~" else t

abbrev pub right_aligned : ℕ → Bytes → Bytes
right_aligned n t = replicate (n - length (chars t)) 32 ++ t

-- the widths of the columns of these rows: that of the widest cell text
abbrev pub wider : List ℕ → List Bytes → List ℕ
wider [] row = []
wider (n ∷ ns) [] = n ∷ ns
wider (n ∷ ns) (t ∷ row) = max n (length (chars t)) ∷ wider ns row

abbrev pub widths : List ℕ → List (List Bytes) → List ℕ
widths = fold wider

abbrev pub aligned : List ℕ → List Bytes → List Bytes
aligned [] row = []
aligned ns [] = []
aligned (n ∷ ns) (t ∷ row) = right_aligned n t ∷ aligned ns row

-- a line for each row, its cells right aligned in columns and joined by one space
abbrev pub table_text : ℕ → List (List Shown) → Bytes
table_text cols rows =
    let texts = map (map (λ x. cell_text (shown_text x))) rows in
    let ns = widths (replicate cols 0) texts in
    flat_map (λ row. line (join_with_byte 32 (aligned ns row))) texts

-- ---- oracles and lists

abbrev pub permit_text : Permit → Bytes
permit_text Permitted = codes "permitted"
permit_text Refused = codes "refused"

abbrev pub entry_text : Entry → Bytes
entry_text x =
    join_with_byte 32 (address_text x.root ∷ size_text x.size ∷ permit_text x.permit ∷ [])

abbrev pub oracle_text : Oracle → Bytes
oracle_text w =
    line (codes "oracle " ++ decimal (length w)) ++ flat_map (λ x. line (entry_text x)) w

abbrev pub set_text : Addr × Content → Bytes
set_text c = codes "set " ++ address_text c.0 ++ codes " " ++ content_text c.1

abbrev pub text_behind_place : Option Content → Bytes
text_behind_place o = option_map_or (λ c. codes " " ++ content_text c) o []

-- the line that a replica takes this edit by
abbrev pub edit_text : Edit → Bytes
edit_text e =
    codes "edit " ++ decimal e.stamp.time ++ codes " " ++ decimal e.stamp.site ++ codes " "
    ++ address_text e.place ++ text_behind_place e.content

abbrev pub export_text : List Edit → Bytes
export_text rs =
    line (codes "export " ++ decimal (length rs)) ++ flat_map (λ e. line (edit_text e)) rs
