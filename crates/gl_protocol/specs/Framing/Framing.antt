-- Framing: what a whole text is made of, by splitting it at its first line, and again at the first
-- line of what follows.
use Rattle.std.specs.Prelude.{ℕ, zero, suc, Bool, false, ◌==◌, nat_lt, nat_le, ◌-◌}
use Rattle.std.specs.Prelude.{List, [], ◌∷◌, length, take, drop, if◌then◌else◌, Option, None, Some}
use Rattle.std.specs.Prelude.{slice_index}
use Rattle.std.specs.List.{list_any}
use Rattle.std.specs.Option.{option_map_or}
use Rattle.gl_calculus.specs.Grid.Limits.{max_line}
use Rattle.gl_language.specs.Texts.Text.{Bytes}
use Rattle.gl_protocol.specs.Framing.Header.{payload_len, is_quit_line}

pub data Item : Type 0 where
  Line : Bytes → Item
  -- a header with the payload that follows it
  Import : (heading payload : Bytes) → Item
  -- a line that is too long
  Long : Item
  -- a payload that the text ends in
  Truncated : Item

-- what a line announces
pub data Kind : Type 0 where
  past_limit : Kind
  plain : Kind
  header : ℕ → Kind

-- a line less one CR at its end
abbrev pub drop_cr : Bytes → Bytes
drop_cr bs = if slice_index bs (length bs - 1) == 13 then take (length bs - 1) bs else bs

abbrev pub kind_by : Bool → Option ℕ → Kind
kind_by is_long count = if is_long then past_limit else option_map_or header count plain

-- the kind of a line without its CR
unfoldable pub kind_of : Bytes → Kind
kind_of bs = kind_by (nat_lt max_line (length bs)) (payload_len bs)

-- some byte is an LF
abbrev pub has_lf : Bytes → Bool
has_lf = list_any (λ b. b == 10)

-- what stands before the first LF, or all
abbrev pub first_line : Bytes → Bytes
first_line [] = []
first_line (b ∷ bs) = if b == 10 then [] else b ∷ first_line bs

-- what follows the first LF
abbrev pub after_line : Bytes → Bytes
after_line [] = []
after_line (b ∷ bs) = if b == 10 then bs else after_line bs

-- the item that a line begins, where it ends in what follows the line, and what follows the item
abbrev pub item_at : Kind → Bytes → Bytes → Option (Item × Bytes)
item_at past_limit line u = Some (Long, u)
item_at plain line u = Some (Line line, u)
item_at (header n) line u =
    if nat_le n (length u) then Some (Import line (take n u), drop n u) else None

-- the first item of a text, where one ends in it, and what follows the item
abbrev pub first_item : Bytes → Option (Item × Bytes)
first_item t =
    if has_lf t
    then item_at (kind_of (drop_cr (first_line t))) (drop_cr (first_line t)) (after_line t)
    else None

-- the item of a last line with no LF
abbrev pub last_item : Kind → Bytes → Item
last_item past_limit line = Long
last_item plain line = Line line
last_item (header zero) line = Import line []
last_item (header (suc n)) line = Truncated

-- what the end of input makes of a text in which no item ends
abbrev pub last_items : Bytes → List Item
last_items [] = []
last_items (b ∷ bs) =
    (if has_lf (b ∷ bs) then Truncated
    else last_item (kind_of (drop_cr (b ∷ bs))) (drop_cr (b ∷ bs))) ∷ []

abbrev pub is_quit : Item → Bool
is_quit (Line line) = is_quit_line line
is_quit x = false

-- some item is `quit`
abbrev pub has_quit : List Item → Bool
has_quit is = list_any is_quit is

-- the first item, and then those of what follows it, unless it is `quit`; the last where no item
-- ends
abbrev pub go_on : Option (Item × Bytes) → (Bytes → List Item) → List Item → List Item
go_on None rest last = last
go_on (Some p) rest last = p.0 ∷ (if is_quit p.0 then [] else rest p.1)

-- The items of a text, of which no more than this number are cut off, and then what the end makes
-- of the rest in which none ends.
abbrev pub items_within : (last : Bytes → List Item) → ℕ → Bytes → List Item
items_within last zero t = []
items_within last (suc n) t = go_on (first_item t) (items_within last n) (last t)

-- The items of a whole text. Each takes one byte or more, so there are no more items than bytes.
unfoldable pub items : Bytes → List Item
items t = items_within last_items (length t) t

-- the items of a text that end in a prefix of it
unfoldable pub ended : Bytes → List Item
ended p = items_within (λ t. []) (length p) p
