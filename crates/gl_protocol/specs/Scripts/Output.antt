-- What a whole run writes.
use Rattle.std.specs.Prelude.{◌≡◌, ℕ, ◌*◌, ◌%◌, nat_le, Bool, true, false, ◌||◌, List, [], ◌∷◌}
use Rattle.std.specs.Prelude.{◌++◌, length, take, flat_map, codes, bytes_eq, if◌then◌else◌}
use Rattle.std.specs.List.{range_with_len}
use Rattle.std.specs.Fmt.{decimal}
use Rattle.gl_calculus.specs.Grid.Limits.{max_script}
use Rattle.gl_calculus.specs.Formulas.Formula.{Version, One, Two}
use Rattle.gl_language.specs.Texts.Text.{Bytes}
use Rattle.gl_protocol.specs.Replies.Tables.{line}
use Rattle.gl_protocol.specs.Framing.Framing.{Item, Line, items, ended, has_quit}
use Rattle.gl_protocol.specs.Scripts.Commands.{ok_line}
use Rattle.gl_protocol.specs.Scripts.Script.{Script, new_script}
use Rattle.gl_protocol.specs.Scripts.Acts.{Acts}

abbrev pub is_line : Bytes → Item → Bool
is_line l (Line m) = bytes_eq l m
is_line l x = false

-- The replies to items, one for each and in order, and the state behind them.
pub data Runs (records : Bytes → List (List Bytes)) (version : Version)
    : Script → List Item → Script → List Bytes → Type 0 where
  no_more : {s : Script} → Runs records version s [] s []
  item : {s s' s'' : Script} {x : Item} {xs : List Item} {reply : Bytes} {replies : List Bytes}
      → Acts records version s x s' reply → Runs records version s' xs s'' replies
      → Runs records version s (x ∷ xs) s'' (reply ∷ replies)

-- The replies to a whole list of items. A script whose first item is the line `gridlet 2` has
-- version Two, and that line is only answered.
pub data AreReplies (records : Bytes → List (List Bytes)) : List Item → List Bytes → Type 0 where
  two : {x : Item} {xs : List Item} {s : Script} {replies : List Bytes}
      → is_line (codes "gridlet 2") x ≡ true → Runs records Two new_script xs s replies
      → AreReplies records (x ∷ xs) (ok_line ∷ replies)
  one : {x : Item} {xs : List Item} {s : Script} {replies : List Bytes}
      → is_line (codes "gridlet 2") x ≡ false → Runs records One new_script (x ∷ xs) s replies
      → AreReplies records (x ∷ xs) replies
  empty : AreReplies records [] []

-- the reply is an `error` line: no other reply begins so
abbrev pub is_refusal : Bytes → Bool
is_refusal reply = bytes_eq (take 6 reply) (codes "error ")

-- what is written for the items
abbrev pub IsOutput : (Bytes → List (List Bytes)) → List Item → Bytes → Type 0
IsOutput records is out =
    (replies : List Bytes) × AreReplies records is replies × (out ≡ flat_map (λ r. r) replies)

-- the input ends or quits within the limit
abbrev pub is_within_limit : Bytes → Bool
is_within_limit t = nat_le (length t) max_script || has_quit (ended (take max_script t))

-- the items that a run answers
abbrev pub items_of : Bytes → List Item
items_of t = if is_within_limit t then items t else ended (take max_script t)

-- ---- the generated script

abbrev pub row_number : ℕ → Bytes
row_number i = line (decimal i ++ codes "," ++ decimal ((i * i) % 97))

abbrev pub generated_payload : ℕ → Bytes
generated_payload n = flat_map row_number (range_with_len 1 n)

-- a recursion by copies
abbrev pub recursion_line : Bytes
recursion_line =
    line (codes "set I1 =IF(H1>=256,1,VIEW(UPDATE(SHEET(H1:I1),H1,2*H1),I1)"
    ++ codes "+VIEW(UPDATE(SHEET(H1:I1),H1,2*H1+1),I1))")

abbrev pub generated : ℕ → Bytes
generated n =
    let last = decimal n in
    line (codes "import A1 " ++ decimal (length (generated_payload n))) ++ generated_payload n
    ++ line (codes "set D1 =A1:A" ++ last ++ codes "*B1:B" ++ last)
    ++ line (codes "set F1 =SUM(D1#)")
    ++ line (codes "set H1 1")
    ++ recursion_line
    ++ line (codes "set K1 =VIEW(UPDATE(SHEET(A1:F" ++ last ++ codes "),A1,1000),F1)")
    ++ line (codes "calc") ++ line (codes "show F1") ++ line (codes "show I1")
    ++ line (codes "show K1") ++ line (codes "quit")
