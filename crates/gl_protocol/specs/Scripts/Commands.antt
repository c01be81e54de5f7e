-- What each line and import of a script does to the sheet, and what it replies.
use Rattle.std.specs.Prelude.{◌≡◌, ◌≢◌, ℕ, suc, ◌+◌, ◌-◌, ◌*◌, ◌<◌, ◌≤◌, nat_lt, nat_le, ◌==◌, ℤ}
use Rattle.std.specs.Prelude.{Bool, true, false, ◌&&◌, IsTrue, IsFalse, List, [], ◌∷◌, ◌++◌, length}
use Rattle.std.specs.Prelude.{flat_map, get_or, Option, Some, None, bytes_eq, codes, if◌then◌else◌}
use Rattle.std.specs.List.{list_all}
use Rattle.std.specs.Map.{lookup}
use Rattle.std.specs.Option.{option_and_then, option_map_or}
use Rattle.std.specs.Fmt.{decimal}
use Rattle.std.specs.Str.{is_utf8}
use Rattle.gl_calculus.specs.Grid.Limits.{max_text, max_payload, max_formulas, max_contents}
use Rattle.gl_calculus.specs.Grid.Limits.{max_cells}
use Rattle.gl_calculus.specs.Grid.Grid.{Addr, addr, Range, range, extents, covers, grid, shifted}
use Rattle.gl_calculus.specs.Values.Value.{Oracle}
use Rattle.gl_calculus.specs.Formulas.Formula.{Version, Formula, Cells, Const, Form, content}
use Rattle.gl_calculus.specs.Formulas.Formula.{formula_addresses}
use Rattle.gl_calculus.specs.Grid.Notation.{address_text}
use Rattle.gl_language.specs.Texts.Text.{Bytes, content_text, shown_text}
use Rattle.gl_protocol.specs.Replies.Tables.{line, set_text, oracle_text, table_text}
use Rattle.gl_language.specs.Reading.Token.{digits_value, Decodes}
use Rattle.gl_language.specs.Reading.Grammar.{Parses, IsParseFault, ParseFault}
use Rattle.gl_calculus.specs.Edits.Limits.{max_site}
use Rattle.gl_calculus.specs.Edits.Replicas.{Edit, stamp, is_stamp}
use Rattle.gl_calculus.specs.Explanation.Certificate.{Certificate, Cert, Explains}
use Rattle.gl_protocol.specs.Framing.Pieces.{cut_at, pieces, is_number}
use Rattle.gl_protocol.specs.Replies.Explanations.{explanation_text}
use Rattle.gl_calculus.specs.Calculation.Calculation.{SpentKind, Shown, IsShown}
use Rattle.gl_language.specs.Texts.Plain.{plain_scalar}
use Rattle.gl_calculus.specs.Values.Value as V
use Rattle.gl_calculus.specs.Formulas.Formula as F
use Rattle.gl_language.specs.Reading.Token as T
use Rattle.gl_language.specs.Reading.Grammar as G
use Rattle.gl_calculus.specs.Calculation.Calculation as A
use Rattle.gl_calculus.specs.Evaluation.Oracle as O
use Rattle.gl_calculus.specs.Evaluation.World.{world}

-- ---- contents

abbrev pub fault_word : ParseFault → Bytes
fault_word G.ParseFault.Long = codes "long"
fault_word (G.ParseFault.Lex T.LexFault.TokenFault n) = codes "token"
fault_word (G.ParseFault.Lex T.LexFault.NumberFault n) = codes "number"
fault_word (G.ParseFault.Lex T.LexFault.TextFault n) = codes "text"
fault_word G.ParseFault.Deep = codes "deep"
fault_word G.ParseFault.Syntax = codes "syntax"
fault_word G.ParseFault.Range = codes "range"
fault_word G.ParseFault.Name = codes "name"
fault_word G.ParseFault.Arity = codes "arity"

-- a thing that was read, or the word of the refusal
pub data Read (X : Type 0) : Type 0 where
  Is : X → Read X
  Not : Bytes → Read X

-- what is made of a thing that was read
abbrev pub onto : {X Y : Type 0} → (X → Y) → Read X → Read Y
onto f (Is x) = Is (f x)
onto f (Not w) = Not w

-- the content of a text that isn't empty
pub data ReadsContent : Bytes → Read F.Content → Type 0 where
  formula : {t : Bytes} {f : Formula} → Parses t f → ReadsContent (61 ∷ t) (Is (Form f))
  fault : {t : Bytes} {fault : ParseFault} → IsParseFault t fault
      → ReadsContent (61 ∷ t) (Not (fault_word fault))
  literal : {s t : Bytes} → Decodes s t → length t ≤ max_text
      → ReadsContent (34 ∷ s ++ 34 ∷ []) (Is (Const (V.Scalar.Text t)))
  no_literal : {t : Bytes} → ((s u : Bytes) → Decodes s u → length u ≤ max_text → t ≢ s ++ 34 ∷ [])
      → ReadsContent (34 ∷ t) (Not (codes "text"))
  plain : {b : ℕ} {t : Bytes} → b ≢ 61 → b ≢ 34 → length (b ∷ t) ≤ max_text
      → ReadsContent (b ∷ t) (Is (Const (plain_scalar (b ∷ t))))
  number : {b : ℕ} {t : Bytes} {n : ℤ} → b ≢ 61 → b ≢ 34 → max_text < length (b ∷ t)
      → plain_scalar (b ∷ t) ≡ V.Scalar.Int n → ReadsContent (b ∷ t) (Is (Const (V.Scalar.Int n)))
  long : {b : ℕ} {t : Bytes} → b ≢ 61 → b ≢ 34 → max_text < length (b ∷ t)
      → ((n : ℤ) → plain_scalar (b ∷ t) ≢ V.Scalar.Int n)
      → ReadsContent (b ∷ t) (Not (codes "field"))

-- the content of a text, or none where there is no text
pub data ReadsText : Option Bytes → Read (Option F.Content) → Type 0 where
  no_text : ReadsText None (Is None)
  text : {t : Bytes} {r : Read F.Content} → ReadsContent t r → ReadsText (Some t) (onto Some r)

-- ---- requests

pub data Request : Type 0 where
  Nothing ListAll Calculate ShowOracle Quit Export Undo Redo Flow : Request
  Set : Addr → F.Content → Request
  Clear View : Range → Request
  Show Get Why Explain : Addr → Request
  Site : ℕ → Request
  Merge : Edit → Request

abbrev pub IsAddress : Bytes → Addr → Type 0
IsAddress bs a = IsTrue (covers grid a) × (bs ≡ address_text a)

abbrev pub NoAddress : Bytes → Type 0
NoAddress bs = (a : Addr) → IsAddress bs a → ⊥

-- an address, or two with a colon between
pub data IsPlace : Bytes → Addr → Addr → Type 0 where
  one : {bs : Bytes} {a : Addr} → IsAddress bs a → IsPlace bs a a
  two : {bs cs : Bytes} {a b : Addr} → IsAddress bs a → IsAddress cs b → IsPlace (bs ++ 58 ∷ cs) a b

abbrev pub in_order : Addr → Addr → Bool
in_order a b = nat_le a.col b.col && nat_le a.row b.row

pub data ReadsRange : Bytes → Read Range → Type 0 where
  range_of : {bs : Bytes} {a b : Addr} → IsPlace bs a b
      → ReadsRange bs (if in_order a b then Is (range a b) else Not (codes "range"))
  no_address : {bs : Bytes} → ((a b : Addr) → IsPlace bs a b → ⊥)
      → ReadsRange bs (Not (codes "address"))

abbrev pub is_viewable : Range → Bool
is_viewable r = nat_le ((extents r).rows * (extents r).cols) max_cells

-- the words of a command, with its arguments as they stand
pub data Words : Type 0 where
  ListWords CalcWords OracleWords QuitWords ExportWords UndoWords RedoWords FlowWords : Words
  SetWords : (place text : Bytes) → Words
  ClearWords ViewWords ShowWords GetWords WhyWords ExplainWords : (place : Bytes) → Words
  ImportWords : (place count : Bytes) → Words
  SiteWords : (site : Bytes) → Words
  EditWords : (time site place : Bytes) → (text : Option Bytes) → Words

abbrev pub one_word : Bytes → Option Words
one_word w =
    lookup (bytes_eq w) (
    (codes "list", ListWords) ∷ (codes "calc", CalcWords) ∷ (codes "oracle", OracleWords)
    ∷ (codes "quit", QuitWords) ∷ (codes "export", ExportWords) ∷ (codes "undo", UndoWords)
    ∷ (codes "redo", RedoWords) ∷ (codes "flow", FlowWords) ∷ [])

abbrev pub two_words : Bytes → Bytes → Option Words
two_words w place =
    if bytes_eq w (codes "clear") then Some (ClearWords place)
    else if bytes_eq w (codes "view") then Some (ViewWords place)
    else if bytes_eq w (codes "show") then Some (ShowWords place)
    else if bytes_eq w (codes "get") then Some (GetWords place)
    else if bytes_eq w (codes "why") then Some (WhyWords place)
    else if bytes_eq w (codes "explain") then Some (ExplainWords place)
    else if bytes_eq w (codes "site")
    then (if is_number place && nat_le (digits_value place) max_site
    then Some (SiteWords place) else None)
    else None

abbrev pub words_of_pieces : List Bytes → Option Words
words_of_pieces (w ∷ []) = one_word w
words_of_pieces (w ∷ place ∷ []) = if length place == 0 then None else two_words w place
words_of_pieces (w ∷ place ∷ n ∷ []) =
    if bytes_eq w (codes "import") && nat_lt 0 (length place) && is_number n
    then Some (ImportWords place n) else None
words_of_pieces ps = None

-- what is cut behind a separator, where there is one
abbrev pub behind : Option Bytes → (Bytes → Option Words) → Option Words
behind o f = option_and_then f o

-- all behind the second space is the text of `set`
abbrev pub set_words : Option Bytes → Option Words
set_words o =
    behind o (λ r. let place = cut_at 32 r in
    behind place.1 (λ t.
    if nat_lt 0 (length place.0) && nat_lt 0 (length t) then Some (SetWords place.0 t) else None))

abbrev pub is_text : Option Bytes → Bool
is_text o = option_map_or (λ t. nat_lt 0 (length t)) o true

-- of `edit` a time, a site and an address, and all behind the fourth space is its text, if there is
-- one
abbrev pub edit_words : Option Bytes → Option Words
edit_words o =
    behind o (λ r. let time = cut_at 32 r in
    behind time.1 (λ r. let site = cut_at 32 r in
    behind site.1 (λ r. let place = cut_at 32 r in
    if (is_number time.0 && is_number site.0) && (nat_lt 0 (length place.0) && is_text place.1)
    then Some (EditWords time.0 site.0 place.0 place.1) else None)))

abbrev pub words_of : Bytes → Option Words
words_of l =
    let c = cut_at 32 l in
    if bytes_eq c.0 (codes "set") then set_words c.1
    else if bytes_eq c.0 (codes "edit") then edit_words c.1 else words_of_pieces (pieces 32 l)

pub data ReadsWords : Words → Read Request → Type 0 where
  list : ReadsWords ListWords (Is ListAll)
  calc : ReadsWords CalcWords (Is Calculate)
  oracle : ReadsWords OracleWords (Is ShowOracle)
  quit : ReadsWords QuitWords (Is Quit)
  export : ReadsWords ExportWords (Is Export)
  undo : ReadsWords UndoWords (Is Undo)
  redo : ReadsWords RedoWords (Is Redo)
  flow : ReadsWords FlowWords (Is Flow)
  site : {n : Bytes} → ReadsWords (SiteWords n) (Is (Site (digits_value n)))
  edit : {t n place : Bytes} {text : Option Bytes} {r : Read (Option F.Content)} (a : Addr)
      → IsAddress place a → IsTrue (is_stamp (digits_value t) (digits_value n)) → ReadsText text r
      → ReadsWords (EditWords t n place text) (onto (λ c. Merge
      (record { stamp = stamp (digits_value t) (digits_value n); place = a; content = c })) r)
  edit_stamp : {t n place : Bytes} {text : Option Bytes} (a : Addr) → IsAddress place a
      → IsFalse (is_stamp (digits_value t) (digits_value n))
      → ReadsWords (EditWords t n place text) (Not (codes "stamp"))
  edit_place : {t n place : Bytes} {text : Option Bytes} → NoAddress place
      → ReadsWords (EditWords t n place text) (Not (codes "address"))
  set : {place t : Bytes} {r : Read F.Content} (a : Addr) → IsAddress place a → ReadsContent t r
      → ReadsWords (SetWords place t) (onto (Set a) r)
  set_place : {place t : Bytes} → NoAddress place
      → ReadsWords (SetWords place t) (Not (codes "address"))
  clear : {place : Bytes} {r : Read Range} → ReadsRange place r
      → ReadsWords (ClearWords place) (onto Clear r)
  view : {place : Bytes} {r : Range} → ReadsRange place (Is r)
      → ReadsWords (ViewWords place) (if is_viewable r then Is (View r) else Not (codes "range"))
  view_place : {place : Bytes} {w : Bytes} → ReadsRange place (Not w)
      → ReadsWords (ViewWords place) (Not w)
  show : {place : Bytes} {a : Addr} → IsAddress place a → ReadsWords (ShowWords place) (Is (Show a))
  show_place : {place : Bytes} → NoAddress place
      → ReadsWords (ShowWords place) (Not (codes "address"))
  get : {place : Bytes} {a : Addr} → IsAddress place a → ReadsWords (GetWords place) (Is (Get a))
  get_place : {place : Bytes} → NoAddress place
      → ReadsWords (GetWords place) (Not (codes "address"))
  why_of : {place : Bytes} {a : Addr} → IsAddress place a → ReadsWords (WhyWords place) (Is (Why a))
  why_place : {place : Bytes} → NoAddress place
      → ReadsWords (WhyWords place) (Not (codes "address"))
  explain : {place : Bytes} {a : Addr} → IsAddress place a
      → ReadsWords (ExplainWords place) (Is (Explain a))
  explain_place : {place : Bytes} → NoAddress place
      → ReadsWords (ExplainWords place) (Not (codes "address"))
  -- an import header whose count isn't too large is no line of its own
  payload : {place n : Bytes} → max_payload < digits_value n
      → ReadsWords (ImportWords place n) (Not (codes "payload"))

abbrev pub is_comment : Bytes → Bool
is_comment [] = true
is_comment (b ∷ bs) = b == 59

-- what a line asks
pub data ReadsLine (l : Bytes) : Read Request → Type 0 where
  comment : IsTrue (is_comment l) → ReadsLine l (Is Nothing)
  utf8 : IsFalse (is_comment l) → IsFalse (is_utf8 l) → ReadsLine l (Not (codes "utf8"))
  command : IsFalse (is_comment l) → IsTrue (is_utf8 l) → words_of l ≡ None
      → ReadsLine l (Not (codes "command"))
  words : {ws : Words} {r : Read Request} → IsFalse (is_comment l) → IsTrue (is_utf8 l)
      → words_of l ≡ Some ws → ReadsWords ws r → ReadsLine l r

-- ---- edits

-- a sheet within the limits, or the word of the refusal
abbrev pub allowed : Cells → Read Cells
allowed S =
    if nat_lt max_formulas (length (formula_addresses S)) then Not (codes "formulas")
    else if nat_lt max_contents (length S) then Not (codes "contents") else Is S

-- ---- imports

-- the fields of records that aren't empty, with their addresses, from this row on
abbrev pub fields_of_record : Addr → List Bytes → List (Addr × Bytes)
fields_of_record a [] = []
fields_of_record a ([] ∷ ts) = fields_of_record (shifted a 0 1) ts
fields_of_record a ((b ∷ bs) ∷ ts) = (a, b ∷ bs) ∷ fields_of_record (shifted a 0 1) ts

abbrev pub fields : Addr → List (List Bytes) → List (Addr × Bytes)
fields a [] = []
fields a (r ∷ rs) = fields_of_record a r ++ fields (shifted a 1 0) rs

abbrev pub field_fault : Addr × Bytes → Option Bytes
field_fault x =
    if nat_lt max_text (length x.1) then Some (codes "field")
    else if covers grid x.0 then None else Some (codes "grid")

-- the first field that is too long or off the grid, or else the contents
abbrev pub contents : List (Addr × Bytes) → Read Cells
contents [] = Is []
contents (x ∷ xs) =
    option_map_or Not (field_fault x)
    (onto (λ cs. (x.0, Const (plain_scalar x.1)) ∷ cs) (contents xs))

abbrev pub imported : Addr → List (List Bytes) → Read Cells
imported a rs =
    if list_all (list_all is_utf8) rs then contents (fields a rs) else Not (codes "utf8")

-- ---- replies

abbrev pub error_line : Bytes → Bytes
error_line w = line (codes "error " ++ w)

abbrev pub spent_line : SpentKind → Bytes
spent_line (A.SpentKind.Rounds a) = line (codes "spent rounds " ++ address_text a)
spent_line (A.SpentKind.CopyRounds a) = line (codes "spent copyrounds " ++ address_text a)
spent_line (A.SpentKind.Depth a) = line (codes "spent depth " ++ address_text a)
spent_line A.SpentKind.Work = line (codes "spent work")

abbrev pub why_text : A.Why → Bytes
why_text A.Why.NoEntry = codes "none"
why_text A.Why.Permitted = codes "permitted"
why_text (A.Why.Blocked O.Obstacle.Edge) = codes "edge"
why_text (A.Why.Blocked (O.Obstacle.Content a)) = codes "content " ++ address_text a
why_text (A.Why.Blocked (O.Obstacle.Root a)) = codes "root " ++ address_text a

abbrev pub ok_line : Bytes
ok_line = line (codes "ok")

abbrev pub get_text : Option F.Content → Bytes
get_text o = option_map_or content_text o (codes ".")

-- a script of version Two says so in its first line
abbrev pub version_lines : Version → Bytes
version_lines F.Version.One = []
version_lines F.Version.Two = line (codes "gridlet 2")

abbrev pub list_text : Version → Cells → Bytes
list_text version S =
    line (codes "list " ++ decimal (length S)) ++ version_lines version
    ++ flat_map (λ x. line (set_text x)) S

-- one byte order mark at the beginning is dropped
abbrev pub without_mark : Bytes → Bytes
without_mark (a ∷ b ∷ c ∷ bs) =
    if (a == 239) && (b == 187) && (c == 191) then bs else a ∷ b ∷ c ∷ bs
without_mark bs = bs

-- the csv records of a payload, which the crate `csv` says
module _ (records : Bytes → List (List Bytes)) (version : Version) (S : Cells) where
  -- what the addresses of a range show, row by row from this row on
  pub data AreShown (w : Oracle) (r : Range) : ℕ → List (List Shown) → Type 0 where
    none : {i : ℕ} → r.last.row < i → AreShown w r i []
    row : {i : ℕ} {xs : List Shown} {rest : List (List Shown)} → i ≤ r.last.row
        → length xs ≡ (extents r).cols
        → ((j : ℕ) (d : Shown) → j < length xs
        → IsShown (world version S w) (addr (r.first.col + j) i) (get_or xs j d))
        → AreShown w r (i + 1) rest → AreShown w r i (xs ∷ rest)

  -- the replies to what asks for the calculation, where it settled
  pub data SettledReply (w : Oracle) (rounds : ℕ) : Request → Bytes → Type 0 where
    show : {a : Addr} {x : Shown} → IsShown (world version S w) a x
        → SettledReply w rounds (Show a) (line (shown_text x))
    view : {r : Range} {rows : List (List Shown)} → AreShown w r r.first.row rows
        → SettledReply w rounds (View r) (table_text (extents r).cols rows)
    calc : SettledReply w rounds Calculate (line (codes "settled " ++ decimal rounds))
    oracle : SettledReply w rounds ShowOracle (oracle_text w)
    why_so : {a : Addr} → SettledReply w rounds (Why a) (line (why_text (A.why S w a)))
    -- a check accepts each certificate that explains
    explain : {a : Addr} {c : Certificate} → Explains (world version S w) a (Cert c)
        → SettledReply w rounds (Explain a) (explanation_text (codes "accepted") c)

  abbrev pub asks_calculation : Request → Bool
  asks_calculation (Show a) = true
  asks_calculation (View r) = true
  asks_calculation Calculate = true
  asks_calculation ShowOracle = true
  asks_calculation (Why a) = true
  asks_calculation (Explain a) = true
  asks_calculation x = false
