-- What parts of the replies say.
use Rattle.std.specs.Prelude.{codes}
use Rattle.std.specs.Fmt.{decimal}
use Rattle.std.specs.Prelude.{◌≡◌, ℕ, ◌+◌, ◌<◌, List, [], ◌++◌, length, flat_map, get_or, Option, Some, None, MatchOption, IsTrue, ⊤}
use Rattle.gl_calculus.specs.Grid.Grid.{Addr, Range, addr, extents}
use Rattle.gl_calculus.specs.Values.Value.{Oracle}
use Rattle.gl_calculus.specs.Formulas.Formula.{Version, Cells}
use Rattle.gl_calculus.specs.Formulas.Formula as F
use Rattle.gl_calculus.specs.Calculation.Calculation as A
use Rattle.gl_calculus.specs.Calculation.Calculation.{IsAnswer, IsShown}
use Rattle.gl_calculus.specs.Evaluation.Key.{Key, Outcome}
use Rattle.gl_calculus.specs.Explanation.Certificate.{Verdict, Accepted, Note, Loop, Wrong}
use Rattle.gl_calculus.specs.Explanation.Walk.{Claim}
use Rattle.gl_language.specs.Texts.Text.{Bytes}
use Rattle.gl_language.specs.Reading.Content.{IsProperContent}
use Rattle.gl_protocol.specs.Scripts.Commands as C
use Rattle.gl_protocol.specs.Scripts.Commands.{ImportWords, IsAddress, NoAddress, words_of, AreShown, SettledReply, error_line}
use Rattle.gl_calculus.specs.Forecast.{Forecast, IsForecast}
use Rattle.gl_protocol.specs.Replies.Explanations.{note_line, loop_line, explanation_text, forecast_line}
use Rattle.gl_protocol.specs.Replies.Tables.{line, set_text, edit_text}
use Rattle.gl_calculus.specs.Edits.Replicas.{Edit, is_stamp}
use Rattle.gl_calculus.specs.Evaluation.World.{World, world}
use Rattle.gl_cells.specs.Content.{content_tree}
use Rattle.gl_cells.specs.declared.fault.PutFault.{PutFault}
use Rattle.gl_cells.specs.declared.fault.PutFault.TheVariants as put
use Rattle.gl_calc.specs.View.{View, sheet_of}
use Rattle.gl_protocol.specs.Run.Records.{csv_records}
use Rattle.gl_csvin.specs.declared.fault.CsvFault.{CsvFault}
use Rattle.gl_csvin.specs.declared.fault.CsvFault.TheVariants as csv
use Rattle.gl_merge.specs.Edit.{IsProperOption}
use Rattle.gl_script.specs.declared.requests.Request.{Request}
use Rattle.gl_script.specs.declared.requests.Request.TheVariants as r
use Rattle.gl_views.specs.Rows.{in_rows}
use Rattle.gl_protocol.specs.Run.Spends.{Explaining, Follows}
use Rattle.gl_run.specs.declared.queries.Query.{Query}
use Rattle.gl_run.specs.declared.queries.Query.TheVariants as q

-- ---- refusals

-- the line of this word; a want of memory has none
abbrev pub IsRefusal : Option Bytes → Bytes → Type 0
IsRefusal (Some w) reply = reply ≡ error_line w
IsRefusal None reply = ⊥

abbrev pub put_word : PutFault → Option Bytes
put_word put.Formulas = Some (codes "formulas")
put_word put.Contents = Some (codes "contents")
put_word put.NoMemory = None

abbrev pub csv_word : CsvFault → Option Bytes
csv_word csv.Utf8 = Some (codes "utf8")
csv_word csv.Field = Some (codes "field")
csv_word csv.Grid = Some (codes "grid")
csv_word csv.NoMemory = None

-- ---- requests

abbrev pub query_tree : Query → C.Request
query_tree (q.Show a) = C.Request.Show a
query_tree (q.View x) = C.Request.View x
query_tree q.Calc = C.Request.Calculate
query_tree q.Oracle = C.Request.ShowOracle
query_tree (q.Why a) = C.Request.Why a
query_tree (q.Explain a) = C.Request.Explain a

-- what `set` and `edit` put is proper, and the stamp of `edit` is one
abbrev pub IsProperRequest : Request → Type 0
IsProperRequest (r.Set a c) = IsProperContent (content_tree c)
IsProperRequest (r.Edit t n a c) = IsTrue (is_stamp t n) × IsProperOption c
IsProperRequest x = ⊤

-- a line with the words of an import, whose place is this address, or none
abbrev pub HasPlace : Bytes → Option Addr → Type 0
HasPlace l place_at = (place n : Bytes) × (words_of l ≡ Some (ImportWords place n)) × MatchOption place_at (NoAddress place) (IsAddress place)

-- ---- lists

-- the line that sets a content at an address, where there is one
abbrev pub set_line : Addr → Option F.Content → Bytes
set_line a None = []
set_line a (Some c) = line (set_text (a, c))

abbrev pub set_lines : Cells → Bytes
set_lines S = flat_map (λ x. line (set_text x)) S

abbrev pub edit_lines : List Edit → Bytes
edit_lines rs = flat_map (λ e. line (edit_text e)) rs

abbrev pub note_lines : List (Claim Key Outcome) → Bytes
note_lines notes = flat_map (λ n. note_line n.0 n.1) notes

abbrev pub loop_lines : List Key → Bytes
loop_lines loops = flat_map loop_line loops

-- the reply tells the forecast of the sheet
abbrev pub TellsForecast : Cells → Bytes → Type 0
TellsForecast S reply = (f : Forecast) × IsForecast S f × (reply ≡ forecast_line f)

-- ---- queries

-- the reply by the oracle that is held, where the calculation took so many rounds
abbrev pub RepliesBy : View → ℕ → C.Request → Bytes → Type 0
RepliesBy c rounds x reply = (version : Version) (w : Oracle) → c.held ≡ Some (version, w) → SettledReply csv_records version (sheet_of c) w rounds x reply

-- the calculation settled in this version after so many rounds, and what it settled to is held
abbrev pub Holds : Version → View → ℕ → Type 0
Holds version c rounds = (w : Oracle) × (c.held ≡ Some (version, w)) × IsAnswer version (sheet_of c) (A.Settled w rounds)

-- behind a calculation that settled after so many rounds, to what is held, a request takes the steps from n to m
abbrev pub FollowsBy : Version → View → ℕ → C.Request → ℕ → ℕ → Type 0
FollowsBy version c rounds x n m = (w : Oracle) → c.held ≡ Some (version, w) → Follows version (sheet_of c) x (A.Settled w rounds) n m

-- the reply explains what the address shows, with the steps from n to m
abbrev pub IsExplanation : World → Addr → ℕ → ℕ → Bytes → Type 0
IsExplanation W a n m reply =
    (x : Explaining W a n m) × (reply ≡ explanation_text (codes "accepted") x.certificate)

-- the address shows this by the oracle that is held
abbrev pub IsShownIn : View → Addr → A.Shown → Type 0
IsShownIn c a x = (version : Version) (w : Oracle) → c.held ≡ Some (version, w) → IsShown (world version (sheet_of c) w) a x

-- the addresses of the range show these, in row-major order
abbrev pub AreShownIn : View → Range → List A.Shown → Type 0
AreShownIn c r xs =
    (version : Version) (w : Oracle) → c.held ≡ Some (version, w) → AreShown csv_records version (sheet_of c) w r r.first.row (in_rows (extents r).rows (extents r).cols xs)

-- what the addresses of a row of the range show is appended
abbrev pub IsRowShown : View → Range → ℕ → List A.Shown → List A.Shown → Type 0
IsRowShown c r i old new =
    (xs : List A.Shown) × (new ≡ old ++ xs) × (length xs ≡ (extents r).cols)
    × ((j : ℕ) (d : A.Shown) → j < length xs → IsShownIn c (addr (r.first.col + j) i) (get_or xs j d))

-- the word of a verdict; a run writes the first alone
abbrev pub verdict_text : Verdict → Bytes
verdict_text Accepted = codes "accepted"
verdict_text (Note i) = codes "note " ++ decimal i
verdict_text (Loop i) = codes "loop " ++ decimal i
verdict_text Wrong = codes "wrong"
