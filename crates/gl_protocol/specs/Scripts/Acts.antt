-- What each line and import of a script does to its state, and what it replies.
use Rattle.std.specs.Prelude.{◌≡◌, ℕ, IsTrue, List, [], Some, None, codes}
use Rattle.gl_calculus.specs.Grid.Grid.{Addr}
use Rattle.gl_calculus.specs.Values.Value.{Oracle}
use Rattle.gl_calculus.specs.Formulas.Formula.{Version, Cells, content}
use Rattle.gl_calculus.specs.Calculation.Calculation.{SpentKind, IsAnswer}
use Rattle.gl_calculus.specs.Calculation.Calculation as A
use Rattle.gl_language.specs.Texts.Text.{Bytes}
use Rattle.gl_calculus.specs.Edits.Replicas.{Edit, Replica, Judged, IsJudged}
use Rattle.gl_calculus.specs.Forecast.{Forecast, IsForecast}
use Rattle.gl_protocol.specs.Framing.Framing.{Item, Line, Import, Long, Truncated}
use Rattle.gl_protocol.specs.Replies.Tables.{line, export_text}
use Rattle.gl_protocol.specs.Scripts.Commands.{Read, Is, Not}
use Rattle.gl_protocol.specs.Scripts.Commands.{Request, Nothing, Get, ListAll, Quit}
use Rattle.gl_protocol.specs.Scripts.Commands.{Export, Flow, Merge, ReadsLine, ImportWords}
use Rattle.gl_protocol.specs.Scripts.Commands.{words_of, IsAddress, NoAddress, allowed, imported}
use Rattle.gl_protocol.specs.Scripts.Commands.{without_mark, error_line, spent_line, ok_line}
use Rattle.gl_protocol.specs.Scripts.Commands.{get_text, list_text, SettledReply, asks_calculation}
use Rattle.gl_calculus.specs.Edits.Sheets.{with_contents}
use Rattle.gl_protocol.specs.Replies.Explanations.{forecast_line}
use Rattle.gl_protocol.specs.Scripts.Script.{Script, edited, is_change, change, register_of, merge}
use Rattle.gl_calculus.specs.Edits.Sheets.{settings}

-- What a script leaves and replies by the outcome of a change: a refused one leaves it.
pub data Leaves (s : Script) (outcome : Read Script) : Script → Bytes → Type 0 where
  left : {s' : Script} → outcome ≡ Is s' → Leaves s outcome s' ok_line
  kept : {w : Bytes} → outcome ≡ Not w → Leaves s outcome s (error_line w)

-- what an import of these contents leaves and replies, or of a payload that is refused
pub data Imports (s : Script) (payload : Read Cells) : Script → Bytes → Type 0 where
  contents : {s' : Script} {reply : Bytes} (cs : Cells) → payload ≡ Is cs
      → Leaves s (edited s (settings cs) (allowed (with_contents s.sheet cs))) s' reply
      → Imports s payload s' reply
  fault : {w : Bytes} → payload ≡ Not w → Imports s payload s (error_line w)

-- the csv records of a payload, which the crate `csv` says
module _ (records : Bytes → List (List Bytes)) (version : Version) (s : Script) where
  -- what a request leaves and replies
  pub data Does : Request → Script → Bytes → Type 0 where
    nothing : Does Nothing s []
    changed : {x : Request} {s' : Script} {reply : Bytes} → IsTrue (is_change x)
        → Leaves s (change s x) s' reply → Does x s' reply
    merged : {e : Edit} (j : Judged) {s' : Script} {reply : Bytes}
        → IsJudged (register_of s e.place) e j → Leaves s (merge s e j) s' reply
        → Does (Merge e) s' reply
    get : {a : Addr} → Does (Get a) s (line (get_text (content s.sheet a)))
    list : Does ListAll s (list_text version s.sheet)
    export : (r : Replica) → s.replica ≡ Some r → Does Export s (export_text r.registers)
    export_alone : s.replica ≡ None → Does Export s (error_line (codes "site"))
    flow : {f : Forecast} → IsForecast s.sheet f → Does Flow s (forecast_line f)
    quit : Does Quit s (line (codes "bye"))
    settled : {x : Request} {w : Oracle} {rounds : ℕ} {reply : Bytes}
        → IsAnswer version s.sheet (A.Answer.Settled w rounds)
        → SettledReply records version s.sheet w rounds x reply → Does x s reply
    spent : {x : Request} {k : SpentKind} → IsTrue (asks_calculation records version s.sheet x)
        → IsAnswer version s.sheet (A.Answer.Spent k) → Does x s (spent_line k)

  -- the state and the reply after an item: a refused one leaves the state
  pub data Acts : Item → Script → Bytes → Type 0 where
    request : {l reply : Bytes} {x : Request} {s' : Script} → ReadsLine l (Is x) → Does x s' reply
        → Acts (Line l) s' reply
    refused : {l : Bytes} {w : Bytes} → ReadsLine l (Not w) → Acts (Line l) s (error_line w)
    long : Acts Long s (error_line (codes "line"))
    truncated : Acts Truncated s (error_line (codes "truncated"))
    import : {l p reply : Bytes} {s' : Script} (place n : Bytes) (a : Addr)
        → words_of l ≡ Some (ImportWords place n) → IsAddress place a
        → Imports s (imported a (records (without_mark p))) s' reply → Acts (Import l p) s' reply
    import_place : {l p : Bytes} (place n : Bytes) → words_of l ≡ Some (ImportWords place n)
        → NoAddress place → Acts (Import l p) s (error_line (codes "address"))
