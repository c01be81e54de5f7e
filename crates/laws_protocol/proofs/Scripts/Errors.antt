-- An `error` line begins as one, and no other reply does.
use Rattle.std.specs.Prelude.{codes}
use Rattle.std.proofs.Common.{◌≡◌, ℕ, List, Option, Some, None, refl, arith, IsTrue}
use Rattle.gl_calculus.specs.Grid.Grid.{extents}
use Rattle.gl_calculus.specs.Values.Value.{Oracle}
use Rattle.gl_calculus.specs.Formulas.Formula.{Version, Cells, Content, content}
use Rattle.gl_calculus.specs.Calculation.Calculation.{SpentKind, Why, why}
use Rattle.gl_calculus.specs.Evaluation.Oracle as R
use Rattle.gl_language.specs.Texts.Text.{Bytes}
use Rattle.gl_calculus.specs.Forecast.{Forecast, Yes, Circle, Unknown}
use Rattle.gl_protocol.specs.Framing.Framing.{Item}
use Rattle.gl_protocol.specs.Replies.Tables.{line}
use Rattle.gl_protocol.specs.Replies.Explanations.{forecast_line}
use Rattle.gl_protocol.specs.Scripts.Commands as C
use Rattle.gl_protocol.specs.Scripts.Commands.{Request, error_line, spent_line, why_text, ok_line, get_text, SettledReply}
use Rattle.gl_protocol.specs.Scripts.Script.{Script}
use Rattle.gl_protocol.specs.Scripts.Acts as T
use Rattle.gl_protocol.specs.Scripts.Acts.{Does, Acts}
use Rattle.gl_protocol.specs.Scripts.Output.{is_refusal}
use Rattle.laws_protocol.specs.Replies.{ErrorsAreRefusals, RefusalsAreErrors}
use Rattle.laws_protocol.proofs.Scripts.Beginnings.{Begins, empty, by, no_refusal, shown_begins, content_begins, line_begins, table_begins}

-- the reply is an `error` line, or doesn't begin as one
abbrev IsError : Bytes → Type 0
IsError r = IsTrue (is_refusal r) → (w : Bytes) × (r ≡ error_line w)

no_error : {r : Bytes} → Begins r → IsError r
no_error b h = absurd (no_refusal b h)

an_error : (w : Bytes) → IsError (error_line w)
an_error w h = (w, refl)

spent_reply : (k : SpentKind) → IsError (spent_line k)
spent_reply (SpentKind.Rounds a) = no_error (by (omega arith) (λ e. omega (arith, e)))
spent_reply (SpentKind.CopyRounds a) = no_error (by (omega arith) (λ e. omega (arith, e)))
spent_reply (SpentKind.Depth a) = no_error (by (omega arith) (λ e. omega (arith, e)))
spent_reply SpentKind.Work = no_error (by (omega arith) (λ e. omega (arith, e)))

-- `edge` begins with an `e` too
why_reply : (x : Why) → IsError (line (why_text x))
why_reply Why.NoEntry = no_error (by (omega arith) (λ e. omega (arith, e)))
why_reply Why.Permitted = no_error (by (omega arith) (λ e. omega (arith, e)))
why_reply (Why.Blocked R.Obstacle.Edge) = λ h. cc h
why_reply (Why.Blocked (R.Obstacle.Content a)) = no_error (by (omega arith) (λ e. omega (arith, e)))
why_reply (Why.Blocked (R.Obstacle.Root a)) = no_error (by (omega arith) (λ e. omega (arith, e)))

get_reply : (o : Option Content) → IsError (line (get_text o))
get_reply None = no_error (by (omega arith) (λ e. omega (arith, e)))
get_reply (Some c) = no_error (line_begins (content_begins c))

forecast_reply : (f : Forecast) → IsError (forecast_line f)
forecast_reply (Yes h) = no_error (by (omega arith) (λ e. omega (arith, e)))
forecast_reply (Circle a) = no_error (by (omega arith) (λ e. omega (arith, e)))
forecast_reply (Unknown a) = no_error (by (omega arith) (λ e. omega (arith, e)))

module _ (records : Bytes → List (List Bytes)) (version : Version) (S : Cells) where
  settled_reply : {w : Oracle} {n : ℕ} {x : Request} {r : Bytes} → SettledReply records version S w n x r → IsError r
  settled_reply (C.SettledReply.show {x = x} s) = no_error (line_begins (shown_begins x))
  settled_reply (C.SettledReply.view {r = r} {rows = rows} s) = no_error (table_begins (extents r).cols rows)
  settled_reply C.SettledReply.calc = no_error (by (omega arith) (λ e. omega (arith, e)))
  settled_reply C.SettledReply.oracle = no_error (by (omega arith) (λ e. omega (arith, e)))
  settled_reply {w = w} (C.SettledReply.why_so {a = a}) = why_reply (why S w a)
  -- `explain` begins with an `e` too
  settled_reply (C.SettledReply.explain h) = λ h. cc h

module _ (records : Bytes → List (List Bytes)) (version : Version) (s : Script) where
  ok_reply : IsError ok_line
  ok_reply = no_error (by (omega arith) (λ e. omega (arith, e)))

  does_reply : {x : Request} {t : Script} {r : Bytes} → Does records version s x t r → IsError r
  does_reply T.Does.nothing = no_error empty
  does_reply (T.Does.changed c (T.Leaves.left e)) = ok_reply
  does_reply (T.Does.changed c (T.Leaves.kept {w = w} e)) = an_error w
  does_reply (T.Does.merged j i (T.Leaves.left m)) = ok_reply
  does_reply (T.Does.merged j i (T.Leaves.kept {w = w} m)) = an_error w
  does_reply (T.Does.get {a = a}) = get_reply (content s.sheet a)
  does_reply T.Does.list = no_error (by (omega arith) (λ e. omega (arith, e)))
  -- `export` begins with an `e` too
  does_reply (T.Does.export r e) = λ h. cc h
  does_reply (T.Does.export_alone e) = an_error (codes "site")
  does_reply (T.Does.flow {f = f} h) = forecast_reply f
  does_reply T.Does.quit = no_error (by (omega arith) (λ e. omega (arith, e)))
  does_reply (T.Does.settled a h) = settled_reply records version s.sheet h
  does_reply (T.Does.spent {k = k} t a) = spent_reply k

  acts_reply : {x : Item} {t : Script} {r : Bytes} → Acts records version s x t r → IsError r
  acts_reply (T.Acts.request l d) = does_reply d
  acts_reply (T.Acts.refused {w = w} l) = an_error w
  acts_reply T.Acts.long = an_error (codes "line")
  acts_reply T.Acts.truncated = an_error (codes "truncated")
  acts_reply (T.Acts.import place n a ws at_place (T.Imports.contents cs read (T.Leaves.left ok))) = ok_reply
  acts_reply (T.Acts.import_place place n ws none) = an_error (codes "address")
  acts_reply (T.Acts.import place n a ws at_place (T.Imports.fault {w = w} read)) = an_error w
  acts_reply (T.Acts.import place n a ws at_place (T.Imports.contents cs read (T.Leaves.kept {w = w} over))) = an_error w

pub errors_are_refusals : ErrorsAreRefusals
errors_are_refusals w = refl

pub refusals_are_errors : RefusalsAreErrors
refusals_are_errors records version s t x r a = acts_reply records version s a
