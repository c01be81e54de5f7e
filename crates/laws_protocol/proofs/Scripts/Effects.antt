-- What an item leaves and replies, by the item.
use Rattle.std.proofs.Common.{◌≡◌, ◌⊎◌, inl, inr, ℕ, Bool, true, false, List, [], Option, Some, None, refl, sym, ap, ◌∙◌, IsTrue}
use Rattle.std.specs.Prelude.{codes}
use Rattle.gl_calculus.specs.Grid.Grid.{Addr}
use Rattle.gl_calculus.specs.Values.Value.{Oracle}
use Rattle.gl_calculus.specs.Formulas.Formula.{Version, Cells, content}
use Rattle.gl_calculus.specs.Calculation.Calculation.{Answer, SpentKind, IsAnswer}
use Rattle.gl_calculus.specs.Calculation.Calculation as A
use Rattle.gl_language.specs.Texts.Text.{Bytes}
use Rattle.gl_calculus.specs.Edits.Replicas.{Edit, Replica, Judged, IsJudged}
use Rattle.gl_protocol.specs.Framing.Framing.{Item, Line, Import, Long, Truncated}
use Rattle.gl_protocol.specs.Replies.Tables.{line, export_text}
use Rattle.gl_protocol.specs.Scripts.Commands as C
use Rattle.gl_protocol.specs.Scripts.Commands.{Read, Is, Not, Request, ReadsLine, ImportWords, words_of, IsAddress, NoAddress, allowed, imported, without_mark, error_line, spent_line, ok_line, get_text, list_text, SettledReply, asks_calculation}
use Rattle.gl_calculus.specs.Edits.Sheets.{with_contents}
use Rattle.gl_calculus.specs.Forecast.{Forecast, IsForecast}
use Rattle.gl_protocol.specs.Replies.Explanations.{forecast_line}
use Rattle.gl_protocol.specs.Scripts.Script.{Script, edited, is_change, change, register_of, merge}
use Rattle.gl_calculus.specs.Edits.Sheets.{settings}
use Rattle.gl_protocol.specs.Scripts.Acts as T
use Rattle.gl_protocol.specs.Scripts.Acts.{Does, Acts}

-- a state and a reply
abbrev pub Effect : Type 0
Effect = Script × Bytes

abbrev pub refused : Script → Bytes → Effect
refused s w = (s, error_line w)

-- of a command that leaves this, or is refused
abbrev pub of_read : Script → Read Script → Effect
of_read s (Is t) = (t, ok_line)
of_read s (Not w) = refused s w

abbrev pub AreBoth : Script → Bytes → Effect → Type 0
AreBoth s' r x = (s' ≡ x.0) × (r ≡ x.1)

pub both_is : (s s' : Script) (r : Read Script) → r ≡ Is s' → AreBoth s' ok_line (of_read s r)
both_is s s' r e = (sym (ap (λ (z : Read Script). (of_read s z).0) e), sym (ap (λ (z : Read Script). (of_read s z).1) e))

pub both_not : (s : Script) (w : Bytes) (r : Read Script) → r ≡ Not w → AreBoth s (error_line w) (of_read s r)
both_not s w r e = (sym (ap (λ (z : Read Script). (of_read s z).0) e), sym (ap (λ (z : Read Script). (of_read s z).1) e))

-- ---- requests

abbrev pub export_effect : Script → Option Replica → Effect
export_effect s (Some r) = (s, export_text r.registers)
export_effect s None = refused s (codes "site")

-- of a request that asks for no calculation and no forecast, and brings no edit of another replica
abbrev pub effect : Version → Script → Request → Effect
effect version s (C.Request.Set a c) = of_read s (change s (C.Request.Set a c))
effect version s (C.Request.Clear r) = of_read s (change s (C.Request.Clear r))
effect version s (C.Request.Site n) = of_read s (change s (C.Request.Site n))
effect version s C.Request.Undo = of_read s (change s C.Request.Undo)
effect version s C.Request.Redo = of_read s (change s C.Request.Redo)
effect version s (C.Request.Get a) = (s, line (get_text (content s.sheet a)))
effect version s C.Request.ListAll = (s, list_text version s.sheet)
effect version s C.Request.Export = export_effect s s.replica
effect version s C.Request.Quit = (s, line (codes "bye"))
effect version s x = (s, [])

-- what a request has its effect by: the state alone, what the edit that it brings is to its register, or the forecast
pub data Cause : Type 0 where
  State Forecasted : Cause
  Brought : Edit → Cause

abbrev pub cause : Request → Cause
cause (C.Request.Merge e) = Brought e
cause C.Request.Flow = Forecasted
cause x = State

abbrev pub LeavesBy : Version → Script → Request → Script → Bytes → Cause → Type 0
LeavesBy version s x s' r State = AreBoth s' r (effect version s x)
LeavesBy version s x s' r Forecasted = (s' ≡ s) × (f : Forecast) × IsForecast s.sheet f × (r ≡ forecast_line f)
LeavesBy version s x s' r (Brought e) = (j : Judged) × IsJudged (register_of s e.place) e j × AreBoth s' r (of_read s (merge s e j))

module _ (records : Bytes → List (List Bytes)) (version : Version) (s : Script) where
  -- the reply of a request that asks for it
  abbrev pub Calculated : Request → Bytes → Type 0
  Calculated x r =
      ((w : Oracle) × (n : ℕ) × IsAnswer version s.sheet (A.Answer.Settled w n) × SettledReply records version s.sheet w n x r)
      ⊎ ((k : SpentKind) × IsAnswer version s.sheet (A.Answer.Spent k) × (r ≡ spent_line k))

  abbrev pub Done : Bool → Request → Script → Bytes → Type 0
  Done true x s' r = (s' ≡ s) × Calculated x r
  Done false x s' r = LeavesBy version s x s' r (cause x)

  settled_done : {w : Oracle} {n : ℕ} {x : Request} {r : Bytes} → IsAnswer version s.sheet (A.Answer.Settled w n) → SettledReply records version s.sheet w n x r → Done (asks_calculation records version s.sheet x) x s r
  settled_done {w = w} {n = n} a (C.SettledReply.show h) = (refl, inl (w, n, a, C.SettledReply.show h))
  settled_done {w = w} {n = n} a (C.SettledReply.view h) = (refl, inl (w, n, a, C.SettledReply.view h))
  settled_done {w = w} {n = n} a C.SettledReply.calc = (refl, inl (w, n, a, C.SettledReply.calc))
  settled_done {w = w} {n = n} a C.SettledReply.oracle = (refl, inl (w, n, a, C.SettledReply.oracle))
  settled_done {w = w} {n = n} a C.SettledReply.why_so = (refl, inl (w, n, a, C.SettledReply.why_so))
  settled_done {w = w} {n = n} a (C.SettledReply.explain h) = (refl, inl (w, n, a, C.SettledReply.explain h))

  spent_done : (x : Request) (k : SpentKind) (b : Bool) → asks_calculation records version s.sheet x ≡ b → IsTrue b → IsAnswer version s.sheet (A.Answer.Spent k) → Done b x s (spent_line k)
  spent_done x k true e t a = (refl, inr (k, a, refl))
  spent_done x k false e t a = cc t

  -- what may change the state
  change_done : (x : Request) (s' : Script) (r : Bytes) → is_change x ≡ true → AreBoth s' r (of_read s (change s x)) → Done (asks_calculation records version s.sheet x) x s' r
  change_done (C.Request.Set a c) s' r t h = h
  change_done (C.Request.Clear x) s' r t h = h
  change_done (C.Request.Site n) s' r t h = h
  change_done C.Request.Undo s' r t h = h
  change_done C.Request.Redo s' r t h = h
  change_done C.Request.Nothing s' r t h = cc t
  change_done C.Request.ListAll s' r t h = cc t
  change_done C.Request.Calculate s' r t h = cc t
  change_done C.Request.ShowOracle s' r t h = cc t
  change_done C.Request.Quit s' r t h = cc t
  change_done C.Request.Export s' r t h = cc t
  change_done C.Request.Flow s' r t h = cc t
  change_done (C.Request.View x) s' r t h = cc t
  change_done (C.Request.Show a) s' r t h = cc t
  change_done (C.Request.Get a) s' r t h = cc t
  change_done (C.Request.Why a) s' r t h = cc t
  change_done (C.Request.Explain a) s' r t h = cc t
  change_done (C.Request.Merge e) s' r t h = cc t

  -- what a request leaves and replies
  pub done : {x : Request} {s' : Script} {r : Bytes} → Does records version s x s' r → Done (asks_calculation records version s.sheet x) x s' r
  done T.Does.nothing = (refl, refl)
  done (T.Does.changed {x = x} t (T.Leaves.left {s' = s'} e)) = change_done x s' ok_line t (both_is s s' (change s x) e)
  done (T.Does.changed {x = x} t (T.Leaves.kept {w = w} e)) = change_done x s (error_line w) t (both_not s w (change s x) e)
  done (T.Does.merged {e = e} j i (T.Leaves.left {s' = s'} m)) = (j, i, both_is s s' (merge s e j) m)
  done (T.Does.merged {e = e} j i (T.Leaves.kept {w = w} m)) = (j, i, both_not s w (merge s e j) m)
  done T.Does.get = (refl, refl)
  done T.Does.list = (refl, refl)
  done (T.Does.export r e) = (sym (ap (λ (o : Option Replica). (export_effect s o).0) e), sym (ap (λ (o : Option Replica). (export_effect s o).1) e))
  done (T.Does.export_alone e) = (sym (ap (λ (o : Option Replica). (export_effect s o).0) e), sym (ap (λ (o : Option Replica). (export_effect s o).1) e))
  done (T.Does.flow {f = f} h) = (refl, f, h, refl)
  done T.Does.quit = (refl, refl)
  done (T.Does.settled a h) = settled_done a h
  done (T.Does.spent {x = x} {k = k} t a) = spent_done x k (asks_calculation records version s.sheet x) refl t a

  -- ---- imports

  -- the state that is asked for, if it is allowed
  abbrev pub added : Read Cells → Read Script
  added (Is cs) = edited s (settings cs) (allowed (with_contents s.sheet cs))
  added (Not w) = Not w

  abbrev pub import_effect : Addr → Bytes → Effect
  import_effect a p = of_read s (added (imported a (records (without_mark p))))

  abbrev pub ByPlace : Bytes → Bytes → Script → Bytes → Type 0
  ByPlace place p s' r =
      (NoAddress place × (s' ≡ s) × (r ≡ error_line (codes "address")))
      ⊎ ((a : Addr) × IsAddress place a × (s' ≡ (import_effect a p).0) × (r ≡ (import_effect a p).1))

  pub record Imports (l p : Bytes) (s' : Script) (r : Bytes) : Type 0 where
    pub place : Bytes
    pub count : Bytes
    pub words : words_of l ≡ Some (ImportWords place count)
    pub by_place : ByPlace place p s' r

  -- ---- items

  -- what an item leaves and replies
  abbrev pub Acted : Item → Script → Bytes → Type 0
  Acted (Line l) s' r = ((x : Request) × ReadsLine l (Is x) × Does records version s x s' r) ⊎ ((w : Bytes) × ReadsLine l (Not w) × (s' ≡ s) × (r ≡ error_line w))
  Acted (Import l p) s' r = Imports l p s' r
  Acted Long s' r = (s' ≡ s) × (r ≡ error_line (codes "line"))
  Acted Truncated s' r = (s' ≡ s) × (r ≡ error_line (codes "truncated"))

  pub acted : {x : Item} {s' : Script} {r : Bytes} → Acts records version s x s' r → Acted x s' r
  acted (T.Acts.request {x = x} l d) = inl (x, l, d)
  acted (T.Acts.refused {w = w} l) = inr (w, l, refl, refl)
  acted T.Acts.long = (refl, refl)
  acted T.Acts.truncated = (refl, refl)
  acted (T.Acts.import {p = p} place n a ws at_place (T.Imports.contents cs read (T.Leaves.left {s' = s'} ok))) =
      let h = both_is s s' (added (imported a (records (without_mark p)))) (ap added read ∙ ok) in
      record { place = place; count = n; words = ws; by_place = inr (a, at_place, h.0, h.1) }
  acted (T.Acts.import_place place n ws none) = record { place = place; count = n; words = ws; by_place = inl (none, refl, refl) }
  acted (T.Acts.import {p = p} place n a ws at_place (T.Imports.fault {w = w} read)) =
      let h = both_not s w (added (imported a (records (without_mark p)))) (ap added read) in
      record { place = place; count = n; words = ws; by_place = inr (a, at_place, h.0, h.1) }
  acted (T.Acts.import {p = p} place n a ws at_place (T.Imports.contents cs read (T.Leaves.kept {w = w} over))) =
      let h = both_not s w (added (imported a (records (without_mark p)))) (ap added read ∙ over) in
      record { place = place; count = n; words = ws; by_place = inr (a, at_place, h.0, h.1) }
