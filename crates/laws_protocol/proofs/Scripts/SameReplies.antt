-- Equal sheets give equal replies.
use Rattle.std.proofs.Common.{◌≡◌, List, sym, subst, IsTrue}
use Rattle.gl_calculus.specs.Formulas.Formula.{Version, Cells, content}
use Rattle.gl_calculus.specs.Calculation.Calculation as A
use Rattle.gl_calculus.specs.Calculation.Calculation.{IsAnswer}
use Rattle.gl_language.specs.Texts.Text.{Bytes}
use Rattle.gl_calculus.specs.Forecast.{IsForecast}
use Rattle.gl_protocol.specs.Framing.Framing.{Line}
use Rattle.gl_protocol.specs.Replies.Tables.{line}
use Rattle.gl_protocol.specs.Scripts.Commands as C
use Rattle.gl_protocol.specs.Scripts.Commands.{Is, Not, Request, ReadsLine, get_text, list_text, SettledReply}
use Rattle.gl_protocol.specs.Scripts.Script.{Script, is_change}
use Rattle.gl_protocol.specs.Scripts.Acts as T
use Rattle.gl_protocol.specs.Scripts.Acts.{Does, Acts}
use Rattle.gl_script.proofs.Once.{one_line}
use Rattle.laws_protocol.specs.States.{asks_sheet, SameSheetsReply}
use Rattle.laws_protocol.proofs.Scripts.Outputs.{one_act}

change_or_asks : (x : Request) → IsTrue (is_change x) → IsTrue (asks_sheet x) → ⊥
change_or_asks (C.Request.Set a c) t i = cc i
change_or_asks (C.Request.Clear r) t i = cc i
change_or_asks (C.Request.Site n) t i = cc i
change_or_asks C.Request.Undo t i = cc i
change_or_asks C.Request.Redo t i = cc i
change_or_asks C.Request.Nothing t i = cc t
change_or_asks C.Request.ListAll t i = cc t
change_or_asks C.Request.Calculate t i = cc t
change_or_asks C.Request.ShowOracle t i = cc t
change_or_asks C.Request.Quit t i = cc t
change_or_asks C.Request.Export t i = cc t
change_or_asks C.Request.Flow t i = cc t
change_or_asks (C.Request.View x) t i = cc t
change_or_asks (C.Request.Show a) t i = cc t
change_or_asks (C.Request.Get a) t i = cc t
change_or_asks (C.Request.Why a) t i = cc t
change_or_asks (C.Request.Explain a) t i = cc t
change_or_asks (C.Request.Merge e) t i = cc t

module _ (records : Bytes → List (List Bytes)) (version : Version) (s t : Script) (same : s.sheet ≡ t.sheet) where
  -- the other state has this reply too
  over : {x : Request} {s' : Script} {r : Bytes} → IsTrue (asks_sheet x) → Does records version s x s' r → Does records version t x t r
  over i T.Does.nothing = cc i
  over i (T.Does.changed {x = x} c (T.Leaves.left k)) = absurd (change_or_asks x c i)
  over i (T.Does.changed {x = x} c (T.Leaves.kept k)) = absurd (change_or_asks x c i)
  over i (T.Does.merged j d (T.Leaves.left k)) = cc i
  over i (T.Does.merged j d (T.Leaves.kept k)) = cc i
  over i (T.Does.get {a = a}) = subst (λ (Z : Cells). Does records version t (C.Request.Get a) t (line (get_text (content Z a)))) (sym same) T.Does.get
  over i T.Does.list = subst (λ (Z : Cells). Does records version t C.Request.ListAll t (list_text version Z)) (sym same) T.Does.list
  over i (T.Does.export r e) = cc i
  over i (T.Does.export_alone e) = cc i
  over i (T.Does.flow {f = f} h) = T.Does.flow (subst (λ (Z : Cells). IsForecast Z f) same h)
  over i T.Does.quit = cc i
  over i (T.Does.settled {x = x} {w = w} {rounds = n} {reply = r} a k) =
      T.Does.settled (subst (λ (Z : Cells). IsAnswer version Z (A.Answer.Settled w n)) same a) (subst (λ (Z : Cells). SettledReply records version Z w n x r) same k)
  over i (T.Does.spent {x = x} {k = k} b a) =
      T.Does.spent (subst (λ (Z : Cells). IsTrue (C.asks_calculation records version Z x)) same b) (subst (λ (Z : Cells). IsAnswer version Z (A.Answer.Spent k)) same a)

  acts_over : {l r : Bytes} {s' : Script} (x : Request) → ReadsLine l (Is x) → IsTrue (asks_sheet x) → Acts records version s (Line l) s' r → Acts records version t (Line l) t r
  acts_over {l = l} {r = r} {s' = s'} x q i (T.Acts.request {x = y} p d) =
      let e : Is y ≡ Is x = one_line l (Is y) (Is x) p q in
      let is : y ≡ x = cc e in
      T.Acts.request q (over i (subst (λ (z : Request). Does records version s z s' r) is d))
  acts_over {l = l} x q i (T.Acts.refused {w = w} p) = let e : Is x ≡ Not w = one_line l (Is x) (Not w) q p in cc e

pub same_sheets_reply : SameSheetsReply
same_sheets_reply records version s s' t t' l r q x same reads asks a b =
    (one_act records version t t t' (Line l) r q (acts_over records version s t same x reads asks a) b).1
