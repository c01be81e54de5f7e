-- Each run takes some edits.
use Rattle.std.proofs.Common.{◌≡◌, Bool, true, false, List, [], ◌∷◌, ◌++◌, refl, IsFalse}
use Rattle.std.specs.Prelude.{codes}
use Rattle.gl_calculus.specs.Formulas.Formula.{Version}
use Rattle.gl_language.specs.Texts.Text.{Bytes}
use Rattle.gl_calculus.specs.Edits.Replicas.{Edit}
use Rattle.gl_protocol.specs.Framing.Framing.{Item}
use Rattle.gl_protocol.specs.Scripts.Commands.{error_line}
use Rattle.gl_protocol.specs.Scripts.Script.{Script}
use Rattle.gl_protocol.specs.Scripts.Acts as T
use Rattle.gl_protocol.specs.Scripts.Acts.{Acts}
use Rattle.gl_protocol.specs.Scripts.Output as O
use Rattle.gl_protocol.specs.Scripts.Output.{Runs, is_refusal}
use Rattle.laws_protocol.specs.States as S
use Rattle.laws_protocol.specs.States.{Takes, Took, EveryRunTook}

module _ (records : Bytes → List (List Bytes)) (version : Version) where
  no_error : (w : Bytes) → IsFalse (is_refusal (error_line w)) → ⊥
  no_error w h = cc h

  -- an accepted item takes some edits
  takes_some : {s s' : Script} {x : Item} {r : Bytes} → Acts records version s x s' r → IsFalse (is_refusal r) → (es : List Edit) × Takes records version s x es
  takes_some (T.Acts.request {x = x} p d) f = (_, S.Takes.line x p)
  takes_some (T.Acts.refused {w = w} p) f = absurd (no_error w f)
  takes_some T.Acts.long f = absurd (no_error (codes "line") f)
  takes_some T.Acts.truncated f = absurd (no_error (codes "truncated") f)
  takes_some (T.Acts.import place n a ws at_place (T.Imports.contents cs read k)) f = (_, S.Takes.import place n a cs ws at_place read)
  takes_some (T.Acts.import place n a ws at_place (T.Imports.fault {w = w} read)) f = absurd (no_error w f)
  takes_some (T.Acts.import_place place n ws nowhere) f = absurd (no_error (codes "address") f)

  took : {s t : Script} {is : List Item} {rs : List Bytes} → Runs records version s is t rs → (es : List Edit) × Took records version s is t es
  took O.Runs.no_more = ([], S.Took.none)
  took {s = s} {t = u} (O.Runs.item {s' = t} {x = x} {xs = xs} {reply = r} a more) =
      let q = took more in
      let P : Bool → Type 0 = λ b. is_refusal r ≡ b → (es : List Edit) × Took records version s (x ∷ xs) u es in
      (elim (is_refusal r) as P [
        | true ↦ λ e. (q.0, S.Took.refused t r a e q.1)
        | false ↦ λ e. let k = takes_some a e in (k.0 ++ q.0, S.Took.accepted t r a e k.1 q.1)
      ]) refl

pub every_run_took : EveryRunTook
every_run_took records version is s t rs h = took records version h
