-- A refused item leaves the state.
use Rattle.std.proofs.Common.{◌≡◌, List, refl, IsTrue}
use Rattle.gl_calculus.specs.Formulas.Formula.{Version}
use Rattle.gl_language.specs.Texts.Text.{Bytes}
use Rattle.gl_protocol.specs.Framing.Framing.{Item}
use Rattle.gl_protocol.specs.Scripts.Commands.{Request, ok_line}
use Rattle.gl_protocol.specs.Scripts.Script.{Script}
use Rattle.gl_protocol.specs.Scripts.Acts as T
use Rattle.gl_protocol.specs.Scripts.Acts.{Does, Acts}
use Rattle.gl_protocol.specs.Scripts.Output.{is_refusal}
use Rattle.laws_protocol.specs.Acts.{RefusalsLeave}

pub ok_is_none : IsTrue (is_refusal ok_line) → ⊥
ok_is_none h = cc h

does_leave : (records : Bytes → List (List Bytes)) (version : Version) (s : Script) {x : Request} {t : Script} {r : Bytes} → Does records version s x t r → IsTrue (is_refusal r) → t ≡ s
does_leave records version s T.Does.nothing h = refl
does_leave records version s (T.Does.changed c (T.Leaves.left e)) h = absurd (ok_is_none h)
does_leave records version s (T.Does.changed c (T.Leaves.kept e)) h = refl
does_leave records version s (T.Does.merged j i (T.Leaves.left m)) h = absurd (ok_is_none h)
does_leave records version s (T.Does.merged j i (T.Leaves.kept m)) h = refl
does_leave records version s T.Does.get h = refl
does_leave records version s T.Does.list h = refl
does_leave records version s (T.Does.export r e) h = refl
does_leave records version s (T.Does.export_alone e) h = refl
does_leave records version s (T.Does.flow f) h = refl
does_leave records version s T.Does.quit h = refl
does_leave records version s (T.Does.settled a k) h = refl
does_leave records version s (T.Does.spent t a) h = refl

acts_leave : (records : Bytes → List (List Bytes)) (version : Version) (s : Script) {x : Item} {t : Script} {r : Bytes} → Acts records version s x t r → IsTrue (is_refusal r) → t ≡ s
acts_leave records version s (T.Acts.request l d) h = does_leave records version s d h
acts_leave records version s (T.Acts.refused l) h = refl
acts_leave records version s T.Acts.long h = refl
acts_leave records version s T.Acts.truncated h = refl
acts_leave records version s (T.Acts.import place n a ws at_place (T.Imports.contents cs read (T.Leaves.left ok))) h = absurd (ok_is_none h)
acts_leave records version s (T.Acts.import_place place n ws none) h = refl
acts_leave records version s (T.Acts.import place n a ws at_place (T.Imports.fault read)) h = refl
acts_leave records version s (T.Acts.import place n a ws at_place (T.Imports.contents cs read (T.Leaves.kept over))) h = refl

pub refusals_leave : RefusalsLeave
refusals_leave records version s t x r a h = acts_leave records version s a h
