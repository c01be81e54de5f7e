-- The replies to imports.
use Rattle.std.specs.Prelude.{codes}
use Rattle.std.proofs.Common.{◌≡◌, ◌∙◌, Some, None, Err, ap, refl, sym, subst}
use Rattle.gl_calculus.specs.Grid.Grid.{Addr}
use Rattle.gl_calculus.specs.Formulas.Formula.{Version, Cells}
use Rattle.gl_language.specs.Texts.Text.{Bytes}
use Rattle.gl_protocol.specs.Framing.Framing.{Import}
use Rattle.gl_protocol.specs.Scripts.Commands as C
use Rattle.gl_protocol.specs.Scripts.Commands.{Read, Is, Not, imported, error_line}
use Rattle.gl_protocol.specs.Scripts.Script.{Script}
use Rattle.gl_protocol.specs.Scripts.Acts as T
use Rattle.gl_protocol.specs.Scripts.Acts.{Acts}
use Rattle.gl_protocol.specs.Run.Records.{csv_records, records_of}
use Rattle.gl_csvin.specs.Import.{Imports}
use Rattle.gl_csvin.specs.declared.fault.CsvFault.{CsvFault}
use Rattle.gl_csvin.specs.declared.fault.CsvFault.TheVariants as f
use Rattle.gl_run.specs.Changed.{IsChanged, imported_state}
use Rattle.gl_run.specs.Replies.{HasPlace, IsRefusal, csv_word}

module _ (version : Version) (s s' : Script) (l p reply : Bytes) where
  pub import_put : (a : Addr) (cs : Cells) → HasPlace l (Some a) → imported a (records_of p) ≡ Is cs → IsChanged (imported_state s cs) s s' reply → Acts csv_records version s (Import l p) s' reply
  import_put a cs at is h = by (imported_state s cs) refl h
    where
      by : (r : Read Script) → imported_state s cs ≡ r → IsChanged r s s' reply → Acts csv_records version s (Import l p) s' reply
      by (Is t) e k =
          subst (λ x. Acts csv_records version s (Import l p) s' x) (sym k.1)
          (T.Acts.import at.0 at.1 a at.2 at.3 (T.Imports.contents cs is (T.Leaves.left (e ∙ ap (λ (x : Script). Is x) (sym k.0)))))
      by (Not w) e k =
          subst (λ x. Acts csv_records version s (Import l p) s' x) (sym k.1)
          (subst (λ t. Acts csv_records version s (Import l p) t (error_line w)) (sym k.0) (T.Acts.import at.0 at.1 a at.2 at.3 (T.Imports.contents cs is (T.Leaves.kept e))))

module _ (version : Version) (s : Script) (l p reply : Bytes) where
  pub import_nowhere : HasPlace l None → reply ≡ error_line (codes "address") → Acts csv_records version s (Import l p) s reply
  import_nowhere at e = subst (λ x. Acts csv_records version s (Import l p) s x) (sym e) (T.Acts.import_place at.0 at.1 at.2 at.3)

  fields_refused : (a : Addr) (w : Bytes) → HasPlace l (Some a) → imported a (records_of p) ≡ Not w → reply ≡ error_line w → Acts csv_records version s (Import l p) s reply
  fields_refused a w at is e = subst (λ x. Acts csv_records version s (Import l p) s x) (sym e) (T.Acts.import at.0 at.1 a at.2 at.3 (T.Imports.fault is))

  pub import_refused : (a : Addr) (e : CsvFault) → HasPlace l (Some a) → Imports (imported a (records_of p)) (Err e) → IsRefusal (csv_word e) reply → Acts csv_records version s (Import l p) s reply
  import_refused a f.Utf8 at is r = fields_refused a (codes "utf8") at is r
  import_refused a f.Field at is r = fields_refused a (codes "field") at is r
  import_refused a f.Grid at is r = fields_refused a (codes "grid") at is r
  import_refused a f.NoMemory at is r = absurd r
