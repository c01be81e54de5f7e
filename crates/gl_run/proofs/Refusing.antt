-- The replies to refused lines.
use Rattle.std.specs.Prelude.{codes}
use Rattle.std.proofs.Common.{Option, Some, None, MatchOption, Err, sym, subst}
use Rattle.gl_calculus.specs.Formulas.Formula.{Version}
use Rattle.gl_language.specs.Texts.Text.{Bytes}
use Rattle.gl_protocol.specs.Framing.Framing.{Line}
use Rattle.gl_protocol.specs.Scripts.Commands.{Not, ReadsLine}
use Rattle.gl_protocol.specs.Scripts.Script.{Script}
use Rattle.gl_protocol.specs.Scripts.Acts as T
use Rattle.gl_protocol.specs.Scripts.Acts.{Acts}
use Rattle.gl_protocol.specs.Run.Records.{csv_records}
use Rattle.gl_script.specs.Command.{Answers, parse_word, word_of}
use Rattle.gl_script.specs.declared.requests.CommandFault.{CommandFault}
use Rattle.gl_script.specs.declared.requests.CommandFault.TheVariants as f
use Rattle.gl_run.specs.Replies.{IsRefusal}

module _ (version : Version) (s : Script) (l reply : Bytes) where
  by_word : (o : Option Bytes) → MatchOption o ⊥ (λ w. ReadsLine l (Not w)) → IsRefusal o reply → Acts csv_records version s (Line l) s reply
  by_word None h p = absurd h
  by_word (Some w) h p = subst (λ r. Acts csv_records version s (Line l) s r) (sym p) (T.Acts.refused h)

  pub refusal_acts : (e : CommandFault) → Answers l (Err e) → IsRefusal (word_of e) reply → Acts csv_records version s (Line l) s reply
  refusal_acts f.Utf8 h p = by_word (Some (codes "utf8")) h.0 p
  refusal_acts f.Word h p = by_word (Some (codes "command")) h.0 p
  refusal_acts f.Payload h p = by_word (Some (codes "payload")) h.0 p
  refusal_acts f.Address h p = by_word (Some (codes "address")) h.0 p
  refusal_acts f.Range h p = by_word (Some (codes "range")) h.0 p
  refusal_acts f.Stamp h p = by_word (Some (codes "stamp")) h.0 p
  refusal_acts (f.Parse e) h p = by_word (parse_word e) h.0 p
  refusal_acts f.Text h p = by_word (Some (codes "text")) h.0 p
  refusal_acts f.Field h p = by_word (Some (codes "field")) h.0 p
  refusal_acts f.NoMemory h p = absurd p
