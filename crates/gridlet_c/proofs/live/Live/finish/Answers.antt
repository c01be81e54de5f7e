use Rattle.std.specs.Prelude.{⊤}
use Rattle.std.proofs.Common.{◌≡◌, ◌≤◌, Bool, true, IsTrue, [], ◌++◌, length, drop, Some, refl, sym, subst}
use Rattle.std.specs.Option.{option_to_list}
use Rattle.gl_language.specs.Texts.Text.{Bytes}
use Rattle.gl_protocol.specs.Framing.Stream.{closing}
use Rattle.gl_protocol.specs.Scripts.Output.{is_within_limit, items_of}
use Rattle.gl_protocol.specs.Run.Out.{WroteAllTelling, WroteSome}
use Rattle.gl_script.specs.Framer.{stream_at}
use Rattle.gl_run.specs.State.{state_of}
use Rattle.gl_run.specs.Emitted.{Leaves}
use Rattle.gl_run.specs.declared.session.Stop.{Stop}
use Rattle.gridlet_c.specs.Ready.{is_ready}
use Rattle.gridlet_c.specs.History.{Holds}
use Rattle.gridlet_c.specs.declared.live.Phase.{Phase}
use Rattle.gridlet_c.proofs.Histories.{never, headed, emitted_behind, part_behind, ends, ends_short, ends_before, in_more, truncated, no_fault_done, no_fault_memory}
use Rattle.gridlet_c.proofs.live.Live.finish.Goals as goal

pub finish-requires-clause-header : goal.finish-requires-clause-header
finish-requires-clause-header c =
    let s = c.args.self.now in headed (stream_at s.session.framer) (subst (λ (p : Phase). is_ready p s.session ≡ true) c.requires.going s.ready)

pub returns : goal.returns
returns c = (
  refl,
  no_fault_done c.refused.result,
  λ fed given h.
      let s = c.args.self.now in
      let t = c.finish.new.self in
      let a = s.replies.taken.items in
      let b = c.finish.new.sink.taken.items in
      let is = option_to_list (closing (stream_at s.session.framer)) in
      let reads = subst (λ (p : Phase). Holds p s.session s.steps fed (given ++ drop s.at a)) c.requires.going h.holds in
      let wrote = c.in-Ok.ensures.serves.ok in
      let e = emitted_behind given a b s.at h.in_replies (state_of s.session s.steps) (state_of t c.finish.new.steps) s.session.refused t.refused is wrote in
      let P : Bool → Type 0 = λ r. IsTrue (is_within_limit fed) × WroteAllTelling (Some []) (Some (given ++ drop s.at b)) (items_of fed) r in
      record {
        holds = subst P (sym c.refused.ensures) (ends reads (state_of t c.finish.new.steps) t.refused (given ++ drop s.at b) e);
        counts = tt;
        in_replies = in_more a b _ s.at wrote.written h.in_replies;
      },
)

pub returns-in-Err-NoMemory : goal.returns-in-Err-NoMemory
returns-in-Err-NoMemory c = (
  refl,
  no_fault_memory,
  λ fed given h.
      let s = c.args.self.now in
      let a = s.replies.taken.items in
      let b = c.finish.new.sink.taken.items in
      let x = state_of s.session s.steps in
      let is = option_to_list (closing (stream_at s.session.framer)) in
      let reads = subst (λ (p : Phase). Holds p s.session s.steps fed (given ++ drop s.at a)) c.requires.going h.holds in
      let L : Stop → Type 0 = λ stop. Leaves stop x (Some a) (Some b) never ⊤ ⊤ s.replies.faults c.finish.new.sink.faults is in
      let part = (subst L c.in-Err-NoMemory.field-0-is c.in-Err-NoMemory.ensures.serves.err).0 in
      record {
        holds = ends_short reads (given ++ drop s.at b) (part_behind given a b s.at h.in_replies x is part);
        counts = tt;
        in_replies = in_more a b _ s.at part.written h.in_replies;
      },
)

pub returns-in-Err-WriteFault : goal.returns-in-Err-WriteFault
returns-in-Err-WriteFault c = (
  refl,
  no_fault_memory,
  λ fed given h.
      let s = c.args.self.now in
      let a = s.replies.taken.items in
      let b = c.finish.new.sink.taken.items in
      let x = state_of s.session s.steps in
      let is = option_to_list (closing (stream_at s.session.framer)) in
      let reads = subst (λ (p : Phase). Holds p s.session s.steps fed (given ++ drop s.at a)) c.requires.going h.holds in
      let L : Stop → Type 0 = λ stop. Leaves stop x (Some a) (Some b) never ⊤ ⊤ s.replies.faults c.finish.new.sink.faults is in
      let part = (subst L c.in-Err-WriteFault.field-0-is c.in-Err-WriteFault.ensures.serves.err).0 in
      let same : c.truncate.new.self.taken.items ≡ a = truncated a b _ _ c.len-before.result part.written c.len-before.ensures c.truncate.ensures in
      record {
        holds = subst (λ (q : Bytes). WroteSome (Some []) (Some (given ++ drop s.at q)) (items_of fed)) (sym same) (ends_before reads);
        counts = tt;
        in_replies = subst (λ (q : Bytes). s.at ≤ length q) (sym same) h.in_replies;
      },
)
