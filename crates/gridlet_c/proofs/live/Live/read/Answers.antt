use Rattle.std.specs.Prelude.{⊤}
use Rattle.std.proofs.Common.{arith, ◌≡◌, ◌≤◌, ◌+◌, ◌∙◌, true, [], ◌++◌, length, drop, Some, ap, sym, subst, length-append, false, refl}
use Rattle.gl_calculus.specs.Grid.Limits.{max_script}
use Rattle.gl_language.specs.Texts.Text.{Bytes}
use Rattle.gl_protocol.specs.Framing.Stream.{gained}
use Rattle.gl_protocol.specs.Scripts.Output.{items_of}
use Rattle.gl_protocol.specs.Run.Out.{WroteSome}
use Rattle.laws_protocol.specs.FramingLaw.{up_to_quit}
use Rattle.gl_script.specs.Framer.{stream_at}
use Rattle.gl_run.specs.State.{state_of}
use Rattle.gl_run.specs.Emitted.{Leaves}
use Rattle.gl_run.specs.Reads.{can_read}
use Rattle.gl_run.specs.declared.session.Stop.{Stop}
use Rattle.gridlet_c.specs.Ready.{is_ready}
use Rattle.gridlet_c.specs.History.{Holds, Counts, is_ended}
use Rattle.gridlet_c.specs.declared.live.Phase.{Phase}
use Rattle.gridlet_c.proofs.Histories.{never, headed, headed_after, emitted_behind, part_behind, quits, stops, stops_before, exceeds, goes_on, in_more, truncated}
use Rattle.gridlet_c.proofs.live.Live.read.Goals as goal

pub take-requires-clause-header : goal.take-requires-clause-header
take-requires-clause-header c =
    let s = c.args.self.now in headed (stream_at s.session.framer) (subst (λ (p : Phase). is_ready p s.session ≡ true) c.requires.going s.ready)

pub invariant_of-self-else-is_cut : goal.invariant_of-self-else-is_cut
invariant_of-self-else-is_cut c =
    let s = c.args.self.now in
    let t = c.take.new.self in
    let was : can_read s.session ≡ true = subst (λ (p : Phase). is_ready p s.session ≡ true) c.requires.going s.ready in
    let reads : can_read t ≡ true = headed_after (stream_at s.session.framer) (stream_at t.framer) c.args.bytes.now was (c.in-Ok-false.ensures.framer c.in-Ok-false.field-0-test) in
    record {
      small = s.small;
      in_limit = c.requires.in_limit;
      ready = subst (λ (p : Phase). is_ready p t ≡ true) (sym c.requires.going) reads;
    }

pub returns-in-Ok-true-clause-reads : goal.returns-in-Ok-true-clause-reads
returns-in-Ok-true-clause-reads c = λ fed given more h counts in_replies uncut cut.
    let s = c.args.self.now in
    let t = c.take.new.self in
    let bytes = c.args.bytes.now in
    let a = s.replies.taken.items in
    let b = c.take.new.sink.taken.items in
    let le : length fed + length bytes ≤ max_script = omega (arith, c.requires.in_limit, counts) in
    let all = c.in-Ok-true.ensures.serves.ok in
    let e = emitted_behind given a b s.at in_replies (state_of s.session s.steps) (state_of t c.take.new.steps) s.session.refused t.refused (up_to_quit (gained (stream_at s.session.framer) bytes)) all in
    record {
      holds = quits h bytes more le (state_of t c.take.new.steps) t.refused (given ++ drop s.at b) e (sym c.in-Ok-true.field-0-test ∙ c.in-Ok-true.ensures.quits);
      counts = tt;
      in_replies = in_more a b _ s.at all.written in_replies;
    }

pub returns-then-is_cut-clause-reads : goal.returns-then-is_cut-clause-reads
returns-then-is_cut-clause-reads c = λ fed given more h counts in_replies uncut cut.
    let s = c.args.self.now in
    let t = c.take.new.self in
    let bytes = c.args.bytes.now in
    let a = s.replies.taken.items in
    let b = c.take.new.sink.taken.items in
    let le : length fed + length bytes ≤ max_script = omega (arith, c.requires.in_limit, counts) in
    let all = c.in-Ok-false.ensures.serves.ok in
    let e = emitted_behind given a b s.at in_replies (state_of s.session s.steps) (state_of t c.take.new.steps) s.session.refused t.refused (up_to_quit (gained (stream_at s.session.framer) bytes)) all in
    let far = cut c.if-is_cut.true in
    record {
      holds = exceeds h bytes more le (state_of t c.take.new.steps) t.refused (given ++ drop s.at b) e (sym c.in-Ok-false.field-0-test ∙ c.in-Ok-false.ensures.quits) far.0 far.1;
      counts = tt;
      in_replies = in_more a b _ s.at all.written in_replies;
    }

pub returns-else-is_cut-clause-reads : goal.returns-else-is_cut-clause-reads
returns-else-is_cut-clause-reads c = λ fed given more h counts in_replies uncut cut.
    let s = c.args.self.now in
    let t = c.take.new.self in
    let bytes = c.args.bytes.now in
    let a = s.replies.taken.items in
    let b = c.take.new.sink.taken.items in
    let m = c.take.new.steps in
    let all = fed ++ (bytes ++ more) in
    let le : length fed + length bytes ≤ max_script = omega (arith, c.requires.in_limit, counts) in
    let wrote = c.in-Ok-false.ensures.serves.ok in
    let e = emitted_behind given a b s.at in_replies (state_of s.session s.steps) (state_of t m) s.session.refused t.refused (up_to_quit (gained (stream_at s.session.framer) bytes)) wrote in
    let nil : more ≡ [] = uncut c.if-is_cut.false in
    let goes = goes_on h bytes more le t m (given ++ drop s.at b) (c.in-Ok-false.ensures.framer c.in-Ok-false.field-0-test) e (sym c.in-Ok-false.field-0-test ∙ c.in-Ok-false.ensures.quits) nil in
    let size : s.count + length bytes ≡ length all = omega (arith, counts, ap length nil, length-append fed (bytes ++ more), length-append bytes more) in
    record {
      holds = subst (λ (p : Phase). Holds p t m all (given ++ drop s.at b)) (sym c.requires.going) goes;
      counts = subst (λ (p : Phase). Counts p (s.count + length bytes) all) (sym c.requires.going) size;
      in_replies = in_more a b _ s.at wrote.written in_replies;
    }

pub returns-in-Err-NoMemory-clause-reads : goal.returns-in-Err-NoMemory-clause-reads
returns-in-Err-NoMemory-clause-reads c = λ fed given more h counts in_replies uncut cut.
    let s = c.args.self.now in
    let bytes = c.args.bytes.now in
    let a = s.replies.taken.items in
    let b = c.take.new.sink.taken.items in
    let is = up_to_quit (gained (stream_at s.session.framer) bytes) in
    let x = state_of s.session s.steps in
    let le : length fed + length bytes ≤ max_script = omega (arith, c.requires.in_limit, counts) in
    let L : Stop → Type 0 = λ stop. Leaves stop x (Some a) (Some b) never ⊤ ⊤ s.replies.faults c.take.new.sink.faults is in
    let part = (subst L c.in-Err-NoMemory.field-0-is c.in-Err-NoMemory.ensures.serves.err).0 in
    record {
      holds = stops h bytes more le (given ++ drop s.at b) (part_behind given a b s.at in_replies x is part);
      counts = tt;
      in_replies = in_more a b _ s.at part.written in_replies;
    }

pub returns-in-Err-WriteFault-clause-reads : goal.returns-in-Err-WriteFault-clause-reads
returns-in-Err-WriteFault-clause-reads c = λ fed given more h counts in_replies uncut cut.
    let s = c.args.self.now in
    let bytes = c.args.bytes.now in
    let a = s.replies.taken.items in
    let b = c.take.new.sink.taken.items in
    let is = up_to_quit (gained (stream_at s.session.framer) bytes) in
    let x = state_of s.session s.steps in
    let le : length fed + length bytes ≤ max_script = omega (arith, c.requires.in_limit, counts) in
    let L : Stop → Type 0 = λ stop. Leaves stop x (Some a) (Some b) never ⊤ ⊤ s.replies.faults c.take.new.sink.faults is in
    let part = (subst L c.in-Err-WriteFault.field-0-is c.in-Err-WriteFault.ensures.serves.err).0 in
    let same : c.truncate.new.self.taken.items ≡ a = truncated a b _ _ c.len-before.result part.written c.len-before.ensures c.truncate.ensures in
    record {
      holds = subst (λ (q : Bytes). (y : Bytes) → WroteSome (Some []) (Some (given ++ drop s.at q)) (items_of ((fed ++ (bytes ++ more)) ++ y))) (sym same) (stops_before h bytes more le);
      counts = tt;
      in_replies = subst (λ (q : Bytes). s.at ≤ length q) (sym same) in_replies;
    }

pub returns-else-is_cut-clause-unended : goal.returns-else-is_cut-clause-unended
returns-else-is_cut-clause-unended c = subst (λ (p : Phase). is_ended p ≡ false) (sym c.requires.going) refl
