use Rattle.std.proofs.Common.{arith, ◌≡◌, ◌≤◌, ◌+◌, ◌++◌, ◌∙◌, min, length, take, drop, refl, ap, sym, take-append-drop}
use Rattle.gl_language.specs.Texts.Text.{Bytes}
use Rattle.gridlet_c.proofs.Phases.{moved, moved_within, holds_more}
use Rattle.gridlet_c.proofs.live.Live.take.Goals as goal

pub returns-else-self-length-clause-taken : goal.returns-else-self-length-clause-taken
returns-else-self-length-clause-taken c =
    let s = c.args.self.now in
    let items = s.replies.taken.items in
    let waits = drop s.at items in
    let count = c.copy_front-count.result in
    let out = c.copy_front-count.new.out in
    let k = c.min.result + count in
    let few : count ≤ length waits = omega (arith, c.copy_front-count.ensures.count, ap length c.waiting.ensures) in
    let at : k ≡ min s.at (length items) + count = omega (arith, c.min.ensures, c.len-length.ensures) in
    let front : take count out ≡ take count waits = c.copy_front-count.ensures.front ∙ ap (take count) c.waiting.ensures in
    let rest : drop k items ≡ drop count waits = moved items s.at count k at few in
    let waited : waits ≡ take count out ++ drop k items =
    sym (take-append-drop count waits) ∙ (ap (λ (l : Bytes). l ++ drop count waits) (sym front) ∙ ap (λ (l : Bytes). take count out ++ l) (sym rest)) in
    record {
      waited = waited;
      phase = refl;
      history = λ fed given h. record {
        holds = holds_more s.phase s.session s.steps fed given (take count out) waits (drop k items) waited h.holds;
        counts = h.counts;
        in_replies = moved_within items s.at count k at few;
      };
    }
