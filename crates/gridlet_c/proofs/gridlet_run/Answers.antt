use Rattle.std.proofs.Common.{rules, arith, ◌≡◌, ◌<◌, ◌≤◌, ◌∙◌, ℕ, List, [], Option, Some, length, take, ap, sym, subst}
use Rattle.gl_protocol.specs.Scripts.Output.{items_of}
use Rattle.gl_run.proofs.Ends.{wrote_none}
use Rattle.gl_run.specs.declared.top.Status.TheVariants as status
use Rattle.gridlet_c.specs.Statuses.{Leaves}
use Rattle.gridlet_c.proofs.Leaving.{cut_leaves}
use Rattle.gridlet_c.proofs.gridlet_run.Goals as goal

pub returns-in-WriteFault-clause-replies : goal.returns-in-WriteFault-clause-replies
returns-in-WriteFault-clause-replies c = λ _. (status.NoMemory, c.number-in-WriteFault.ensures, wrote_none (Some []) (items_of c.args.script.now))

pub returns-then-count-taken : goal.returns-then-count-taken
returns-then-count-taken c =
    let script = c.args.script.now in
    let taken = c.answer.new.sink.taken.items in
    let n = c.copy_front-count.result in
    let out = c.copy_front-count.new.out in
    let room = length c.args.out.now in
    let same : length c.taken.result.now ≡ length taken = ap length c.taken.ensures in
    let again : length c.taken-in_default.result.now ≡ length taken = ap length c.taken-in_default.ensures in
    let short : n < length taken = omega (arith, c.if-count-taken.true, again) in
    let full : n ≡ room = grind (arith, c.copy_front-count.ensures.count, short, same) in
    let O : Option (List ℕ) → Type 0 = λ o. Leaves c.answer.result script o (Some taken) (λ m. ⊥) in
    let left : O (Some []) = subst O (ap (λ (xs : List ℕ). Some xs) c.new-sink.ensures.nothing_taken) c.answer.ensures in
    let cut : Leaves status.WriteFault script (Some []) (Some (take n taken)) (λ m. m ≤ n) = cut_leaves script taken n short c.answer.result c.in_default.not-WriteFault left in
    let R : ℕ → Type 0 = λ k. Leaves status.WriteFault script (Some []) (Some (take n taken)) (λ m. m ≤ k) in
    let B : List ℕ → Type 0 = λ xs. Leaves status.WriteFault script (Some []) (Some xs) (λ m. m ≤ room) in
    let front : take n out ≡ take n taken = c.copy_front-count.ensures.front ∙ ap (take n) c.taken.ensures in
    record {
      usage = (λ e. absurd (omega (arith, e, c.number-then-count-taken.ensures)), search rules);
      usage_untouched = λ e. absurd (omega (arith, e, c.number-then-count-taken.ensures));
      replies = λ _. (status.WriteFault, c.number-then-count-taken.ensures, subst B (sym front) (subst R full cut));
      within = omega (arith, full);
      behind = c.copy_front-count.ensures.behind;
    }
