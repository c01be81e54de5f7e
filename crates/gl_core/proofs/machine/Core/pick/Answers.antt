use Rattle.std.proofs.Common.{rules, [], ◌≡◌, ◌⊎◌, ◌<◌, ◌^◌, length, ap, sym, subst, arith, ◌∙◌}
use Rattle.gl_machine.specs.Machine.{idle_keys, nth, pick}
use Rattle.gl_machine.specs.Costs.{answer_at}
use Rattle.gl_machine.specs.InOrder.{AreOrdered}
use Rattle.gl_calculus.specs.Grid.Limits.{max_demanded}
use Rattle.gl_calculus.specs.Evaluation.Key.{same_key}
use Rattle.gl_calculus.specs.Evaluation.World.{world}
use Rattle.gl_calculus.specs.Evaluation.Evaluation.{program}
use Rattle.gl_ast.specs.View.{version_tree}
use Rattle.gl_cells.specs.Sheet.{sheet}
use Rattle.gl_core.specs.Held.{Held}
use Rattle.gl_core.specs.State.{state_of, seeds_of, notes_in, is_noted, noted_after, IsFor}
use Rattle.gl_core.specs.Statuses.{count_idle}
use Rattle.gl_core.specs.Ledger.{written}
use Rattle.gl_core.specs.Answers.{picked_tree, counted}
use Rattle.gl_core.proofs.Idle.{at_most_length}
use Rattle.gl_core.proofs.Places.{on_ok, if_ok}
use Rattle.gl_core.proofs.Cores.{idle_count, the_key_at}
use Rattle.gl_core.proofs.Picks.{there, the_key, proper_there, ahead_there, resolved_tree, outcomes_true, picked_state, picked_answer, picked_notes, picked_full, picked_stays, picked_seeds, picked_order}
use Rattle.gl_core.proofs.machine.Core.pick.Goals as goal

pub idle_place-p-requires-clause-there : goal.idle_place-p-requires-clause-there
idle_place-p-requires-clause-there g c =
    let l : length (idle_keys (state_of c.args.self.now)) ≡ count_idle c.self.inside.entries.statuses.items.items = ap (λ (h : Held). length (idle_keys (state_of h))) (sym c.self.view_is) ∙ idle_count c.self.inside.ledger c.self.inside.entries c.self.invariant in
    subst (λ n. c.args.i < n) l c.requires.there

pub overflow_cast-i : goal.overflow_cast-i
overflow_cast-i g c =
    let l : length (idle_keys (state_of c.args.self.now)) ≡ count_idle c.self.inside.entries.statuses.items.items = ap (λ (h : Held). length (idle_keys (state_of h))) (sym c.self.view_is) ∙ idle_count c.self.inside.ledger c.self.inside.entries c.self.invariant in
    let t = c.self.invariant.table in
    let m = at_most_length c.self.inside.entries.statuses.items.items in
    let k : c.args.i < 2 ^ 32 = omega (arith, l, m, t.statuses, t.few, c.requires.there) in
    search (rules, k)

pub pick_at-requires-clause-pickable : goal.pick_at-requires-clause-pickable
pick_at-requires-clause-pickable g c =
    let h = subst (IsFor (world (version_tree c.args.version) (sheet c.args.cells.now) c.args.w.now)) (sym c.self.view_is) c.requires.for_it in
    record {
      place = record { core = c.self.invariant; there = there (world (version_tree c.args.version) (sheet c.args.cells.now) c.args.w.now) c.self.inside.ledger c.self.inside.entries c.self.inside.seeds h c.self.invariant c.args.i c.idle_place-p.result c.idle_place-p.ensures.before c.idle_place-p.ensures.idle; idle = c.idle_place-p.ensures.idle };
      proper = proper_there (world (version_tree c.args.version) (sheet c.args.cells.now) c.args.w.now) c.self.inside.ledger c.self.inside.entries c.self.inside.seeds h c.self.invariant c.args.i c.idle_place-p.result c.idle_place-p.ensures.before c.idle_place-p.ensures.idle;
      outcomes = outcomes_true (world (version_tree c.args.version) (sheet c.args.cells.now) c.args.w.now) c.self.inside.ledger c.self.inside.entries c.self.inside.seeds h c.self.invariant c.args.i c.idle_place-p.result c.idle_place-p.ensures.before c.idle_place-p.ensures.idle;
    }

pub pick_at-requires-clause-true_notes : goal.pick_at-requires-clause-true_notes
pick_at-requires-clause-true_notes g c =
    let h = subst (IsFor (world (version_tree c.args.version) (sheet c.args.cells.now) c.args.w.now)) (sym c.self.view_is) c.requires.for_it in
    h.true_notes

pub returns-clause-state : goal.returns-clause-state
returns-clause-state g c =
    let h = subst (IsFor (world (version_tree c.args.version) (sheet c.args.cells.now) c.args.w.now)) (sym c.self.view_is) c.requires.for_it in
    on_ok c.pick_at.result (picked_state (world (version_tree c.args.version) (sheet c.args.cells.now) c.args.w.now) c.self.inside.ledger c.self.inside.entries c.self.inside.seeds h c.self.invariant c.args.i c.idle_place-p.result c.idle_place-p.ensures.before c.idle_place-p.ensures.idle c.pick_at.new.ledger c.pick_at.new.entries c.pick_at.result c.pick_at.ensures.picked.state c.pick_at.ensures.picked.answer c.pick_at.ensures.picked.err) (λ e. e ∙ ap (λ (x : Held). pick same_key max_demanded (program (world (version_tree c.args.version) (sheet c.args.cells.now) c.args.w.now)) (state_of x) c.args.i) c.self.view_is)

pub returns-clause-answer : goal.returns-clause-answer
returns-clause-answer g c =
    let h = subst (IsFor (world (version_tree c.args.version) (sheet c.args.cells.now) c.args.w.now)) (sym c.self.view_is) c.requires.for_it in
    if_ok c.pick_at.result (picked_answer (world (version_tree c.args.version) (sheet c.args.cells.now) c.args.w.now) c.self.inside.ledger c.self.inside.entries c.self.inside.seeds h c.self.invariant c.args.i c.idle_place-p.result c.idle_place-p.ensures.before c.idle_place-p.ensures.idle c.pick_at.new.ledger c.pick_at.new.entries c.pick_at.result c.pick_at.ensures.picked.state c.pick_at.ensures.picked.answer c.pick_at.ensures.picked.err) (λ a e. e ∙ ap (λ (x : Held). answer_at same_key max_demanded (program (world (version_tree c.args.version) (sheet c.args.cells.now) c.args.w.now)) (state_of x) (nth (idle_keys (state_of x)) c.args.i)) c.self.view_is)

pub returns-clause-notes : goal.returns-clause-notes
returns-clause-notes g c =
    let h = subst (IsFor (world (version_tree c.args.version) (sheet c.args.cells.now) c.args.w.now)) (sym c.self.view_is) c.requires.for_it in
    if_ok c.pick_at.result (picked_notes (world (version_tree c.args.version) (sheet c.args.cells.now) c.args.w.now) c.self.inside.ledger c.self.inside.entries c.self.inside.seeds h c.self.invariant c.args.i c.idle_place-p.result c.idle_place-p.ensures.before c.idle_place-p.ensures.idle c.pick_at.new.ledger c.pick_at.new.entries c.pick_at.result c.pick_at.ensures.picked.state c.pick_at.ensures.picked.answer c.pick_at.ensures.picked.err) (λ a e. e ∙ ap (λ (x : Held). noted_after (notes_in x) (nth (idle_keys (state_of x)) c.args.i) (picked_tree a)) c.self.view_is)

pub returns-clause-seeds : goal.returns-clause-seeds
returns-clause-seeds g c =
    let h = subst (IsFor (world (version_tree c.args.version) (sheet c.args.cells.now) c.args.w.now)) (sym c.self.view_is) c.requires.for_it in
    picked_seeds (world (version_tree c.args.version) (sheet c.args.cells.now) c.args.w.now) c.self.inside.ledger c.self.inside.entries c.self.inside.seeds h c.self.invariant c.args.i c.idle_place-p.result c.idle_place-p.ensures.before c.idle_place-p.ensures.idle c.pick_at.new.ledger c.pick_at.new.entries c.pick_at.result c.pick_at.ensures.picked.state c.pick_at.ensures.picked.answer c.pick_at.ensures.picked.err ∙ ap seeds_of c.self.view_is

pub returns-clause-stays : goal.returns-clause-stays
returns-clause-stays g c =
    let h = subst (IsFor (world (version_tree c.args.version) (sheet c.args.cells.now) c.args.w.now)) (sym c.self.view_is) c.requires.for_it in
    picked_stays (world (version_tree c.args.version) (sheet c.args.cells.now) c.args.w.now) c.self.inside.ledger c.self.inside.entries c.self.inside.seeds h c.self.invariant c.args.i c.idle_place-p.result c.idle_place-p.ensures.before c.idle_place-p.ensures.idle c.pick_at.new.ledger c.pick_at.new.entries c.pick_at.result c.pick_at.ensures.picked.state c.pick_at.ensures.picked.answer c.pick_at.ensures.picked.err c.pick_at.ensures.picked.core c.pick_at.ensures.picked.marks c.pick_at.ensures.picked.marks_err

pub returns-clause-counted : goal.returns-clause-counted
returns-clause-counted g c =
    let h = subst (IsFor (world (version_tree c.args.version) (sheet c.args.cells.now) c.args.w.now)) (sym c.self.view_is) c.requires.for_it in
    let (k, ek) = the_key_at c.self.inside.ledger c.self.inside.entries c.self.invariant c.idle_place-p.result (there (world (version_tree c.args.version) (sheet c.args.cells.now) c.args.w.now) c.self.inside.ledger c.self.inside.entries c.self.inside.seeds h c.self.invariant c.args.i c.idle_place-p.result c.idle_place-p.ensures.before c.idle_place-p.ensures.idle) in
    let n = c.args.steps.now in
    let m = c.pick_at.new.steps in
    subst (λ (x : Held). (m ≡ n) ⊎ (m ≡ counted (is_noted (notes_in x)) (nth (idle_keys (state_of x)) c.args.i) n)) c.self.view_is
    (subst (λ v. (m ≡ n) ⊎ (m ≡ counted (is_noted (written c.self.inside.ledger)) v n)) (sym (the_key (world (version_tree c.args.version) (sheet c.args.cells.now) c.args.w.now) c.self.inside.ledger c.self.inside.entries c.self.inside.seeds h c.self.invariant c.args.i c.idle_place-p.result c.idle_place-p.ensures.before c.idle_place-p.ensures.idle k ek)) (c.pick_at.ensures.counted k ek))

pub returns-clause-evaluated : goal.returns-clause-evaluated
returns-clause-evaluated g c =
    let h = subst (IsFor (world (version_tree c.args.version) (sheet c.args.cells.now) c.args.w.now)) (sym c.self.view_is) c.requires.for_it in
    let (k, ek) = the_key_at c.self.inside.ledger c.self.inside.entries c.self.invariant c.idle_place-p.result (there (world (version_tree c.args.version) (sheet c.args.cells.now) c.args.w.now) c.self.inside.ledger c.self.inside.entries c.self.inside.seeds h c.self.invariant c.args.i c.idle_place-p.result c.idle_place-p.ensures.before c.idle_place-p.ensures.idle) in
    let n = c.args.steps.now in
    if_ok c.pick_at.result c.pick_at.ensures.evaluated (λ picked f e.
    f k ek (resolved_tree picked e) ∙ ap (λ v. counted (is_noted (written c.self.inside.ledger)) v n) (sym (the_key (world (version_tree c.args.version) (sheet c.args.cells.now) c.args.w.now) c.self.inside.ledger c.self.inside.entries c.self.inside.seeds h c.self.invariant c.args.i c.idle_place-p.result c.idle_place-p.ensures.before c.idle_place-p.ensures.idle k ek)) ∙ ap (λ (x : Held). counted (is_noted (notes_in x)) (nth (idle_keys (state_of x)) c.args.i) n) c.self.view_is)

pub pick_at-requires-clause-ahead : goal.pick_at-requires-clause-ahead
pick_at-requires-clause-ahead g c =
    let h = subst (IsFor (world (version_tree c.args.version) (sheet c.args.cells.now) c.args.w.now)) (sym c.self.view_is) c.requires.for_it in
    ahead_there (world (version_tree c.args.version) (sheet c.args.cells.now) c.args.w.now) c.self.inside.ledger c.self.inside.entries c.self.inside.seeds h c.self.invariant c.args.i c.idle_place-p.result c.idle_place-p.ensures.before c.idle_place-p.ensures.idle

pub returns-clause-ordered : goal.returns-clause-ordered
returns-clause-ordered g c o =
    let h = subst (IsFor (world (version_tree c.args.version) (sheet c.args.cells.now) c.args.w.now)) (sym c.self.view_is) c.requires.for_it in
    picked_order (world (version_tree c.args.version) (sheet c.args.cells.now) c.args.w.now) c.self.inside.ledger c.self.inside.entries c.self.inside.seeds h c.self.invariant c.args.i c.idle_place-p.result c.idle_place-p.ensures.before c.idle_place-p.ensures.idle c.pick_at.new.ledger c.pick_at.new.entries c.pick_at.result c.pick_at.ensures.picked.state c.pick_at.ensures.picked.answer c.pick_at.ensures.picked.err (subst (λ (x : Held). AreOrdered [] (notes_in x)) (sym c.self.view_is) o)

pub returns-clause-full : goal.returns-clause-full
returns-clause-full g c =
    let h = subst (IsFor (world (version_tree c.args.version) (sheet c.args.cells.now) c.args.w.now)) (sym c.self.view_is) c.requires.for_it in
    if_ok c.pick_at.result (picked_full (world (version_tree c.args.version) (sheet c.args.cells.now) c.args.w.now) c.self.inside.ledger c.self.inside.entries c.self.inside.seeds h c.self.invariant c.args.i c.idle_place-p.result c.idle_place-p.ensures.before c.idle_place-p.ensures.idle c.pick_at.new.ledger c.pick_at.new.entries c.pick_at.result c.pick_at.ensures.picked.state c.pick_at.ensures.picked.answer c.pick_at.ensures.picked.err c.pick_at.ensures.picked.marks_full)
    (λ a f e. f e ∙ c.self.view_is)
