use Rattle.std.proofs.Common.{[], ◌<◌, ◌≤◌, ◌+◌, ◌^◌, ◌-◌, sym, subst, ap, arith, ◌∙◌}
use Rattle.gl_machine.specs.Quiet.{IsQuiet}
use Rattle.gl_machine.specs.Costs.{settled}
use Rattle.gl_machine.specs.InOrder.{AreOrdered}
use Rattle.gl_calculus.specs.Evaluation.Key.{same_key}
use Rattle.gl_calculus.specs.Evaluation.World.{world}
use Rattle.gl_calculus.specs.Evaluation.Evaluation.{program}
use Rattle.gl_ast.specs.View.{version_tree}
use Rattle.gl_cells.specs.Sheet.{sheet}
use Rattle.gl_core.specs.Held.{Held}
use Rattle.gl_core.specs.State.{state_of, seeds_of, notes_in, is_noted, IsFor}
use Rattle.gl_machine.specs.Machine.{idle_keys, nth}
use Rattle.gl_core.proofs.Ending.{counted_later, run_begun, run_goes, run_ends, run_full, full_allows, run_quiet, run_few, run_allows}
use Rattle.gl_core.proofs.machine.Core.run_all.Goals as goal

pub picks-init : goal.picks-init
picks-init g c = run_begun (world (version_tree c.args.version) (sheet c.args.cells.now) c.args.w.now) c.args.self c.args.steps.now c.requires.for_it

pub returns-then-n-eq0-clause-quiet : goal.returns-then-n-eq0-clause-quiet
returns-then-n-eq0-clause-quiet g c =
    subst (λ (x : Held). IsQuiet same_key (program (world (version_tree c.args.version) (sheet c.args.cells.now) c.args.w.now)) (seeds_of c.args.self) (state_of x)) (sym c.into_quiet.ensures)
    (run_quiet (world (version_tree c.args.version) (sheet c.args.cells.now) c.args.w.now) c.args.self c.picks.core c.args.steps.now c.picks.steps c.picks.invariant (sym c.idle-n.ensures ∙ c.if-n-eq0.true))

pub returns-then-n-eq0-clause-no_work : goal.returns-then-n-eq0-clause-no_work
returns-then-n-eq0-clause-no_work g c = run_few (world (version_tree c.args.version) (sheet c.args.cells.now) c.args.w.now) c.args.self c.picks.core c.args.steps.now c.picks.steps c.picks.invariant (sym c.idle-n.ensures ∙ c.if-n-eq0.true)

pub returns-then-n-eq0-clause-most : goal.returns-then-n-eq0-clause-most
returns-then-n-eq0-clause-most g c =
    run_allows (world (version_tree c.args.version) (sheet c.args.cells.now) c.args.w.now) c.args.self c.picks.core c.args.steps.now c.picks.steps c.picks.invariant
    (sym c.idle-n.ensures ∙ c.if-n-eq0.true)

pub returns-then-n-eq0-clause-later : goal.returns-then-n-eq0-clause-later
returns-then-n-eq0-clause-later g c = c.picks.invariant.later

pub returns-in_default-clause-later : goal.returns-in_default-clause-later
returns-in_default-clause-later g c =
    let core = c.picks.core in
    let l = counted_later (is_noted (notes_in core)) (nth (idle_keys (state_of core)) c.next-i.result) c.picks.steps c.pick.new.steps c.pick.ensures.counted in
    omega (arith, c.picks.invariant.later, l)

pub returns-then-is_full-clause-later : goal.returns-then-is_full-clause-later
returns-then-is_full-clause-later g c =
    let core = c.picks.core in
    let l = counted_later (is_noted (notes_in core)) (nth (idle_keys (state_of core)) c.next-i.result) c.picks.steps c.pick.new.steps c.pick.ensures.counted in
    omega (arith, c.picks.invariant.later, l)

pub returns-then-is_full-clause-work : goal.returns-then-is_full-clause-work
returns-then-is_full-clause-work g c e =
    let l = subst (λ x. c.next-i.result < x) c.idle-n.ensures c.next-i.ensures.below in
    run_full (world (version_tree c.args.version) (sheet c.args.cells.now) c.args.w.now) c.args.self c.picks.core c.args.steps.now c.picks.steps c.picks.invariant c.next-i.result l (c.is_full.ensures.full c.if-is_full.true ∙ c.in-Ok.ensures.answer)

pub returns-then-is_full-clause-most_work : goal.returns-then-is_full-clause-most_work
returns-then-is_full-clause-most_work g c e =
    let l = subst (λ x. c.next-i.result < x) c.idle-n.ensures c.next-i.ensures.below in
    full_allows (world (version_tree c.args.version) (sheet c.args.cells.now) c.args.w.now) c.args.self c.picks.core c.args.steps.now c.picks.steps c.picks.invariant c.next-i.result l (c.is_full.ensures.full c.if-is_full.true ∙ c.in-Ok.ensures.answer) c.pick.new.steps c.pick.ensures.counted

pub picks-smaller : goal.picks-smaller
picks-smaller g c =
    let l = subst (λ x. c.next-i.result < x) c.idle-n.ensures c.next-i.ensures.below in
    run_ends (world (version_tree c.args.version) (sheet c.args.cells.now) c.args.w.now) c.args.self c.picks.core c.args.steps.now c.picks.steps c.picks.invariant c.next-i.result l c.pick.new.self _ c.in-Ok.ensures.state c.in-Ok.ensures.answer (c.is_full.ensures.other c.if-is_full.false)

pub picks-preserved : goal.picks-preserved
picks-preserved g c =
    let l = subst (λ x. c.next-i.result < x) c.idle-n.ensures c.next-i.ensures.below in
    run_goes (world (version_tree c.args.version) (sheet c.args.cells.now) c.args.w.now) c.args.self c.picks.core c.args.steps.now c.picks.steps c.picks.invariant c.next-i.result l c.pick.new.self c.pick.new.steps _ c.in-Ok.ensures.state c.in-Ok.ensures.answer (c.is_full.ensures.other c.if-is_full.false) c.in-Ok.ensures.notes c.pick.ensures.stays c.pick.ensures.seeds c.pick.ensures.ordered c.pick.ensures.counted c.in-Ok.ensures.evaluated

pub returns-then-n-eq0-clause-ordered : goal.returns-then-n-eq0-clause-ordered
returns-then-n-eq0-clause-ordered g c o = subst (λ (x : Held). AreOrdered [] (notes_in x)) (sym c.into_quiet.ensures) (c.picks.invariant.ordered o)

pub into_quiet-requires : goal.into_quiet-requires
into_quiet-requires g c = sym c.idle-n.ensures ∙ c.if-n-eq0.true

pub returns-then-n-eq0-clause-seeds : goal.returns-then-n-eq0-clause-seeds
returns-then-n-eq0-clause-seeds g c = ap seeds_of c.into_quiet.ensures ∙ c.picks.invariant.seeds

pub returns-then-n-eq0-clause-stays : goal.returns-then-n-eq0-clause-stays
returns-then-n-eq0-clause-stays g c = subst (IsFor (world (version_tree c.args.version) (sheet c.args.cells.now) c.args.w.now)) (sym c.into_quiet.ensures) c.picks.invariant.for_it

pub returns-then-n-eq0-clause-work : goal.returns-then-n-eq0-clause-work
returns-then-n-eq0-clause-work g c = tt

pub returns-then-n-eq0-clause-most_work : goal.returns-then-n-eq0-clause-most_work
returns-then-n-eq0-clause-most_work g c = tt

pub returns-then-n-eq0-clause-least : goal.returns-then-n-eq0-clause-least
returns-then-n-eq0-clause-least g c =
    subst (λ (x : Held). c.picks.steps < 2 ^ 64 - 1 → c.args.steps.now + settled (is_noted (notes_in c.args.self)) (state_of x) ≤ c.picks.steps + settled (is_noted (notes_in c.args.self)) (state_of c.args.self)) (sym c.into_quiet.ensures) c.picks.invariant.least

pub next-i-requires-clause-rule : goal.next-i-requires-clause-rule
next-i-requires-clause-rule g c = c.requires.rule

pub next-i-requires-clause-kind : goal.next-i-requires-clause-kind
next-i-requires-clause-kind g c = c.requires.kind

pub next-i-requires-clause-some : goal.next-i-requires-clause-some
next-i-requires-clause-some g c = omega (arith, c.if-n-eq0.false)

pub pick-requires-clause-there : goal.pick-requires-clause-there
pick-requires-clause-there g c = subst (λ x. c.next-i.result < x) c.idle-n.ensures c.next-i.ensures.below

pub pick-requires-clause-for_it : goal.pick-requires-clause-for_it
pick-requires-clause-for_it g c = c.picks.invariant.for_it

pub returns-in_default-clause-quiet : goal.returns-in_default-clause-quiet
returns-in_default-clause-quiet g c = tt

pub returns-in_default-clause-seeds : goal.returns-in_default-clause-seeds
returns-in_default-clause-seeds g c = tt

pub returns-in_default-clause-stays : goal.returns-in_default-clause-stays
returns-in_default-clause-stays g c = tt

pub returns-in_default-clause-ordered : goal.returns-in_default-clause-ordered
returns-in_default-clause-ordered g c = tt

pub returns-in_default-clause-no_work : goal.returns-in_default-clause-no_work
returns-in_default-clause-no_work g c = tt

pub returns-in_default-clause-most : goal.returns-in_default-clause-most
returns-in_default-clause-most g c = tt

pub returns-in_default-clause-least : goal.returns-in_default-clause-least
returns-in_default-clause-least g c = tt

pub returns-in_default-clause-work : goal.returns-in_default-clause-work
returns-in_default-clause-work g c = λ e. cc e

pub returns-in_default-clause-most_work : goal.returns-in_default-clause-most_work
returns-in_default-clause-most_work g c = λ e. cc e

pub returns-then-is_full-clause-quiet : goal.returns-then-is_full-clause-quiet
returns-then-is_full-clause-quiet g c = tt

pub returns-then-is_full-clause-seeds : goal.returns-then-is_full-clause-seeds
returns-then-is_full-clause-seeds g c = tt

pub returns-then-is_full-clause-stays : goal.returns-then-is_full-clause-stays
returns-then-is_full-clause-stays g c = tt

pub returns-then-is_full-clause-ordered : goal.returns-then-is_full-clause-ordered
returns-then-is_full-clause-ordered g c = tt

pub returns-then-is_full-clause-no_work : goal.returns-then-is_full-clause-no_work
returns-then-is_full-clause-no_work g c = tt

pub returns-then-is_full-clause-most : goal.returns-then-is_full-clause-most
returns-then-is_full-clause-most g c = tt

pub returns-then-is_full-clause-least : goal.returns-then-is_full-clause-least
returns-then-is_full-clause-least g c = tt
