use Rattle.std.proofs.Common.{◌≡◌, List, ℕ, length, map, ap, sym, subst, ◌∙◌, arith}
use Rattle.gl_calculus.specs.Computation.Lists.{AreDistinct}
use Rattle.gl_calculus.specs.Evaluation.Key as K
use Rattle.gl_demand.specs.View.{key_tree}
use Rattle.gl_core.proofs.Cores.{written_grown, marks_length}
use Rattle.gl_core.proofs.Numbered.{length-map}
use Rattle.gl_core.proofs.Seeded.{apart_back, numbers_length, seeded_core, seeded_state}
use Rattle.gl_core.proofs.machine.Core.started.Goals as goal

pub ledger_of-requires : goal.ledger_of-requires
ledger_of-requires c = c.requires.sound_notes

pub numbers-requires-clause-kept : goal.numbers-requires-clause-kept
numbers-requires-clause-kept c = c.in_ok-ledger.ensures.kept

pub numbers-requires-clause-sound : goal.numbers-requires-clause-sound
numbers-requires-clause-sound c = c.requires.sound_seeds

pub seeded-requires-clause-few : goal.seeded-requires-clause-few
seeded-requires-clause-few c =
    let ks = map key_tree c.args.seeds.now in
    let n = numbers_length c.numbers.new.self.book ks c.in_ok-numbers.numbers.items c.in_ok-numbers.ensures.numbers in
    let m = length-map key_tree c.args.seeds.now in
    let d : length c.deref.result.now ≡ length c.in_ok-numbers.numbers.items = ap length c.deref.ensures.value in
    omega (arith, n, m, d, c.requires.few)

pub seeded-requires-clause-apart : goal.seeded-requires-clause-apart
seeded-requires-clause-apart c =
    let a = c.in_ok-numbers.ensures.numbers in
    subst (λ (ns : List ℕ). AreDistinct ns) (sym c.deref.ensures.value) (apart_back c.numbers.new.self.book c.in_ok-numbers.numbers.items (subst (λ (js : List K.Key). AreDistinct js) (sym a.0) c.requires.apart))

pub invariant_of-result : goal.invariant_of-result
invariant_of-result c =
    let ks = map key_tree c.args.seeds.now in
    let e = c.in_ok-entries.ensures in
    seeded_core c.numbers.new.self c.in_ok-entries.entries c.in_ok-numbers.numbers.items ks c.numbers.ensures.kept e.table (e.known ∙ c.deref.ensures.value) c.in_ok-numbers.ensures.numbers e.idle e.passed

pub returns : goal.returns
returns c =
    let l = c.numbers.new.self in
    let entries = c.in_ok-entries.entries in
    let ns = c.in_ok-numbers.numbers.items in
    let ks = map key_tree c.args.seeds.now in
    let a = c.in_ok-numbers.ensures.numbers in
    let e = c.in_ok-entries.ensures in
    let known = e.known ∙ c.deref.ensures.value in
    let g = c.numbers.ensures.grows in
    record {
      state = seeded_state l entries ns ks c.numbers.ensures.kept e.table known a e.idle;
      seeds = sym (length-map key_tree c.args.seeds.now);
      notes = written_grown c.in_ok-ledger.ledger l g.0 c.in_ok-ledger.ensures.kept g.1 c.numbers.ensures.rows ∙ c.in_ok-ledger.ensures.notes;
      marked = marks_length l entries (seeded_core l entries ns ks c.numbers.ensures.kept e.table known a e.idle e.passed);
      marks = e.marks;
    }
