-- The first that is told of a key, from where the loop stands.
use Rattle.std.proofs.Common.{◌≡◌, ◌∙◌, ap, sym, ℕ, ◌+◌, ◌<◌, List, length, drop, get_or, Bool, true, false, cond, Some, option_map}
use Rattle.std.specs.List.{find}
use Rattle.gl_calculus.specs.Evaluation.Key as K
use Rattle.gl_calculus.specs.Evaluation.Key.{same_key}
use Rattle.gl_demand.specs.Equal.{eq_is_key}
use Rattle.gl_demand.specs.View.{key_tree, outcome_tree}
use Rattle.tests_evaluation.specs.declared.tests.table.Told.{Told}
use Rattle.tests_evaluation.proofs.Told.{find_drop}
use Rattle.tests_evaluation.proofs.tests.table.first_of.Goals as goal

-- what is found is what an entry decides, or else what is found behind it
decided : (told : List Told) (k : K.Key) (i : ℕ) (x : Told) (b : Bool) → i < length told → x ≡ get_or told i x
    → find (λ x. same_key (key_tree x.key) k) (drop i told) ≡ find (λ x. same_key (key_tree x.key) k) told
    → same_key (key_tree x.key) k ≡ b
    → find (λ x. same_key (key_tree x.key) k) told ≡ cond b (Some x) (find (λ x. same_key (key_tree x.key) k) (drop (i + 1) told))
decided told k i x b h is so_far e =
    sym so_far ∙ find_drop (λ x. same_key (key_tree x.key) k) told i x h is
    ∙ ap (λ t. cond t (Some x) (find (λ x. same_key (key_tree x.key) k) (drop (i + 1) told))) e

pub returns-then-eq : goal.returns-then-eq
returns-then-eq c =
    let same : same_key (key_tree c.x-item.result.key) (key_tree c.args.k.now) ≡ true = sym (eq_is_key c.x-item.result.key c.args.k.now) ∙ sym c.eq.ensures ∙ c.if-eq.true in
    ap (option_map (λ x. outcome_tree x.outcome)) (sym (decided c.args.told.now (key_tree c.args.k.now) c.loop-x.x-index c.x-item.result true c.loop-x-test.true c.x-item.is c.loop-x.invariant same))

pub loop-x-preserved : goal.loop-x-preserved
loop-x-preserved c =
    let other : same_key (key_tree c.x-item.result.key) (key_tree c.args.k.now) ≡ false = sym (eq_is_key c.x-item.result.key c.args.k.now) ∙ sym c.eq.ensures ∙ c.if-eq.false in
    sym (decided c.args.told.now (key_tree c.args.k.now) c.loop-x.x-index c.x-item.result false c.loop-x-test.true c.x-item.is c.loop-x.invariant other)
