use Rattle.std.proofs.Common.{◌≡◌, ◌<◌, ℕ, All, List, length, cond, nat_eq, refl, sym, ap, subst, ◌∙◌}
use Rattle.gl_calculus.specs.Grid.Grid.{Range}
use Rattle.gl_support.specs.Rests.{rest_of}
use Rattle.gl_support.specs.declared.rests.Rests.{Rests}
use Rattle.gl_support.specs.declared.row.Row.{Row}
use Rattle.gl_demand.specs.declared.outcome.Outcome.{Outcome}
use Rattle.gl_core.specs.Graph.{HaveRows}
use Rattle.gl_core.specs.Numbers.{IsBelow}
use Rattle.gl_core.proofs.Numbered.{all_at, item_at}
use Rattle.gl_core.proofs.Filtered.{each_all}
use Rattle.gl_core.proofs.Graphed.{have_next}
use Rattle.gl_core.proofs.Indexing.{take_whole}
use Rattle.gl_core.proofs.graph.add_rows.Goals as goal

pub loop-r-init : goal.loop-r-init
loop-r-init c = record { sound = c.requires.sound; size = refl; rows = c.requires.first }

pub set-requires-clause-inside : goal.set-requires-clause-inside
set-requires-clause-inside c =
    let rs = c.args.rows.now in
    let x = c.index-rows-r.result in
    let at = item_at rs c.loop-r.r x c.index-rows-r.is c.loop-r-test.true in
    let below = all_at (IsBelow (length c.args.rests.now.reads.items)) rs c.requires.below c.loop-r.r x at in
    subst (λ (n : ℕ). x.by < n) (sym c.loop-r.invariant.size) below.0

pub set-requires-clause-below : goal.set-requires-clause-below
set-requires-clause-below c =
    let rs = c.args.rows.now in
    let x = c.index-rows-r.result in
    let at = item_at rs c.loop-r.r x c.index-rows-r.is c.loop-r-test.true in
    let below = all_at (IsBelow (length c.args.rests.now.reads.items)) rs c.requires.below c.loop-r.r x at in
    subst (λ (n : ℕ). All (λ k. k < n) c.deref.result.now) (sym c.loop-r.invariant.size)
    (subst (λ (js : List ℕ). All (λ k. k < length c.args.rests.now.reads.items) js) (sym c.deref.ensures.value) (each_all (λ k. k < length c.args.rests.now.reads.items) x.reads.items below.1))

-- what was told of a row is what is read of it
told : (s s' : Rests) (x : Row Outcome Range) (js : List ℕ) (rs : List Range) → js ≡ x.reads.items → rs ≡ x.looked.items → ((n : ℕ) → rest_of s' n ≡ cond (nat_eq n x.by) (js, rs) (rest_of s n)) → (n : ℕ) → rest_of s' n ≡ cond (nat_eq n x.by) (x.reads.items, x.looked.items) (rest_of s n)
told s s' x js rs e f h n = h n ∙ ap (λ (us : List ℕ). cond (nat_eq n x.by) (us, rs) (rest_of s n)) e ∙ ap (λ (vs : List Range). cond (nat_eq n x.by) (x.reads.items, vs) (rest_of s n)) f

pub loop-r-preserved : goal.loop-r-preserved
loop-r-preserved c =
    let rs = c.args.rows.now in
    let s = c.loop-r.rests in
    let s' = c.set.new.self in
    let x = c.index-rows-r.result in
    let at = item_at rs c.loop-r.r x c.index-rows-r.is c.loop-r-test.true in
    let below = all_at (IsBelow (length c.args.rests.now.reads.items)) rs c.requires.below c.loop-r.r x at in
    let inside = subst (λ (n : ℕ). x.by < n) (sym c.loop-r.invariant.size) below.0 in
    let set = told s s' x c.deref.result.now c.deref-in-loop-r.result.now c.deref.ensures.value c.deref-in-loop-r.ensures.value c.in_ok-set.ensures.rests in
    record {
      sound = c.in_ok-set.ensures.sound;
      size = c.in_ok-set.ensures.size ∙ c.loop-r.invariant.size;
      rows = have_next rs s s' c.loop-r.r x c.requires.apart at inside c.in_ok-set.ensures.size set c.loop-r.invariant.rows;
    }

pub returns-clause-all : goal.returns-clause-all
returns-clause-all c = subst (HaveRows c.loop-r.rests) (take_whole c.args.rows.now c.loop-r.r c.loop-r-test.false) c.loop-r.invariant.rows
