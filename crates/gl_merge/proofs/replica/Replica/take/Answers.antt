use Rattle.std.proofs.Common.{◌≡◌, ◌∙◌, ◌⊎◌, ℕ, ◌≤◌, max, [], ◌∷◌, ◌++◌, IsSome, vec_len, sym, ap, subst, arith}
use Rattle.gl_calculus.specs.Edits.Joins.{HasTaken}
use Rattle.gl_calculus.specs.Edits.Limits.{max_time}
use Rattle.gl_calculus.specs.Edits.Replicas as R
use Rattle.gl_calculus.specs.Edits.Replicas.{register_at, taking}
use Rattle.laws_calculus.proofs.Edits.Taking.{one_more_taken}
use Rattle.gl_merge.specs.Edit.{EditValue, edit_tree}
use Rattle.gl_merge.specs.Index.{registers}
use Rattle.gl_merge.specs.Replica.{ReplicaValue, registers_of, replica_tree, spare_of}
use Rattle.gl_merge.proofs.Clocks.{stamp_within, few_after, same_replica}
use Rattle.gl_merge.proofs.Lists.{all_then}
use Rattle.gl_merge.proofs.replica.Replica.take.Goals as goal

pub invariant_of-self : goal.invariant_of-self
invariant_of-self c =
    let es = c.self.inside.edits in
    let ix = c.self.inside.index in
    let e = c.args.e in
    let o = register_at (registers es.items ix.items) e.place in
    let room : IsSome o ⊎ (1 ≤ spare_of es ix) = subst (λ (r : ReplicaValue). IsSome (register_at (registers_of r) e.place) ⊎ (1 ≤ r.spare)) (sym c.self.view_is) c.requires.room in
    let few = few_after o (vec_len ix) (spare_of es ix) room (omega arith) (omega (arith, c.self.invariant.few)) in
    let time : c.time.result ≡ e.stamp.time = c.time.ensures.value ∙ ap (λ (s : R.Stamp). s.time) c.stamp.ensures in
    let within : c.stamp.result.time ≤ max_time = stamp_within c.stamp.result.time c.stamp.result.site c.time.ensures.sound in
    let n = c.max-self-inside.result in
    let later : (d : EditValue) → d.stamp.time ≤ c.self.inside.clock → d.stamp.time ≤ n = λ d h. omega (arith, h, c.max-self-inside.ensures) in
    record {
      index = c.keep.ensures.index;
      few = omega (arith, few, c.keep.ensures.index_count);
      is_site = c.self.invariant.is_site;
      within = omega (arith, within, c.time.ensures.value, c.max-self-inside.ensures, c.self.invariant.within);
      past = c.keep.ensures.past n (all_then (λ (d : EditValue). d.stamp.time ≤ c.self.inside.clock) (λ (d : EditValue). d.stamp.time ≤ n) es.items later c.self.invariant.past) (omega (arith, time, c.max-self-inside.ensures));
    }

pub returns-clause-joins : goal.returns-clause-joins
returns-clause-joins c ds h =
    let e = c.args.e in
    let clock = c.max-self-inside.ensures ∙ ap (λ (n : ℕ). max c.self.inside.clock n) (c.time.ensures.value ∙ ap (λ (s : R.Stamp). s.time) c.stamp.ensures) in
    let same = same_replica c.self.inside.site c.max-self-inside.result _ _ _ clock c.keep.ensures.kept ∙ ap (λ (r : ReplicaValue). taking (replica_tree r) (edit_tree e)) c.self.view_is in
    subst (HasTaken (ds ++ edit_tree e ∷ [])) (sym same) (one_more_taken ds (replica_tree c.args.self.now) (edit_tree e) h c.requires.judged)
