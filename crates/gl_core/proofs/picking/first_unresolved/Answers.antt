use Rattle.std.proofs.Common.{◌≡◌, None, length, not, slice_index, ap, sym, subst, arith, inl, inr, ◌∙◌}
use Rattle.gl_core.specs.Table.{IsResolved, IsResolvedBy}
use Rattle.gl_core.proofs.Wakes.{get_within}
use Rattle.gl_core.proofs.Numbered.{index_of_get}
use Rattle.gl_core.proofs.Passed.{below_or, resolved_of, not_resolved}
use Rattle.gl_core.proofs.picking.first_unresolved.Goals as goal

pub returns-then-is_none-clause-passed : goal.returns-then-is_none-clause-passed
returns-then-is_none-clause-passed c = c.loop-i.invariant

pub returns-then-is_none-clause-next : goal.returns-then-is_none-clause-next
returns-then-is_none-clause-next c j d =
    let e = c.args.entries.now in
    let rs = c.args.reads.now in
    let i = c.loop-i.i in
    subst (λ n. IsResolvedBy e n None) (index_of_get rs i j d) (not_resolved e (slice_index rs i) c.resolved.result c.resolved.ensures (c.is_none.ensures ∙ ap not c.if-is_none.true))

pub loop-i-preserved : goal.loop-i-preserved
loop-i-preserved c k j a b d =
    let e = c.args.entries.now in
    let rs = c.args.reads.now in
    let i = c.loop-i.i in
    elim (below_or k i) [
      | inl h ↦ c.loop-i.invariant k j a h d
      | inr h ↦
          let s : k ≡ i = omega (arith, h, b) in
          let t : slice_index rs i ≡ j = ap (slice_index rs) (sym s) ∙ index_of_get rs k j d in
          subst (IsResolved e) t (resolved_of e (slice_index rs i) c.resolved.result c.resolved.ensures (c.is_none.ensures ∙ ap not c.if-is_none.false))
    ]

pub returns-clause-passed : goal.returns-clause-passed
returns-clause-passed c k j a b d =
    let w = get_within c.args.reads.now k j d in
    c.loop-i.invariant k j a (omega (arith, w, c.loop-i-test.false)) d

pub returns-clause-next : goal.returns-clause-next
returns-clause-next c j d = let w = get_within c.args.reads.now (length c.args.reads.now) j d in absurd (omega (arith, w))
