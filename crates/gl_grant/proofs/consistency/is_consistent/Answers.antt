use Rattle.std.proofs.Common.{◌+◌, ◌<◌, ◌≤◌, refl, false, length, ◌∙◌, sym, arith}
use Rattle.std.proofs.lemmas.Option.{slice_get_within}
use Rattle.gl_calculus.proofs.Grants.{clash}
use Rattle.gl_grant.proofs.Growing.{same_more, other_entry, all_same, by_permits}
use Rattle.gl_grant.proofs.consistency.is_consistent.Goals as goal

pub returns-then-not-is_at-clause-granted : goal.returns-then-not-is_at-clause-granted
returns-then-not-is_at-clause-granted g c =
    let held = g.B.Blocks.held c.args.blocks.now in
    let at = sym c.at.ensures.value ∙ c.in-Some.is in (
      λ e. absurd (clash e refl),
      λ h. let found = c.is_at.ensures.found.1 (other_entry c.args.bound.now held c.args.w.now c.args.sizes.now c.loop-array.i c.in-Some.array c.entry_behind.result c.loop-array.invariant.within at c.entry_behind.ensures.value c.loop-array.invariant.same h) in absurd (clash found c.if-not-is_at.true),
    )

pub returns-then-not-is_at-clause-consistent : goal.returns-then-not-is_at-clause-consistent
returns-then-not-is_at-clause-consistent g c =
    let held = g.B.Blocks.held c.args.blocks.now in
    by_permits c.args.bound.now held c.args.w.now c.args.sizes.now false c.at.ensures.ordered c.is_at.ensures.ordered (returns-then-not-is_at-clause-granted g c)

pub overflow_add-i : goal.overflow_add-i
overflow_add-i g c =
    let held = g.B.Blocks.held c.args.blocks.now in
    let more = same_more c.args.bound.now held c.args.w.now c.args.sizes.now c.loop-array.i c.in-Some.array c.entry_behind.result (sym c.at.ensures.value ∙ c.in-Some.is) c.entry_behind.ensures.value c.entry_behind.ensures.fits c.loop-array.invariant.fits c.loop-array.invariant.same (c.is_at.ensures.found.0 c.if-not-is_at.false) in
    let within : c.loop-array.i + 1 ≤ length c.args.w.now = more.0 in
    omega (arith, within, c.len-entries.ensures.value, c.len-entries.ensures.small)

pub loop-array-smaller : goal.loop-array-smaller
loop-array-smaller g c =
    let within : c.loop-array.i < length c.args.sizes.now = slice_get_within c.args.sizes.now c.loop-array.i c.in-Some.array (sym c.at.ensures.value ∙ c.in-Some.is) in
    omega (arith, within)

pub loop-array-preserved : goal.loop-array-preserved
loop-array-preserved g c =
    let held = g.B.Blocks.held c.args.blocks.now in
    let more = same_more c.args.bound.now held c.args.w.now c.args.sizes.now c.loop-array.i c.in-Some.array c.entry_behind.result (sym c.at.ensures.value ∙ c.in-Some.is) c.entry_behind.ensures.value c.entry_behind.ensures.fits c.loop-array.invariant.fits c.loop-array.invariant.same (c.is_at.ensures.found.0 c.if-not-is_at.false) in
    record { within = more.0; same = more.1; fits = more.2 }

pub returns-clause-granted : goal.returns-clause-granted
returns-clause-granted g c =
    all_same c.args.bound.now (g.B.Blocks.held c.args.blocks.now) c.args.w.now c.args.sizes.now c.loop-array.i c.len-entries.result c.len-entries.ensures.value c.loop-array.invariant.within (sym c.at.ensures.value ∙ c.in_default.is) c.loop-array.invariant.same

pub returns-clause-consistent : goal.returns-clause-consistent
returns-clause-consistent g c =
    by_permits c.args.bound.now (g.B.Blocks.held c.args.blocks.now) c.args.w.now c.args.sizes.now _ c.at.ensures.ordered c.len-entries.ensures.ordered (returns-clause-granted g c)
