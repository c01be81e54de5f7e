use Rattle.std.proofs.Common.{◌≡◌, ◌||◌, ◌+◌, ◌*◌, ◌<◌, true, IsTrue, arith, ap, sym, subst, ◌∙◌}
use Rattle.gl_calculus.specs.Values.Sheet.{frame_rank}
use Rattle.gl_calculus.specs.Evaluation.Sound.{is_sound_sheet, is_sound_frame}
use Rattle.gl_calculus.specs.Values.Value.{rank}
use Rattle.gl_value.specs.Sound.{sheet_facts, rank_is}
use Rattle.gl_calculus.specs.Values.Value as V
use Rattle.gl_value.specs.Forms.{frame_tree-Top, frame_tree-In, sheet_tree_is}
use Rattle.gl_value.specs.View.{frame_tree, sheet_tree, override_trees}
use Rattle.gl_demand.specs.Filling.{IsFirstWith, is_overridden_by}
use Rattle.gl_demand.proofs.Filled.{at_top, one_outward}
use Rattle.gl_demand.proofs.filling.+outward.Goals as goal

pub soonest-outward-requires : goal.soonest-outward-requires
soonest-outward-requires t c =
    let s = c.args.s.now in
    let facts = sheet_facts s c.requires in
    let above = facts.above_frame in
    let is : rank (sheet_tree s) ≡ s.rank = rank_is s in
    let less : 2 * frame_rank (frame_tree s.env) + 1 < 2 * rank (sheet_tree s) = omega (arith, above, is) in
    (subst (λ n. 2 * frame_rank (frame_tree s.env) + 1 < n) c.decreases less, facts.frame)

pub outward-soonest-requires : goal.outward-soonest-requires
outward-soonest-requires t c =
    let w = c.in-In.field-1 in
    let is = ap frame_tree c.in-In.is ∙ frame_tree-In c.in-In.s w in
    let less : 2 * rank (sheet_tree c.in-In.s.value) < 2 * frame_rank (frame_tree c.args.env.now) + 1 = rw is (omega arith) in
    let sound : IsTrue (is_sound_sheet (sheet_tree c.in-In.s.value)) = subst (λ f. is_sound_frame f ≡ true) is c.requires in
    rw c.deref.ensures (subst (λ n. 2 * rank (sheet_tree c.in-In.s.value) < n) c.decreases less, sound)

pub soonest-returns : goal.soonest-returns
soonest-returns t c w p h =
    let r = c.args.r.now in
    let after = c.args.after.now in
    let s = c.args.s.now in
    let os = override_trees s.overrides.items in
    let first = c.sooner-next.ensures p h in
    let all = c.outward.ensures (λ b. p b || is_overridden_by os r after b) first in
    subst (λ x. IsFirstWith (V.In x w) r after p c.outward.result) (sym (sheet_tree_is s))
    (one_outward p s.region os (frame_tree s.env) s.rank s.weight w r after c.outward.result all)

pub outward-returns-in-Top : goal.outward-returns-in-Top
outward-returns-in-Top t c p h =
    subst (λ f. IsFirstWith f c.args.r.now c.args.after.now p c.args.best.now) (sym (ap frame_tree c.in-Top.is ∙ frame_tree-Top)) (at_top p c.args.r.now c.args.after.now c.args.best.now h)

pub outward-returns-in-In : goal.outward-returns-in-In
outward-returns-in-In t c p h =
    let w = c.in-In.field-1 in
    let all = c.soonest.ensures w.value p h in
    let whole = rw c.deref.ensures at all in
    subst (λ f. IsFirstWith f c.args.r.now c.args.after.now p c.soonest.result) (sym (ap frame_tree c.in-In.is ∙ frame_tree-In c.in-In.s w)) whole
