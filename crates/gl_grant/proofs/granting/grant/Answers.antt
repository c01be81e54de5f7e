use Rattle.std.proofs.Common.{◌≡◌, ◌+◌, ◌<◌, ◌++◌, ◌∷◌, [], true, length, take, drop, slice_get, ◌∙◌, ap, sym, subst, arith, length-append}
use Rattle.std.proofs.lemmas.Grind.{common_steps}
use Rattle.std.specs.List.{list_all}
use Rattle.std.proofs.Math.Seq.{take-length}
use Rattle.gl_calculus.specs.Evaluation.Oracle.{ArePermits, grant}
use Rattle.gl_calculus.proofs.Grants.{grant_permits}
use Rattle.gl_grant.specs.Granted.{entry_behind, fits_grid}
use Rattle.gl_grant.proofs.Growing.{all_reached, grows, reached, on_ok}
use Rattle.gl_grant.proofs.granting.grant.Goals as goal

pub push-requires : goal.push-requires
push-requires g c =
    let all = ap (λ k. take k c.loop-array.granted) c.len-in-Some.ensures.value ∙ take-length c.loop-array.granted in
    let held = g.B.Blocks.held c.args.blocks.now in
    let is = c.entry_behind-entry.ensures.value ∙ ap (λ w. entry_behind c.args.bound.now held w c.in-Some.array) all in
    (grows c.args.bound.now held c.loop-array.granted c.args.sizes.now c.len.result c.in-Some.array c.entry_behind-entry.result c.at.ensures.ordered (sym c.at.ensures.value ∙ c.in-Some.is) c.len.ensures.value is c.entry_behind-entry.ensures.fits c.loop-array.invariant.fits c.loop-array.invariant.same).order

pub loop-array-smaller : goal.loop-array-smaller
loop-array-smaller g c =
    let all = ap (λ k. take k c.loop-array.granted) c.len-in-Some.ensures.value ∙ take-length c.loop-array.granted in
    let held = g.B.Blocks.held c.args.blocks.now in
    let is = c.entry_behind-entry.ensures.value ∙ ap (λ w. entry_behind c.args.bound.now held w c.in-Some.array) all in
    let step = grows c.args.bound.now held c.loop-array.granted c.args.sizes.now c.len.result c.in-Some.array c.entry_behind-entry.result c.at.ensures.ordered (sym c.at.ensures.value ∙ c.in-Some.is) c.len.ensures.value is c.entry_behind-entry.ensures.fits c.loop-array.invariant.fits c.loop-array.invariant.same in
    let within : length c.loop-array.granted < length c.args.sizes.now = step.within in
    let grown : c.push.new.self ≡ c.loop-array.granted ++ c.entry_behind-entry.result ∷ [] = on_ok c.push.result _ (sym c.is_err.ensures.value ∙ c.if-is_err.false) c.push.ensures.ok in
    let longer : length c.push.new.self ≡ length c.loop-array.granted + 1 = ap length grown ∙ length-append c.loop-array.granted (c.entry_behind-entry.result ∷ []) in
    omega (arith, within, longer)

pub loop-array-preserved : goal.loop-array-preserved
loop-array-preserved g c =
    let all = ap (λ k. take k c.loop-array.granted) c.len-in-Some.ensures.value ∙ take-length c.loop-array.granted in
    let held = g.B.Blocks.held c.args.blocks.now in
    let is = c.entry_behind-entry.ensures.value ∙ ap (λ w. entry_behind c.args.bound.now held w c.in-Some.array) all in
    let step = grows c.args.bound.now held c.loop-array.granted c.args.sizes.now c.len.result c.in-Some.array c.entry_behind-entry.result c.at.ensures.ordered (sym c.at.ensures.value ∙ c.in-Some.is) c.len.ensures.value is c.entry_behind-entry.ensures.fits c.loop-array.invariant.fits c.loop-array.invariant.same in
    let grown : c.push.new.self ≡ c.loop-array.granted ++ c.entry_behind-entry.result ∷ [] = on_ok c.push.result _ (sym c.is_err.ensures.value ∙ c.if-is_err.false) c.push.ensures.ok in
    record {
      same = subst (λ w. reached c.args.bound.now held w (drop (length w) c.args.sizes.now) ≡ grant c.args.bound.now held c.args.sizes.now) (sym grown) step.same;
      fits = subst (λ w. list_all fits_grid w ≡ true) (sym grown) step.fits;
    }

pub returns-clause-granted : goal.returns-clause-granted
returns-clause-granted g c =
    all_reached c.args.bound.now (g.B.Blocks.held c.args.blocks.now) c.loop-array.granted c.args.sizes.now (length c.loop-array.granted)
    (ap (slice_get c.args.sizes.now) (sym c.len.ensures.value) ∙ sym c.at.ensures.value ∙ c.in_default.is) c.loop-array.invariant.same

pub returns-clause-permits : goal.returns-clause-permits
returns-clause-permits g c =
    let held = g.B.Blocks.held c.args.blocks.now in
    let all =
    all_reached c.args.bound.now held c.loop-array.granted c.args.sizes.now (length c.loop-array.granted)
    (ap (slice_get c.args.sizes.now) (sym c.len.ensures.value) ∙ sym c.at.ensures.value ∙ c.in_default.is) c.loop-array.invariant.same in
    subst (ArePermits c.args.bound.now held) (sym all) (grant_permits c.args.bound.now held c.args.sizes.now c.at.ensures.ordered).1

pub entry_behind-entry-requires : goal.entry_behind-entry-requires
entry_behind-entry-requires g c = grind (arith, common_steps)
