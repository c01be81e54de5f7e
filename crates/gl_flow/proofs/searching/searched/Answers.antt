use Rattle.std.proofs.Common.{◌≡◌, ◌+◌, max, subst, arith}
use Rattle.std.specs.Prelude.{IfSome, IfNone}
use Rattle.gl_flow.specs.Searching.{IsLow, IsCircled, IsSearched}
use Rattle.gl_flow.specs.Plans.{plan}
use Rattle.gl_flow.proofs.Foretelling.{search_on, circle_at, yes_at}
use Rattle.gl_flow.proofs.searching.searched.Goals as goal

pub returns-in-None : goal.returns-in-None
returns-in-None c =
    let p = plan c.args.net.now in
    let circled = subst (λ o. IfNone o (IsCircled p c.loop-k.k)) c.in-None.is c.in_ok-h.ensures.none in
    λ S h none. circle_at S p h c.loop-k.k c.loop-k.height c.index.result.now none c.loop-k.invariant.far (omega (arith, c.loop-k-test.true, c.loop-k.auto.k-end, c.len-k-end.ensures)) c.index.ensures circled

pub loop-k-preserved : goal.loop-k-preserved
loop-k-preserved c =
    let p = plan c.args.net.now in
    let low = subst (λ o. IfSome o (λ h. IsLow p c.loop-k.k h)) c.in-Some.is c.in_ok-h.ensures.some in
    record {
      knows = c.in_ok-h.ensures.knows;
      far = subst (λ t. IsSearched p (c.loop-k.k + 1) t) (let e : max c.loop-k.height c.in-Some.h ≡ c.max-height.result = omega (arith, c.max-height.ensures) in e) (search_on p c.loop-k.k c.loop-k.height c.in-Some.h c.loop-k.invariant.far low);
    }

pub returns : goal.returns
returns c =
    λ S h none. yes_at S (plan c.args.net.now) h c.loop-k.k c.loop-k.height none (omega (arith, c.loop-k-test.false, c.loop-k.auto.k-end, c.len-k-end.ensures)) c.loop-k.invariant.far
