use Rattle.std.proofs.Common.{◌≡◌, ◌∙◌, true, false}
use Rattle.gl_cells.proofs.Clearing.{covers_yes}
use Rattle.gl_cells.proofs.Order.{keeps_inside, keeps_rest}
use Rattle.gl_cells.proofs.search.next_in.Goals as goal

pub loop-at-preserved : goal.loop-at-preserved
loop-at-preserved c =
    let first = c.args.r.now.first in
    let last = c.args.r.now.last in
    let a = c.in_ok-a.a in
    record {
      inside = keeps_inside c.in-Some.from a c.args.after first last (rw c.in-Some.is at c.loop-at.invariant.inside) (c.in_ok-a.ensures.found.0) c.step-at-in-Some.result c.step-at-in-Some.ensures.inside;
      on_grid = c.step-at-in-Some.ensures.on_grid;
      rest = λ q play some.
          let at_from = rw c.in-Some.is at (c.loop-at.invariant.rest q play some) in
          keeps_rest first last a c.args.after c.step-at-in-Some.result q (λ k. let e : false ≡ true = c.if-covers.ensures ∙ covers_yes c.args.r.now a k in cc) play (c.in_ok-a.ensures.least q at_from some) c.step-at-in-Some.ensures.least c.step-at-in-Some.ensures.none;
    }
