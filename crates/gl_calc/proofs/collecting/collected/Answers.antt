use Rattle.std.proofs.Common.{◌≡◌, ◌∙◌, ℕ, ◌+◌, ◌++◌, map, drop, Option, Ok, Err, ap, subst, arith}
use Rattle.std.proofs.lemmas.List.{drop_all}
use Rattle.gl_machine.specs.Machine.{Status, at}
use Rattle.gl_calculus.specs.Grid.Grid.{AreInOrder}
use Rattle.gl_calculus.specs.Values.Value.{Top}
use Rattle.gl_calculus.specs.Evaluation.Key.{Key, Outcome, Cell, same_key}
use Rattle.gl_calculus.specs.Evaluation.World.{world}
use Rattle.gl_core.specs.State.{state_of}
use Rattle.gl_demand.proofs.Counting.{drop_item}
use Rattle.gl_demand.proofs.Visiting.{last_in_order}
use Rattle.gl_calc.proofs.Arrays.{Goes, goes_on, goes_to_end, stops, still_in_order}
use Rattle.gl_calc.specs.Visits.{Visits, status_at}
use Rattle.gl_calc.proofs.Seeds.{item_at, status_first}
use Rattle.gl_calc.proofs.collecting.collected.Goals as goal

pub visit-requires : goal.visit-requires
visit-requires c = λ z.
    last_in_order c.loop-a.sizes c.a-item.result z (drop (c.loop-a.a-index + 1) c.args.places.now)
    (subst (λ l. AreInOrder (map (λ x. x.0) c.loop-a.sizes ++ l)) (drop_item c.args.places.now c.loop-a.a-index c.a-item.result c.a-item.is c.loop-a-test.true) c.loop-a.invariant.ordered)

pub returns-in-Err : goal.returns-in-Err
returns-in-Err c = λ version S w round first apart demanded.
    let st = state_of c.args.quiet.now in
    let P = λ (s : Option (Status Key Outcome)). Visits c.a-item.result s c.loop-a.sizes (Err c.in-Err.fault) c.visit.new.sizes in
    let here : status_at st c.loop-a.i ≡ at same_key st (Cell Top c.a-item.result) = ap (status_at st) c.loop-a.invariant.count ∙ status_first c.args.places.now st c.loop-a.a-index c.a-item.result first apart (item_at c.args.places.now c.loop-a.a-index c.a-item.result c.a-item.is c.loop-a-test.true) in
    stops (world version S w) (state_of c.args.quiet.now) round c.args.places.now c.loop-a.sizes c.visit.new.sizes c.a-item.result (drop (c.loop-a.a-index + 1) c.args.places.now) c.in-Err.fault
    (subst (Goes (world version S w) c.args.places.now c.loop-a.sizes) (drop_item c.args.places.now c.loop-a.a-index c.a-item.result c.a-item.is c.loop-a-test.true) (c.loop-a.invariant.goes version S w round first apart demanded))
    (subst P here c.in-Err.ensures)

pub loop-a-preserved : goal.loop-a-preserved
loop-a-preserved c =
    let rest = drop (c.loop-a.a-index + 1) c.args.places.now in
    let here = drop_item c.args.places.now c.loop-a.a-index c.a-item.result c.a-item.is c.loop-a-test.true in
    record {
      goes = λ version S w round first apart demanded.
          let st = state_of c.args.quiet.now in
          let P = λ (s : Option (Status Key Outcome)). Visits c.a-item.result s c.loop-a.sizes (Ok tt) c.visit.new.sizes in
          let seen : status_at st c.loop-a.i ≡ at same_key st (Cell Top c.a-item.result) = ap (status_at st) c.loop-a.invariant.count ∙ status_first c.args.places.now st c.loop-a.a-index c.a-item.result first apart (item_at c.args.places.now c.loop-a.a-index c.a-item.result c.a-item.is c.loop-a-test.true) in
          goes_on (world version S w) (state_of c.args.quiet.now) round c.args.places.now c.loop-a.sizes c.visit.new.sizes c.a-item.result rest tt
          (subst (Goes (world version S w) c.args.places.now c.loop-a.sizes) here (c.loop-a.invariant.goes version S w round first apart demanded))
          (subst P seen c.in-Ok.ensures);
      count = ap (λ (n : ℕ). n + 1) c.loop-a.invariant.count;
      ordered = still_in_order c.loop-a.sizes c.visit.new.sizes c.a-item.result (status_at (state_of c.args.quiet.now) c.loop-a.i) rest c.in-Ok.ensures.1
          (subst (λ l. AreInOrder (map (λ x. x.0) c.loop-a.sizes ++ l)) here c.loop-a.invariant.ordered);
    }

pub returns : goal.returns
returns c = λ version S w round first apart demanded.
    goes_to_end (world version S w) c.args.places.now c.loop-a.sizes
    (subst (Goes (world version S w) c.args.places.now c.loop-a.sizes) (drop_all c.loop-a.a-index c.args.places.now (omega (arith, c.loop-a-test.false))) (c.loop-a.invariant.goes version S w round first apart demanded))
