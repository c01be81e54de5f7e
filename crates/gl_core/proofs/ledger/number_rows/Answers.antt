use Rattle.std.proofs.Common.{◌<◌, ◌+◌, ap, sym, subst, arith, ◌∙◌, length, take, slice_index_or}
use Rattle.std.proofs.lemmas.Option.{slice_get-get_or}
use Rattle.std.proofs.lemmas.List.{length-set}
use Rattle.gl_calculus.specs.Grid.Grid.{Range}
use Rattle.gl_support.specs.declared.row.Row.{Row}
use Rattle.gl_demand.specs.declared.outcome.Outcome.{Outcome}
use Rattle.gl_core.specs.Numbers.{numbers_of, IsIndex}
use Rattle.gl_core.proofs.Numbered.{all_at, get_map, length-map}
use Rattle.gl_core.proofs.Indexing.{index_next, take_whole}
use Rattle.gl_core.proofs.ledger.number_rows.Goals as goal

pub put-requires-clause-there : goal.put-requires-clause-there
put-requires-clause-there c =
    let x = slice_index_or c.args.rows.now c.loop-r.r c.index-rows-r.result in
    let at = get_map (λ (r : Row Outcome Range). r.by) c.args.rows.now c.loop-r.r x (slice_get-get_or c.args.rows.now c.loop-r.r c.index-rows-r.result c.loop-r-test.true) in
    subst (λ n. x.by < n) (sym c.loop-r.invariant.size) (all_at (λ n. n < length c.args.places.now.items) (numbers_of c.args.rows.now) c.requires.there c.loop-r.r x.by at)

pub loop-r-preserved : goal.loop-r-preserved
loop-r-preserved c =
    let x = slice_index_or c.args.rows.now c.loop-r.r c.index-rows-r.result in
    let at = get_map (λ (r : Row Outcome Range). r.by) c.args.rows.now c.loop-r.r x (slice_get-get_or c.args.rows.now c.loop-r.r c.index-rows-r.result c.loop-r-test.true) in
    let l = length-map (λ (r : Row Outcome Range). r.by) c.args.rows.now in
    let there = subst (λ n. x.by < n) (sym c.loop-r.invariant.size) (all_at (λ n. n < length c.args.places.now.items) (numbers_of c.args.rows.now) c.requires.there c.loop-r.r x.by at) in
    record {
      index = subst (IsIndex (take (c.loop-r.r + 1) (numbers_of c.args.rows.now))) (sym c.put.ensures) (index_next (numbers_of c.args.rows.now) c.loop-r.places.items c.loop-r.r x.by c.requires.apart at (omega (arith, l, c.loop-r-test.true)) there c.loop-r.invariant.index);
      size = ap length c.put.ensures ∙ length-set c.loop-r.places.items x.by (c.loop-r.r + 1) ∙ c.loop-r.invariant.size;
    }

pub returns : goal.returns
returns c =
    let l = length-map (λ (r : Row Outcome Range). r.by) c.args.rows.now in
    subst (λ ns. IsIndex ns c.loop-r.places.items) (take_whole (numbers_of c.args.rows.now) c.loop-r.r (omega (arith, l, c.loop-r-test.false))) c.loop-r.invariant.index
