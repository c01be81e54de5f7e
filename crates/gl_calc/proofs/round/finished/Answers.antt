use Rattle.std.proofs.Common.{inl, sym, subst}
use Rattle.gl_calculus.specs.Calculation.Memory.{IsTableOf}
use Rattle.gl_calculus.specs.Evaluation.World.{world}
use Rattle.gl_calc.proofs.Called.{finished_table, sizes_given, sizes_failed, sizes_finished}
use Rattle.gl_calc.proofs.round.finished.Goals as goal

pub returns-in-Ok-clause-given : goal.returns-in-Ok-clause-given
returns-in-Ok-clause-given c = sizes_given c.args.w.now c.args.places.now c.args.quiet c.collected-sizes.result c.collected-sizes.ensures

pub returns-in-Ok-clause-failed : goal.returns-in-Ok-clause-failed
returns-in-Ok-clause-failed c = sizes_failed c.args.w.now c.args.places.now c.args.quiet c.collected-sizes.result c.collected-sizes.ensures

pub returns-in-Ok-clause-work : goal.returns-in-Ok-clause-work
returns-in-Ok-clause-work c = sizes_finished c.args.w.now c.args.places.now c.args.quiet c.collected-sizes.result c.collected-sizes.ensures

pub returns-in-Ok-clause-kept : goal.returns-in-Ok-clause-kept
returns-in-Ok-clause-kept c = λ version S e. inl (record {
  table = record { oracle = c.in-Ok.oracle; notes = c.tidy.new.self };
  is_table = subst (λ notes. IsTableOf (world version S c.args.w.now) (record { oracle = c.in-Ok.oracle; notes = notes })) (sym c.tidy.ensures) (finished_table version S c.args.w.now c.in-Ok.oracle c.args.quiet c.into_results-results.result c.in-Ok.ensures e c.into_results-results.ensures.notes);
  earlier = c.keep.ensures.earlier;
  made = c.keep.ensures.made;
  beyond = c.keep.ensures.beyond;
})
