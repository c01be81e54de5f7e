use Rattle.std.proofs.Common.{bytes_eq, sym, ◌∙◌}
use Rattle.gl_parse.specs.Raws.{letters}
use Rattle.gl_parse.proofs.Naming.{bound_here, bound_further}
use Rattle.gl_parse.proofs.names.is_bound.Goals as goal

pub returns-then-is_same : goal.returns-then-is_same
returns-then-is_same c = bound_here c.args.text.now (bytes_eq (letters c.args.text.now c.args.name)) c.args.scope.now c.loop-bound.bound-index _ _ c.loop-bound-test.true (sym c.is_same.ensures ∙ c.if-is_same.true) c.loop-bound.invariant

pub loop-bound-preserved : goal.loop-bound-preserved
loop-bound-preserved c = bound_further c.args.text.now (bytes_eq (letters c.args.text.now c.args.name)) c.args.scope.now c.loop-bound.bound-index _ _ c.loop-bound-test.true (sym c.is_same.ensures ∙ c.if-is_same.false) c.loop-bound.invariant
