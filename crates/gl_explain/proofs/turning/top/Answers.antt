use Rattle.gl_explain.proofs.Tops.{top_some}
use Rattle.gl_explain.proofs.turning.top.Goals as goal

pub returns-clause-some : goal.returns-clause-some
returns-clause-some c = top_some c.args.stack.now.keys c.last.result c.last.ensures.key
