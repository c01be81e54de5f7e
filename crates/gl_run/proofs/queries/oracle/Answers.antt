use Rattle.std.proofs.Common.{◌∙◌, ℕ, Vec, Global, ap}
use Rattle.gl_run.proofs.Querying.{oracle_replies}
use Rattle.gl_run.proofs.queries.oracle.Goals as goal

pub returns : goal.returns
returns c =
    oracle_replies c.args.calc.now c.into_bytes.result.items c.in-Some.w.now c.in-Some.ensures (ap (λ (v : Vec ℕ Global). v.items) c.into_bytes.ensures.value ∙ c.in_ok-text.ensures)
