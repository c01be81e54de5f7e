use Rattle.std.proofs.Common.{arith}
use Rattle.std.specs.String.{string_bytes}
use Rattle.gl_protocol.specs.Scripts.Output.{generated_payload}
use Rattle.gl_run.proofs.Generating.{row_more, row_end}
use Rattle.gl_run.proofs.generator.payload.Goals as goal

pub loop-i-preserved : goal.loop-i-preserved
loop-i-preserved c = row_more c.args.n c.loop-i.i (string_bytes c.loop-i.rows) (string_bytes c.put_row.new.out) (generated_payload c.args.n) (omega (arith, c.loop-i-test.true)) c.in_ok-put_row.ensures c.loop-i.invariant

pub returns : goal.returns
returns c = row_end c.args.n c.loop-i.i (string_bytes c.loop-i.rows) (generated_payload c.args.n) (omega (arith, c.loop-i-test.false)) c.loop-i.invariant
