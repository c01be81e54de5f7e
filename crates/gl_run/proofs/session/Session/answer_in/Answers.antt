use Rattle.std.specs.Prelude.{codes}
use Rattle.gl_ast.specs.View.{version_tree}
use Rattle.gl_protocol.specs.Framing.Framing.{Item}
use Rattle.gl_run.specs.Script.{known_of, script_of}
use Rattle.gl_run.proofs.Acting.{long_reply, truncated_reply}
use Rattle.gl_run.proofs.Spending.{refused_reply}
use Rattle.gl_run.proofs.session.Session.answer_in.Goals as goal

pub returns-in-Long-clause-acts : goal.returns-in-Long-clause-acts
returns-in-Long-clause-acts g c = rw c.in-Long.is (long_reply _ (script_of c.args.self.now.script) c.answer_long.result (version_tree c.args.version) c.answer_long.ensures)

pub returns-in-Truncated-clause-acts : goal.returns-in-Truncated-clause-acts
returns-in-Truncated-clause-acts g c = rw c.in-Truncated.is (truncated_reply _ (script_of c.args.self.now.script) c.answer_truncated.result (version_tree c.args.version) c.answer_truncated.ensures)

pub returns-in-Long-clause-spends : goal.returns-in-Long-clause-spends
returns-in-Long-clause-spends g c =
    rw c.in-Long.is (refused_reply (version_tree c.args.version) (known_of c.args.self.now.script) c.args.steps.now Item.Long c.answer_long.result (codes "line") c.answer_long.ensures)

pub returns-in-Truncated-clause-spends : goal.returns-in-Truncated-clause-spends
returns-in-Truncated-clause-spends g c =
    rw c.in-Truncated.is (refused_reply (version_tree c.args.version) (known_of c.args.self.now.script) c.args.steps.now Item.Truncated c.answer_truncated.result (codes "truncated") c.answer_truncated.ensures)
