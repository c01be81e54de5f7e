use Rattle.std.proofs.Common.{◌≡◌, option_map, ap, rules}
use Rattle.gl_ast.specs.View.{version_tree}
use Rattle.gl_run.specs.Script.{known_of}
use Rattle.gl_script.specs.Framer.{told}
use Rattle.gl_protocol.specs.Scripts.Commands.{ok_line}
use Rattle.gl_run.proofs.Acting.{acts_two, one_reply}
use Rattle.gl_run.proofs.session.Session.answer_first.Goals as goal

pub returns-then-asks_version_two-clause-acts : goal.returns-then-asks_version_two-clause-acts
returns-then-asks_version_two-clause-acts g c =
    let self = c.args.self.now in
    let e : c.in_ok-to_vec.field-0.items ≡ ok_line = search rules in
    rw e (acts_two (told c.args.ended self.framer) (known_of self.script) c.args.steps.now c.asks_version_two.result c.asks_version_two.ensures c.if-asks_version_two.true)

pub returns-clause-acts : goal.returns-clause-acts
returns-clause-acts g c =
    let self = c.args.self.now in
    one_reply _ (known_of self.script) (known_of c.answer_in.new.self.script) c.args.steps.now c.answer_in.new.steps c.answer_in.result (told c.args.ended self.framer) c.asks_version_two.result c.asks_version_two.ensures c.if-asks_version_two.false
    (option_map version_tree c.answer_in.new.self.version) (ap (option_map version_tree) c.answer_in.ensures.version) c.answer_in.ensures.acts c.answer_in.ensures.spends
