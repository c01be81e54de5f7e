use Rattle.std.proofs.Common.{◌∙◌, option_map, ap}
use Rattle.gl_ast.specs.View.{version_tree}
use Rattle.gl_run.specs.Script.{known_of}
use Rattle.gl_script.specs.Framer.{told}
use Rattle.gl_run.proofs.Acting.{later_reply}
use Rattle.gl_run.proofs.session.Session.answer.Goals as goal

pub returns-in-Some-clause-acts : goal.returns-in-Some-clause-acts
returns-in-Some-clause-acts g c =
    let self = c.args.self.now in
    let new = c.answer_in.new.self in
    later_reply _ (known_of self.script) (known_of new.script) c.args.steps.now c.answer_in.new.steps c.answer_in.result (told c.args.ended self.framer) (version_tree c.in-Some.version) (option_map version_tree self.version) (option_map version_tree new.version)
    (ap (option_map version_tree) c.in-Some.is) (ap (option_map version_tree) (c.answer_in.ensures.version ∙ c.in-Some.is)) c.answer_in.ensures.acts c.answer_in.ensures.spends
