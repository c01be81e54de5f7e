use Rattle.std.proofs.Common.{◌∙◌}
use Rattle.gl_cert.proofs.Members.{any_member}
use Rattle.gl_cert.proofs.loops.is_among.Goals as goal

pub returns : goal.returns
returns c = c.contains.ensures ∙ any_member c.args.keys.now.keys c.args.key.now
