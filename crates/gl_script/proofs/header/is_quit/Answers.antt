use Rattle.std.proofs.Common.{rules}
use Rattle.gl_protocol.specs.Framing.Header.{is_quit_line}
use Rattle.gl_script.proofs.header.is_quit.Goals as goal

pub returns : goal.returns
unfolding is_quit_line
returns c = search rules
