use Rattle.gl_script.proofs.Alone.{one_header, header_alone}
use Rattle.gl_script.proofs.laws.one_header.Goals as goal

pub returns-clause-header : goal.returns-clause-header
returns-clause-header c = one_header

pub returns-clause-apart : goal.returns-clause-apart
returns-clause-apart c = header_alone
