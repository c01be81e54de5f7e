use Rattle.gl_script.proofs.Once.{one_content, one_line}
use Rattle.gl_script.proofs.laws.one_reading.Goals as goal

pub returns-clause-content : goal.returns-clause-content
returns-clause-content c = one_content

pub returns-clause-line : goal.returns-clause-line
returns-clause-line c = one_line
