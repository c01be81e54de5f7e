use Rattle.gl_script.proofs.ReadsBack.{set_reads_back, import_reads_back}
use Rattle.gl_script.proofs.laws.reads_back.Goals as goal

pub returns-clause-set : goal.returns-clause-set
returns-clause-set c = set_reads_back

pub returns-clause-imported : goal.returns-clause-imported
returns-clause-imported c = import_reads_back
