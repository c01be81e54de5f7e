use Rattle.gl_lex.proofs.Once.{one_token_list, one_lex_fault, tokens_or_fault}
use Rattle.gl_lex.proofs.laws.one_reading.Goals as goal

pub returns-clause-list : goal.returns-clause-list
returns-clause-list c = one_token_list

pub returns-clause-fault : goal.returns-clause-fault
returns-clause-fault c = one_lex_fault

pub returns-clause-apart : goal.returns-clause-apart
returns-clause-apart c = tokens_or_fault
