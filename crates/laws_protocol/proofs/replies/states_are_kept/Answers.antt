use Rattle.laws_protocol.proofs.Scripts.States.{acts_keep_states, scripts_keep_states, scripts_keep_sheets}
use Rattle.laws_protocol.proofs.replies.states_are_kept.Goals as goal

pub returns-clause-act : goal.returns-clause-act
returns-clause-act g = acts_keep_states

pub returns-clause-script : goal.returns-clause-script
returns-clause-script g = scripts_keep_states

pub returns-clause-sheet : goal.returns-clause-sheet
returns-clause-sheet g = scripts_keep_sheets
