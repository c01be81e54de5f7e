use Rattle.laws_protocol.proofs.Scripts.Errors.{errors_are_refusals, refusals_are_errors}
use Rattle.laws_protocol.proofs.replies.only_errors_refuse.Goals as goal

pub returns-clause-errors : goal.returns-clause-errors
returns-clause-errors g = errors_are_refusals

pub returns-clause-refusals : goal.returns-clause-refusals
returns-clause-refusals g = refusals_are_errors
