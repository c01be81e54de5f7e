use Rattle.laws_calculus.proofs.SheetEdits.SheetChanges.{sets_one, sets_these, clears_these}
use Rattle.laws_calculus.proofs.sheets.edit_laws.Goals as goal

pub returns-clause-one : goal.returns-clause-one
returns-clause-one c = sets_one

pub returns-clause-these : goal.returns-clause-these
returns-clause-these c = sets_these

pub returns-clause-cleared : goal.returns-clause-cleared
returns-clause-cleared c = clears_these
