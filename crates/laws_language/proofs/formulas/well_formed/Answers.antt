use Rattle.laws_language.proofs.Grammar.Readings.{reads_well_formed}
use Rattle.laws_language.proofs.Grammar.Printed.{well_formed_has_tokens, well_formed_parses}
use Rattle.laws_language.proofs.formulas.well_formed.Goals as goal

pub returns-clause-reads : goal.returns-clause-reads
returns-clause-reads g = reads_well_formed

pub returns-clause-tokens : goal.returns-clause-tokens
returns-clause-tokens g = well_formed_has_tokens

pub returns-clause-parses : goal.returns-clause-parses
returns-clause-parses g = well_formed_parses
