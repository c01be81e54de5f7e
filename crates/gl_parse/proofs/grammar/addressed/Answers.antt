use Rattle.std.proofs.Common.{arith}
use Rattle.gl_parse.proofs.Rulesets.{address_rules}
use Rattle.gl_parse.proofs.grammar.addressed.Goals as goal

pub returns-in-Some-address-clause-cases : goal.returns-in-Some-address-clause-cases
returns-in-Some-address-clause-cases c = grind (arith, address_rules)

pub returns-in-Some-clause-cases : goal.returns-in-Some-clause-cases
returns-in-Some-clause-cases c = grind (arith, address_rules)

pub returns-in_default-after-clause-cases : goal.returns-in_default-after-clause-cases
returns-in_default-after-clause-cases c = grind (arith, address_rules)
