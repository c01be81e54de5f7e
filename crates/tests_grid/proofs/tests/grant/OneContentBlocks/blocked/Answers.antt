use Rattle.std.proofs.Common.{◌∙◌, sym}
use Rattle.gl_calculus.proofs.Tests.{addr_exact}
use Rattle.tests_grid.proofs.OneContent.{not_covered, none_but_root, found_there, is_not_root}
use Rattle.tests_grid.proofs.tests.grant.OneContentBlocks.blocked.Goals as goal

pub returns-then-not-covers : goal.returns-then-not-covers
returns-then-not-covers c = not_covered c.args.self.now.at c.args.root c.args.area.now (sym c.covers.ensures ∙ c.if-not-covers.true)

pub returns-then-eq : goal.returns-then-eq
returns-then-eq c = none_but_root c.args.self.now.at c.args.root c.args.area.now (addr_exact c.args.self.now.at c.args.root (sym c.eq.ensures ∙ c.if-eq.true))

pub returns : goal.returns
returns c = found_there c.args.self.now.at c.args.root c.args.area.now (sym c.covers.ensures ∙ c.if-not-covers.false) (is_not_root c.args.self.now.at c.args.root (sym c.eq.ensures ∙ c.if-eq.false))
