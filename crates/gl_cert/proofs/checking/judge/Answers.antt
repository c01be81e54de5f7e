use Rattle.std.proofs.Common.{None, option_map, ap, sym, ◌∙◌}
use Rattle.gl_calculus.specs.Explanation.Certificate.{judged, says_so}
use Rattle.gl_value.specs.Made.{shown_tree}
use Rattle.gl_cert.proofs.Shown.{right, wrong}
use Rattle.gl_cert.proofs.checking.judge.Goals as goal

pub returns-then-eq : goal.returns-then-eq
returns-then-eq c = right c.args.c.now.shown c.in-Some.x c.eq.result c.eq.ensures c.if-eq.true ∙ ap (λ o. judged None None (says_so (shown_tree c.args.c.now.shown) (option_map shown_tree o))) (sym c.in-Some.is)

pub returns-else-eq : goal.returns-else-eq
returns-else-eq c = wrong c.args.c.now.shown c.in-Some.x c.eq.result c.eq.ensures c.if-eq.false ∙ ap (λ o. judged None None (says_so (shown_tree c.args.c.now.shown) (option_map shown_tree o))) (sym c.in-Some.is)
