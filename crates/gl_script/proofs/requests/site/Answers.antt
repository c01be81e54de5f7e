use Rattle.gl_script.proofs.Lines.{site_asks, site_refused}
use Rattle.gl_script.proofs.requests.site.Goals as goal

pub returns-in-Some : goal.returns-in-Some
returns-in-Some c = λ l h. site_asks l c.args.digits.now c.in-Some.n h c.in-Some.ensures

pub returns-in-None : goal.returns-in-None
returns-in-None c = λ l h. site_refused l c.args.digits.now h c.in-None.ensures
