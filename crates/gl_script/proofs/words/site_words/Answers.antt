use Rattle.gl_script.proofs.Stamped.{site_words_none, site_words_some}
use Rattle.gl_script.proofs.words.site_words.Goals as goal

pub returns-in-None : goal.returns-in-None
returns-in-None c = site_words_none c.args.site.now c.in-None.ensures

pub returns-in-Some : goal.returns-in-Some
returns-in-Some c = site_words_some c.args.site.now c.in-Some.field-0 c.in-Some.ensures
