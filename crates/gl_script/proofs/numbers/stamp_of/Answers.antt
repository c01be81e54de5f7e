use Rattle.gl_script.proofs.Stamped.{stamp_no_time, stamp_no_site, stamp_read}
use Rattle.gl_script.proofs.numbers.stamp_of.Goals as goal

pub returns-in-None : goal.returns-in-None
returns-in-None c = λ n. stamp_no_time c.args.time.now c.args.site.now n c.in-None.ensures

pub returns-in-None-site_of : goal.returns-in-None-site_of
returns-in-None-site_of c = λ n. stamp_no_site c.args.time.now c.args.site.now n c.in-None-site_of.ensures

pub returns-in-Some-site_of : goal.returns-in-Some-site_of
returns-in-Some-site_of c = λ n. stamp_read c.args.time.now c.args.site.now n c.in-Some.time c.in-Some-site_of.site c.in-Some.ensures c.in-Some-site_of.ensures
