use Rattle.std.proofs.Common.{sym, ◌∙◌}
use Rattle.gl_script.specs.FeedView.{begun_of}
use Rattle.gl_script.proofs.Agrees.{at_line, at_long}
use Rattle.gl_script.proofs.framer.Framer.push.Goals as goal

pub returns-in-Line : goal.returns-in-Line
returns-in-Line c =
    let e = at_line c.push.new.self (begun_of c.args.self.now.feed) c.args.b c.args.self.now.header.items c.in_ok-push.ensures.seen (sym c.in_ok-push.ensures.event ∙ c.in-Line.is) in
    rw e c.end_line.ensures

pub returns-in-Long : goal.returns-in-Long
returns-in-Long c =
    at_long c.push.new.self (begun_of c.args.self.now.feed) c.args.b c.args.self.now.header.items c.in_ok-push.ensures.seen (sym c.in_ok-push.ensures.event ∙ c.in-Long.is)
