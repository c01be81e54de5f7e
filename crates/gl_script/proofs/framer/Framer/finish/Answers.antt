use Rattle.std.proofs.Common.{sym, ap, ◌∙◌, Some}
use Rattle.gl_script.specs.FeedView.{begun_of}
use Rattle.gl_script.specs.Framer.{stream_at, told}
use Rattle.gl_script.proofs.Agrees.{ends_line, ends_long, or_truncated, or_truncated-told}
use Rattle.gl_script.proofs.framer.Framer.finish.Goals as goal

pub returns-in-Nothing : goal.returns-in-Nothing
returns-in-Nothing c =
    let e = ends_line c.finish.new.self (begun_of c.args.self.now.feed) c.args.self.now.header.items (stream_at c.end_line.new.self) (told c.in_ok-ended-in-Line.ended c.end_line.new.self) c.finish.ensures.seen (sym c.finish.ensures.event ∙ c.in-Line.is) c.in_ok-ended-in-Line.ensures in
    e ∙ ap (λ x. Some (or_truncated (told x c.end_line.new.self))) c.in-Nothing.is

pub returns-in_default : goal.returns-in_default
returns-in_default c =
    let e = ends_line c.finish.new.self (begun_of c.args.self.now.feed) c.args.self.now.header.items (stream_at c.end_line.new.self) (told c.in_ok-ended-in-Line.ended c.end_line.new.self) c.finish.ensures.seen (sym c.finish.ensures.event ∙ c.in-Line.is) c.in_ok-ended-in-Line.ensures in
    e ∙ or_truncated-told c.in_ok-ended-in-Line.ended c.end_line.new.self c.in_default.not-Nothing

pub returns-in-Long : goal.returns-in-Long
returns-in-Long c =
    ends_long c.finish.new.self (begun_of c.args.self.now.feed) c.args.self.now.header.items c.finish.ensures.seen (sym c.finish.ensures.event ∙ c.in-Long.is)
