use Rattle.gl_protocol.specs.Scripts.Commands.{Is}
use Rattle.gl_script.specs.Asked.{asked_words, asked_request}
use Rattle.gl_script.proofs.Lines.{line_reads, no_place, asked_reads, asked_nowhere}
use Rattle.gl_script.proofs.requests.ask.Goals as goal

pub returns-in-Some : goal.returns-in-Some
returns-in-Some c = λ l h.
    let reads = asked_reads c.args.asked c.args.place.now c.in-Some.a c.in-Some.ensures.some in
    c.asked_of.ensures l (line_reads l (asked_words c.args.asked c.args.place.now) (Is (asked_request c.args.asked c.in-Some.a)) h reads)

pub returns-in-None : goal.returns-in-None
returns-in-None c = λ l h. no_place l (asked_words c.args.asked c.args.place.now) h (asked_nowhere c.args.asked c.args.place.now c.in-None.ensures.none)
