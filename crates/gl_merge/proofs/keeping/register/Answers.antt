use Rattle.std.proofs.Common.{◌∙◌, sym}
use Rattle.std.proofs.lemmas.Option.{slice_get_past}
use Rattle.gl_merge.proofs.Listed.{listed_get, listed_past}
use Rattle.gl_merge.proofs.Lists.{get_read, get_gives}
use Rattle.gl_merge.proofs.keeping.register.Goals as goal

pub returns-in-Some : goal.returns-in-Some
returns-in-Some c =
    let es = c.args.edits.now in
    let ix = c.args.index.now in
    let p = c.in-Some.field-0.now in
    let k = get_read ix c.args.i p c.in-Some.ensures.lookup.3.0 c.in-Some.ensures.lookup.1 in
    let got = get_gives es p.1 c.get-in-Some.result c.get-in-Some.ensures.lookup.0 c.get-in-Some.ensures.lookup.1 in
    got ∙ sym (listed_get es ix c.args.i p c.requires.stands k)

pub returns-in-None : goal.returns-in-None
returns-in-None c = listed_past c.args.edits.now c.args.index.now c.args.i c.requires.stands (slice_get_past c.args.index.now c.args.i c.in-None.ensures.lookup.3)
