use Rattle.std.proofs.Common.{◌≡◌, ◌≤◌, length, arith, rules}
use Rattle.std.proofs.lemmas.Str.{chars_from_encodes, encodes-chars, length-le-encodes}
use Rattle.std.specs.Str.{chars}
use Rattle.gl_funs.proofs.texts.characters.Goals as goal

pub returns-clause-count : goal.returns-clause-count
returns-clause-count c = search (rules, chars_from_encodes)

pub returns-clause-few : goal.returns-clause-few
returns-clause-few c =
    let text = c.args.text.now in
    let count : c.count.result ≡ length (chars text) = returns-clause-count c in
    let less : length (chars text) ≤ length text = rw (encodes-chars text c.utf8.text) at (length-le-encodes (chars text)) in
    omega (arith, count, less)
