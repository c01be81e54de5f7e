use Rattle.std.proofs.Common.{◌∙◌, sym}
use Rattle.std.proofs.lemmas.Str.{is_utf8-from_IsUtf8}
use Rattle.gl_script.proofs.Lines.{version_is, no_words}
use Rattle.gl_script.proofs.requests.command_of_text.Goals as goal

pub returns-then-eq : goal.returns-then-eq
returns-then-eq c = λ n. version_is c.args.text.now n (is_utf8-from_IsUtf8 c.args.text.now c.utf8.text) (sym c.eq.ensures ∙ c.if-eq.true)

pub returns-in-Some : goal.returns-in-Some
returns-in-Some c = λ n.
    c.read_words.ensures c.args.text.now (record { no_comment = n; text = is_utf8-from_IsUtf8 c.args.text.now c.utf8.text; words = sym c.in-Some.ensures })

pub returns-in-None : goal.returns-in-None
returns-in-None c = λ n. no_words c.args.text.now n (is_utf8-from_IsUtf8 c.args.text.now c.utf8.text) c.in-None.ensures (sym c.eq.ensures ∙ c.if-eq.false)
