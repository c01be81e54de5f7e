use Rattle.std.proofs.Common.{None, lit<}
use Rattle.std.proofs.lemmas.Str.Pattern.{strip_prefix_char}
use Rattle.gl_script.proofs.Contents.{no_formula}
use Rattle.gl_script.proofs.content.read_content.Goals as goal

pub read_plain-requires-clause-no_formula : goal.read_plain-requires-clause-no_formula
read_plain-requires-clause-no_formula c = no_formula c.args.text.now (strip_prefix_char 61 c.args.text.now None c.in-None.ensures.cases (lit< tt))
