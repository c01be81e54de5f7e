use Rattle.std.proofs.Common.{sym, ◌∙◌, arith}
use Rattle.gl_parse.proofs.Answering.{read_is, read_rules}
use Rattle.gl_parse.proofs.reader.read.Goals as goal

pub returns-in-Ok : goal.returns-in-Ok
returns-in-Ok c = read_is c.args.text.now c.as_bytes-bytes.result.now c.args.tokens.now _ _ c.as_bytes-bytes.ensures.value c.requires.short c.requires.lexed (sym c.is_deep.ensures ∙ c.if-is_deep.false) c.in-Ok.ensures.0 c.checked.ensures

pub returns-in-Err-Syntax : goal.returns-in-Err-Syntax
returns-in-Err-Syntax c = grind (arith, read_rules)

pub returns-then-is_deep : goal.returns-then-is_deep
returns-then-is_deep c = grind (arith, read_rules)
