use Rattle.std.proofs.Common.{◌∙◌, sym}
use Rattle.gl_value.specs.View.{scalar_tree}
use Rattle.gl_script.proofs.Contents.{plain_content, number_content, field_content}
use Rattle.gl_script.proofs.content.read_plain.Goals as goal

pub returns-then-text-le-MAX_TEXT : goal.returns-then-text-le-MAX_TEXT
returns-then-text-le-MAX_TEXT c = λ some. (
  plain_content c.args.text.now (scalar_tree c.in_ok-x.x) some c.requires.no_formula c.requires.no_literal c.in_ok-x.ensures.value c.if-text-le-MAX_TEXT.true,
  c.in_ok-x.ensures.proper c.if-text-le-MAX_TEXT.true,
)

pub returns-then-is_int : goal.returns-then-is_int
returns-then-is_int c = λ some.
    number_content c.args.text.now (scalar_tree c.in_ok-x.x) some c.requires.no_formula c.requires.no_literal c.in_ok-x.ensures.value c.if-text-le-MAX_TEXT.false (sym c.is_int.ensures ∙ c.if-is_int.true)

pub returns-else-is_int : goal.returns-else-is_int
returns-else-is_int c = λ some.
    field_content c.args.text.now (scalar_tree c.in_ok-x.x) some c.requires.no_formula c.requires.no_literal c.in_ok-x.ensures.value c.if-text-le-MAX_TEXT.false (sym c.is_int.ensures ∙ c.if-is_int.false)
