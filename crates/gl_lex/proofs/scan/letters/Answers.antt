use Rattle.gl_lex.proofs.Letters.{word_is, address_is, letters_not}
use Rattle.gl_lex.proofs.scan.letters.Goals as goal

pub returns-then-d-eq0 : goal.returns-then-d-eq0
returns-then-d-eq0 c = word_is c.args.bytes.now c.requires.some c.requires.letter c.word.result c.row-w.result c.row-d.result c.row-w.ensures.value c.row-d.ensures.value c.if-d-eq0.true c.word.ensures

pub returns-in-Some : goal.returns-in-Some
returns-in-Some c = address_is c.args.bytes.now c.requires.some c.requires.letter c.in-Some.a c.row-w.result c.row-d.result c.row-w.ensures.value c.row-d.ensures.value c.row-d.ensures.within c.in-Some.ensures.some c.in-Some.ensures.on_grid

pub returns-in-None : goal.returns-in-None
returns-in-None c = letters_not c.args.bytes.now c.requires.some c.requires.letter c.row-w.result c.row-d.result c.row-w.ensures.value c.row-d.ensures.value c.if-d-eq0.false c.in-None.ensures.none
