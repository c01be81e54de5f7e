use Rattle.std.proofs.Common.{◌≡◌, subst, sym, arith, w64}
use mir.Val as mv
use Rattle.gl_lex.specs.Front.{IsFront}
use Rattle.gl_lex.specs.declared.Kind.TheVariants as k
use Rattle.gl_lex.proofs.Fronts.{number_is, number_is_not}
use Rattle.gl_lex.proofs.scan.number.Goals as goal

pub returns-in-Some : goal.returns-in-Some
returns-in-Some c =
    let back : mv.to_z w64 (mv.of_z w64 c.in-Some.v) ≡ c.in-Some.v = grind (arith, c.in-Some.ensures.0, c.in-Some.ensures.1) in
    subst (λ z. IsFront c.args.bytes.now (k.Integer z) c.row-n.result) (sym back) (number_is c.args.bytes.now c.row-n.result c.in-Some.v c.requires.some c.requires.digit c.row-n.ensures.value c.in-Some.ensures.0 c.in-Some.ensures.1)

pub returns-in-None : goal.returns-in-None
returns-in-None c = number_is_not c.args.bytes.now c.row-n.result c.requires.some c.requires.digit c.row-n.ensures.value c.in-None.ensures
