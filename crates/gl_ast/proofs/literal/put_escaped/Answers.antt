use Rattle.std.proofs.Common.{ap, sym, ◌∙◌, ◌++◌, length, drop, arith}
use Rattle.std.proofs.lemmas.List.{length_push}
use Rattle.std.proofs.lemmas.Iterator.{YieldsList-from_chars}
use Rattle.std.proofs.lemmas.Iterator.Consumers.{YieldsList-turn, YieldsList-end}
use Rattle.std.specs.String.{string_bytes}
use Rattle.std.specs.Str.{chars}
use Rattle.gl_ast.proofs.Escapes.{escapes, escapes_start, escapes_step, escapes_end}
use Rattle.gl_ast.proofs.literal.put_escaped.Goals as goal

pub loop-c-init : goal.loop-c-init
loop-c-init c = ap (λ z. string_bytes c.args.out.now ++ z) (escapes_start c.args.t.now c.utf8.t)

pub loop-c-preserved : goal.loop-c-preserved
loop-c-preserved c =
    let t = YieldsList-turn (YieldsList-from_chars c.args.t.now c.utf8.t cc) c.loop-c.yielded _ c.loop-c.yielded_by _ _ c.in-Some.c c.in-Some.is c.next.ensures.steps in
    let n = length_push c.loop-c.yielded c.in-Some.c in
    ap (λ k. string_bytes c.put_char.new.out ++ escapes (drop k (chars c.args.t.now))) n
    ∙ escapes_step (string_bytes c.loop-c.out) (string_bytes c.put_char.new.out) (chars c.args.t.now) (length c.loop-c.yielded) c.in-Some.c t.0 t.1 c.in_ok-put_char.ensures
    ∙ c.loop-c.invariant

pub returns : goal.returns
returns c =
    let t = YieldsList-end (YieldsList-from_chars c.args.t.now c.utf8.t cc) c.loop-c.yielded _ c.loop-c.yielded_by _ _ c.in-None.is c.next.ensures.steps in
    sym (escapes_end (string_bytes c.loop-c.out) (chars c.args.t.now) (length c.loop-c.yielded) (omega (arith, t.1))) ∙ c.loop-c.invariant
