use Rattle.std.proofs.Common.{refl, drop, subst}
use Rattle.gl_lex.specs.View.{IsRefused}
use Rattle.gl_lex.proofs.Letters.{rest_is}
use Rattle.gl_lex.proofs.Lexing.{past_space, past_token, fault_here}
use Rattle.gl_lex.proofs.lexer.tokens.Goals as goal

pub loop-at-preserved-then-bytes-at-eq32 : goal.loop-at-preserved-then-bytes-at-eq32
loop-at-preserved-then-bytes-at-eq32 c = past_space c.loop-at.invariant c.loop-at-test.true c.if-bytes-at-eq32.true

pub loop-at-preserved : goal.loop-at-preserved
loop-at-preserved c =
    let bytes = c.as_bytes-bytes.result.now in
    let front = rw (rest_is bytes c.loop-at.at) at c.in-Ok.ensures in
    past_token c.loop-at.invariant c.loop-at-test.true c.if-bytes-at-eq32.false c.in-Ok.kind c.in-Ok.n _ c.push.new.self.items front refl refl refl c.in_ok-push-in-Ok.ensures.items

pub returns-in-Err : goal.returns-in-Err
returns-in-Err c =
    let bytes = c.as_bytes-bytes.result.now in
    let refuses = rw (rest_is bytes c.loop-at.at) at c.in-Err.ensures in
    let refused = c.fault.ensures bytes (drop c.loop-at.at bytes) refuses (λ f none e. fault_here c.loop-at.invariant c.loop-at-test.true c.if-bytes-at-eq32.false f none e) in
    subst (λ z. IsRefused z c.fault.result) c.as_bytes-bytes.ensures.value refused
