use Rattle.std.proofs.Common.{◌≡◌, ◌∙◌, ◌-◌, ap, sym, cond, length, take, drop}
use Rattle.std.proofs.lemmas.Grind.{common_steps}
use Rattle.std.proofs.Common.{arith}
use Rattle.gl_csvin.proofs.Reached.{strip_mark}
use Rattle.gl_csvin.proofs.records.without_mark.Goals as goal

pub returns-then-starts_with : goal.returns-then-starts_with
returns-then-starts_with c =
    let text = c.args.payload.now in
    let e = strip_mark text ∙ ap (λ b. cond b (drop 3 text) text) (sym c.starts_with.ensures.value ∙ c.if-starts_with.true) in
    let all : take (length text - 3) (drop 3 text) ≡ drop 3 text = grind (arith, common_steps) in
    all ∙ sym e

pub returns-else-starts_with : goal.returns-else-starts_with
returns-else-starts_with c =
    let text = c.args.payload.now in
    sym (strip_mark text ∙ ap (λ b. cond b (drop 3 text) text) (sym c.starts_with.ensures.value ∙ c.if-starts_with.false))
