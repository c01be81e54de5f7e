use Rattle.std.proofs.Common.{◌<◌, ◌∷◌, ◌∙◌, sym, ap, length, arith, Some, None, lit<, refl}
use Rattle.std.specs.Prelude.{codes}
use Rattle.std.proofs.lemmas.Str.Pattern.{split_parts}
use Rattle.gl_protocol.specs.Framing.Pieces.{pieces}
use Rattle.gl_protocol.specs.Framing.Header.{count_by}
use Rattle.gl_script.proofs.Headers.{count_behind, pieces-none}
use Rattle.gl_script.proofs.header.count_behind_place.Goals as goal

pub returns-else-is_empty-clause-value : goal.returns-else-is_empty-clause-value
returns-else-is_empty-clause-value c =
    let parts = split_parts 32 c.args.rest.now (Some (c.in-Some.place, c.in-Some.count)) c.in-Some.ensures.cases (lit< tt) in
    let some : 0 < length c.in-Some.place.now = grind arith in
    c.count_of.ensures.value ∙ sym (ap (λ t. count_by (codes "import" ∷ pieces 32 t)) parts.0 ∙ count_behind c.in-Some.place.now c.in-Some.count.now parts.1 some)

pub returns-in-None-clause-value : goal.returns-in-None-clause-value
returns-in-None-clause-value c =
    let lacks = split_parts 32 c.args.rest.now None c.in-None.ensures.cases (lit< tt) in
    rw (pieces-none 32 c.args.rest.now lacks) refl
