use Rattle.std.proofs.Common.{◌≡◌, ◌∷◌, ◌++◌, ◌∙◌, sym, ap, true, false, arith, Some, None, lit<}
use Rattle.std.specs.Prelude.{codes, bytes_eq}
use Rattle.std.specs.Str.{is_utf8}
use Rattle.std.proofs.lemmas.Str.{is_utf8-from_IsUtf8}
use Rattle.std.proofs.lemmas.Str.Pattern.{split_parts}
use Rattle.gl_protocol.specs.Framing.Header.{payload_len}
use Rattle.gl_script.proofs.Headers.{len_of_import, len_of_other, len_of_word, len_of_bytes, not_utf8}
use Rattle.gl_script.proofs.header.payload_due.Goals as goal

pub returns-in-Err-clause-value : goal.returns-in-Err-clause-value
returns-in-Err-clause-value c = sym (len_of_bytes c.args.line.now (not_utf8 c.args.line.now c.in-Err.ensures.cases.0))

pub returns-then-ne-clause-value : goal.returns-then-ne-clause-value
returns-then-ne-clause-value c =
    let parts = split_parts 32 c.in-Ok.text.now (Some (c.in-Some.word, c.in-Some.rest)) c.in-Some.ensures.cases (lit< tt) in
    let e : bytes_eq c.in-Some.word.now (codes "import") ≡ false = grind arith in
    sym (ap payload_len (sym c.in-Ok.ensures.cases.0 ∙ parts.0) ∙ len_of_other c.in-Some.word.now c.in-Some.rest.now parts.1 e)

pub returns-else-ne-clause-value : goal.returns-else-ne-clause-value
returns-else-ne-clause-value c =
    let parts = split_parts 32 c.in-Ok.text.now (Some (c.in-Some.word, c.in-Some.rest)) c.in-Some.ensures.cases (lit< tt) in
    let e : bytes_eq c.in-Some.word.now (codes "import") ≡ true = grind arith in
    let whole = sym c.in-Ok.ensures.cases.0 ∙ parts.0 in
    let text : is_utf8 (c.in-Some.word.now ++ 32 ∷ c.in-Some.rest.now) ≡ true = ap is_utf8 (sym whole) ∙ is_utf8-from_IsUtf8 c.args.line.now c.in-Ok.ensures.cases.1 in
    c.count_behind_place.ensures.value ∙ sym (ap payload_len whole ∙ len_of_import c.in-Some.word.now c.in-Some.rest.now text parts.1 e)

pub returns-in-None-clause-value : goal.returns-in-None-clause-value
returns-in-None-clause-value c =
    let lacks = split_parts 32 c.in-Ok.text.now None c.in-None.ensures.cases (lit< tt) in
    sym (ap payload_len (sym c.in-Ok.ensures.cases.0) ∙ len_of_word c.in-Ok.text.now lacks)
