use Rattle.std.proofs.Common.{refl, ap, subst, ◌∙◌, arith}
use Rattle.std.specs.Str.{IsUtf8}
use Rattle.std.proofs.lemmas.Str.{IsUtf8-string_bytes}
use Rattle.gl_lex.proofs.Texts.{text_is, torn_not, long_not, bytes_not}
use Rattle.gl_lex.proofs.scan.quoted.Goals as goal

pub returns-in_default : goal.returns-in_default
returns-in_default c = (torn_not c.args.rest.now (rw c.in_default.is at c.in_ok-decoded.ensures.value), refl)

pub returns-then-len-gt-MAX_TEXT : goal.returns-then-len-gt-MAX_TEXT
returns-then-len-gt-MAX_TEXT c =
    let scanned = rw c.in-Some.is at c.in_ok-decoded.ensures.value in
    (long_not c.args.rest.now c.in-Some.decoded.items c.in-Some.n scanned (omega (arith, c.len.ensures, c.if-len-gt-MAX_TEXT.true, c.in-Some.decoded.ok.0)), refl)

pub returns-in-Ok : goal.returns-in-Ok
returns-in-Ok c =
    let scanned = rw c.in-Some.is at c.in_ok-decoded.ensures.value in
    let same = ap (λ v. v.items) c.in-Ok.ensures.ok in
    text_is c.args.rest.now c.in-Some.decoded.items c.in-Some.n c.in_ok-from_string-in-Ok.field-0 scanned
    (subst IsUtf8 same (IsUtf8-string_bytes c.in-Ok.text)) (omega (arith, c.len.ensures, c.if-len-gt-MAX_TEXT.false, c.in-Some.decoded.ok.0)) (c.in_ok-from_string-in-Ok.ensures.ok ∙ same)

pub returns : goal.returns
returns c =
    let scanned = rw c.in-Some.is at c.in_ok-decoded.ensures.value in
    (bytes_not c.args.rest.now c.in-Some.decoded.items c.in-Some.n scanned (λ u. cc (c.in-Err.ensures.succeeds u)), refl)
