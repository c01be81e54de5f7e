use Rattle.std.proofs.Common.{◌≡◌, ◌∙◌, length, true, false, ap, refl, FitsSigned, rules}
use Rattle.std.proofs.lemmas.Int.{to_z-of_z, to_z_pos}
use Rattle.std.specs.Fmt.{signed_decimal}
use Rattle.std.specs.Int.{w64}
use Rattle.gl_value.specs.Forms.{scalar_tree-Blank, scalar_tree-Int, scalar_tree-Bool, scalar_tree-Text}
use Rattle.gl_funs.proofs.Characters.{len_blank, len_int, len_true, len_false}
use Rattle.gl_funs.proofs.texts.len.Goals as goal

pub overflow_cast-result : goal.overflow_cast-result
overflow_cast-result c = record { sfits = c.characters.ensures.few }

pub returns-in-Blank-clause-value : goal.returns-in-Blank-clause-value
returns-in-Blank-clause-value c = rw (c.in-Blank.is, scalar_tree-Int, scalar_tree-Blank) len_blank

pub returns-in-Int-clause-value : goal.returns-in-Int-clause-value
returns-in-Int-clause-value c =
    let n = c.in-Int.n in
    let fits : FitsSigned w64 n = search rules in
    let digits : c.decimal_len.result ≡ length (signed_decimal n) = c.decimal_len.ensures ∙ ap (λ k. length (signed_decimal k)) (to_z-of_z w64 n fits) in
    let same : FitsSigned w64 c.from.result = record { sfits = c.from.type_inv } in
    rw (c.in-Int.is, scalar_tree-Int n, scalar_tree-Int, to_z-of_z w64 c.from.result same, c.from.ensures, digits) (len_int n fits)

pub returns-in-Bool-true-clause-value : goal.returns-in-Bool-true-clause-value
returns-in-Bool-true-clause-value c =
    let known : c.in-Bool-true.field-0 ≡ true = search rules in
    rw (c.in-Bool-true.is, scalar_tree-Int, scalar_tree-Bool, known) len_true

pub returns-in-Bool-false-clause-value : goal.returns-in-Bool-false-clause-value
returns-in-Bool-false-clause-value c =
    let known : c.in-Bool-false.field-0 ≡ false = search rules in
    rw (c.in-Bool-false.is, scalar_tree-Int, scalar_tree-Bool, known) len_false

pub returns-in-Text-clause-value : goal.returns-in-Text-clause-value
returns-in-Text-clause-value c =
    rw (c.in-Text.is, scalar_tree-Int, scalar_tree-Text, to_z_pos w64 c.characters.result c.characters.ensures.few, c.characters.ensures.count, c.as_str.ensures.value) refl
