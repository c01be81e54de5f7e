-- The canonical text of a well formed formula is read as this formula, and is no longer than the text that it was read from.
use Rattle.std.proofs.Common.{◌≡◌, ◌≤◌, IsFalse, [], length, refl, sym, subst, arith}
use Rattle.std.specs.Prelude.{None}
use Rattle.std.proofs.lemmas.List.{append-nil}
use Rattle.gl_calculus.specs.Grid.Limits.{max_formula}
use Rattle.gl_language.specs.Texts.Text.{formula_text}
use Rattle.gl_language.specs.Texts.Canonical.{formula_tokens, HasTokens}
use Rattle.gl_language.specs.Reading.Grammar.{Raw, Tokens, IsExpr, is_deep, form_fault, tree, Parses}
use Rattle.laws_language.specs.Formulas.{PrintsBack}
use Rattle.gl_lex.proofs.Back.{canonical_is_lexed}
use Rattle.laws_language.specs.WellFormed.{WellFormedHasTokens, WellFormedParses}
use Rattle.laws_language.proofs.Grammar.Named.{is_named}
use Rattle.laws_language.proofs.Grammar.Made.{AreTokens, expr_made, has_tokens}
use Rattle.laws_language.proofs.Grammar.Back.{canonical_read}
use Rattle.laws_language.proofs.Grammar.Sizes.{size, text_size, lexes_size}
use Rattle.laws_language.proofs.Grammar.Kept.{Kept, at_start, expr_kept}
use Rattle.laws_language.proofs.Grammar.Readings.{read_tokens}

-- tokens that are read as a form without faults
module _ (ts : Tokens) (raw : Raw) (tokens : AreTokens ts) (not_deep : IsFalse (is_deep ts)) (form : IsExpr ts raw []) (no_fault : form_fault raw ≡ None) where
  raw_has_tokens : HasTokens (tree raw)
  raw_has_tokens = has_tokens raw (expr_made form tokens).0 (is_named raw no_fault)

  raw_kept : Kept 0 0 0 0 (formula_tokens (tree raw)) ts []
  raw_kept = subst (λ z. Kept 0 0 0 0 z ts []) (at_start (tree raw)) (expr_kept form (is_named raw no_fault) 0 0 0 0 0 (record { opened = omega arith; most = omega arith; row = omega arith; short = omega arith }) not_deep)

  raw_shallow : IsFalse (is_deep (formula_tokens (tree raw)))
  raw_shallow = subst (λ z. IsFalse (is_deep z)) (append-nil (formula_tokens (tree raw))) (raw_kept.shallow [] refl)

  raw_form : IsExpr (formula_tokens (tree raw)) raw []
  raw_form = subst (λ z. IsExpr z raw []) (append-nil (formula_tokens (tree raw))) (canonical_read raw (expr_made form tokens).0 (is_named raw no_fault) [])

  -- the canonical text is no longer than the spellings of the tokens read
  raw_size : length (formula_text (tree raw)) ≤ size ts
  raw_size = omega (arith, text_size (tree raw) raw_has_tokens 0, raw_kept.no_longer)

  raw_parses : length (formula_text (tree raw)) ≤ max_formula → Parses (formula_text (tree raw)) (tree raw)
  raw_parses short = record {
    short = short;
    tokens = formula_tokens (tree raw);
    lexes = canonical_is_lexed (tree raw) raw_has_tokens;
    not_deep = raw_shallow;
    raw = raw;
    form = raw_form;
    no_fault = no_fault;
    is_tree = refl;
  }

pub well_formed_has_tokens : WellFormedHasTokens
well_formed_has_tokens f (ts, raw, tokens, not_deep, form, no_fault, is_tree) = subst HasTokens (sym is_tree) (raw_has_tokens ts raw tokens not_deep form no_fault)

pub well_formed_parses : WellFormedParses
well_formed_parses f (ts, raw, tokens, not_deep, form, no_fault, is_tree) short =
    subst (λ z. length (formula_text z) ≤ max_formula → Parses (formula_text z) z) (sym is_tree) (raw_parses ts raw tokens not_deep form no_fault) short

pub prints_back : PrintsBack
prints_back text f p =
    let tokens = read_tokens p.lexes in
    let l : length (formula_text (tree p.raw)) ≤ length text = omega (arith, raw_size p.tokens p.raw tokens p.not_deep p.form p.no_fault, lexes_size text p.tokens p.lexes) in
    subst (λ z. Parses (formula_text z) z × (length (formula_text z) ≤ length text)) (sym p.is_tree)
    (raw_parses p.tokens p.raw tokens p.not_deep p.form p.no_fault (omega (arith, l, p.short)), l)
