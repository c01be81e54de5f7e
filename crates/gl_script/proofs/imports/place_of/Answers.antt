use Rattle.std.proofs.Common.{◌≡◌, ◌∙◌, MatchOption, sym, ap, subst}
use Rattle.gl_language.specs.Texts.Text.{Bytes}
use Rattle.gl_protocol.specs.Scripts.Commands.{IsAddress, NoAddress}
use Rattle.gl_script.specs.Parts.{words_tree}
use Rattle.gl_script.proofs.Lines.{option_cases}
use Rattle.gl_script.proofs.HeaderWords.{same_place}
use Rattle.gl_script.proofs.imports.place_of.Goals as goal

pub returns-in-Import : goal.returns-in-Import
returns-in-Import c = λ place count h.
    let p = c.in-Import.place.now in
    let same : p ≡ place = same_place _ _ _ _ (ap words_tree (sym c.in-Import.is) ∙ h) in
    subst (λ (q : Bytes). MatchOption c.read_address.result (NoAddress q) (IsAddress q)) same
    (option_cases (λ a. IsAddress p a) (NoAddress p) c.read_address.result c.read_address.ensures.some c.read_address.ensures.none)
