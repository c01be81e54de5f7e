use Rattle.std.proofs.Common.{◌∙◌, ap, sym, option_copied}
use Rattle.gl_undo.specs.Sides.{changes_on}
use Rattle.gl_undo.proofs.Histories.{told, told_none}
use Rattle.gl_undo.proofs.history.contents.Goals as goal

pub returns-in_ok-contents-in-Some : goal.returns-in_ok-contents-in-Some
returns-in_ok-contents-in-Some c = λ steps h.
    let list = c.in_ok-contents-in-Some.ensures in
    let latest = sym (ap option_copied c.in-Some.is) ∙ h in
    told (changes_on c.args.side) steps c.in-Some.step.now c.in_ok-contents-in-Some.field-0 latest list.value list.apart list.proper

pub returns-in-None : goal.returns-in-None
returns-in-None c = λ steps h. told_none (changes_on c.args.side) steps (sym (ap option_copied c.in-None.is) ∙ h)
