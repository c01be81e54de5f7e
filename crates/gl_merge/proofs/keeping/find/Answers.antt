use Rattle.std.proofs.Common.{◌∙◌, sym, ap, option_map}
use Rattle.gl_merge.specs.Edit.{edit_tree}
use Rattle.gl_merge.proofs.Listed.{found_register, gap_register}
use Rattle.gl_merge.proofs.keeping.find.Goals as goal

pub returns-in-Found : goal.returns-in-Found
returns-in-Found c = ap (option_map edit_tree) c.register.ensures ∙ sym (found_register c.args.edits.now c.args.index.now c.requires c.args.a c.in-Found.i c.in-Found.ensures)

pub returns-in-Gap : goal.returns-in-Gap
returns-in-Gap c = sym (gap_register c.args.edits.now c.args.index.now c.requires c.args.a c.in-Gap.field-0 c.in-Gap.ensures)
