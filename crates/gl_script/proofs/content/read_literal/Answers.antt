use Rattle.std.proofs.Common.{subst, sym, Err}
use Rattle.gl_script.specs.Parts.{IsContent}
use Rattle.gl_script.specs.declared.requests.CommandFault.{CommandFault}
use Rattle.gl_value.specs.Forms.{scalar_tree-Text}
use Rattle.std.specs.Rc.{rc_str_bytes}
use Rattle.gl_script.proofs.Contents.{literal_content, fault_of_literal}
use Rattle.gl_script.proofs.content.read_literal.Goals as goal

pub returns-in-Ok : goal.returns-in-Ok
returns-in-Ok c = literal_content c.args.text.now (rc_str_bytes c.in-Ok.decoded) _ c.in-Ok.ensures (scalar_tree-Text c.in-Ok.decoded)

pub returns-in-Err : goal.returns-in-Err
returns-in-Err c = subst (λ (e : CommandFault). IsContent c.args.text.now (Err e)) (sym c.literal_fault.ensures) (fault_of_literal c.args.text.now c.in-Err.fault c.utf8.text c.requires c.in-Err.ensures)
