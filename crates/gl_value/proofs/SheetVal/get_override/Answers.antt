use Rattle.std.proofs.Common.{◌<◌, rules, length}
use Rattle.std.proofs.lemmas.List.Sorted.{answers_always}
use Rattle.gl_value.specs.Forms.{sheet_tree_is}
use Rattle.gl_value.specs.Sound.{sheet_facts}
use Rattle.gl_value.proofs.Finding.{found, not_found}
use Rattle.gl_value.proofs.SheetVal.get_override.Goals as goal

-- the closure gives an override's address, and the slice is the list of overrides
pub returns-in-Ok : goal.returns-in-Ok
returns-in-Ok c =
    let s = c.args.self.now in
    let facts = sheet_facts s c.requires in
    let at = c.in-Ok.ensures.position (λ o. o.0) (answers_always _ _ _ (λ f a r g called. search rules)) in
    let bound : c.in-Ok.i < length s.overrides.items = rw c.deref.ensures.value at c.in-Ok.ensures.bound in
    rw (sheet_tree_is s) (found s.region s.overrides.items c.args.a c.in-Ok.i c.index.result.now facts.inside bound (rw c.deref.ensures.value at at) c.index.ensures)

pub returns-in-Err : goal.returns-in-Err
returns-in-Err c =
    let s = c.args.self.now in
    let facts = sheet_facts s c.requires in
    let place = c.in-Err.ensures.position (λ o. o.0) (answers_always _ _ _ (λ f a r g called. search rules)) in
    rw (sheet_tree_is s) (not_found s.region s.overrides.items c.args.a c.in-Err.field-0 facts.inside (rw c.deref.ensures.value at place))
