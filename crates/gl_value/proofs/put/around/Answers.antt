use Rattle.std.proofs.Common.{◌<◌, ◌≤◌, rules, length}
use Rattle.std.proofs.lemmas.List.Sorted.{answers_always}
use Rattle.gl_value.specs.Sound.{sheet_facts}
use Rattle.gl_value.proofs.Finding.{places_found, places_absent}
use Rattle.gl_value.proofs.put.around.Goals as goal

pub returns-in-Ok-clause-first : goal.returns-in-Ok-clause-first
returns-in-Ok-clause-first c =
    let s = c.args.s.now in
    let at = c.in-Ok.ensures.position (λ o. o.0) (answers_always _ _ _ (λ f a r g called. search rules)) in
    let bound : c.in-Ok.i < length s.overrides.items = rw c.deref.ensures.value at c.in-Ok.ensures.bound in
    (places_found s.region s.overrides.items c.args.a c.in-Ok.i (sheet_facts s c.requires).inside bound (rw c.deref.ensures.value at at)).0

pub returns-in-Ok-clause-next : goal.returns-in-Ok-clause-next
returns-in-Ok-clause-next c =
    let s = c.args.s.now in
    let at = c.in-Ok.ensures.position (λ o. o.0) (answers_always _ _ _ (λ f a r g called. search rules)) in
    let bound : c.in-Ok.i < length s.overrides.items = rw c.deref.ensures.value at c.in-Ok.ensures.bound in
    (places_found s.region s.overrides.items c.args.a c.in-Ok.i (sheet_facts s c.requires).inside bound (rw c.deref.ensures.value at at)).1

pub returns-in-Err-clause-first : goal.returns-in-Err-clause-first
returns-in-Err-clause-first c =
    let s = c.args.s.now in
    let place = c.in-Err.ensures.position (λ o. o.0) (answers_always _ _ _ (λ f a r g called. search rules)) in
    let bound : c.in-Err.i ≤ length s.overrides.items = rw c.deref.ensures.value at c.in-Err.ensures.bound in
    (places_absent s.region s.overrides.items c.args.a c.in-Err.i (sheet_facts s c.requires).inside bound (rw c.deref.ensures.value at place)).0

pub returns-in-Err-clause-next : goal.returns-in-Err-clause-next
returns-in-Err-clause-next c =
    let s = c.args.s.now in
    let place = c.in-Err.ensures.position (λ o. o.0) (answers_always _ _ _ (λ f a r g called. search rules)) in
    let bound : c.in-Err.i ≤ length s.overrides.items = rw c.deref.ensures.value at c.in-Err.ensures.bound in
    (places_absent s.region s.overrides.items c.args.a c.in-Err.i (sheet_facts s c.requires).inside bound (rw c.deref.ensures.value at place)).1
