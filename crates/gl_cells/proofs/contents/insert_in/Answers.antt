use Rattle.std.proofs.Common.{◌∙◌, Bool, List, Some, refl, ap, cond}
use Rattle.indexmap.specs.IndexMap.{get}
use Rattle.std.specs.BTreeMap.{is_at}
use Rattle.std.specs.Map.{keys_of, lookup}
use Rattle.gl_calculus.specs.Grid.Grid.{Addr, same_addr}
use Rattle.gl_cells.specs.Listed.{listed}
use Rattle.gl_cells.specs.Sheet.{addr_cmp}
use Rattle.gl_cells.proofs.Listing.{held, kept, written, keys_insert, listed_insert, listed_same, listed_still, listed_then, none_told, taken_back}
use Rattle.gl_cells.proofs.contents.insert_in.Goals as goal

pub returns-in_default-clause-listed : goal.returns-in_default-clause-listed
returns-in_default-clause-listed c =
    listed_still (get same_addr c.args.found.now) (get same_addr c.insert.new.self) c.args.order.now.entries c.args.order.now.entries (λ q. ap (lookup (same_addr q)) c.in_default.ensures.err) refl c.requires.listed

pub returns-in_default-clause-err : goal.returns-in_default-clause-err
returns-in_default-clause-err c =
    listed_same (get same_addr c.args.found.now) (get same_addr c.insert.new.self) (keys_of c.args.order.now.entries) (λ q. ap (lookup (same_addr q)) c.in_default.ensures.err)

pub returns-in-Ok-insert-clause-listed : goal.returns-in-Ok-insert-clause-listed
returns-in-Ok-insert-clause-listed c =
    listed_then (get same_addr c.args.found.now) (get same_addr c.insert.new.self) c.args.a (Some c.args.c) c.in-Ok.ensures.updates.0 c.args.order.now.entries c.insert-2.new.self.entries c.requires.listed c.insert-2.ensures.ordered
    (λ q. c.in-Ok-insert.ensures.updates.0 q ∙ ap (λ b. cond (is_at (addr_cmp c.args.a) q) (Some b) (lookup (is_at (addr_cmp q)) c.args.order.now.entries)) c.is_formula-formula.ensures)

pub returns-in-Ok-insert-clause-entries : goal.returns-in-Ok-insert-clause-entries
returns-in-Ok-insert-clause-entries c =
    let f = get same_addr c.args.found.now in
    let g = get same_addr c.insert.new.self in
    let ks = c.args.order.now.entries in
    let up = c.in-Ok.ensures.updates.0 in
    ap (λ (es : List (Addr × Bool)). listed g (keys_of es)) c.in-Ok-insert.ensures.entries
    ∙ ap (listed g) (keys_insert ks c.args.a c.is_formula-formula.result)
    ∙ listed_insert f g c.args.a (kept f g c.args.a (Some c.args.c) up) c.args.c (keys_of ks) (written f g c.args.a (Some c.args.c) up) c.requires.listed.ordered (held f ks c.requires.listed)

pub returns-in-Err-clause-listed : goal.returns-in-Err-clause-listed
returns-in-Err-clause-listed c =
    let f = get same_addr c.args.found.now in
    let h = get same_addr c.swap_remove.new.self in
    let none = none_told (f c.args.a) (c.requires.listed.same c.args.a ∙ c.in-Err.ensures.absent) in
    let same = taken_back f (get same_addr c.insert.new.self) h c.args.a c.args.c none c.in-Ok.ensures.updates.0 c.swap_remove.ensures.updates.0 in
    listed_still f h c.args.order.now.entries c.insert-2.new.self.entries same c.in-Err.ensures.err c.requires.listed

pub returns-in-Err-clause-absent : goal.returns-in-Err-clause-absent
returns-in-Err-clause-absent c = none_told _ (c.requires.listed.same c.args.a ∙ c.in-Err.ensures.absent)

pub returns-in-Err-clause-err : goal.returns-in-Err-clause-err
returns-in-Err-clause-err c =
    let f = get same_addr c.args.found.now in
    let h = get same_addr c.swap_remove.new.self in
    let none = none_told (f c.args.a) (c.requires.listed.same c.args.a ∙ c.in-Err.ensures.absent) in
    let same = taken_back f (get same_addr c.insert.new.self) h c.args.a c.args.c none c.in-Ok.ensures.updates.0 c.swap_remove.ensures.updates.0 in
    ap (λ (es : List (Addr × Bool)). listed h (keys_of es)) c.in-Err.ensures.err ∙ listed_same f h (keys_of c.args.order.now.entries) same
