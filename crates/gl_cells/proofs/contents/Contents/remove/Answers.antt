use Rattle.std.proofs.Common.{◌≡◌, ◌∙◌, Bool, List, length, Option, None, refl, sym, ap, is_some, cond, arith}
use Rattle.indexmap.specs.IndexMap.{get}
use Rattle.std.specs.BTreeMap.{is_at}
use Rattle.std.specs.Map.{keys_of, remove_entry}
use Rattle.gl_calculus.specs.Grid.Grid.{Addr, same_addr}
use Rattle.gl_cells.specs.declared.content.Content.{Content}
use Rattle.gl_cells.specs.Listed.{listed}
use Rattle.gl_cells.specs.Sheet.{Table, addr_cmp}
use Rattle.gl_cells.proofs.Listing.{held, kept, length_listed, listed_remove, listed_then, keys_remove, seen_listed, some_kind, sorted_listed}
use Rattle.gl_cells.proofs.TableLemmas.{at_same}
use Rattle.gl_cells.proofs.contents.Contents.remove.Goals as goal

pub invariant_of-self : goal.invariant_of-self
invariant_of-self c =
    listed_then (get same_addr c.self.inside.found) (get same_addr c.swap_remove.new.self) c.args.a None c.swap_remove.ensures.updates.0 c.self.inside.order.entries c.remove.new.self.entries c.self.invariant c.remove.ensures.ordered c.remove.ensures.updates.0

pub returns-clause-value : goal.returns-clause-value
returns-clause-value c = c.swap_remove.ensures.value ∙ sym (seen_listed (get same_addr c.self.inside.found) c.self.inside.order.entries c.args.a c.self.invariant c.self.view_is)

pub returns-clause-entries : goal.returns-clause-entries
returns-clause-entries c =
    let f = get same_addr c.self.inside.found in
    let g = get same_addr c.swap_remove.new.self in
    let ks = c.self.inside.order.entries in
    ap (λ (es : List (Addr × Bool)). listed g (keys_of es)) c.remove.ensures.entries
    ∙ ap (listed g) (keys_remove (is_at (addr_cmp c.args.a)) ks)
    ∙ listed_remove f g c.args.a (kept f g c.args.a None c.swap_remove.ensures.updates.0) (keys_of ks) c.self.invariant.ordered (held f ks c.self.invariant)
    ∙ ap (λ (es : Table). remove_entry (is_at (addr_cmp c.args.a)) es) c.self.view_is

pub returns-clause-others : goal.returns-clause-others
returns-clause-others c = λ q.
    let f = get same_addr c.self.inside.found in
    seen_listed (get same_addr c.swap_remove.new.self) c.remove.new.self.entries q (invariant_of-self c) refl
    ∙ c.swap_remove.ensures.updates.0 q
    ∙ ap (λ b. cond b None (f q)) (sym (at_same c.args.a q))
    ∙ ap (λ (o : Option Content). cond (is_at (addr_cmp c.args.a) q) None o) (sym (seen_listed f c.self.inside.order.entries q c.self.invariant c.self.view_is))

pub returns-clause-len : goal.returns-clause-len
returns-clause-len c =
    let new = length_listed (get same_addr c.swap_remove.new.self) c.remove.new.self.entries (invariant_of-self c) in
    let old = sym (ap (λ (es : Table). length es) c.self.view_is) ∙ length_listed (get same_addr c.self.inside.found) c.self.inside.order.entries c.self.invariant in
    let there : is_some c.remove.result ≡ is_some c.swap_remove.result =
    ap is_some (c.remove.ensures.value ∙ sym (c.self.invariant.same c.args.a)) ∙ some_kind _ ∙ ap is_some (sym c.swap_remove.ensures.value) in
    let len = rw there at c.remove.ensures.len in
    omega (arith, new, old, len)

pub returns-clause-ordered : goal.returns-clause-ordered
returns-clause-ordered c = sorted_listed (get same_addr c.swap_remove.new.self) c.remove.new.self.entries (invariant_of-self c)
