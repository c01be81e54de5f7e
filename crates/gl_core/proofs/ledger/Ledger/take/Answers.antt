use Rattle.std.proofs.Common.{◌≡◌, ◌≢◌, ◌+◌, ◌-◌, ◌<◌, ◌∷◌, ◌++◌, [], ℕ, List, Vec, length, set, slice_get, slice_index_or, vec_len, Some, refl, sym, ap, ◌∙◌, arith}
use Rattle.std.specs.declared.alloc.Global.{Global}
use Rattle.std.proofs.lemmas.Option.{slice_get-get_or}
use Rattle.std.proofs.lemmas.List.{length-set}
use Rattle.gl_calculus.specs.Grid.Grid.{Range}
use Rattle.gl_support.specs.declared.row.Row.{Row}
use Rattle.gl_demand.specs.declared.outcome.Outcome.{Outcome}
use Rattle.gl_core.proofs.Losing.{row_there, taken_drops, taken_ledger}
use Rattle.gl_core.proofs.Swapped.{IsSwapped, swapped}
use Rattle.gl_core.proofs.ledger.Ledger.take.Goals as goal

last_row : (rows : Vec (Row Outcome Range) Global) (n r : ℕ) (m : Row Outcome Range) → n ≡ vec_len rows → r < length rows.items → m ≡ slice_index_or rows.items (n - 1) m → slice_get rows.items (n - 1) ≡ Some m
last_row rows n r m e h at = slice_get-get_or rows.items (n - 1) m (omega (arith, e, rows.ok.0, h)) ∙ ap Some (sym at)

-- the rows without the one that went
without : (rows rows' : Vec (Row Outcome Range) Global) (n r : ℕ) (x m : Row Outcome Range) → n ≡ vec_len rows → r < length rows.items → m ≡ slice_index_or rows.items (n - 1) m → x ≡ slice_index_or rows.items r x → vec_len rows' + 1 ≡ vec_len rows →
    ((d : Row Outcome Range) → r + 1 < vec_len rows → slice_index_or rows'.items r d ≡ slice_index_or rows.items (vec_len rows - 1) d) →
    ((p : ℕ) (d : Row Outcome Range) → p ≢ r → p + 1 < vec_len rows → slice_index_or rows'.items p d ≡ slice_index_or rows.items p d) → IsSwapped rows.items rows'.items r (vec_len rows - 1) x m
without rows rows' n r x m e h last at short moved stay = swapped rows.items rows'.items (vec_len rows) n r x m rows.ok.0 e (omega (arith, rows'.ok.0, short)) (omega (arith, rows.ok.0, h)) at last moved stay

pub put-requires-clause-there : goal.put-requires-clause-there
put-requires-clause-there c =
    let l = c.args.self.now in
    row_there l c.requires.kept.0 (c.len.result - 1) c.index.result.now (last_row l.rows c.len.result c.args.r c.index.result.now c.len.ensures c.requires.there c.index.ensures)

pub take_out-requires : goal.take_out-requires
take_out-requires c =
    let l = c.args.self.now in
    let x = c.swap_remove-row.result in
    let there = row_there l c.requires.kept.0 c.args.r x (slice_get-get_or l.rows.items c.args.r x c.requires.there ∙ ap Some (sym c.swap_remove-row.ensures.value)) in
    let size = ap length c.put.ensures ∙ length-set l.row_of.items c.index.result.now.by _ in
    omega (arith, size, there)

pub returns-clause-row : goal.returns-clause-row
returns-clause-row c = slice_get-get_or c.args.self.now.rows.items c.args.r c.swap_remove-row.result c.requires.there ∙ ap Some (sym c.swap_remove-row.ensures.value)

pub returns-clause-drops : goal.returns-clause-drops
returns-clause-drops c =
    let l = c.args.self.now in
    let x = c.swap_remove-row.result in
    let m = c.index.result.now in
    let s = c.swap_remove-row.ensures in
    let h = without l.rows c.swap_remove-row.new.self c.len.result c.args.r x m c.len.ensures c.requires.there c.index.ensures s.value s.len s.by_index.0 s.by_index.1 in
    taken_drops l (record { book = l.book; rows = c.swap_remove-row.new.self; row_of = c.take_out.new.places; graph = c.shorten.new.graph }) c.requires.kept c.args.r (vec_len l.rows - 1) x m h refl (c.take_out.ensures ∙ ap (λ (ps : List ℕ). set ps x.by 0) c.put.ensures)
    c.args.moved.now.items c.push_reserved-2.new.self.items (c.push_reserved-2.ensures.items ∙ ap (λ (ns : List ℕ). ns ++ m.by ∷ []) c.push_reserved.ensures.items)

pub returns-clause-kept : goal.returns-clause-kept
returns-clause-kept c =
    let l = c.args.self.now in
    let x = c.swap_remove-row.result in
    let m = c.index.result.now in
    let s = c.swap_remove-row.ensures in
    let h = without l.rows c.swap_remove-row.new.self c.len.result c.args.r x m c.len.ensures c.requires.there c.index.ensures s.value s.len s.by_index.0 s.by_index.1 in
    taken_ledger l (record { book = l.book; rows = c.swap_remove-row.new.self; row_of = c.take_out.new.places; graph = c.shorten.new.graph }) c.requires.kept c.args.r (vec_len l.rows - 1) x m h refl (c.take_out.ensures ∙ ap (λ (ps : List ℕ). set ps x.by 0) c.put.ensures) c.shorten.ensures
