use Rattle.std.proofs.Common.{◌≡◌, ◌+◌, ◌++◌, ◌∷◌, [], length, set, refl, ap, sym, subst, arith, ◌∙◌}
use Rattle.gl_calculus.specs.Grid.Grid.{Range}
use Rattle.gl_support.specs.declared.row.Row.{Row}
use Rattle.gl_demand.specs.declared.outcome.Outcome.{Outcome}
use Rattle.gl_core.specs.Numbers.{numbers_of, IsIndex}
use Rattle.gl_core.proofs.Numbered.{index_push, index_read}
use Rattle.gl_core.proofs.Filtered.{same_rows, one_row, numbers_length}
use Rattle.gl_core.proofs.ledger.Ledger.add.Goals as goal

pub returns-in_err-push-clause-kept : goal.returns-in_err-push-clause-kept
returns-in_err-push-clause-kept c =
    let l = c.args.self.now in
    same_rows l (record { book = l.book; rows = c.push.new.self; row_of = c.give_place.new.places; graph = l.graph }) c.requires.kept refl c.in_err-push.ensures.items (index_read (numbers_of l.rows.items) l.row_of.items c.give_place.new.places.items c.give_place.ensures.same c.requires.kept.index) c.requires.kept.graph

pub returns-clause-kept : goal.returns-clause-kept
returns-clause-kept c =
    let l = c.args.self.now in
    let x : Row Outcome Range = record { by = c.args.by; outcome = c.args.outcome; reads = c.args.reads; looked = c.args.looked } in
    let read = index_read (numbers_of l.rows.items) l.row_of.items c.give_place.new.places.items c.give_place.ensures.same c.requires.kept.index in
    let i = index_push (numbers_of l.rows.items) c.give_place.new.places.items c.args.by read c.in_ok-give_place.ensures.place c.requires.new in
    let n : c.len-r.result ≡ length (numbers_of l.rows.items) = c.len-r.ensures ∙ l.rows.ok.0 ∙ sym (numbers_length l.rows.items) in
    let at : c.put.new.places.items ≡ set c.give_place.new.places.items c.args.by (length (numbers_of l.rows.items) + 1) = c.put.ensures ∙ ap (λ m. set c.give_place.new.places.items c.args.by (m + 1)) n in
    one_row l (record { book = l.book; rows = c.push.new.self; row_of = c.put.new.places; graph = l.graph }) x c.requires.kept refl c.in_ok-push.ensures.items (subst (IsIndex (numbers_of l.rows.items ++ c.args.by ∷ [])) (sym at) i) (c.requires.there, c.requires.reads) c.requires.sound (omega (arith, c.len-r.ensures, l.rows.ok.0, c.if-r-ge-MOST.false)) c.requires.kept.graph
