use Rattle.std.proofs.Common.{◌≡◌, Some, None, sym, ap, ◌∙◌, arith}
use Rattle.std.specs.List.{find}
use Rattle.gl_calculus.specs.Grid.Grid.{grid}
use Rattle.gl_cells.specs.Search.{is_in_play}
use Rattle.gl_cells.specs.Sheet.{sheet}
use Rattle.gl_flow.specs.Grid.{number_lists}
use Rattle.gl_flow.proofs.Griding.{places_of, columns_within, clear_start, clear_on, clear_done, less_in_play}
use Rattle.gl_flow.proofs.grid.clear.Goals as goal

pub loop-a-init : goal.loop-a-init
loop-a-init c = clear_start (sheet c.args.cells.now) c.args.areas.now c.args.rows c.requires.rows (number_lists c.args.columns.now.items) c.requires.columns

pub write-requires : goal.write-requires
write-requires c = let l = columns_within c.args.rows c.loop-a.columns.items c.loop-a.invariant.shaped in omega (arith, l)

pub loop-a-smaller : goal.loop-a-smaller
loop-a-smaller c =
    let S = sheet c.args.cells.now in
    let e : find (is_in_play grid c.loop-a.after) (places_of S) ≡ Some c.in-Some.a = sym (c.next_in.ensures ∙ ap (λ r. find (is_in_play r c.loop-a.after) (places_of S)) c.whole_grid-grid.ensures) ∙ c.in-Some.is in
    less_in_play S c.loop-a.after c.in-Some.a e

pub loop-a-preserved : goal.loop-a-preserved
loop-a-preserved c =
    let S = sheet c.args.cells.now in
    let e : find (is_in_play grid c.loop-a.after) (places_of S) ≡ Some c.in-Some.a = sym (c.next_in.ensures ∙ ap (λ r. find (is_in_play r c.loop-a.after) (places_of S)) c.whole_grid-grid.ensures) ∙ c.in-Some.is in
    let (t, b, l, r) = c.write.ensures.sound in
    clear_on S c.args.areas.now c.args.rows c.requires.rows c.loop-a.after c.in-Some.a (number_lists c.loop-a.columns.items) (number_lists c.write.new.columns.items) c.contents-contents.ensures.ordered e l t c.write.ensures.numbers c.loop-a.invariant

pub returns : goal.returns
returns c =
    let S = sheet c.args.cells.now in
    let e : find (is_in_play grid c.loop-a.after) (places_of S) ≡ None = sym (c.next_in.ensures ∙ ap (λ r. find (is_in_play r c.loop-a.after) (places_of S)) c.whole_grid-grid.ensures) ∙ c.in_default.is in
    clear_done S c.args.areas.now c.args.rows c.requires.rows c.loop-a.after (number_lists c.loop-a.columns.items) e c.loop-a.invariant
