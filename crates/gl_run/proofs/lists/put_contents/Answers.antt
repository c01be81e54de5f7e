use Rattle.std.proofs.Common.{◌≡◌, ◌∙◌, Some, None, ap, sym}
use Rattle.std.specs.List.{find}
use Rattle.std.specs.String.{string_bytes}
use Rattle.gl_calculus.specs.Grid.Grid.{Range, grid}
use Rattle.gl_cells.specs.Search.{is_in_play}
use Rattle.gl_cells.specs.Sheet.{sheet}
use Rattle.gl_flow.proofs.Griding.{less_in_play}
use Rattle.gl_run.proofs.Walking.{places, walk_begins, walk_on, walk_ends}
use Rattle.gl_run.proofs.lists.put_contents.Goals as goal

pub loop-a-init : goal.loop-a-init
loop-a-init c = walk_begins c.args.cells.now (string_bytes c.args.out.now) c.contents-contents.ensures.placed

pub loop-a-smaller : goal.loop-a-smaller
loop-a-smaller c =
    let S = sheet c.args.cells.now in
    let e : find (is_in_play grid c.loop-a.after) (places S) ≡ Some c.in-Some.a = sym (c.next_in.ensures ∙ ap (λ (r : Range). find (is_in_play r c.loop-a.after) (places S)) c.whole_grid-grid.ensures) ∙ c.in-Some.is in
    less_in_play S c.loop-a.after c.in-Some.a e

pub loop-a-preserved : goal.loop-a-preserved
loop-a-preserved c =
    let S = sheet c.args.cells.now in
    let e : find (is_in_play grid c.loop-a.after) (places S) ≡ Some c.in-Some.a = sym (c.next_in.ensures ∙ ap (λ (r : Range). find (is_in_play r c.loop-a.after) (places S)) c.whole_grid-grid.ensures) ∙ c.in-Some.is in
    walk_on c.args.cells.now c.loop-a.after c.in-Some.a (string_bytes c.args.out.now) (string_bytes c.loop-a.out) (string_bytes c.put_set.new.out) c.contents-contents.ensures.placed c.contents-contents.ensures.ordered
    e c.in_ok-put_set.ensures c.loop-a.invariant

pub returns : goal.returns
returns c =
    let S = sheet c.args.cells.now in
    let e : find (is_in_play grid c.loop-a.after) (places S) ≡ None = sym (c.next_in.ensures ∙ ap (λ (r : Range). find (is_in_play r c.loop-a.after) (places S)) c.whole_grid-grid.ensures) ∙ c.in_default.is in
    walk_ends S c.loop-a.after (string_bytes c.args.out.now) (string_bytes c.loop-a.out) e c.loop-a.invariant
