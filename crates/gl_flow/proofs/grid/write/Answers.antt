use Rattle.std.proofs.Common.{◌-◌, ◌<◌, length, refl, ap, ◌∙◌, arith}
use Rattle.gl_calculus.specs.Grid.Grid.{addr}
use Rattle.gl_flow.specs.Grid.{number_lists, written_at}
use Rattle.gl_flow.proofs.Griding.{write_is}
use Rattle.gl_flow.proofs.grid.write.Goals as goal

pub returns-clause-numbers : goal.returns-clause-numbers
returns-clause-numbers c =
    let inside : c.col.result - 1 < length c.args.columns.now.items = omega (arith, c.col.ensures.value, c.col.ensures.sound, c.requires) in
    write_is c.args.columns.now.items _ c.index_mut.result.now c.write_row.new.numbers (addr c.col.result c.row.result) c.args.number inside c.index_mut.ensures.value c.write_row.ensures refl
    ∙ ap (λ t. written_at (number_lists c.args.columns.now.items) (addr t c.row.result) c.args.number) c.col.ensures.value
    ∙ ap (λ t. written_at (number_lists c.args.columns.now.items) (addr c.args.a.col t) c.args.number) c.row.ensures.value
