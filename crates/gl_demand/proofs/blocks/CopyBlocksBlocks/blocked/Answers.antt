use Rattle.std.proofs.Common.{Some, None, sym, subst, ◌∙◌}
use Rattle.gl_calculus.proofs.Tests.{addr_exact}
use Rattle.gl_cells.specs.Sheet.{sheet}
use Rattle.gl_value.specs.View.{sheet_tree}
use Rattle.gl_demand.specs.Blocks.{has_content_in}
use Rattle.gl_demand.specs.Filling.{IsFirst, is_filled}
use Rattle.gl_demand.proofs.Filled.{none_other, first_other, second_other}
use Rattle.gl_demand.proofs.blocks.CopyBlocksBlocks.blocked.Goals as goal

pub returns-in-None : goal.returns-in-None
returns-in-None c =
    none_other (has_content_in (sheet c.args.self.now.cells.now) (sheet_tree c.args.self.now.sheet.now)) c.args.area.now c.args.root c.in-None.ensures

pub returns-then-eq : goal.returns-then-eq
returns-then-eq c =
    let S = sheet c.args.self.now.cells.now in
    let s = sheet_tree c.args.self.now.sheet.now in
    let root : IsFirst (is_filled S s c.args.area.now None) (Some c.args.root) = subst (λ a. IsFirst (is_filled S s c.args.area.now None) (Some a)) (addr_exact c.in-Some.a c.args.root (sym c.eq.ensures ∙ c.if-eq.true)) c.in-Some.ensures in
    second_other (has_content_in S s) c.args.area.now c.args.root c.next_filled-then-eq.result root c.next_filled-then-eq.ensures

pub returns-else-eq : goal.returns-else-eq
returns-else-eq c =
    first_other (has_content_in (sheet c.args.self.now.cells.now) (sheet_tree c.args.self.now.sheet.now)) c.args.area.now c.args.root c.in-Some.a c.in-Some.ensures (sym c.eq.ensures ∙ c.if-eq.false)
