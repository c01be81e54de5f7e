use Rattle.std.proofs.Common.{◌≡◌, ◌∙◌, true, false, not, is_some, filter, ap, sym, arith}
use Rattle.std.specs.BTreeMap.{is_at}
use Rattle.std.specs.Map.{lookup}
use Rattle.gl_calculus.specs.Grid.Grid.{covers}
use Rattle.gl_cells.specs.Sheet.{Table, addr_cmp}
use Rattle.gl_cells.proofs.Clearing.{covered, covers_yes, filter-remove, filter_same, left_after, not_false}
use Rattle.gl_cells.proofs.clear.clear_in.Goals as goal

pub loop-a-smaller : goal.loop-a-smaller
loop-a-smaller c =
    let some : is_some c.remove_in.result ≡ true = c.remove_in.ensures.present ∙ c.in-Some.ensures.found.1 in
    omega (arith, rw some at c.remove_in.ensures.len)

pub loop-a-preserved : goal.loop-a-preserved
loop-a-preserved c =
    let inv = c.loop-a.invariant in
    let r = c.args.r.now in
    let a = c.in-Some.a in
    let some : is_some c.remove_in.result ≡ true = c.remove_in.ensures.present ∙ c.in-Some.ensures.found.1 in
    record {
      table = c.remove_in.ensures.table;
      fewer = omega (arith, inv.fewer, c.remove_in.ensures.fewer);
      count = omega (arith, inv.count, rw some at c.remove_in.ensures.len);
      gone = λ q cov left. left_after a q (lookup (is_at (addr_cmp q)) c.loop-a.map) (lookup (is_at (addr_cmp q)) c.remove_in.new.map) (c.remove_in.ensures.others q) left (λ was. c.in-Some.ensures.least q (cov, inv.gone q cov was) was);
      kept = ap (λ (es : Table). filter (λ e. not (covers r e.0)) es) c.remove_in.ensures.removed
          ∙ filter-remove (λ q. not (covers r q)) a c.loop-a.map (ap not (covers_yes r a c.in-Some.ensures.found.0.0))
          ∙ inv.kept;
    }

pub returns-clause-cleared : goal.returns-clause-cleared
returns-clause-cleared c =
    let inv = c.loop-a.invariant in
    let r = c.args.r.now in
    filter_same (λ q. not (covers r q)) c.loop-a.map (λ q h some.
    let cov = covered r q (not_false _ h) in
    let no : true ≡ false = sym some ∙ ap is_some (c.in_default.ensures.none q (cov, inv.gone q cov some)) in
    let never : ⊥ = cc in never)
    ∙ inv.kept
