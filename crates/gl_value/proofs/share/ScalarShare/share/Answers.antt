use Rattle.std.proofs.Common.{◌≡◌, sym, true}
use Rattle.std.proofs.lemmas.Result.{IfOk-weaker}
use Rattle.gl_value.specs.View.{scalar_tree}
use Rattle.gl_value.specs.contracts.ScalarPartialEq.TheImpl.{ghosts as this}
use Rattle.gl_value.proofs.Equal.{scalar_equal}
use Rattle.gl_value.proofs.share.ScalarShare.share.Goals as goal

pub returns : goal.returns
returns c =
    let x = c.args.self.now in
    IfOk-weaker c.share_scalar.result (λ y. scalar_tree y ≡ scalar_tree x) (λ y. (scalar_tree y ≡ scalar_tree x) × (this.eq x y ≡ true)) (λ y h. (h, (scalar_equal x y).1 (sym h))) c.share_scalar.ensures
