use Rattle.std.proofs.Common.{◌≡◌, sym, true}
use Rattle.std.proofs.lemmas.Result.{IfOk-weaker}
use Rattle.gl_value.specs.View.{value_tree}
use Rattle.gl_value.specs.contracts.ValuePartialEq.TheImpl.{ghosts as this}
use Rattle.gl_value.proofs.Equal.{value_equal}
use Rattle.gl_value.proofs.share.ValueShare.share.Goals as goal

pub returns : goal.returns
returns c =
    let x = c.args.self.now in
    IfOk-weaker c.share_value.result (λ y. value_tree y ≡ value_tree x) (λ y. (value_tree y ≡ value_tree x) × (this.eq x y ≡ true)) (λ y h. (h, (value_equal x y).1 (sym h))) c.share_value.ensures
