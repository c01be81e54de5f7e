use Rattle.std.proofs.Common.{◌≡◌, sym, true}
use Rattle.std.proofs.lemmas.Result.{IfOk-weaker}
use Rattle.gl_value.specs.View.{frame_tree}
use Rattle.gl_value.specs.contracts.EnvPartialEq.TheImpl.{ghosts as this}
use Rattle.gl_value.proofs.Equal.{frame_equal}
use Rattle.gl_value.proofs.share.EnvShare.share.Goals as goal

pub returns : goal.returns
returns c =
    let x = c.args.self.now in
    IfOk-weaker c.share_frame.result (λ y. frame_tree y ≡ frame_tree x) (λ y. (frame_tree y ≡ frame_tree x) × (this.eq x y ≡ true)) (λ y h. (h, (frame_equal x y).1 (sym h))) c.share_frame.ensures
