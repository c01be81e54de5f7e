use Rattle.std.proofs.Common.{◌∙◌, ◌++◌, ◌-◌, ap, sym, replicate, arith}
use Rattle.std.specs.String.{string_bytes}
use Rattle.gl_views.proofs.Appending.{space_more, space_all}
use Rattle.gl_views.proofs.tables.put_aligned.Goals as goal

pub loop-i-init : goal.loop-i-init
loop-i-init c = ap (λ n. string_bytes c.args.out.now ++ (replicate (c.args.wide - n) 32 ++ c.args.text.now)) c.width-i.ensures

pub loop-i-preserved : goal.loop-i-preserved
loop-i-preserved c =
    space_more c.args.wide c.loop-i._i (string_bytes c.loop-i.out) (string_bytes c.put.new.out) c.args.text.now (omega arith) c.in_ok-put.ensures ∙ c.loop-i.invariant

pub returns : goal.returns
returns c =
    c.in_ok-put-2.ensures ∙ ap (λ z. string_bytes c.loop-i.out ++ z) (sym (space_all c.args.wide c.loop-i._i c.args.text.now c.loop-i-test.false)) ∙ c.loop-i.invariant
