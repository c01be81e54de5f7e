use Rattle.std.proofs.Common.{◌≡◌, ◌+◌, [], ◌∷◌, ◌++◌, false, length, map, sym, subst, ap, ◌∙◌, arith}
use Rattle.gl_calculus.specs.Computation.Lists.{has_member}
use Rattle.gl_calculus.specs.Grid.Limits.{max_demanded}
use Rattle.gl_calculus.specs.Evaluation.Key.{same_key}
use Rattle.gl_demand.specs.View.{key_tree}
use Rattle.gl_cert.specs.Notes.{claims}
use Rattle.gl_demand.specs.Marks.{mark_tree, mark_trees}
use Rattle.gl_explain.specs.Putting.{IsPutOn, there, full, on}
use Rattle.gl_explain.specs.declared.turning.Turned.TheVariants.{On}
use Rattle.gl_explain.proofs.Marks.{two_pushed}
use Rattle.gl_explain.proofs.Tops.{trees_length, put_last}
use Rattle.gl_explain.proofs.turning.put_on.Goals as goal

pub returns-then-is_among : goal.returns-then-is_among
returns-then-is_among c = record { put = there (sym c.is_among.ensures ∙ c.if-is_among.true) }

pub returns-then-len-eq-MAX_DEMANDED : goal.returns-then-len-eq-MAX_DEMANDED
returns-then-len-eq-MAX_DEMANDED c =
    let e : length (claims c.args.notes.now) + length (map key_tree c.args.stack.now.keys) ≡ max_demanded = omega (arith, c.len.ensures.count, c.len-2.ensures.len, c.if-len-eq-MAX_DEMANDED.true, trees_length c.args.stack.now.keys) in
    record { put = full (sym c.is_among.ensures ∙ c.if-is_among.false) e }

pub returns : goal.returns
returns c =
    let j = key_tree c.args.key in
    let m = mark_tree c.args.mark in
    let done = claims c.args.notes.now in
    let up = map key_tree c.args.stack.now.keys in
    let ms = mark_trees c.args.marks.now.items in
    let off : has_member same_key j up ≡ false = sym c.is_among.ensures ∙ c.if-is_among.false in
    let few : length done + length up ≡ max_demanded → ⊥ = λ e. omega (arith, e, c.len.ensures.count, c.len-2.ensures.len, c.if-len-eq-MAX_DEMANDED.false, trees_length c.args.stack.now.keys) in
    let last = ap (map key_tree) c.in_ok-insert.ensures.keys ∙ put_last c.args.stack.now.keys c.args.key off in
    let both = two_pushed c.args.marks.now.items c.push.new.self.items c.push-2.new.self.items c.args.mark c.none.result c.in_ok-push.ensures.items c.in_ok-push-2.ensures.items c.none.ensures in
    record { put = subst (λ us. IsPutOn j m done up ms On us (mark_trees c.push-2.new.self.items)) (sym last) (subst (IsPutOn j m done up ms On (up ++ j ∷ [])) (sym both) (on off few)) }
