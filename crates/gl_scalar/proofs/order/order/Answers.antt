use Rattle.std.proofs.Common.{[], arith}
use Rattle.std.specs.Rc.{rc_str_bytes}
use Rattle.gl_value.specs.Forms.{scalar_tree-Blank, scalar_tree-Text, trees}
use Rattle.gl_scalar.proofs.Orders.{stands_text, orders}
use Rattle.gl_scalar.proofs.order.order.Goals as goal

pub returns-in-Text-Blank : goal.returns-in-Text-Blank
returns-in-Text-Blank c =
    rw (c.in-Text-Blank.is-0, c.in-Text-Blank.is-1, scalar_tree-Blank, scalar_tree-Text, c.cmp-in-Text-Blank.ensures, c.as_str-in-Text-Blank.ensures.value) (stands_text (rc_str_bytes c.in-Text-Blank.t) [])

pub returns-in-Text-Text : goal.returns-in-Text-Text
returns-in-Text-Text c =
    rw (c.in-Text-Text.is-0, c.in-Text-Text.is-1, scalar_tree-Text c.in-Text-Text.s, scalar_tree-Text c.in-Text-Text.t, c.cmp-in-Text-Text.ensures) (stands_text (rc_str_bytes c.in-Text-Text.s) (rc_str_bytes c.in-Text-Text.t))

pub returns-in-Blank-Blank : goal.returns-in-Blank-Blank
returns-in-Blank-Blank c = grind (arith, trees, orders)

pub returns-in-Blank-Bool : goal.returns-in-Blank-Bool
returns-in-Blank-Bool c = grind (arith, trees, orders)

pub returns-in-Blank-Int : goal.returns-in-Blank-Int
returns-in-Blank-Int c = grind (arith, trees, orders)

pub returns-in-Blank-Text : goal.returns-in-Blank-Text
returns-in-Blank-Text c = grind (arith, trees, orders)

pub returns-in-Bool-Blank : goal.returns-in-Bool-Blank
returns-in-Bool-Blank c = grind (arith, trees, orders)

pub returns-in-Bool-Bool : goal.returns-in-Bool-Bool
returns-in-Bool-Bool c = grind (arith, trees, orders)

pub returns-in-Bool-Int : goal.returns-in-Bool-Int
returns-in-Bool-Int c = grind (arith, trees, orders)

pub returns-in-Bool-Text : goal.returns-in-Bool-Text
returns-in-Bool-Text c = grind (arith, trees, orders)

pub returns-in-Int-Blank : goal.returns-in-Int-Blank
returns-in-Int-Blank c = grind (arith, trees, orders)

pub returns-in-Int-Bool : goal.returns-in-Int-Bool
returns-in-Int-Bool c = grind (arith, trees, orders)

pub returns-in-Int-Int : goal.returns-in-Int-Int
returns-in-Int-Int c = grind (arith, trees, orders)

pub returns-in-Int-Text : goal.returns-in-Int-Text
returns-in-Int-Text c = grind (arith, trees, orders)

pub returns-in-Text-Bool : goal.returns-in-Text-Bool
returns-in-Text-Bool c = grind (arith, trees, orders)

pub returns-in-Text-Int : goal.returns-in-Text-Int
returns-in-Text-Int c = grind (arith, trees, orders)
