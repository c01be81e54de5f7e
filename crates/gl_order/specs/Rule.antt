-- A pick rule.
use Rattle.std.specs.Prelude.{ℕ, ◌-◌, ◌%◌, nat_eq, if◌then◌else◌}
use Rattle.gl_order.specs.declared.Order.{Order}

-- the closure of an order
abbrev pub rule_of : {F : Type 0} → Order F → F
rule_of o = o.rule

-- the place that a kind of rule picks among n at a turn: the first, the last, or each in turn
abbrev pub place : ℕ → ℕ → ℕ → ℕ
place kind turn n = if nat_eq kind 0 then 0 else if nat_eq kind 1 then n - 1 else turn % n
