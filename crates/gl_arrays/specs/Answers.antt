-- What the arguments of a function come to, and how it goes on from there.
use Rattle.std.specs.Prelude.{Result, Ok, Err}
use Rattle.gl_calculus.specs.Values.Functions.{Try}
use Rattle.gl_value.specs.View.{error_tree}
use Rattle.gl_value.specs.declared.ErrKind.{ErrKind}

-- the function goes on with what the code answers, and an error stays
abbrev pub continued : {X Y : Type 0} → (X → Try Y) → Result X ErrKind → Try Y
continued f (Ok x) = f x
continued f (Err k) = Err (error_tree k)
