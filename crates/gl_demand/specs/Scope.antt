-- The variables that are bound, innermost first.
use Rattle.std.specs.Prelude.{List, [], ◌∷◌, Bool, true, ◌&&◌}
use Rattle.std.specs.Rc.{rc_str_bytes}
use Rattle.std.specs.declared.rc.RcStr.{RcStr}
use Rattle.std.specs.declared.alloc.Global.{Global}
use Rattle.gl_calculus.specs.Evaluation.Evaluation.{Bindings}
use Rattle.gl_calculus.specs.Evaluation.Sound.{is_sound_value}
use Rattle.gl_value.specs.View.{value_tree}
use Rattle.gl_value.specs.declared.Value.{Value}

abbrev pub bindings_of : List (RcStr Global × Value) → Bindings
bindings_of [] = []
bindings_of (b ∷ bs) = (rc_str_bytes b.0, value_tree b.1) ∷ bindings_of bs

-- the values are sound
abbrev pub are_sound_bindings : List (RcStr Global × Value) → Bool
are_sound_bindings [] = true
are_sound_bindings (b ∷ bs) = is_sound_value (value_tree b.1) && are_sound_bindings bs
