-- Printed tables and oracles, by computation.
use Rattle.std.proofs.Common.{◌≡◌, [], ◌∷◌, refl}
use Rattle.std.specs.Prelude.{codes}
use Rattle.std.specs.Str.{chars}
use Rattle.std.specs.Fmt.{digits}
use Rattle.gl_calculus.specs.Values.ErrKind.{ErrKind}
use Rattle.gl_calculus.specs.Values.Value.{Blank}
use Rattle.gl_calculus.specs.Calculation.Calculation.{Shown}
use Rattle.gl_protocol.specs.Replies.Tables.{oracle_text, table_text}
use Rattle.gl_examples.proofs.Worked.Sheets.{one, err, permitted, refused}

spilled_product_oracle : oracle_text (permitted 1 1 3 1 ∷ refused 1 2 1 3 ∷ []) ≡ codes "oracle 2\nA1 3x1 permitted\nA2 1x3 refused\n"
unfolding digits
spilled_product_oracle = refl

blocked_spill_view : table_text 2 ((Shown.Value (err ErrKind.Spill) ∷ Shown.Value (err ErrKind.Spill) ∷ []) ∷ (Shown.Value (one 5) ∷ Shown.Value Blank ∷ []) ∷ []) ≡ codes "#SPILL! #SPILL!\n      5       .\n"
unfolding digits chars
blocked_spill_view = refl
