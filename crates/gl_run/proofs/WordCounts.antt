-- Words of a number that no call has.
use Rattle.std.proofs.Common.{◌≡◌, ◌<◌, ◌≤◌, List, [], ◌∷◌, length, None, refl, arith}
use Rattle.std.specs.declared.string.String.{String}
use Rattle.std.specs.declared.alloc.Global.{Global}
use Rattle.gl_protocol.specs.Run.Call.{words_call}

pub one_word : (ws : List (String Global)) → 1 ≤ length ws → length ws < 2 → None ≡ words_call ws
one_word [] l m = absurd (omega arith)
one_word (a ∷ []) l m = refl
one_word (a ∷ b ∷ ws) l m = absurd (omega arith)

pub three_words : (ws : List (String Global)) → 3 ≤ length ws → length ws < 4 → None ≡ words_call ws
three_words [] l m = absurd (omega arith)
three_words (a ∷ []) l m = absurd (omega arith)
three_words (a ∷ b ∷ []) l m = absurd (omega arith)
three_words (a ∷ b ∷ c ∷ []) l m = refl
three_words (a ∷ b ∷ c ∷ d ∷ ws) l m = absurd (omega arith)

pub five_words : (ws : List (String Global)) → 5 ≤ length ws → None ≡ words_call ws
five_words [] l = absurd (omega arith)
five_words (a ∷ []) l = absurd (omega arith)
five_words (a ∷ b ∷ []) l = absurd (omega arith)
five_words (a ∷ b ∷ c ∷ []) l = absurd (omega arith)
five_words (a ∷ b ∷ c ∷ d ∷ []) l = absurd (omega arith)
five_words (a ∷ b ∷ c ∷ d ∷ e ∷ ws) l = refl
