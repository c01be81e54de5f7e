-- The functions of words.
use Rattle.std.proofs.Common.{◌≡◌, ℕ, ◌+◌, ◌<◌, ◌≤◌, false, Option, Some, None, List, drop, map, length, get_or, ap, sym, ◌∙◌}
use Rattle.std.specs.Prelude.{find, bytes_eq, if◌then◌else◌}
use Rattle.std.proofs.lemmas.List.{at_drop_more, at_drop_all}
use Rattle.gl_calculus.specs.Formulas.Formula as F
use Rattle.gl_language.specs.Texts.Text.{Bytes, fun_text}
use Rattle.gl_ast.specs.declared.Fun.{Fun}
use Rattle.gl_ast.specs.View.{fun_tree}

-- the first of some functions that a word calls
abbrev pub found_in : Bytes → List Fun → Option F.Fun
found_in word fs = find (λ f. bytes_eq (fun_text f) word) (map fun_tree fs)

pub found_more : (word : Bytes) (fs : List Fun) (i : ℕ) (d : Fun) → i < length fs → found_in word (drop i fs) ≡ (if bytes_eq (fun_text (fun_tree (get_or fs i d))) word then Some (fun_tree (get_or fs i d)) else found_in word (drop (i + 1) fs))
found_more word fs i d h = at_drop_more (found_in word) fs i d h

pub found_end : (word : Bytes) (fs : List Fun) (i : ℕ) → length fs ≤ i → found_in word (drop i fs) ≡ None
found_end word fs i h = at_drop_all (found_in word) fs i h

pub ruleset word_rules = (found_more, found_end)

-- no function that was passed over
pub found_next : (word : Bytes) (fs : List Fun) (i : ℕ) (d : Fun) (x : Option F.Fun) → i < length fs → bytes_eq (fun_text (fun_tree (get_or fs i d))) word ≡ false → found_in word (drop i fs) ≡ x → found_in word (drop (i + 1) fs) ≡ x
found_next word fs i d x h other e = sym (ap (λ z. if z then Some (fun_tree (get_or fs i d)) else found_in word (drop (i + 1) fs)) other) ∙ sym (found_more word fs i d h) ∙ e
