-- The arguments of calls.
use Rattle.std.proofs.Common.{◌≡◌, List, [], ◌∷◌, length, refl, ap}
use Rattle.std.proofs.lemmas.List.{length-map}
use Rattle.gl_language.specs.Texts.Text.{Bytes}
use Rattle.gl_language.specs.Reading.Grammar as G
use Rattle.gl_parse.specs.declared.raw.Raw.{Raw}
use Rattle.gl_parse.specs.Raws.{raw_tree, raws_of, plains}

pub raws_back : (fs : List G.Raw) → G.raws (raws_of fs) ≡ fs
raws_back [] = refl
raws_back (f ∷ fs) = ap (λ z. f ∷ z) (raws_back fs)

pub plains_length : (text : Bytes) (xs : List Raw) → length (plains text xs) ≡ length xs
plains_length text xs = length-map xs (raw_tree text)

pub ruleset between_rules = plains_length
