-- Contents by address, listed in the order of their addresses.
use Rattle.std.specs.Prelude.{◌≡◌, Bool, List, [], ◌∷◌, Option, None, Some, option_map}
use Rattle.std.specs.BTreeMap.{is_at}
use Rattle.std.specs.List.Sorted.{IsStrictlySortedBy}
use Rattle.std.specs.Map.{keys_of, lookup}
use Rattle.gl_calculus.specs.Grid.Grid.{Addr}
use Rattle.gl_cells.specs.Content.{content_tree, is_formula}
use Rattle.gl_cells.specs.Sheet.{Table, addr_cmp}
use Rattle.gl_cells.specs.declared.content.Content.{Content}

-- an entry before others, where there is a content
abbrev pub entry_before : Addr → Option Content → Table → Table
entry_before q None es = es
entry_before q (Some c) es = (q, c) ∷ es

-- what each of these addresses holds, where it holds a content
abbrev pub listed : (Addr → Option Content) → List Addr → Table
listed f [] = []
listed f (q ∷ qs) = entry_before q (f q) (listed f qs)

-- whether a formula is held, where a content is held
abbrev pub kind : Option Content → Option Bool
kind o = option_map (λ c. is_formula (content_tree c)) o

-- the addresses ascend, are those that hold a content, and tell which content is a formula
pub record IsListed (f : Addr → Option Content) (ks : List (Addr × Bool)) : Type 0 where
  pub ordered : IsStrictlySortedBy addr_cmp (keys_of ks)
  pub same : (q : Addr) → kind (f q) ≡ lookup (is_at (addr_cmp q)) ks
