-- Marks of the numbers of keys.
use Rattle.std.specs.Prelude.{◌≡◌, ℕ, Bool, List, ◌&&◌, Vec}
use Rattle.std.specs.List.{list_any}
use Rattle.std.specs.declared.alloc.Global.{Global}
use Rattle.gl_support.specs.Affected.{Triple, is_touched}
use Rattle.gl_support.specs.Nodes.{stands_at, reads_at}
use Rattle.gl_support.specs.Reach.{is_marked, has, row_of, IsLeast}

-- The marks are the least set of numbers that has that of each key that looked at what changed, and that of each key that read a key whose number is a member.
pub record AreLeast {K A : Type 0} (same : K → K → Bool) (touches : A → A → Bool) (ks : List K) (ts : List (Triple K A)) (changed : List A) (marks : List Bool) : Type 0 where
  pub graph : List (Vec ℕ Global)
  pub seeds : List Bool
  pub edges : (a c : ℕ) → has (row_of graph a) c ≡ list_any (λ t. reads_at same ks t.reads a && stands_at same ks t.by c) ts
  pub seeded : (c : ℕ) → is_marked seeds c ≡ list_any (λ t. is_touched touches t.looked changed && stands_at same ks t.by c) ts
  pub least : IsLeast graph seeds marks
