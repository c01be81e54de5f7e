-- The replies of a run from the start are those of the script, and its steps are the script's.
use Rattle.std.proofs.Common.{◌≡◌, ℕ, List, [], ◌∷◌, Option, Some, None, option_map, refl, sym, subst}
use Rattle.gl_calculus.specs.Formulas.Formula as F
use Rattle.gl_calculus.specs.Formulas.Formula.{Version}
use Rattle.gl_language.specs.Texts.Text.{Bytes}
use Rattle.gl_protocol.specs.Framing.Framing.{Item}
use Rattle.gl_protocol.specs.Scripts.Script.{Script}
use Rattle.gl_protocol.specs.Scripts.Output as Output
use Rattle.gl_protocol.specs.Scripts.Output.{Runs, AreReplies}
use Rattle.gl_protocol.specs.Run.Records.{csv_records}
use Rattle.gl_protocol.specs.Run.Spends as S
use Rattle.gl_protocol.specs.Run.Spends.{SpendsAll, SpendsScript}
use Rattle.gl_ast.specs.View.{version_tree}
use Rattle.gl_protocol.specs.Run.Known.{Known, new_known}
use Rattle.gl_run.specs.Script.{known_of}
use Rattle.gl_run.specs.State.{State, fresh, begun, start, state_by, state_of}
use Rattle.gl_run.specs.declared.session.Session.{Session}
use Rattle.gl_run.specs.Act as A
use Rattle.gl_run.specs.Act.{Act, Run}

-- the count of steps in a state
abbrev pub steps_in : State → ℕ
steps_in (fresh K n) = n
steps_in (begun version K n) = n

pub steps_of : (s : Session) (n : ℕ) → steps_in (state_of s n) ≡ n
steps_of s n = by (option_map version_tree s.version)
  where
    by : (o : Option Version) → steps_in (state_by o (known_of s.script) n) ≡ n
    by None = refl
    by (Some v) = refl

-- the state behind these items
abbrev RunsOn : Version → Script → List Item → List Bytes → Type 0
RunsOn version s is replies = (s' : Script) × Runs csv_records version s is s' replies

-- one item, and then the others
runs_with : {version : Version} {K : Known} {n : ℕ} {next : State} {x : Item} {reply : Bytes} (is : List Item) (end : State) (rest : List Bytes) → Act (begun version K n) x next reply → Run next is end rest
    → ((K' : Known) (m : ℕ) → Run (begun version K' m) is end rest → RunsOn version K'.script is rest) → RunsOn version K.script (x ∷ is) (reply ∷ rest)
runs_with is end rest (A.Act.later {K' = K'} {m = m} a) r go = let more = go K' m r in (more.0, Output.Runs.item a.0 more.1)

runs_of : (version : Version) (K : Known) (n : ℕ) (is : List Item) (end : State) (replies : List Bytes) → Run (begun version K n) is end replies → RunsOn version K.script is replies
runs_of version K n [] end replies r = (K.script, subst (Runs csv_records version K.script [] K.script) (sym r.1) Output.Runs.no_more)
runs_of version K n (x ∷ is) end replies r =
    subst (RunsOn version K.script (x ∷ is)) (sym r.5) (runs_with is end r.2 r.3 r.4 (λ K' m h. runs_of version K' m is end r.2 h))

-- the first item, and then the others
replies_with : {n : ℕ} {next : State} {x : Item} {reply : Bytes} (is : List Item) (end : State) (rest : List Bytes) → Act (start n) x next reply → Run next is end rest → AreReplies csv_records (x ∷ is) (reply ∷ rest)
replies_with {n = n} is end rest (A.Act.two e) r = Output.AreReplies.two e (runs_of F.Version.Two new_known n is end rest r).1
replies_with is end rest (A.Act.one {K' = K'} {m = m} e a) r = Output.AreReplies.one e (Output.Runs.item a.0 (runs_of F.Version.One K' m is end rest r).1)

pub replies_of : (n : ℕ) (is : List Item) (end : State) (replies : List Bytes) → Run (start n) is end replies → AreReplies csv_records is replies
replies_of n [] end replies r = subst (AreReplies csv_records []) (sym r.1) Output.AreReplies.empty
replies_of n (x ∷ is) end replies r = subst (AreReplies csv_records (x ∷ is)) (sym r.5) (replies_with is end r.2 r.3 r.4)

-- ---- the steps

spends_with : {version : Version} {K : Known} {n k : ℕ} {next : State} {x : Item} {reply : Bytes} (is : List Item) (end : State) (rest : List Bytes) → Act (begun version K n) x next reply → Run next is end rest
    → ((K' : Known) (m : ℕ) → Run (begun version K' m) is end rest → SpendsAll version K' is m k) → SpendsAll version K (x ∷ is) n k
spends_with is end rest (A.Act.later {K' = K'} {m = m} a) r go = S.SpendsAll.item a.0 a.1 (go K' m r)

spends_of : (version : Version) (K : Known) (n : ℕ) (is : List Item) (end : State) (replies : List Bytes) → Run (begun version K n) is end replies → SpendsAll version K is n (steps_in end)
spends_of version K n [] end replies r = subst (λ (z : State). SpendsAll version K [] n (steps_in z)) (sym r.0) S.SpendsAll.no_more
spends_of version K n (x ∷ is) end replies r = spends_with is end r.2 r.3 r.4 (λ K' m h. spends_of version K' m is end r.2 h)

script_with : {n : ℕ} {next : State} {x : Item} {reply : Bytes} (is : List Item) (end : State) (rest : List Bytes) → Act (start n) x next reply → Run next is end rest → SpendsScript (x ∷ is) n (steps_in end)
script_with {n = n} is end rest (A.Act.two e) r = S.SpendsScript.two e (spends_of F.Version.Two new_known n is end rest r)
script_with is end rest (A.Act.one {K' = K'} {m = m} e a) r = S.SpendsScript.one e (S.SpendsAll.item a.0 a.1 (spends_of F.Version.One K' m is end rest r))

pub script_of : (n : ℕ) (is : List Item) (end : State) (replies : List Bytes) → Run (start n) is end replies → SpendsScript is n (steps_in end)
script_of n [] end replies r = subst (λ (z : State). SpendsScript [] n (steps_in z)) (sym r.0) S.SpendsScript.empty
script_of n (x ∷ is) end replies r = script_with is end r.2 r.3 r.4
