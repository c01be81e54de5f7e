-- The states of small scripts, by computation.
use Rattle.std.proofs.Common.{◌≡◌, ℕ, zero, suc, [], ◌∷◌, List, Some, None, Option, refl}
use Rattle.std.specs.Prelude.{codes, pos}
use Rattle.std.specs.Fmt.{digits}
use Rattle.gl_calculus.specs.Grid.Grid.{Addr, addr, range}
use Rattle.gl_calculus.specs.Values.Value.{Int}
use Rattle.gl_calculus.specs.Formulas.Formula.{Content, Const, Form, content}
use Rattle.gl_calculus.specs.Formulas.Formula as F
use Rattle.gl_language.specs.Texts.Text.{Bytes}
use Rattle.gl_calculus.specs.Edits.Replicas.{Edit, Replica, Judged, Wins, Loses, Conflict, IsJudged, stamp}
use Rattle.gl_protocol.specs.Replies.Tables.{export_text}
use Rattle.gl_protocol.specs.Scripts.Commands.{Read, Is, Not, Request, Set, Clear, Site, Undo, Redo, words_of, EditWords, SiteWords, get_text, list_text}
use Rattle.gl_protocol.specs.Scripts.Script.{Script, new_script, change, merge}

then_do : Read Script → (Script → Read Script) → Read Script
then_do (Is s) f = f s
then_do (Not w) f = Not w

all_of : Script → List Request → Read Script
all_of s [] = Is s
all_of s (x ∷ xs) = then_do (change s x) (λ t. all_of t xs)

told : Read Script → (Script → Bytes) → Bytes
told (Is s) f = f s
told (Not w) f = codes "refused"

number : ℕ → Content
number n = Const (Int (pos n))

a1 : Addr
a1 = addr 1 1

b1 : Addr
b1 = addr 2 1

reference : Addr → Content
reference a = Form (F.Formula.At a)

edit : ℕ → ℕ → Addr → Option Content → Edit
edit t n a c = record { stamp = stamp t n; place = a; content = c }

exported : Script → Bytes
exported s = by s.replica
  where
    by : Option Replica → Bytes
    by (Some r) = export_text r.registers
    by None = codes "error site\n"

-- a later edit of another replica wins, and the clock goes on from its time
two_replicas : told (then_do (all_of new_script (Site 2 ∷ Set a1 (number 7) ∷ [])) (λ s. then_do (merge s (edit 2 1 a1 (Some (number 6))) Wins) (λ s. change s (Set b1 (reference a1))))) exported
    ≡ codes "export 2\nedit 2 1 A1 6\nedit 3 2 B1 =A1\n"
unfolding digits then_do all_of told number a1 b1 reference edit exported
two_replicas = refl

won : IsJudged (Some (edit 1 2 a1 (Some (number 7)))) (edit 2 1 a1 (Some (number 6))) Wins
unfolding edit number a1
won = refl

words_with_text : words_of (codes "edit 2 1 A1 = 1 + 2") ≡ Some (EditWords (codes "2") (codes "1") (codes "A1") (Some (codes "= 1 + 2")))
words_with_text = refl

words_without : words_of (codes "edit 2 1 A1") ≡ Some (EditWords (codes "2") (codes "1") (codes "A1") None)
words_without = refl

empty_text : words_of (codes "edit 2 1 A1 ") ≡ None
empty_text = refl

no_address : words_of (codes "edit 2 1 ") ≡ None
no_address = refl

site_limit : words_of (codes "site 65535") ≡ Some (SiteWords (codes "65535"))
site_limit = refl

site_past : words_of (codes "site 65536") ≡ None
site_past = refl

-- ---- undo

steps_back : told (all_of new_script (Set a1 (number 1) ∷ Set a1 (reference b1) ∷ Clear (range a1 a1) ∷ Undo ∷ [])) (λ s. get_text (content s.sheet a1)) ≡ codes "=B1"
unfolding digits then_do all_of told number a1 b1 reference
steps_back = refl

steps_on : told (all_of new_script (Set a1 (number 1) ∷ Set a1 (reference b1) ∷ Clear (range a1 a1) ∷ Undo ∷ Undo ∷ Redo ∷ [])) (λ s. get_text (content s.sheet a1)) ≡ codes "=B1"
unfolding digits then_do all_of told number a1 b1 reference
steps_on = refl

nothing_left : all_of new_script (Set a1 (number 1) ∷ Undo ∷ Undo ∷ []) ≡ Not (codes "undo")
unfolding then_do all_of number a1
nothing_left = refl

no_redo : all_of new_script (Set a1 (number 1) ∷ Undo ∷ Set a1 (number 9) ∷ Redo ∷ []) ≡ Not (codes "redo")
unfolding then_do all_of number a1
no_redo = refl

in_a_replica : all_of new_script (Site 1 ∷ Undo ∷ []) ≡ Not (codes "site")
unfolding then_do all_of
in_a_replica = refl

not_empty : all_of new_script (Set a1 (number 1) ∷ Site 1 ∷ []) ≡ Not (codes "site")
unfolding then_do all_of number a1
not_empty = refl

emptied : told (all_of new_script (Set a1 (number 1) ∷ Clear (range a1 b1) ∷ Site 1 ∷ [])) exported ≡ codes "export 0\n"
unfolding digits then_do all_of told number a1 b1 exported
emptied = refl

sets : ℕ → List Request → List Request
sets zero xs = xs
sets (suc n) xs = Set a1 (number n) ∷ sets n xs

undos : ℕ → List Request → List Request
undos zero xs = xs
undos (suc n) xs = Undo ∷ undos n xs

-- of 257 steps the first can't be undone
first_stays : told (all_of new_script (sets 257 (undos 256 []))) (λ s. get_text (content s.sheet a1)) ≡ codes "256"
unfolding digits then_do all_of told number a1 sets undos
first_stays = refl

past_the_first : all_of new_script (sets 257 (undos 257 [])) ≡ Not (codes "undo")
unfolding then_do all_of number a1 sets undos
past_the_first = refl

then_merge : Judged → Edit → Read Script → Read Script
then_merge j e r = then_do r (λ s. merge s e j)

late : Read Script
late = then_merge Loses (edit 1 2 a1 (Some (number 7))) (then_merge Wins (edit 2 1 a1 (Some (number 6))) (then_merge Wins (edit 1 2 a1 (Some (number 7))) (then_merge Wins (edit 3 2 b1 (Some (reference a1))) (change new_script (Site 3)))))

-- an edit that comes late changes nothing, and a removal of its own is an edit
late_edits : told (then_do late (λ s. change s (Clear (range a1 a1)))) exported ≡ codes "export 2\nedit 4 3 A1\nedit 3 2 B1 =A1\n"
unfolding digits then_do told number a1 b1 reference edit exported then_merge late
late_edits = refl

in_conflict : then_merge Conflict (edit 2 1 a1 (Some (number 8))) late ≡ Not (codes "conflict")
unfolding then_do number a1 b1 reference edit then_merge late
in_conflict = refl

-- where there is no next stamp nothing can be changed, also where nothing would be
last_stamp : then_do (then_merge Wins (edit 1000000000000 2 a1 (Some (number 5))) (change new_script (Site 1))) (λ s. change s (Clear (range b1 b1))) ≡ Not (codes "stamp")
unfolding then_do number a1 b1 edit then_merge
last_stamp = refl

-- taken in either order
forth : Read Script
forth = then_merge Loses (edit 3 2 b1 (Some (reference a1))) (then_merge Wins (edit 4 3 a1 None) (then_merge Wins (edit 3 2 b1 (Some (reference a1))) (then_merge Wins (edit 2 1 a1 (Some (number 6))) (change new_script (Site 4)))))

listed : Read Script → Bytes
listed r = told r (λ s. list_text F.Version.One s.sheet)

same_contents : listed forth ≡ codes "list 1\nset B1 =A1\n"
unfolding digits then_do told number a1 b1 reference edit then_merge forth listed
same_contents = refl
