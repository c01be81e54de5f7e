-- What a search keeps between its turns.
use Rattle.std.specs.Prelude.{◌≡◌, ◌⊎◌, ℕ, ◌+◌, ◌<◌, ◌≤◌, Bool, true, false, List, [], ◌∷◌, map, get_or, length, slice_index, slice_get, sum_by, Option, Some, None, ◌-◌, if◌then◌else◌}
use Rattle.gl_calculus.specs.Computation.Lists.{Member}
use Rattle.gl_graph.specs.Graph.{Leads, Path, Reaches, IsPlain}
use Rattle.gl_graph.specs.declared.graph.Place.{Place}
use Rattle.gl_graph.specs.declared.mark.Mark.{Mark}
use Rattle.gl_graph.specs.declared.mark.Mark.TheVariants.{New, Open, Plain, Circle}
use Rattle.gl_graph.specs.declared.state.Frame.{Frame}

-- the place of the first step
abbrev pub origin : Place
origin = record { part = 0; offset = 0 }

-- what is known of a node
abbrev pub mark_of : List Mark → ℕ → Mark
mark_of marks m = get_or marks m New

-- the search of the node is over
abbrev pub is_shut : Mark → Bool
is_shut New = false
is_shut (Open i) = false
is_shut (Plain h) = true
is_shut Circle = true

-- each is less than all behind it
abbrev pub Rises : List ℕ → Type 0
Rises [] = Unit {0}
Rises (x ∷ xs) = ((y : ℕ) → Member y xs → x < y) × Rises xs

-- the places of frames
abbrev pub places_of : List Frame → List ℕ
places_of fs = map (λ f. f.at) fs

-- no start lies behind the first place and up to ...
abbrev pub NoneBetween : List ℕ → ℕ → ℕ → Type 0
NoneBetween starts i k = (b : ℕ) → Member b starts → b ≤ i → b ≤ k

-- each place of the list has its node, and each open node its place
pub record AreOpen (mark : ℕ → Mark) (places : List ℕ) : Type 0 where
  pub marked : (i : ℕ) → i < length places → mark (slice_index places i) ≡ Open i
  pub placed : (m i : ℕ) → mark m ≡ Open i → (i < length places) × (slice_index places i ≡ m)

module _ (left : ℕ → Place → List ℕ) (weight : ℕ → ℕ) where
  abbrev pub steps : ℕ → List ℕ
  steps m = left m origin

  -- what is known of nodes is true, and what a node leads to is shut where the node is
  pub record AreTrue (mark : ℕ → Mark) : Type 0 where
    pub plain : (m h : ℕ) → mark m ≡ Plain h → IsPlain steps weight m h
    pub circle : (m : ℕ) → mark m ≡ Circle → Leads steps m m
    pub closed : (m n : ℕ) → is_shut (mark m) ≡ true → Member n (steps m) → is_shut (mark n) ≡ true

  -- a step of an open node leads to a shut one, or to one that leads back to it, or is still to come
  pub data Seen (mark : ℕ → Mark) (starts : List ℕ) (frames : List Frame) (m i n : ℕ) : Type 0 where
    shut : is_shut (mark n) ≡ true → Seen mark starts frames m i n
    higher : {k : ℕ} → mark n ≡ Open k → NoneBetween starts i k → Seen mark starts frames m i n
    ahead : (f : Frame) → Member f frames → f.node ≡ m → Member n (left m f.place) → Seen mark starts frames m i n

  -- a step of a node on a frame is still to come, or its weight is counted, or leads to a circle
  pub data Passed (mark : ℕ → Mark) (f : Frame) (n : ℕ) : Type 0 where
    coming : Member n (left f.node f.place) → Passed mark f n
    low : {h : ℕ} → mark n ≡ Plain h → h ≤ f.high → Passed mark f n
    circled : mark n ≡ Circle → Passed mark f n
    looped : f.looped ≡ true → Passed mark f n

  -- what a frame says of its node
  pub record IsFrame (mark : ℕ → Mark) (f : Frame) : Type 0 where
    pub opened : mark f.node ≡ Open f.at
    pub tall : Path steps weight f.node (weight f.node + f.high)
    pub loops : f.looped ≡ true → Leads steps f.node f.node
    pub passed : (n : ℕ) → Member n (steps f.node) → Passed mark f n
    pub part : (n : ℕ) → Member n (left f.node f.place) → Member n (steps f.node)

  -- with so many open nodes
  pub record Holds (mark : ℕ → Mark) (count : ℕ) (starts : List ℕ) (frames : List Frame) : Type 0 where
    pub facts : AreTrue mark
    pub few : (m i : ℕ) → mark m ≡ Open i → i < count
    pub first : (count ≡ 0) ⊎ Member 0 starts
    pub starts_rise : Rises starts
    pub frames_rise : Rises (places_of frames)
    pub on_frame : (b : ℕ) → Member b starts → (f : Frame) × Member f frames × (f.at ≡ b)
    pub framed : (f : Frame) → Member f frames → IsFrame mark f
    pub reach : (m n i k : ℕ) → mark m ≡ Open i → mark n ≡ Open k → NoneBetween starts i k → Reaches steps m n
    pub seen : (m n i : ℕ) → mark m ≡ Open i → Member n (steps m) → Seen mark starts frames m i n

-- nothing is known yet
abbrev pub is_new : Mark → Bool
is_new New = true
is_new (Open i) = false
is_new (Plain h) = false
is_new Circle = false

-- how many nodes are shut
abbrev pub shut_count : List Mark → ℕ
shut_count [] = 0
shut_count (m ∷ ms) = (if is_shut m then 1 else 0) + shut_count ms

-- what new nodes still cost; the first of the list has this number
abbrev pub new_work : (ℕ → ℕ) → ℕ → List Mark → ℕ
new_work cost n [] = 0
new_work cost n (m ∷ ms) = (if is_new m then cost n else 0) + new_work cost (n + 1) ms

module _ (left : ℕ → Place → List ℕ) where
  -- the turns that a frame still takes, and all of them
  abbrev pub frame_work : Frame → ℕ
  frame_work f = 1 + length (left f.node f.place)

  abbrev pub work : List Mark → List Frame → ℕ
  work marks frames = new_work (λ m. 2 + length (left m origin)) 0 marks + sum_by frame_work frames

-- the starts up to a place
pub record AreCut (starts : List ℕ) (at : ℕ) (cut : List ℕ) : Type 0 where
  pub rises : Rises cut
  pub from : (b : ℕ) → Member b cut → Member b starts × (b ≤ at)
  pub kept : (b : ℕ) → Member b starts → b ≤ at → Member b cut

-- the nodes from a place on, so many at least, have this mark, and the others what they had
pub record AreClosed (marks : List Mark) (start : ℕ) (mark : Mark) (gone : ℕ) (new : List Mark) : Type 0 where
  pub closed : (m i : ℕ) → mark_of marks m ≡ Open i → start ≤ i → mark_of new m ≡ mark
  pub others : (m : ℕ) → ((i : ℕ) → mark_of marks m ≡ Open i → i < start) → mark_of new m ≡ mark_of marks m
  pub size : length new ≡ length marks
  pub more : shut_count marks + gone ≤ shut_count new

module _ (left : ℕ → Place → List ℕ) (weight : ℕ → ℕ) where
  -- a search over so many nodes
  pub record IsState (size : ℕ) (marks : List Mark) (places starts : List ℕ) (frames : List Frame) : Type 0 where
    pub sized : length marks ≡ size
    pub opens : AreOpen (mark_of marks) places
    pub holds : Holds left weight (mark_of marks) (length places) starts frames
    pub low : (m h : ℕ) → mark_of marks m ≡ Plain h → h ≤ shut_count marks
    pub frame_low : (f : Frame) → Member f frames → f.high ≤ shut_count marks

  -- what a turn keeps
  pub record IsTurn (size : ℕ) (marks : List Mark) (frames : List Frame) (marks' : List Mark) (places' starts' : List ℕ) (frames' : List Frame) : Type 0 where
    pub state : IsState size marks' places' starts' frames'
    pub kept : (m : ℕ) → is_new (mark_of marks' m) ≡ true → is_new (mark_of marks m) ≡ true
    pub less : work left marks' frames' < work left marks frames

  -- it is between two visits: no step is still to come
  abbrev pub Knows : ℕ → List Mark → List ℕ → List ℕ → List Frame → Type 0
  Knows size marks places starts frames = IsState size marks places starts frames × (frames ≡ [])

-- a node just opened
abbrev pub fresh_frame : ℕ → ℕ → Frame
fresh_frame m n = record { node = m; at = n; place = origin; high = 0; looped = false }

-- there is a number, and it passes the test
abbrev pub passes : (ℕ → Bool) → Option ℕ → Bool
passes test None = false
passes test (Some x) = test x

-- the last of some numbers, if there is one
abbrev pub last_of : List ℕ → Option ℕ
last_of xs = slice_get xs (length xs - 1)
