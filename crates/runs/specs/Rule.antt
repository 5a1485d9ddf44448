-- The walk: entering, candidates, layers, kept, tried, verdict and path, over lists of words.
use Rattle.std.specs.Prelude.{Bool, true, false, ◌&&◌, ◌||◌, cond, List, [], ◌∷◌, ◌++◌, ℕ, zero, suc, ◌-◌, eqb, ltb, leb, ℤ, pos, negsuc, length, get_or, replicate, Err, Ok}
use Rattle.numbers.specs.Refusals.{refusal_number}
use Rattle.numbers.specs.declared.Refusal.{Refusal}
use Rattle.numbers.specs.declared.Refusal.TheVariants.{Range, Gens, Room}
use Rattle.algebra.specs.Vectors.{Vector, vectors, words}
use Rattle.algebra.specs.Wanted.{left, right}
use Rattle.algebra.specs.Working.{intersect_list, delay_list, reset_list}
use Rattle.sets.specs.Types.{Told}
use Rattle.sets.specs.Rules.{included_of}
use Rattle.making.specs.Clean.{canonical_of}
use Rattle.making.specs.Rules.{range_ok}
use Rattle.runs.specs.Models.{Bound, Edge, System, Model, invariant, edge}
use Rattle.runs.specs.Table.{half_of}
use Rattle.runs.specs.Verdicts.{Answer, reached, never, open_to, refused}

infixl 20 ◌then◌
-- ---- steps on lists of words
-- what a step answers: a list, or the refusal that stops the walk
pub data Step : Type 0 where
  made : List ℤ → Step
  stop : Refusal → Step

-- the words of a canonical list; RANGE if an entry is out of range, GENS if there are more than 32 vectors
unfoldable pub fitted : ℕ → List Vector → Step
fitted n R = cond (range_ok n R) (cond (leb (length R) 32) (made (words R)) (stop Gens)) (stop Range)

-- the step to what satisfies a half-space, by its words
unfoldable pub cut : ℕ → List ℤ → List ℤ → Step
cut n h l = fitted n (canonical_of n (intersect_list n (left n h) (right n h) (vectors n l)))

-- the step to what is reached by a delay
unfoldable pub delayed : ℕ → List ℤ → Step
delayed n l = fitted n (canonical_of n (delay_list n (vectors n l)))

-- the step to clock i set to 0
unfoldable pub reset_to0 : ℕ → ℕ → List ℤ → Step
reset_to0 n i l = fitted n (canonical_of n (reset_list n i (pos 0) (vectors n l)))

-- the empty set has the empty list
abbrev pub is_empty : List ℤ → Bool
is_empty [] = true
is_empty (z ∷ l) = false

-- a yes
abbrev pub is_yes : Told → Bool
is_yes (Ok b) = b
is_yes (Err e) = false

-- one set is included in another
unfoldable pub included : ℕ → List ℤ → List ℤ → Bool
included n inner outer = is_yes (included_of n inner outer)

-- the list of the one point with all clocks 0
abbrev pub zeros : ℕ → List ℤ
zeros n = replicate (suc n) (pos 0)

-- go on with the list that was made; a refusal is passed up
abbrev pub ◌then◌ : Step → (List ℤ → Step) → Step
made l then f = f l
stop e then f = stop e

-- the bounds of a list, in list order, canonical after each
unfoldable pub cut_all : ℕ → List Bound → List ℤ → Step
cut_all n [] l = made l
cut_all n (b ∷ bs) l = cut n (half_of n b) l then cut_all n bs

-- the resets, in rising clock order
unfoldable pub reset_all : ℕ → List ℕ → List ℤ → Step
reset_all n [] l = made l
reset_all n (i ∷ is) l = reset_to0 n i l then reset_all n is

-- entering a location with its invariant: intersect with it, delay, intersect with it again
unfoldable pub entering : ℕ → List Bound → List ℤ → Step
entering n inv l = cut_all n inv l then delayed n then cut_all n inv

-- over an edge to a location with its invariant: guard, resets, enter
unfoldable pub following : ℕ → Edge → List Bound → List ℤ → Step
following n e inv l = cut_all n e.guard l then reset_all n e.resets then entering n inv

-- entering location q
abbrev pub enter : System → ℕ → List ℤ → Step
enter S q l = entering S.clocks (invariant S q) l

-- a candidate over an edge
abbrev pub candidate : System → Edge → List ℤ → Step
candidate S e l = following S.clocks e (invariant S e.destination) l

-- ---- states
-- a kept state: its location, its parent's number and the edge from there, and its list. State 0 has −1 for both
pub record State : Type 0 where
  pub location : ℕ
  pub parent : ℤ
  pub edge : ℤ
  pub list : List ℤ

-- what stands for a state that is not there
abbrev pub nowhere : State
nowhere = record { location = 0; parent = negsuc 0; edge = negsuc 0; list = [] }

-- state i of those kept
abbrev pub state_at : List State → ℕ → State
state_at kept i = get_or kept i nowhere

-- the list is included in one kept state of location q
unfoldable pub covered : ℕ → List State → ℕ → List ℤ → Bool
covered n [] q l = false
covered n (s ∷ kept) q l = (eqb s.location q && included n l s.list) || covered n kept q l

-- ---- paths, by parents
-- an edge word as a piece of a path: −1 is no edge
abbrev pub edge_of : ℤ → List ℕ
edge_of (pos e) = e ∷ []
edge_of (negsuc k) = []

-- a state's path: its parent's path with its edge behind; that of state 0 is empty
abbrev pub path_from : List (List ℕ) → ℤ → ℤ → List ℕ
path_from paths (pos i) e = get_or paths i [] ++ edge_of e
path_from paths (negsuc k) e = []

-- the paths of all kept states, in order kept, behind those that are known
unfoldable pub paths_on : List (List ℕ) → List State → List (List ℕ)
paths_on paths [] = paths
paths_on paths (s ∷ kept) = paths_on (paths ++ (path_from paths s.parent s.edge ∷ [])) kept

-- the edges from state 0 to state i
unfoldable pub path_of : List State → ℕ → List ℕ
path_of kept i = get_or (paths_on [] kept) i []

-- the edges from state 0 to the state kept last
unfoldable pub last_path : List State → List ℕ
last_path kept = path_of kept (length kept - 1)

-- ---- the walk
-- how far the walk is: the states kept, in order, and the count of candidates formed
pub record Walk : Type 0 where
  pub kept : List State
  pub tried : ℕ

-- a part of the walk goes on, has met the target with the state kept last, or is refused
pub data Outcome : Type 0 where
  going : Walk → Outcome
  met : Walk → Outcome
  stopped : Refusal → Outcome

-- go on with the next part, if this one goes on
abbrev pub onward : Outcome → (Walk → Outcome) → Outcome
onward (going w) f = f w
onward (met w) f = met w
onward (stopped e) f = stopped e

-- f at i, i + 1, .., n times, until one does not go on
unfoldable pub in_turn : (ℕ → Walk → Outcome) → ℕ → ℕ → Walk → Outcome
in_turn f zero i w = going w
in_turn f (suc n) i w = onward (f i w) (in_turn f n (suc i))

-- the walk before state 0
abbrev pub nothing : Walk
nothing = record { kept = []; tried = 0 }

-- one state more is kept
abbrev pub keeping : State → Walk → Walk
keeping s w = record { kept = w.kept ++ (s ∷ []); tried = w.tried }

-- one candidate more was formed
abbrev pub trying : Walk → Walk
trying w = record { kept = w.kept; tried = suc w.tried }

-- the target test: nonempty with the target list is REACHED
abbrev pub tested : Walk → Step → Outcome
tested w (made l) = cond (is_empty l) (going w) (met w)
tested w (stop e) = stopped e

-- a state that was just kept is tested if it is in the target location
unfoldable pub test : System → State → Walk → Outcome
test S s w =
    let answer = tested w (cut_all S.clocks S.goal s.list) in
    cond (eqb s.location S.target) answer (going w)

module _ (S : System) (room : ℕ) where
  -- keep a state, if there is room
  unfoldable pub keep : State → Walk → Outcome
  keep s w =
      let kept = test S s (keeping s w) in
      cond (ltb (length w.kept) room) kept (stopped Room)

  -- a candidate that is empty, or included in one kept state of its location, is dropped; otherwise it is kept
  unfoldable pub judge : State → Walk → Outcome
  judge s w =
      let kept = keep s w in
      cond (is_empty s.list || covered S.clocks w.kept s.location s.list) (going w) kept

  -- the candidate over edge e from state i
  abbrev pub formed : ℕ → ℕ → Walk → Step → Outcome
  formed i e w (made l) =
      judge (record { location = (edge S e).destination; parent = pos i; edge = pos e; list = l }) w
  formed i e w (stop f) = stopped f

  -- edge e at state i: if it leaves the state's location, its candidate is formed and counted
  unfoldable pub try_edge : ℕ → ℕ → Walk → Outcome
  try_edge i e w =
      let tried = formed i e (trying w) (candidate S (edge S e) (state_at w.kept i).list) in
      cond (eqb (edge S e).source (state_at w.kept i).location) tried (going w)

  -- all edges at state i, in number order
  unfoldable pub expand : ℕ → Walk → Outcome
  expand i w = in_turn (try_edge i) (length S.edges) 0 w

  -- the next layer: all states kept so far from number b on, in order kept
  unfoldable pub layer : ℕ → Walk → Outcome
  layer b w = in_turn expand (length w.kept - b) b w

-- how a walk ends. With REACHED, the path is that of the state kept last
pub data Ending : Type 0 where
  ends_reached : Walk → Ending
  ends_never : Walk → Ending
  ends_open : Walk → Ending
  ends_refused : Refusal → Ending

-- after a layer that began with k states kept: if it kept nothing, NEVER; otherwise the walk goes on
abbrev pub after : ℕ → (Walk → Ending) → Outcome → Ending
after k next (going w) = let more = next w in cond (eqb (length w.kept) k) (ends_never w) more
after k next (met w) = ends_reached w
after k next (stopped e) = ends_refused e

-- after state 0: the layers follow, unless the walk has ended
abbrev pub begun : (Walk → Ending) → Outcome → Ending
begun next (going w) = next w
begun next (met w) = ends_reached w
begun next (stopped e) = ends_refused e

-- state 0, with its list
abbrev pub zeroth : System → List ℤ → State
zeroth S l = record { location = S.initial; parent = negsuc 0; edge = negsuc 0; list = l }

module _ (S : System) (room : ℕ) where
  -- `more` layers are left to the depth, and the last layer begins with state b. After the depth's last layer: OPEN
  unfoldable pub layers : ℕ → ℕ → Walk → Ending
  layers zero b w = ends_open w
  layers (suc more) b w = after (length w.kept) (layers more (length w.kept)) (layer S room b w)

  -- state 0: the initial location entered with all clocks 0. If empty: NEVER, 0 kept, 0 tried
  abbrev pub from : (Walk → Ending) → Step → Ending
  from next (made l) =
      let kept = begun next (keep S room (zeroth S l) nothing) in
      cond (is_empty l) (ends_never nothing) kept
  from next (stop e) = ends_refused e

  -- the walk to a depth
  unfoldable pub walk_to : ℕ → Ending
  walk_to depth = from (layers depth 0) (enter S S.initial (zeros S.clocks))

-- the walk of a model
unfoldable pub walk_of : Model → ℕ → Ending
walk_of M room = walk_to M.system room M.depth

-- ---- what the walk answers
-- the kept states, none where it is refused
abbrev pub kept_by : Ending → List State
kept_by (ends_reached w) = w.kept
kept_by (ends_never w) = w.kept
kept_by (ends_open w) = w.kept
kept_by (ends_refused e) = []

-- the verdict with its counts; REACHED has the number of edges of the path
unfoldable pub answer_of : ℕ → Ending → Answer
answer_of depth (ends_reached w) = reached (length (last_path w.kept)) (length w.kept) w.tried
answer_of depth (ends_never w) = never (length w.kept) w.tried
answer_of depth (ends_open w) = open_to depth (length w.kept) w.tried
answer_of depth (ends_refused e) = refused (refusal_number e)
