-- What only the contracts of the code and its proofs cite: no part of document 01. Assumes nothing.
use Rattle.std.specs.Prelude.{Result, Ok, Err, ◌≡◌, ◌↔◌, ◌⊎◌, Bool, true, ◌&&◌, List, [], ◌∷◌, ◌++◌, map, ℕ, zero, suc, ◌-◌, ◌≤◌, ◌<◌, T, length, take, get_or, replicate}
use Rattle.std.specs.Int.Count.{ones}
use Rattle.masks.specs.Sets.{bit, pick, put, weight, number}
use Rattle.graphs.specs.Graph.{edge, Of, Differ}
use Rattle.graphs.specs.Light.{left}
use Rattle.graphs.specs.Components.{inside, Component}
use Rattle.graphs.specs.Work.{Sound}
use Rattle.trees.specs.Tree.{Tree, eval, Ordered}
use Rattle.trees.specs.Best.{Under}
use Rattle.trees.specs.Need.{Need}
use Rattle.nodes.specs.Codes.{Stands, Table, Grows}
use Rattle.nodes.specs.Promise.{Room}
use Rattle.nodes.specs.Rooms.{used}
use Rattle.nodes.specs.declared.Node.{Node}
use Rattle.nodes.specs.declared.Full.{Full}
use Rattle.arrayvec.specs.ArrayVec.{array_vec_len}
use Rattle.cycles.specs.Search.{Visits, finish, mark, back_of}
use Rattle.cycles.specs.declared.Asked.{Asked}
use Rattle.cycles.specs.declared.making.Cycle.{Cycle}
use Rattle.cycles.specs.declared.search.Order.{Order}
use Rattle.cycles.specs.declared.search.Search.{Search}
use Rattle.cycles.specs.Passes.{any, each, joined, ors, F, at_flop, passes, cycle, functions}

-- ---- the search that also lists the flip-flops in the order in which their visits end

pub record VisitLog : Type 0 where
  pub visits : Visits
  pub order : List ℕ

abbrev pub begun : VisitLog
begun = record { visits = record { over = 0; back = 0 }; order = [] }

abbrev pub finish_l : ℕ → VisitLog → VisitLog
finish_l v s = record { visits = finish v s.visits; order = s.order ++ (v ∷ []) }

abbrev pub mark_l : ℕ → VisitLog → VisitLog
mark_l u s = record { visits = mark u s.visits; order = s.order }

module _ (E : ℕ → ℕ → Bool) (n : ℕ) where
  abbrev pub along_l : (ℕ → VisitLog → VisitLog) → ℕ → ℕ → ℕ → VisitLog → VisitLog
  along_l go going v w s = pick (E v w) (pick (bit going w) (mark_l v s) (pick (bit s.visits.over w) s (go w s))) s

  unfoldable pub targets_l : (ℕ → VisitLog → VisitLog) → ℕ → ℕ → ℕ → VisitLog → VisitLog
  targets_l go going v zero s = s
  targets_l go going v (suc m) s = along_l go going v m (targets_l go going v m s)

  unfoldable pub visit_l : ℕ → ℕ → ℕ → VisitLog → VisitLog
  visit_l zero going v s = s
  visit_l (suc d) going v s = finish_l v (targets_l (visit_l d (put going v)) (put going v) v n s)

-- ---- the code's record of a search

-- what it says
abbrev pub log_of : Search → VisitLog
log_of s =
    record {
      visits = record { over = number s.over; back = number s.order.back };
      order = s.order.flops.items;
    }

-- it is a search of the same component
pub record Alike (s r : Search) : Type 0 where
  pub part : r.part ≡ s.part

-- u is put into B
pub record Marked (u : ℕ) (s r : Search) : Type 0 where
  pub alike : Alike s r
  pub over : r.over ≡ s.over
  pub back : number r.order.back ≡ put (number s.order.back) u
  pub flops : r.order.flops ≡ s.order.flops

-- v is over, and listed
pub record Finished (v : ℕ) (s r : Search) : Type 0 where
  pub alike : Alike s r
  pub over : number r.over ≡ put (number s.over) v
  pub back : r.order.back ≡ s.order.back
  pub flops : r.order.flops.items ≡ s.order.flops.items ++ v ∷ []

-- how many of n a set has
abbrev pub size : ℕ → ℕ → ℕ
size n m = weight (λ v. 1) n m

-- it lists as many as are over, and none of those is being visited
pub record Consistent (going : ℕ) (s : Search) : Type 0 where
  pub counted : array_vec_len s.order.flops ≡ size (length s.part.graph.rows.now) (number s.over)
  pub apart : (x : ℕ) → T (bit going x) → T (bit (number s.over) x) → ⊥

-- when the visit of v may begin
pub record Visitable (v going : ℕ) (s : Search) : Type 0 where
  pub inner : (u : ℕ) → T (bit (number s.part.members) u) → u < length s.part.graph.rows.now
  pub member : T (bit (number s.part.members) v)
  pub new : T (bit going v) → ⊥
  pub fresh : T (bit (number s.over) v) → ⊥
  pub held : Consistent going s

-- the edges that it goes along
abbrev pub edges_of : Search → ℕ → ℕ → Bool
edges_of s = inside (edge s.part.graph.rows.now) (number s.part.members)

-- the definition's visit of v along them, where `going` are being visited already
abbrev pub visit_of : Search → ℕ → ℕ → VisitLog → VisitLog
visit_of s going =
    let n = length s.part.graph.rows.now in
    visit_l (edges_of s) n (n - size n going) going

-- what it did
pub record VisitDone (v going : ℕ) (s r : Search) : Type 0 where
  pub alike : Alike s r
  pub log : log_of r ≡ visit_of s going v (log_of s)
  pub held : Consistent going r

-- ---- the order in which visits end

-- each edge from outside B into one of the list comes from one that stands after it: who goes through the list backwards comes to u before v
abbrev pub Later : (ℕ → ℕ → Bool) → ℕ → List ℕ → Type 0
Later E B [] = Unit {0}
Later E B (v ∷ vs) = ((u : ℕ) → T (E u v) → T (left B u) → Of u vs) × Later E B vs

-- each flip-flop of C once, in such an order
pub record Sorted (E : ℕ → ℕ → Bool) (B C : ℕ) (xs : List ℕ) : Type 0 where
  pub members : (v : ℕ) → Of v xs ↔ T (bit C v)
  pub differ : Differ xs
  pub later : Later E B xs

-- what the search of the component C gives
pub record Searched (E : ℕ → ℕ → Bool) (n C : ℕ) (r : Order) : Type 0 where
  pub back : number r.back ≡ back_of E n C
  pub few : array_vec_len r.flops ≤ n
  pub order : Sorted (inside E C) (back_of E n C) C r.flops.items

-- ---- functions in the node room

-- the code c stands for the function f
pub record Code (ws : List ℕ) (c : ℕ) (f : ℕ → Bool) : Type 0 where
  pub tree : Tree
  pub stands : Stands ws c tree
  pub is : eval tree ≡ f

-- the code that a table has for the flip-flop v
abbrev pub node_of : ℕ → Node
node_of c = record { 0 = c }

abbrev pub code_at : List Node → ℕ → ℕ
code_at table v = (get_or table v (node_of 0)).0

-- the codes of a table stand for functions, at the members of a set
abbrev pub Shows : List ℕ → List Node → ℕ → (ℕ → ℕ → Bool) → Type 0
Shows ws table S g = (v : ℕ) → T (bit S v) → Code ws (code_at table v) (g v)

-- for some functions
pub record Shown (ws : List ℕ) (table : List Node) (S : ℕ) : Type 0 where
  pub given : ℕ → ℕ → Bool
  pub shown : Shows ws table S given

-- the room holds the functions L with their fixings, and nothing else
pub record Holding (ws : List ℕ) (L : List (ℕ → Bool)) : Type 0 where
  pub trees : List Tree
  pub room : Room ws trees
  pub are : (f : ℕ → Bool) → Of f (map eval trees) ↔ Of f L

-- the functions `new` were made: a room that held L holds them too
pub record Added (ws ws' : List ℕ) (new : List (ℕ → Bool)) : Type 0 where
  pub table : Table ws'
  pub grows : Grows ws ws'
  pub holds : (L : List (ℕ → Bool)) → Holding ws L → Holding ws' (L ++ new)

-- some of the functions L need more than m words
pub record Beyond (m : ℕ) (L : List (ℕ → Bool)) : Type 0 where
  pub part : List (ℕ → Bool)
  pub within : (f : ℕ → Bool) → Of f part → Of f L
  pub count : ℕ
  pub need : Need part count
  pub more : m < count

-- the room is too small for them, with what it held
pub record Lacking (ws ws' : List ℕ) (new : List (ℕ → Bool)) : Type 0 where
  pub size : length ws' ≡ length ws
  pub beyond : (L : List (ℕ → Bool)) → Holding ws L → Beyond (length ws) (L ++ new)

-- f was made, with `new` on the way; or the room is too small for them
abbrev pub Makes : List ℕ → List ℕ → List (ℕ → Bool) → (ℕ → Bool) → Result Node Full → Type 0
Makes ws ws' new f (Ok c) = Added ws ws' new × Code ws' c.0 f
Makes ws ws' new f (Err e) = Lacking ws ws' new

-- ---- the OR over a set, and the product

-- the OR over a set of functions
abbrev pub any_of : ℕ → (ℕ → ℕ → Bool) → ℕ → Bool
any_of S g K = any 64 (λ u. bit S u && g u K)

-- "the OR of the first one, two, .." of them, ascending
abbrev pub ors_of : ℕ → (ℕ → ℕ → Bool) → List (ℕ → Bool)
ors_of S g = ors (map g (each 64 (bit S)))

pub record Summed (ws ws' : List ℕ) (table : List Node) (S : ℕ) (r : Result Node Full) : Type 0 where
  pub made : (g : ℕ → ℕ → Bool) → Shows ws table S g → Makes ws ws' (ors_of S g) (any_of S g) r

-- "v AND the OR .."
abbrev pub and_of : ℕ → ℕ → (ℕ → ℕ → Bool) → ℕ → Bool
and_of v S g K = bit K v && any_of S g K

abbrev pub IsVariable : List ℕ → ℕ → ℕ → Type 0
IsVariable ws c v = Code ws c (λ K. bit K v)

pub record Multiplied (ws ws' : List ℕ) (table : List Node) (c S : ℕ) (r : Result Node Full) : Type 0 where
  pub made : (v : ℕ) (g : ℕ → ℕ → Bool) → IsVariable ws c v → Shows ws table S g → Makes ws ws' (ors_of S g ++ (and_of v S g ∷ [])) (and_of v S g) r

-- ---- the variables

abbrev pub variables_of : ℕ → List (ℕ → Bool)
variables_of S = map (λ v K. bit K v) (each 64 (bit S))

-- the variables of a set were made, and the table has them; or the room is too small for them
abbrev pub VariablesPromise : List ℕ → List ℕ → ℕ → Result (List Node) Full → Type 0
VariablesPromise ws ws' S (Ok table) = Added ws ws' (variables_of S) × Shows ws' table S (λ v K. bit K v)
VariablesPromise ws ws' S (Err e) = Lacking ws ws' (variables_of S)

-- ---- the passes

-- what a pass leaves at the members of B becomes what the next one goes by; and where it says so, it was that already
pub record Settling (B : ℕ) (table next table' : List Node) (same : Bool) : Type 0 where
  pub taken : (b : ℕ) → T (bit B b) → code_at table' b ≡ code_at next b
  pub stays : same ≡ true → (b : ℕ) → T (bit B b) → code_at table b ≡ code_at next b

-- the component C of a block as the passes go by it
pub record Wired (rows : List ℕ) (C : ℕ) (order : Order) (sources : List ℕ) : Type 0 where
  pub sound : Sound rows
  pub component : Component (edge rows) C
  pub searched : Searched (edge rows) (length rows) C order
  pub into : (v u : ℕ) → bit (get_or sources v 0) u ≡ inside (edge rows) C u v

module _ (rows : List ℕ) (C : ℕ) where
  -- B
  abbrev pub back_in : ℕ
  back_in = back_of (edge rows) (length rows) C

  -- Fi
  abbrev pub pass_at : ℕ → ℕ → ℕ → Bool
  pass_at i = F (inside (edge rows) C) (length rows) back_in i

  -- the functions listed in pass i + 1, and those of the first i passes
  abbrev pub listed_in : ℕ → List (ℕ → Bool)
  listed_in i = joined (map (at_flop (inside (edge rows) C) (length rows) back_in i) (each (length rows) (bit C)))

  abbrev pub listed_before : ℕ → List (ℕ → Bool)
  listed_before i = passes (inside (edge rows) C) (length rows) back_in C i

  -- pass i + 1 may begin
  pub record Ready (i : ℕ) (ws : List ℕ) (order : Order) (sources : List ℕ) (variables table : List Node) : Type 0 where
    pub wired : Wired rows C order sources
    pub given : Shows ws variables C (λ v K. bit K v)
    pub last : Shows ws table back_in (pass_at i)

  -- and is over
  pub record Passed (i : ℕ) (ws ws' : List ℕ) (table' next' : List Node) : Type 0 where
    pub added : Added ws ws' (listed_in i)
    pub last : Shows ws' table' back_in (pass_at i)
    pub next : Shows ws' next' back_in (pass_at (suc i))

  abbrev pub PassPromise : ℕ → List ℕ → List ℕ → List Node → List Node → Result Unit Full → Type 0
  PassPromise i ws ws' table' next' (Ok u) = Passed i ws ws' table' next'
  PassPromise i ws ws' table' next' (Err e) = Lacking ws ws' (listed_in i)

  -- i passes are over: as many as B has members, or fewer where the last changed no member of B
  pub record Ended (i : ℕ) (ws ws' : List ℕ) (table : List Node) : Type 0 where
    pub within : i ≤ ones back_in
    pub added : Added ws ws' (listed_before i)
    pub last : Shows ws' table back_in (pass_at i)
    pub enough : (i ≡ ones back_in) ⊎ ((j : ℕ) × (i ≡ suc j) × ((b : ℕ) → T (bit back_in b) → pass_at (suc j) b ≡ pass_at j b))

  abbrev pub PassesPromise : List ℕ → List ℕ → Result (List Node) Full → Type 0
  PassesPromise ws ws' (Ok table) = (i : ℕ) × Ended i ws ws' table
  PassesPromise ws ws' (Err e) = (i : ℕ) × (i ≤ ones back_in) × Lacking ws ws' (listed_before i)

-- "F0 of each member of B is the constant 1"
abbrev pub ones_at_first : List Node
ones_at_first = replicate 64 (node_of 1)

-- ---- the whole component

-- what building the functions of the component C leaves in the room: the cycle function at a code, and exactly the need in use; or the need exceeds the room
pub record BuiltAt (E : ℕ → ℕ → Bool) (n C : ℕ) (ws : List ℕ) (c : ℕ) : Type 0 where
  pub table : Table ws
  pub tree : Tree
  pub stands : Stands ws c tree
  pub ordered : Ordered 0 tree
  pub under : Under n tree
  pub is : (K : ℕ) → eval tree K ≡ cycle E n C K
  pub need : Need (functions E n C) (used ws)

abbrev pub TooSmall : (ℕ → ℕ → Bool) → ℕ → ℕ → ℕ → Type 0
TooSmall E n C room = (k : ℕ) × Need (functions E n C) k × (room < k)

abbrev pub BuildPromise : (ℕ → ℕ → Bool) → ℕ → ℕ → List ℕ → Result Node Full → Type 0
BuildPromise E n C ws (Ok c) = BuiltAt E n C ws c.0
BuildPromise E n C ws (Err e) = TooSmall E n C (length ws)

-- the same, in a part of the room
abbrev pub ComponentPromise : (ℕ → ℕ → Bool) → ℕ → ℕ → List ℕ → Result Cycle Full → Type 0
ComponentPromise E n C ws (Ok b) = (b.words ≤ length ws) × BuiltAt E n C (take b.words ws) b.function.0
ComponentPromise E n C ws (Err e) = TooSmall E n C (length ws)

-- what is said of one component where `kept` are kept: its need, at most the room, and the value of its cycle function; or that its need exceeds the room
abbrev pub PartPromise : (ℕ → ℕ → Bool) → ℕ → ℕ → ℕ → ℕ → Result Asked Full → Type 0
PartPromise E n C kept room (Ok a) = Need (functions E n C) a.need × (a.need ≤ room) × (a.holds ≡ cycle E n C kept)
PartPromise E n C kept room (Err e) = TooSmall E n C room
