-- What the contracts of private functions say of the rows as the code keeps them and of the answers of its parts: no part of document 01.
-- Assumes nothing.
use Rattle.std.specs.Prelude.{◌≡◌, ◌≢◌, Bool, ◌&&◌, ◌||◌, List, ℕ, ◌≤◌, ◌<◌, eqb, length, get_or, MatchOption, Option}
use Rattle.std.proofs.Math.Option.{none, some}
use Rattle.std.specs.Int.Count.{ones}
use Rattle.masks.specs.Sets.{bit, put, cut, lowest, number}
use Rattle.masks.specs.declared.Vertex.{Vertex}
use Rattle.reduction.specs.declared.Done.{Done}
use Rattle.reduction.specs.declared.Done.TheVariants.{Forced, Dropped, Folded}
use Rattle.reduction.specs.declared.Step.{Step}
use Rattle.reduction.specs.declared.Log.{Log}
use Rattle.reduction.specs.declared.rules.Rule.{Rule}
use Rattle.reduction.specs.declared.rules.Rule.TheVariants.{Looped, Loose, OneIn, OneOut}
use Rattle.reduction.specs.Rules.{State, outs, ins, sole, beats, remove, fold_in, fold_out, Move, recorded, next, Run}
use Rattle.reduction.specs.Promise.{filled, blank}

-- in-rows that go with out-rows: row v of these holds u exactly where row u of those holds v
pub record Beside (outs ins : List ℕ) : Type 0 where
  pub even : length ins ≡ length outs
  pub few : length outs ≤ 64
  pub mirrored : (u v : ℕ) → bit (get_or ins v 0) u ≡ bit (get_or outs u 0) v

-- a block under reduction, and one of which only the rows count
abbrev pub block : ℕ → ℕ → List ℕ → State
block live forced rows = record { live = live; forced = forced; rows = rows }

abbrev pub edges : List ℕ → State
edges rows = block 0 0 rows

-- ---- a rule by its name

-- of the set of v's neighbours on one side, among n: one, that is cheaper
abbrev pub one_cheaper : (ℕ → ℕ) → ℕ → ℕ → ℕ → Bool
one_cheaper c n side v = eqb (ones side) 1 && beats c (lowest n (bit side)) v

-- what a rule asks of v, of its out-neighbours and in-neighbours
abbrev pub asks : Rule → (ℕ → ℕ) → ℕ → ℕ → ℕ → ℕ → Bool
asks Looped c n out within v = bit out v
asks Loose c n out within v = eqb within 0 || eqb out 0
asks OneIn c n out within v = one_cheaper c n within v
asks OneOut c n out within v = one_cheaper c n out v

abbrev pub applies : Rule → (ℕ → ℕ) → State → ℕ → Bool
applies rule c s v = bit s.live v && asks rule c (length s.rows) (outs s v) (ins s v) v

-- what it makes of the rows and of the forced set, and what is recorded
abbrev pub rows_by : Rule → List ℕ → ℕ → List ℕ
rows_by Looped rows v = (remove v (edges rows)).rows
rows_by Loose rows v = (remove v (edges rows)).rows
rows_by OneIn rows v = (fold_in (sole (edges rows) (ins (edges rows) v)) v (edges rows)).rows
rows_by OneOut rows v = (fold_out (sole (edges rows) (outs (edges rows) v)) v (edges rows)).rows

abbrev pub forced_by : Rule → ℕ → ℕ → ℕ
forced_by Looped forced v = put forced v
forced_by Loose forced v = forced
forced_by OneIn forced v = forced
forced_by OneOut forced v = forced

abbrev pub done_by : Rule → List ℕ → ℕ → Done
done_by Looped rows v = Forced
done_by Loose rows v = Dropped
done_by OneIn rows v = Folded (record { 0 = sole (edges rows) (ins (edges rows) v) })
done_by OneOut rows v = Folded (record { 0 = sole (edges rows) (outs (edges rows) v) })

abbrev pub move_by : Rule → State → ℕ → Move
move_by rule s v =
    record { after = block (cut s.live v) (forced_by rule s.forced v) (rows_by rule s.rows v); step = recorded v (done_by rule s.rows v) }

-- what a fold needs of v's neighbours on the side that has one
pub record Foldable (n side v : ℕ) : Type 0 where
  pub one : ones side ≡ 1
  pub other : lowest n (bit side) ≢ v

abbrev pub Usable : Rule → List ℕ → ℕ → Type 0
Usable Looped rows v = Unit {0}
Usable Loose rows v = Unit {0}
Usable OneIn rows v = Foldable (length rows) (ins (edges rows) v) v
Usable OneOut rows v = Foldable (length rows) (outs (edges rows) v) v

-- ---- the answers

-- the lowest flip-flop that a rule applies to, or that there is none
abbrev pub FirstFor : Rule → (ℕ → ℕ) → State → Option Vertex → Type 0
FirstFor rule c s r =
    let v = lowest (length s.rows) (applies rule c s) in
    MatchOption r (length s.rows ≤ v) (λ u. (u.0 < length s.rows) × (u.0 ≡ v))

-- a rule and a flip-flop whose move is the next one, or there is none
pub record Chooses (c : ℕ → ℕ) (s : State) (rule : Rule) (v : ℕ) : Type 0 where
  pub within : v < length s.rows
  pub usable : Usable rule s.rows v
  pub moves : next c s ≡ some (move_by rule s v)

abbrev pub Chosen : (ℕ → ℕ) → State → Option (Rule × Vertex) → Type 0
Chosen c s r = MatchOption r (next c s ≡ none) (λ p. Chooses c s p.0 p.1.0)

-- v was folded into its one in-neighbour u
pub record FoldedInto (outs ins : List ℕ) (v u : ℕ) (outs' ins' : List ℕ) : Type 0 where
  pub into : u ≡ lowest (length outs) (bit (get_or ins v 0))
  pub gains : outs' ≡ (fold_in u v (edges outs)).rows
  pub leads : ins' ≡ (fold_out u v (edges ins)).rows
  pub beside : Beside outs' ins'

-- a rule was used on v, in the block s, which is s' afterwards
pub record Performed (rule : Rule) (s : State) (v : ℕ) (told : Done) (s' : State) : Type 0 where
  pub done : told ≡ done_by rule s.rows v
  pub live : s'.live ≡ cut s.live v
  pub forced : s'.forced ≡ forced_by rule s.forced v
  pub rows : s'.rows ≡ rows_by rule s.rows v

-- the next move was made, or there is none and nothing changed
abbrev pub Advanced : (ℕ → ℕ) → State → Option Step → State → Type 0
Advanced c s r s' = MatchOption r ((next c s ≡ none) × (s' ≡ s)) (λ step. next c s ≡ some (record { after = s'; step = step }))

-- a run was made
pub record Logged (whole : Run) (log : Log) (outs : List ℕ) : Type 0 where
  pub count : log.count ≡ length whole.steps
  pub steps : log.steps ≡ filled blank whole.steps
  pub forced : number log.forced ≡ whole.left.forced
  pub live : number log.live ≡ whole.left.live
  pub rows : outs ≡ whole.left.rows
