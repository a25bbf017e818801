-- The depth-first search of a component, and its set B. Assumes nothing.
use Rattle.std.specs.Prelude.{Bool, ℕ, zero, suc}
use Rattle.masks.specs.Sets.{pick, bit, put, lowest}
use Rattle.graphs.specs.Components.{inside}

-- the flip-flops whose visit is over, and B: both as sets
pub record Visits : Type 0 where
  pub over : ℕ
  pub back : ℕ

abbrev pub finish : ℕ → Visits → Visits
finish v s = record { over = put s.over v; back = s.back }

-- "Flip-flop u is in B when an edge from u reaches one still being visited"
abbrev pub mark : ℕ → Visits → Visits
mark u s = record { over = s.over; back = put s.back u }

module _ (E : ℕ → ℕ → Bool) (n : ℕ) where
  -- one edge, from v to w: w is among those still being visited, or its visit is over, or `visit` begins it
  abbrev pub along : (ℕ → Visits → Visits) → ℕ → ℕ → ℕ → Visits → Visits
  along visit going v w s = pick (E v w) (pick (bit going w) (mark v s) (pick (bit s.over w) s (visit w s))) s

  -- "targets ascending": those below m
  unfoldable pub targets : (ℕ → Visits → Visits) → ℕ → ℕ → ℕ → Visits → Visits
  targets visit going v zero s = s
  targets visit going v (suc m) s = along visit going v m (targets visit going v m s)

  -- the visit of v, where `going` are being visited already; at most d visits one inside the other
  unfoldable pub visit : ℕ → ℕ → ℕ → Visits → Visits
  visit zero going v s = s
  visit (suc d) going v s = finish v (targets (visit d (put going v)) (put going v) v n s)

  -- the whole search from r
  abbrev pub searched : ℕ → Visits
  searched r = visit n 0 r (record { over = 0; back = 0 })

-- "Search: depth first from the component's lowest flip-flop": B of the component C
abbrev pub back_of : (ℕ → ℕ → Bool) → ℕ → ℕ → ℕ
back_of E n C = (searched (inside E C) n (lowest n (bit C))).back
