-- The components of a graph one after the other, as they are found from who reaches whom among its n flip-flops: no part of document 01. Assumes nothing.
use Rattle.std.specs.Prelude.{◌≡◌, Bool, true, false, ◌&&◌, List, [], ◌∷◌, ℕ, zero, suc, ◌-◌, eqb, length, get_or, Option, IfSome}
use Rattle.std.specs.Iterator.{YieldsFirstBy}
use Rattle.masks.specs.Sets.{bit, those, number}
use Rattle.graphs.specs.declared.component.Part.{Part}

-- those that v reaches and is reached by
unfoldable pub around : ℕ → (ℕ → ℕ → Bool) → ℕ → ℕ
around n reach v = those n (λ w. reach v w && reach w v)

-- v is in the set around it, and none below it is: v is the lowest of a component
unfoldable pub leads : ℕ → (ℕ → ℕ → Bool) → ℕ → Bool
leads n reach v = bit (around n reach v) v && eqb (those v (bit (around n reach v))) 0

-- C before the others, where a test holds
abbrev pub add : Bool → ℕ → List ℕ → List ℕ
add true C Cs = C ∷ Cs
add false C Cs = Cs

-- the sets around those that lead, of k flip-flops from v on
unfoldable pub leading : ℕ → (ℕ → ℕ → Bool) → ℕ → ℕ → List ℕ
leading n reach zero v = []
leading n reach (suc k) v = add (leads n reach v) (around n reach v) (leading n reach k (suc v))

-- a walk over the components of a graph: its rows, and the sets that are to come
pub record Coming : Type 0 where
  pub rows : List ℕ
  pub left : List ℕ

-- those from the flip-flop v on, where `reached` are the rows of who reaches whom
abbrev pub coming_from : List ℕ → List ℕ → ℕ → Coming
coming_from rows reached v = record { rows = rows; left = leading (length rows) (λ u w. bit (get_or reached u 0) w) (length rows - v) v }

-- a turn of it gives the first set to come, as a component of the same graph
abbrev pub NextPart : Coming → Option Part → Coming → Type 0
NextPart s r t =
    YieldsFirstBy (λ part. number part.members) (λ c. c.left) s r t × (t.rows ≡ s.rows) × IfSome r (λ part. part.graph.rows.now ≡ s.rows)
