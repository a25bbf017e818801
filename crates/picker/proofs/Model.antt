-- The whole answer of `pick` as a function on numbers and trees, and that it keeps the promise for every input. Assumes nothing.
use mathlib.Core.Path.{◌≡◌, refl}
use mathlib.Core.Bool.{Bool}
use mathlib.Core.List.{List, map}
use mathlib.Core.Option.{Option, none, some}
use Prim.Native.Nat.{ℕ}
use lib.Bits.{bit_or}
use lib.ListN.{length}
use Rattle.std.specs.Prelude.{Result, Ok, Err}
use Rattle.masks.specs.Sets.{weight, number}
use Rattle.graphs.specs.Graph.{edge, cost_of}
use Rattle.graphs.specs.Light.{Lightest}
use Rattle.graphs.specs.Components.{Components}
use Rattle.graphs.specs.Refusals.{first, checks}
use Rattle.graphs.specs.declared.refusal.Refusal.{Refusal}
use Rattle.graphs.specs.declared.refusal.Refusal.TheVariants.{RoomTooSmall}
use Rattle.graphs.proofs.Loops.{RowsFit}
use Rattle.graphs.proofs.Parts.{joined}
use Rattle.graphs.proofs.Components.{components_of, components-found}
use Rattle.graphs.proofs.Tables.{checks-passed}
use Rattle.reduction.specs.Rules.{State}
use Rattle.masks.proofs.Numbers.{mask_of}
use Rattle.nodes.specs.Rooms.{capacity, emptied, zeroed}
use Rattle.cycles.proofs.Fits.{Fitting, fits, exceeds, fitting, Fits, fitting-is}
use Rattle.cycles.proofs.Asks.{after}
use Rattle.picker.specs.Promise.{left_rows, PickAnswer, PickCases, PickPromise}
use Rattle.picker.specs.declared.Picked.{Picked}
use Rattle.picker.proofs.Picks.{best_of, reduced, reduced-fits, reduced-edges, best-pick}

-- ---- the answer, computed

-- the set S with its cost and the largest need; or that a component does not fit
abbrev pub picked_by : (ℕ → ℕ) → ℕ → Fitting → ℕ → Result Picked Refusal
picked_by c n (fits m) S = Ok (record { set = mask_of S; cost = weight c n S; need = m })
picked_by c n (exceeds p) S = Err (RoomTooSmall p)

-- the forced set joined with the best sets of the components
abbrev pub chosen : (ℕ → ℕ) → ℕ → State → List ℕ → ℕ
chosen c n s Cs = bit_or s.forced (joined (map (best_of c (edge s.rows) n) Cs))

-- where the reduction left s, with the components Cs
abbrev pub picked_from : (ℕ → ℕ) → ℕ → ℕ → State → List ℕ → Result Picked Refusal
picked_from c n room s Cs = picked_by c n (fitting (edge s.rows) n room Cs) (chosen c n s Cs)

abbrev pub picked_of : (ℕ → ℕ) → ℕ → ℕ → State → Result Picked Refusal
picked_of c n room s = picked_from c n room s (components_of s.rows)

abbrev pub pick_by : Option Refusal → List ℕ → List ℕ → ℕ → Result Picked Refusal
pick_by (some r) rows costs room = Err r
pick_by none rows costs room = picked_of (cost_of costs) (length rows) room (reduced (cost_of costs) rows)

-- the answer for rows, costs and a capacity
unfoldable pub pick_model : List ℕ → List ℕ → ℕ → Result Picked Refusal
pick_model rows costs room = pick_by (first (checks rows (length costs))) rows costs room

-- the rooms after it
unfoldable pub nodes_model : List ℕ → List ℕ → List ℕ → List ℕ
nodes_model rows costs nodes = after (first (checks rows (length costs))) nodes (emptied nodes)

unfoldable pub memo_model : List ℕ → List ℕ → List ℕ → List ℕ
memo_model rows costs memo = after (first (checks rows (length costs))) memo (zeroed memo)

-- ---- the answer is right

module _ (rows costs : List ℕ) (room : ℕ) (fit : RowsFit rows) where
  abbrev c : ℕ → ℕ
  c = cost_of costs

  abbrev E : ℕ → ℕ → Bool
  E = edge (left_rows rows costs)

  answer-by : (Cs : List ℕ) → Components E Cs → (r : Fitting) → Fits E (length rows) room Cs r → (S : ℕ)
      → Lightest c (length rows) (λ R. Unit {0}) (edge rows) S → PickAnswer rows costs room (picked_by c (length rows) r S)
  unfolding number
  answer-by Cs comps (fits m) f S l = record { lightest = l; total = refl; largest = record { parts = Cs; are = comps; fit = f } }
  answer-by Cs comps (exceeds p) f S l = (refl, record { parts = Cs; are = comps; excess = f })

  pub answer-right : (Cs : List ℕ) → Components E Cs → PickAnswer rows costs room (picked_from c (length rows) room (reduced c rows) Cs)
  answer-right Cs comps =
      answer-by Cs comps (fitting E (length rows) room Cs) (fitting-is E (length rows) room (reduced-edges c rows fit) Cs (λ C m. (comps.all C).0 m))
      (chosen c (length rows) (reduced c rows) Cs) (best-pick c rows fit Cs comps)

-- for every input
pub pick_meets : (rows costs nodes memo : List ℕ)
    → PickPromise rows costs nodes memo (pick_model rows costs (capacity nodes)) (nodes_model rows costs nodes) (memo_model rows costs memo)
unfolding pick_model nodes_model memo_model
pick_meets rows costs nodes memo = go (first (checks rows (length costs))) refl
  where
    go : (o : Option Refusal) → first (checks rows (length costs)) ≡ o
        → PickCases o rows costs nodes memo (pick_by o rows costs (capacity nodes)) (after o nodes (emptied nodes)) (after o memo (zeroed memo))
    go (some r) e = (refl, refl, refl)
    go none e =
        let fit : RowsFit rows = (checks-passed rows (length costs) e).fit in (
          answer-right rows costs (capacity nodes) fit (components_of (left_rows rows costs))
              (components-found (left_rows rows costs) (reduced-fits (cost_of costs) rows fit)),
          refl,
          refl,
        )
