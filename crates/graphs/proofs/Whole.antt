-- What a Part says of its members, that they are a component, with the walks that a component has: there is one list of all components, so that it can be told
-- of any set whether it is one. Assumes nothing.
use mathlib.Core.Logic.{∥∥₁_elim}
use mathlib.Core.List.{List}
use Prim.Native.Nat.{ℕ}
use Rattle.masks.specs.Sets.{number}
use Rattle.graphs.specs.Graph.{edge, Of}
use Rattle.graphs.specs.Components.{Component}
use Rattle.graphs.specs.Work.{Sound}
use Rattle.graphs.specs.declared.component.Part.{Part}
use Rattle.graphs.proofs.Lists.{of?}
use Rattle.graphs.proofs.Components.{components_of}
use Rattle.graphs.proofs.InOrder.{sound-components}

pub told-component : {rows : List ℕ} {C : ℕ} → Sound rows → ∥ Component (edge rows) C ∥₁ → Component (edge rows) C
told-component {rows} {C} sound told = go (of? C (components_of rows))
  where
    go : Dec (Of C (components_of rows)) → Component (edge rows) C
    go (yes m) = ((sound-components rows sound).all C).0 m
    go (no k) = absurd (∥∥₁_elim told (λ p q. absurd p) (λ p. k (((sound-components rows sound).all C).1 p)))

pub part-component : (part : Part) → Component (edge part.graph.rows.now) (number part.members)
part-component part = told-component part.graph.sound part.whole
