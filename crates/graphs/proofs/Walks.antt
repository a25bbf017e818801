-- Walks: their ends, one after another, in a wider graph, and backwards. Shown by induction on the walk. Assumes nothing.
use mathlib.Core.Bool.{Bool}
use Prim.Native.Nat.{ℕ, ◌<◌}
use lib.Dec.{T}
use Rattle.graphs.specs.Graph.{Walk, edge_to, step_to}

-- ---- the ends

pub start-kept : {E : ℕ → ℕ → Bool} {K : ℕ → Bool} {a b : ℕ} → Walk E K a b → T (K a)
start-kept (edge_to k l e) = k
start-kept (step_to k e p) = k

-- where every edge goes out of (into) a flip-flop below n, a walk starts (ends) below n
pub source-lt : {E : ℕ → ℕ → Bool} {K : ℕ → Bool} {n a b : ℕ} → ((u w : ℕ) → T (E u w) → u < n) → Walk E K a b → a < n
source-lt {a = a} {b = b} h (edge_to k l e) = h a b e
source-lt {a = a} h (step_to {x = x} k e p) = h a x e

pub target-lt : {E : ℕ → ℕ → Bool} {K : ℕ → Bool} {n a b : ℕ} → ((u w : ℕ) → T (E u w) → w < n) → Walk E K a b → b < n
target-lt {a = a} {b = b} h (edge_to k l e) = h a b e
target-lt h (step_to k e p) = target-lt h p

-- ---- one after another

pub snoc : {E : ℕ → ℕ → Bool} {K : ℕ → Bool} {a b d : ℕ} → Walk E K a b → T (E b d) → T (K d) → Walk E K a d
snoc (edge_to k l e) f m = step_to k e (edge_to l m f)
snoc (step_to k e p) f m = step_to k e (snoc p f m)

pub join : {E : ℕ → ℕ → Bool} {K : ℕ → Bool} {a b d : ℕ} → Walk E K a b → Walk E K b d → Walk E K a d
join (edge_to k l e) q = step_to k e q
join (step_to k e p) q = step_to k e (join p q)

-- ---- in another graph

-- each edge of the walk is one of the other graph, between flip-flops kept there
pub carry : {E E' : ℕ → ℕ → Bool} {K K' : ℕ → Bool} {a b : ℕ} → ((u w : ℕ) → T (K u) → T (K w) → T (E u w) → T (K' u) × T (K' w) × T (E' u w))
    → Walk E K a b → Walk E' K' a b
carry {a = a} {b = b} h (edge_to k l e) =
    let r = h a b k l e in
    edge_to r.0 r.1 r.2
carry {a = a} h (step_to {x = x} k e p) =
    let r = h a x k (start-kept p) e in
    step_to r.0 r.2 (carry h p)

pub widen : {E E' : ℕ → ℕ → Bool} {K K' : ℕ → Bool} {a b : ℕ} → ((v : ℕ) → T (K v) → T (K' v)) → ((u w : ℕ) → T (E u w) → T (E' u w))
    → Walk E K a b → Walk E' K' a b
widen f g p = carry (λ u w k l e. (f u k, f w l, g u w e)) p

-- ---- backwards

-- every edge the other way round
abbrev pub flip : (ℕ → ℕ → Bool) → ℕ → ℕ → Bool
flip E a b = E b a

pub flip-walk : {E : ℕ → ℕ → Bool} {K : ℕ → Bool} {a b : ℕ} → Walk E K a b → Walk (flip E) K b a
flip-walk (edge_to k l e) = edge_to l k e
flip-walk (step_to k e p) = snoc (flip-walk p) e k
