-- The reduction as a function: the four rules, their order, a run with a step limit. Assumes nothing.
use Rattle.std.specs.Prelude.{Bool, ◌&&◌, ◌||◌, List, [], ◌∷◌, map, ℕ, zero, suc, ◌-◌, ◌^◌, ltb, eqb, length, get_or, set}
use Rattle.std.proofs.Math.Option.{Option, none, some}
use Rattle.std.specs.Int.Bits.{bit_or}
use Rattle.std.specs.Int.Count.{ones}
use Rattle.masks.specs.Sets.{pick, bit, put, cut, those, lowest}
use Rattle.graphs.specs.Graph.{plain}
use Rattle.reduction.specs.declared.Step.{Step}
use Rattle.reduction.specs.declared.Done.{Done}
use Rattle.reduction.specs.declared.Done.TheVariants.{Forced, Dropped, Folded}

-- "The block under reduction is one record ..: live flip-flops, edges among them, forced set"
pub record State : Type 0 where
  pub live : ℕ
  pub forced : ℕ
  pub rows : List ℕ

-- the block as lent, self edges dropped
abbrev pub start : List ℕ → State
start rows = record { live = 2 ^ length rows - 1; forced = 0; rows = plain rows }

-- the out-neighbours and the in-neighbours of v
abbrev pub outs : State → ℕ → ℕ
outs s v = get_or s.rows v 0

abbrev pub ins : State → ℕ → ℕ
ins s v = those (length s.rows) (λ u. bit (get_or s.rows u 0) v)

-- the one member of a set that has one
abbrev pub sole : State → ℕ → ℕ
sole s m = lowest (length s.rows) (bit m)

-- "u costs less than v, or the same and u < v"
abbrev pub beats : (ℕ → ℕ) → ℕ → ℕ → Bool
beats c u v = ltb (c u) (c v) || (eqb (c u) (c v) && ltb u v)

-- ---- where each rule applies

-- 1: "v has an edge to itself"
abbrev pub applies1 : State → ℕ → Bool
applies1 s v = bit s.live v && bit (outs s v) v

-- 2: "v has no edge in, or none out"
abbrev pub applies2 : State → ℕ → Bool
applies2 s v = bit s.live v && (eqb (ins s v) 0 || eqb (outs s v) 0)

-- 3: "v has one in-neighbour u, and u costs less than v, or the same and u < v"
abbrev pub applies3 : (ℕ → ℕ) → State → ℕ → Bool
applies3 c s v = bit s.live v && (eqb (ones (ins s v)) 1 && beats c (sole s (ins s v)) v)

-- 4: "The mirror of 3 with one out-neighbour u"
abbrev pub applies4 : (ℕ → ℕ) → State → ℕ → Bool
applies4 c s v = bit s.live v && (eqb (ones (outs s v)) 1 && beats c (sole s (outs s v)) v)

-- ---- what each rule does

-- rows with every edge of v gone
abbrev pub bare : ℕ → List ℕ → List ℕ
bare v rows = set (map (λ r. cut r v) rows) v 0

-- "v is removed"
abbrev pub remove : ℕ → State → State
remove v s = record { live = cut s.live v; forced = s.forced; rows = bare v s.rows }

-- "v is forced and removed"
abbrev pub force : ℕ → State → State
force v s = record { live = cut s.live v; forced = put s.forced v; rows = bare v s.rows }

-- "every edge from v to w becomes one from u to w (w may be u), and v is removed"
abbrev pub fold_in : ℕ → ℕ → State → State
fold_in u v s = remove v (record { live = s.live; forced = s.forced; rows = set s.rows u (bit_or (outs s u) (outs s v)) })

-- its mirror: every edge from w to v becomes one from w to u
abbrev pub fold_out : ℕ → ℕ → State → State
fold_out u v s = remove v (record { live = s.live; forced = s.forced; rows = map (λ r. pick (bit r v) (put r u) r) s.rows })

-- ---- one step

-- the block after a step, and the step as it is recorded: "the flip-flop and what was done with it"
pub record Move : Type 0 where
  pub after : State
  pub step : Step

abbrev pub recorded : ℕ → Done → Step
recorded v done = record { vertex = record { 0 = v }; done = done }

-- "the lowest-numbered rule that applies to any live flip-flop is used, on the lowest such flip-flop"
abbrev pub wherever : State → (ℕ → Bool) → (ℕ → Move) → Option Move → Option Move
wherever s applies move otherwise =
    let v = lowest (length s.rows) applies in
    pick (ltb v (length s.rows)) (some (move v)) otherwise

unfoldable pub next : (ℕ → ℕ) → State → Option Move
next c s =
    wherever s (applies1 s) (λ v. record { after = force v s; step = recorded v Forced })
    (wherever s (applies2 s) (λ v. record { after = remove v s; step = recorded v Dropped })
    (wherever s (applies3 c s) (λ v. record { after = fold_in (sole s (ins s v)) v s; step = recorded v (Folded (record { 0 = sole s (ins s v) })) })
    (wherever s (applies4 c s) (λ v. record { after = fold_out (sole s (outs s v)) v s; step = recorded v (Folded (record { 0 = sole s (outs s v) })) })
    none)))

-- ---- a run

-- the block that is left, and "the steps in order"
pub record Run : Type 0 where
  pub left : State
  pub steps : List Step

-- "does that many steps, fewer only when no rule applies"
unfoldable pub run : (ℕ → ℕ) → ℕ → State → Run
run c zero s = record { left = s; steps = [] }
run c (suc k) s =
    elim (next c s) [
      | none ↦ record { left = s; steps = [] }
      | some m ↦ let rest = run c k m.after in record { left = rest.left; steps = m.step ∷ rest.steps }
    ]
