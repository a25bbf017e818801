use Rattle.std.proofs.Common.{◌≡◌, sym, ap, subst, ◌∙◌, ◌+◌, ◌*◌, ◌<◌, ◌^◌, ◌++◌, ℕ, List, length, map, set, take, drop, get_or, append-nil, arith}
use Rattle.std.proofs.lemmas.List.{length-map, map-set}
use lib.ListN.{drop_of_length-le}
use Rattle.blockfile.specs.Layout.{value, numbers}
use Rattle.blockfile.proofs.Numbers.{Octets, numbers-length, numbers-at, octets-drop, part-lt}
use Rattle.blockfile.proofs.Fills.{Filled, filled_more, filled-all}
use Rattle.blockfile.proofs.parts.fill.Goals as goal

-- the number found at v is the one that belongs there
stands : (w k n v x at : ℕ) (part : List ℕ) → k ≡ w → at ≡ k * v → v < n → x ≡ value (take k (drop at part)) → x ≡ get_or (numbers w n part) v 0
stands w k n v x at part e f l h =
    h ∙ ap (λ (j : ℕ). value (take k (drop j part))) f ∙ ap (λ (j : ℕ). value (take j (drop (j * v) part))) e ∙ sym (numbers-at w n part v l)

-- what k bytes tell fits them
fits : (k x at : ℕ) (part : List ℕ) → Octets part → x ≡ value (take k (drop at part)) → x < 256 ^ k
fits k x at part o h = omega (arith, h, part-lt k (drop at part) (octets-drop at part o))

pub of-requires : goal.of-requires
of-requires g c =
    subst (λ (w : ℕ). c.number_at.result < 256 ^ w) c.width-width.ensures.0
    (fits _ _ _ c.args.part.now (λ i. (c.type_inv.part i).fits) c.number_at.ensures)

-- one number more, found at v
further : (w v x : ℕ) (part : List ℕ) {A : Type 0} (f : A → ℕ) (y : A) (before found : List A) → f y ≡ x → x ≡ get_or (numbers w (length before) part) v 0
    → v < length before → Filled (map f before) (numbers w (length before) part) (length before) v (map f found)
    → Filled (map f before) (numbers w (length before) part) (length before) (v + 1) (map f (set found v y))
further w v x part f y before found p q l h =
    rw map-set
    (filled_more (map f before) (numbers w (length before) part) (map f found) (length before) v (f y) (numbers-length w (length before) part)
    (omega (arith, length-map before f)) l (p ∙ q) h)

pub loop-v-preserved : goal.loop-v-preserved
loop-v-preserved g c =
    further g.N.Number.width c.loop-v.v c.number_at.result c.args.part.now g.N.Number.value c.of.result c.args.found.now c.loop-v.found c.of.ensures
    (stands _ _ _ _ _ _ c.args.part.now c.width-width.ensures.0 (grind (arith)) c.loop-v-test.true c.number_at.ensures) c.loop-v-test.true c.loop-v.invariant

pub returns : goal.returns
returns g c =
    let found = map g.N.Number.value c.args.found.now in
    let all : List ℕ = numbers g.N.Number.width (length c.args.found.now) c.args.part.now in
    filled-all (numbers-length g.N.Number.width _ _) c.loop-v-test.false c.loop-v.invariant
    ∙ ap (λ (l : List ℕ). all ++ l) (drop_of_length-le found (omega (arith, length-map c.args.found.now g.N.Number.value))) ∙ append-nil all
