use Rattle.std.proofs.Common.{◌≡◌, sym, ap, ◌∙◌, ◌+◌, ◌*◌, ◌≤◌, ◌<◌, ℕ, List, get_or, length, map, arith}
use Rattle.std.proofs.lemmas.List.{length-map, get_or-map}
use lib.Seq.{paste}
use Rattle.blockfile.specs.Layout.{bytes}
use Rattle.blockfile.proofs.Spelling.{Spelt, spelt-more, spelt-all}
use Rattle.blockfile.proofs.parts.spell.Goals as goal

-- one number more, spelled at v
further : {A : Type 0} (f : A → ℕ) (xs : List A) (w k v x : ℕ) (y : A) (before part after : List ℕ) → length before ≡ w * length xs → k ≡ w → v < length xs
    → y ≡ get_or xs v y → x ≡ f y → after ≡ paste part (k * v) (bytes k x) k → Spelt w before (map f xs) v part → Spelt w before (map f xs) (v + 1) after
further f xs w k v x y before part after n e l is p q s =
    let many : length before ≡ w * length (map f xs) = n ∙ ap (λ (j : ℕ). w * j) (sym (length-map xs f)) in
    spelt-more w before (map f xs) part after v x many (omega (arith, length-map xs f)) (p ∙ ap f is ∙ sym (get_or-map f xs v y 0 l)) s
    (q ∙ ap (λ (j : ℕ). paste part (j * v) (bytes j x) j) e)

pub loop-v-preserved : goal.loop-v-preserved
loop-v-preserved g c =
    further g.N.Number.value c.args.numbers.now g.N.Number.width c.width-width.result c.loop-v.v c.value.result c.index-numbers-v.result c.args.part.now
    c.loop-v.part c.put_number.new.out c.requires c.width-width.ensures.0 c.loop-v-test.true c.index-numbers-v.is c.value.ensures c.put_number.ensures c.loop-v.invariant

pub returns : goal.returns
returns g c =
    let f = g.N.Number.value in
    let xs = c.args.numbers.now in
    let e : length (map f xs) ≤ c.loop-v.v = omega (arith, c.loop-v-test.false, length-map xs f) in
    spelt-all g.N.Number.width (c.requires ∙ ap (λ (k : ℕ). g.N.Number.width * k) (sym (length-map xs f))) e c.loop-v.invariant
