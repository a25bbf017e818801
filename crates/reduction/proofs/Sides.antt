-- In-rows beside out-rows: each side fits, either may be called the out-rows, and what each rule leaves on the two sides goes together again.
-- Assumes nothing.
use mathlib.Core.Path.{◌≡◌, refl, sym, ap, ap₂, ◌∙◌, subst}
use mathlib.Core.Logic.{◌≢◌}
use mathlib.Core.Bool.{Bool, true, false, not, ◌&&◌}
use mathlib.Core.List.{List, [], ◌∷◌, map, map-map}
use Prim.Native.Nat.{ℕ, ◌+◌, ◌≤◌, ◌<◌, ◌^◌}
use native.Mathlib.Omega.{arith}
use native.Mathlib.Decide.{ℕ_discrete, dec_lt}
use native.Mathlib.Numerals.{add-one}
use lib.Bits.{bit_or}
use lib.Dec.{T, eqb}
use lib.ListN.{length, get_or, set, length-set, length-map, get_or-eq_default}
use lib.Seq.{get_or-set_same, get_or-set_other, ext_get_or}
use Rattle.masks.specs.Sets.{pick, bit, put, cut, those}
use Rattle.masks.proofs.Tests.{T_false}
use Rattle.masks.proofs.Bits.{bit-ext, bit-zero, bit_high}
use Rattle.masks.proofs.PutCut.{put-kept, put-new, cut-gone}
use Rattle.masks.proofs.Those.{those-lt, those-in, those-out, members-lt}
use Rattle.graphs.proofs.Loops.{row_from}
use Rattle.graphs.proofs.Lists.{set-zero}
use Rattle.reduction.specs.declared.rules.Rule.{Rule}
use Rattle.reduction.specs.Rules.{ins, bare, fold_in, fold_out}
use Rattle.reduction.specs.Work.{Beside, block, edges, asks, applies}
use Rattle.reduction.proofs.Removal.{without-flip}
use Rattle.reduction.proofs.States.{arcs, bare-self, bare-other, remove-arcs, fold_in-arcs, fold_out-arcs}

module _ (outs ins' : List ℕ) (b : Beside outs ins') where
  pub beside-flip : Beside ins' outs
  beside-flip = record { even = sym b.even; few = omega (arith, b.even, b.few); mirrored = λ u v. sym (b.mirrored v u) }

  pub outs-fit : (u : ℕ) → get_or outs u 0 < 2 ^ length outs
  outs-fit u = members-lt (length outs) (get_or outs u 0) (λ v t. subst (λ n. v < n) b.even (row_from ins' v u (subst T (sym (b.mirrored u v)) t)))

module _ (outs ins' : List ℕ) (b : Beside outs ins') where
  pub ins-fit : (v : ℕ) → get_or ins' v 0 < 2 ^ length outs
  ins-fit v = subst (λ n. get_or ins' v 0 < 2 ^ n) b.even (outs-fit ins' outs (beside-flip outs ins' b) v)

  pub ins-is : (v : ℕ) → get_or ins' v 0 ≡ ins (edges outs) v
  ins-is v =
      bit-ext (length outs) (get_or ins' v 0) (ins (edges outs) v) (ins-fit v) (those-lt (length outs) (λ u. bit (get_or outs u 0) v))
      (λ u l. b.mirrored u v ∙ sym (those-in (length outs) (λ a. bit (get_or outs a 0) v) u l))

  -- what a rule asks of a live flip-flop, told of its two rows
  pub asks-applies : (rule this : Rule) (c : ℕ → ℕ) (live forced v : ℕ) (x : Bool) → rule ≡ this → bit live v ≡ true
      → x ≡ asks this c (length outs) (get_or outs v 0) (get_or ins' v 0) v → x ≡ applies rule c (block live forced outs) v
  asks-applies rule this c live forced v x e l h = rw (l, e, ← ins-is v) h

-- ---- the in-rows are made

-- one flip-flop more of a set, or not
pub those-more : (p : ℕ → Bool) (u m : ℕ) → m ≡ those u p → p u ≡ true → put m u ≡ those (u + 1) p
unfolding those
those-more p u m e t = rw (e, add-one, t) (put-new (those u p) u (those-out u p u (omega arith)))

pub those-same : (p : ℕ → Bool) (u m : ℕ) → m ≡ those u p → p u ≡ false → m ≡ those (u + 1) p
unfolding those
those-same p u m e t = rw (add-one, t) (omega (arith, e))

pub beside-made : (outs ins' : List ℕ) → length ins' ≡ length outs → length outs ≤ 64 → ((v : ℕ) → get_or outs v 0 < 2 ^ length outs)
    → ((v : ℕ) → v < length outs → get_or ins' v 0 ≡ those (length outs) (λ u. bit (get_or outs u 0) v)) → Beside outs ins'
beside-made outs ins' e few fit made = record { even = e; few = few; mirrored = λ u v. at u v (dec_lt u (length outs)) (dec_lt v (length outs)) }
  where
    at : (u v : ℕ) → Dec (u < length outs) → Dec (v < length outs) → bit (get_or ins' v 0) u ≡ bit (get_or outs u 0) v
    at u v (yes l) (yes k) = rw (made v k) (those-in (length outs) (λ a. bit (get_or outs a 0) v) u l)
    at u v (no l) (yes k) =
        let l' : ¬ (u < length outs) = l in
        rw (made v k, get_or-eq_default outs 0 {n = u} (omega arith)) (those-out (length outs) _ u (omega arith) ∙ sym (bit-zero v))
    at u v d (no k) =
        let k' : ¬ (v < length outs) = k in
        rw (get_or-eq_default ins' 0 {n = v} (omega arith)) (bit-zero u ∙ sym (bit_high (length outs) (get_or outs u 0) v (fit u) (omega arith)))

-- ---- what the rules leave

bare-length : (v : ℕ) (rows : List ℕ) → length (bare v rows) ≡ length rows
bare-length v rows = length-set (map (λ r. cut r v) rows) v 0 ∙ length-map rows (λ r. cut r v)

-- v folded into u where only the row of u holds v: the other rows stay
pub gain-is : (rows : List ℕ) (u v x : ℕ) → u < length rows → u ≢ v → ((a : ℕ) → T (bit (get_or rows a 0) v) → a ≡ u)
    → x ≡ cut (bit_or (get_or rows u 0) (get_or rows v 0)) v → set (set rows u x) v 0 ≡ (fold_in u v (edges rows)).rows
gain-is rows u v x l k only e =
    ext_get_or 0 (set (set rows u x) v 0) (bare v (set rows u y))
    (length-set (set rows u x) v 0 ∙ length-set rows u x ∙ sym (length-set rows u y) ∙ sym (bare-length v (set rows u y)))
    (λ a _. at a (ℕ_discrete a v) (ℕ_discrete a u))
  where
    y : ℕ
    y = bit_or (get_or rows u 0) (get_or rows v 0)

    at : (a : ℕ) → Dec (a ≡ v) → Dec (a ≡ u) → get_or (set (set rows u x) v 0) a 0 ≡ get_or (bare v (set rows u y)) a 0
    at a (yes q) d = rw (bare-self v (set rows u y) a q, q) (set-zero (set rows u x) v)
    at a (no q) (yes r) =
        rw (bare-other v (set rows u y) a q, get_or-set_other (set rows u x) v a 0 0 q, r, get_or-set_same rows u x 0 l, get_or-set_same rows u y 0 l) e
    at a (no q) (no r) =
        rw (bare-other v (set rows u y) a q, get_or-set_other (set rows u x) v a 0 0 q, get_or-set_other rows u a x 0 r, get_or-set_other rows u a y 0 r)
        (sym (cut-gone (get_or rows a 0) v (T_false (bit (get_or rows a 0) v) (λ t. r (only a t)))))

-- a row in which u stands where v stood
abbrev pub leads : ℕ → ℕ → ℕ → ℕ
leads u v r = cut (pick (bit r v) (put r u) r) v

pub leads-zero : (u v : ℕ) → leads u v 0 ≡ 0
leads-zero u v = rw (bit-zero v) (cut-gone 0 v (bit-zero v))

pub leads-map : (u v : ℕ) (rows : List ℕ) → map (leads u v) rows ≡ map (λ r. cut r v) (map (λ r. pick (bit r v) (put r u) r) rows)
leads-map u v rows = sym (map-map (λ r. cut r v) (λ r. pick (bit r v) (put r u) r) rows)

-- v in its own place: the rows only lose it
pub lead-self : (v : ℕ) (rows : List ℕ) → (fold_out v v (edges rows)).rows ≡ bare v rows
lead-self v rows = ap (bare v) (same rows)
  where
    same : (rs : List ℕ) → map (λ r. pick (bit r v) (put r v) r) rs ≡ rs
    same [] = refl
    same (r ∷ rs) = ap₂ ◌∷◌ (go (bit r v) refl) (same rs)
      where
        go : (x : Bool) → bit r v ≡ x → pick x (put r v) r ≡ r
        go true e = put-kept r v e
        go false e = refl

module _ (outs ins' : List ℕ) (b : Beside outs ins') where
  pub remove-beside : (v : ℕ) → Beside (bare v outs) (bare v ins')
  remove-beside v =
      record {
        even = bare-length v ins' ∙ b.even ∙ sym (bare-length v outs);
        few = omega (arith, bare-length v outs, b.few);
        mirrored = λ u w.
            remove-arcs v (edges ins') w u ∙ without-flip (arcs (edges ins')) v w u ∙ ap (λ x. (not (eqb u v) && not (eqb w v)) && x) (b.mirrored u w)
            ∙ sym (remove-arcs v (edges outs) u w);
      }

  pub fold-beside : (u v : ℕ) → u < length outs → Beside (fold_in u v (edges outs)).rows (fold_out u v (edges ins')).rows
  fold-beside u v l =
      record {
        even = bare-length v (map led ins') ∙ length-map ins' led ∙ b.even ∙ sym long;
        few = omega (arith, long, b.few);
        mirrored = λ a w. fold_out-arcs u v (edges ins') w a ∙ rw (b.mirrored a w, b.mirrored v w) (sym (fold_in-arcs u v (edges outs) l a w));
      }
    where
      led : ℕ → ℕ
      led r = pick (bit r v) (put r u) r

      long : length (fold_in u v (edges outs)).rows ≡ length outs
      long = bare-length v (set outs u (bit_or (get_or outs u 0) (get_or outs v 0))) ∙ length-set outs u (bit_or (get_or outs u 0) (get_or outs v 0))
