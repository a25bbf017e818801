-- A block under reduction: what of it always holds, which edges each rule leaves, and that each rule keeps what always holds. Assumes nothing.
use mathlib.Core.Path.{◌≡◌, sym, ap, ◌∙◌, subst}
use mathlib.Core.Logic.{◌≢◌, ⊎_elim}
use mathlib.Core.Bool.{Bool, true, false, not, ◌&&◌, ◌||◌, and-false, or-true, or-false}
use mathlib.Core.List.{List, map}
use Prim.Native.Nat.{ℕ, ◌-◌, ◌<◌, ◌^◌}
use native.Mathlib.Decide.{ℕ_discrete}
use lib.Bits.{bit_or, or_lt}
use lib.Dec.{T, eqb}
use lib.ListN.{length, get_or, set, length-set, length-map}
use lib.Pow.{pow_pos, ones_lt}
use lib.Seq.{get_or-set_same, get_or-set_other}
use borrow.Author.Tests.{eq-eqb, ne_eqb}
use Rattle.masks.specs.Sets.{bit, pick, put, cut}
use Rattle.masks.proofs.Bits.{bit-zero, bit-or, full-bit, bit-lt}
use Rattle.masks.proofs.PutCut.{put_same, put_other, put-lt, cut-gone, cut-same, cut-other, cut-lt, cut_keeps, cut-from}
use Rattle.graphs.specs.Graph.{plain}
use Rattle.graphs.proofs.Walks.{flip}
use Rattle.graphs.proofs.Loops.{RowsFit, rows-lt, row_from, row-to-lt, plain-length, plain_fits}
use Rattle.reduction.specs.Rules.{State, start, outs, bare, remove, force, fold_in, fold_out}
use Rattle.graphs.proofs.Lists.{set-zero, map_row}
use Rattle.reduction.proofs.Removal.{without, without-flip, thin-edge}
use Rattle.reduction.proofs.Folding.{gain, fold, gain-edge}

-- the edges of a block under reduction, self edges included
abbrev pub arcs : State → ℕ → ℕ → Bool
arcs s u w = bit (get_or s.rows u 0) w

pub record Sane (n : ℕ) (s : State) : Type 0 where
  pub many : length s.rows ≡ n
  pub fit : (v : ℕ) → get_or s.rows v 0 < 2 ^ n
  pub live-fits : s.live < 2 ^ n
  pub forced-fits : s.forced < 2 ^ n
  pub among : (u w : ℕ) → T (arcs s u w) → T (bit s.live u) × T (bit s.live w)
  pub apart : (v : ℕ) → T (bit s.forced v) → T (bit s.live v) → ⊥

pub start-sane : (rows : List ℕ) → RowsFit rows → Sane (length rows) (start rows)
start-sane rows fit =
    record {
      many = plain-length 0 rows;
      fit = λ v. subst (λ n. get_or (plain rows) v 0 < 2 ^ n) (plain-length 0 rows) (rows-lt (plain rows) (plain_fits rows fit) v);
      live-fits = ones_lt (length rows);
      forced-fits = pow_pos (length rows);
      among = λ u w t. (live u (row_from (plain rows) u w t), live w (row-to-lt (plain rows) (plain_fits rows fit) u w t));
      apart = λ v t. absurd (subst T (bit-zero v) t);
    }
  where
    live : (v : ℕ) → v < length (plain rows) → T (bit (2 ^ length rows - 1) v)
    live v l = subst T (sym (full-bit (length rows) v (rw plain-length at l))) tt

-- ---- the edges that each rule leaves

pub bare-self : (v : ℕ) (rows : List ℕ) (a : ℕ) → a ≡ v → get_or (bare v rows) a 0 ≡ 0
bare-self v rows a e = ap (λ x. get_or (bare v rows) x 0) e ∙ set-zero (map (λ r. cut r v) rows) v

pub bare-other : (v : ℕ) (rows : List ℕ) (a : ℕ) → a ≢ v → get_or (bare v rows) a 0 ≡ cut (get_or rows a 0) v
bare-other v rows a k = get_or-set_other (map (λ r. cut r v) rows) v a 0 0 k ∙ map_row (λ r. cut r v) (cut-gone 0 v (bit-zero v)) rows a

pub remove-arcs : (v : ℕ) (s : State) (a b : ℕ) → arcs (remove v s) a b ≡ without (arcs s) v a b
remove-arcs v s a b = go (ℕ_discrete a v) (ℕ_discrete b v)
  where
    go : Dec (a ≡ v) → Dec (b ≡ v) → arcs (remove v s) a b ≡ without (arcs s) v a b
    go (yes e) d = rw (eq-eqb a v e, bare-self v s.rows a e) (bit-zero b)
    go (no k) (yes e) = rw (ne_eqb a v k, eq-eqb b v e, bare-other v s.rows a k) (ap (bit (cut (outs s a) v)) e ∙ cut-same (outs s a) v)
    go (no k) (no j) = rw (ne_eqb a v k, ne_eqb b v j, bare-other v s.rows a k) (cut-other (outs s a) v b j)

pub force-arcs : (v : ℕ) (s : State) (a b : ℕ) → arcs (force v s) a b ≡ without (arcs s) v a b
force-arcs v s = remove-arcs v s

-- fold_in before v is removed: u has the edges of v too
abbrev joined : ℕ → ℕ → State → State
joined u v s = record { live = s.live; forced = s.forced; rows = set s.rows u (bit_or (outs s u) (outs s v)) }

joined-arcs : (u v : ℕ) (s : State) → u < length s.rows → (a b : ℕ) → arcs (joined u v s) a b ≡ gain (arcs s) u v a b
joined-arcs u v s l a b = go (ℕ_discrete a u)
  where
    go : Dec (a ≡ u) → arcs (joined u v s) a b ≡ gain (arcs s) u v a b
    go (yes e) =
        rw (eq-eqb a u e, e, get_or-set_same s.rows u (bit_or (outs s u) (outs s v)) 0 l) (bit-or (outs s u) (outs s v) b)
    go (no k) = rw (ne_eqb a u k, get_or-set_other s.rows u a (bit_or (outs s u) (outs s v)) 0 k) (sym (or-false (arcs s a b)))

pub fold_in-arcs : (u v : ℕ) (s : State) → u < length s.rows → (a b : ℕ) → arcs (fold_in u v s) a b ≡ fold (arcs s) u v a b
fold_in-arcs u v s l a b = remove-arcs v (joined u v s) a b ∙ ap (λ x. (not (eqb a v) && not (eqb b v)) && x) (joined-arcs u v s l a b)

-- fold_out before v is removed: each edge to v goes to u too
abbrev led : ℕ → ℕ → State → State
led u v s = record { live = s.live; forced = s.forced; rows = map (λ r. pick (bit r v) (put r u) r) s.rows }

led-row : (u v : ℕ) (s : State) (a : ℕ) → outs (led u v s) a ≡ pick (bit (outs s a) v) (put (outs s a) u) (outs s a)
led-row u v s a = map_row (λ r. pick (bit r v) (put r u) r) (rw (bit-zero v)) s.rows a

led-arcs : (u v : ℕ) (s : State) (a b : ℕ) → arcs (led u v s) a b ≡ flip (gain (flip (arcs s)) u v) a b
led-arcs u v s a b = ap (λ r. bit r b) (led-row u v s a) ∙ at (outs s a)
  where
    at : (r : ℕ) → bit (pick (bit r v) (put r u) r) b ≡ (bit r b || (eqb b u && bit r v))
    at r = go (bit r v) (ℕ_discrete b u)
      where
        go : (x : Bool) → Dec (b ≡ u) → bit (pick x (put r u) r) b ≡ (bit r b || (eqb b u && x))
        go true (yes e) = rw (eq-eqb b u e) (ap (bit (put r u)) e ∙ put_same r u ∙ sym (or-true (bit r b)))
        go true (no k) = rw (ne_eqb b u k) (put_other r u b k ∙ sym (or-false (bit r b)))
        go false d = sym (or-false (bit r b)) ∙ ap (λ y. bit r b || y) (sym (and-false (eqb b u)))

pub fold_out-arcs : (u v : ℕ) (s : State) (a b : ℕ) → arcs (fold_out u v s) a b ≡ flip (fold (flip (arcs s)) u v) a b
fold_out-arcs u v s a b =
    remove-arcs v (led u v s) a b ∙ without-flip (arcs (led u v s)) v a b ∙ ap (λ x. (not (eqb b v) && not (eqb a v)) && x) (led-arcs u v s a b)

-- ---- what always holds, kept by each rule

module _ (n : ℕ) (s : State) (h : Sane n s) where
  pub live-lt : (v : ℕ) → T (bit s.live v) → v < n
  live-lt v t = bit-lt n s.live v h.live-fits t

  pub remove-sane : (v : ℕ) → Sane n (remove v s)
  remove-sane v =
      record {
        many = length-set (map (λ r. cut r v) s.rows) v 0 ∙ length-map s.rows (λ r. cut r v) ∙ h.many;
        fit = λ a. row a (ℕ_discrete a v);
        live-fits = cut-lt n s.live v h.live-fits;
        forced-fits = h.forced-fits;
        among = λ a b t.
            let e = thin-edge (arcs s) v a b (subst T (remove-arcs v s a b) t) in
            let l = h.among a b e.2 in
            (cut_keeps s.live v a e.0 l.0, cut_keeps s.live v b e.1 l.1);
        apart = λ x t l. h.apart x t (cut-from s.live v x l).1;
      }
    where
      row : (a : ℕ) → Dec (a ≡ v) → get_or (bare v s.rows) a 0 < 2 ^ n
      row a (yes e) = rw (bare-self v s.rows a e) (pow_pos n)
      row a (no k) = rw (bare-other v s.rows a k) (cut-lt n (get_or s.rows a 0) v (h.fit a))

  pub force-sane : (v : ℕ) → v < n → Sane n (force v s)
  force-sane v lv =
      record {
        many = (remove-sane v).many;
        fit = (remove-sane v).fit;
        live-fits = (remove-sane v).live-fits;
        forced-fits = put-lt n s.forced v h.forced-fits lv;
        among = (remove-sane v).among;
        apart = λ x t l. let e = cut-from s.live v x l in h.apart x (subst T (put_other s.forced v x e.0) t) e.1;
      }

  joined-sane : (u v : ℕ) → T (bit s.live u) → Sane n (joined u v s)
  joined-sane u v lu =
      record {
        many = length-set s.rows u (bit_or (outs s u) (outs s v)) ∙ h.many;
        fit = λ a. row a (ℕ_discrete a u);
        live-fits = h.live-fits;
        forced-fits = h.forced-fits;
        among = λ a b t.
            ⊎_elim (λ e. h.among a b e) (λ e. (rw e.0 lu, (h.among v b e.1).1)) (gain-edge (arcs s) u v a b (subst T (joined-arcs u v s below a b) t));
        apart = h.apart;
      }
    where
      below : u < length s.rows
      below = rw h.many (live-lt u lu)

      row : (a : ℕ) → Dec (a ≡ u) → get_or (set s.rows u (bit_or (outs s u) (outs s v))) a 0 < 2 ^ n
      row a (yes e) = rw (e, get_or-set_same s.rows u (bit_or (outs s u) (outs s v)) 0 below) (or_lt n (outs s u) (outs s v) (h.fit u) (h.fit v))
      row a (no k) = rw (get_or-set_other s.rows u a (bit_or (outs s u) (outs s v)) 0 k) (h.fit a)

  led-sane : (u v : ℕ) → T (bit s.live u) → Sane n (led u v s)
  led-sane u v lu =
      record {
        many = length-map s.rows (λ r. pick (bit r v) (put r u) r) ∙ h.many;
        fit = λ a. rw (led-row u v s a) (row (outs s a) (h.fit a) (bit (outs s a) v));
        live-fits = h.live-fits;
        forced-fits = h.forced-fits;
        among = λ a b t.
            ⊎_elim (λ e. h.among a b e) (λ e. ((h.among a v e.1).0, rw e.0 lu)) (gain-edge (flip (arcs s)) u v b a (subst T (led-arcs u v s a b) t));
        apart = h.apart;
      }
    where
      row : (r : ℕ) → r < 2 ^ n → (x : Bool) → pick x (put r u) r < 2 ^ n
      row r l true = put-lt n r u l (live-lt u lu)
      row r l false = l

module _ (n : ℕ) (s : State) (h : Sane n s) (u v : ℕ) (lu : T (bit s.live u)) where
  pub fold_in-sane : Sane n (fold_in u v s)
  fold_in-sane = remove-sane n (joined u v s) (joined-sane n s h u v lu) v

  pub fold_out-sane : Sane n (fold_out u v s)
  fold_out-sane = remove-sane n (led u v s) (led-sane n s h u v lu) v
