-- Slots of the node room: what a search passes, and what a store into a slot that was not in use changes. Assumes nothing.
use mathlib.Core.Path.{◌≡◌, refl, sym, ap, subst, ◌∙◌}
use mathlib.Core.Logic.{◌≢◌, ◌⊎◌, ⊎_elim, inl, inr}
use mathlib.Core.List.{List}
use Prim.Native.Nat.{ℕ, ◌+◌, ◌≤◌, ◌<◌}
use native.Mathlib.Omega.{arith}
use native.Mathlib.Decide.{dec_lt, ℕ_discrete}
use lib.ListN.{length, get_or, set, length-set, get_or-eq_default}
use lib.Seq.{ext_get_or, get_or-set_same, get_or-set_other}
use Rattle.nodes.specs.Codes.{Taken, Filled, Reach, ahead, around, Reaches, home, Grows}
use Rattle.nodes.specs.Work.{Skipped}

-- ---- slots in use

pub same_or : (s i : ℕ) → (s ≡ i) ⊎ (s ≢ i)
same_or s i = go (ℕ_discrete s i)
  where
    go : Dec (s ≡ i) → (s ≡ i) ⊎ (s ≢ i)
    go (yes e) = inl e
    go (no k) = inr k

pub lt-or-le : (a b : ℕ) → (a < b) ⊎ (b ≤ a)
lt-or-le a b = go (dec_lt a b)
  where
    go : Dec (a < b) → (a < b) ⊎ (b ≤ a)
    go (yes p) = inl p
    go (no p) = inr (omega arith)

-- a slot in use is in the room
pub taken-lt : (ws : List ℕ) (s : ℕ) → Taken ws s → s < length ws
taken-lt ws s t = ⊎_elim (λ l. l) (λ g. absurd (t (get_or-eq_default ws 0 g))) (lt-or-le s (length ws))

-- ---- what a search has passed

pub passed_none : (ws : List ℕ) (w a : ℕ) → Skipped ws w a a
passed_none ws w a = record { filled = λ j p q e. omega arith; absent = λ j p q e. omega arith }

pub passed-more : (ws : List ℕ) (w a s : ℕ) → Skipped ws w a s → Taken ws s → get_or ws s 0 ≢ w → Skipped ws w a (s + 1)
passed-more ws w a s p t d =
    record {
      filled = λ j h q. ⊎_elim (λ e. subst (Taken ws) (sym e) t) (λ n. p.filled j h (omega arith)) (same_or j s);
      absent = λ j h q. ⊎_elim (λ e. subst (λ (i : ℕ). get_or ws i 0 ≢ w) (sym e) d) (λ n. p.absent j h (omega arith)) (same_or j s);
    }

-- two stretches that meet cover all
pub passed-all : (ws : List ℕ) (w h : ℕ) → Skipped ws w h (length ws) → Skipped ws w 0 h → Skipped ws w 0 (length ws)
passed-all ws w h p q =
    record {
      filled = λ j a b. ⊎_elim (λ l. q.filled j a l) (λ g. p.filled j g b) (lt-or-le j h);
      absent = λ j a b. ⊎_elim (λ l. q.absent j a l) (λ g. p.absent j g b) (lt-or-le j h);
    }

-- where a search for w meets the slot e that is not in use, w is nowhere: else the search for w that put it there would have stopped at e
module _ (ws : List ℕ) (w e : ℕ) (nz : w ≢ 0) (r : Reaches ws) (z : get_or ws e 0 ≡ 0) where
  there : (u : ℕ) → get_or ws u 0 ≡ w → Taken ws u
  there u q k = nz (sym q ∙ k)

  elsewhere : (u : ℕ) → get_or ws u 0 ≡ w → u ≢ e
  elsewhere u q k = there u q (ap (λ (i : ℕ). get_or ws i 0) k ∙ z)

  pub absent-ahead : home w (length ws) ≤ e → e < length ws → Skipped ws w (home w (length ws)) e → (u : ℕ) → get_or ws u 0 ≢ w
  absent-ahead he en p u q = go (rw q at (r u (there u q)))
    where
      go : Reach ws (home w (length ws)) u → ⊥
      go (ahead hu f) = ⊎_elim (λ l. p.absent u hu l q) (λ g. f e he (omega (arith, elsewhere u q)) z) (lt-or-le u e)
      go (around f g) = f e he en z

  pub absent-around : e < home w (length ws) → Skipped ws w (home w (length ws)) (length ws) → Skipped ws w 0 e → (u : ℕ) → get_or ws u 0 ≢ w
  absent-around eh p p₀ u q =
      ⊎_elim (λ l. go l (rw q at (r u (there u q)))) (λ g. p.absent u g (taken-lt ws u (there u q)) q) (lt-or-le u (home w (length ws)))
    where
      go : u < home w (length ws) → Reach ws (home w (length ws)) u → ⊥
      go l (ahead hu f) = omega arith
      go l (around f g) =
          ⊎_elim (λ k. p₀.absent u (omega arith) k q) (λ k. g e (omega arith) (omega (arith, elsewhere u q)) z) (lt-or-le u e)

-- ---- rooms that grow

pub grows_same : (ws : List ℕ) → Grows ws ws
grows_same ws = record { size = refl; keeps = λ s t. refl }

pub grows-taken : {ws ws' : List ℕ} → Grows ws ws' → (s : ℕ) → Taken ws s → Taken ws' s
grows-taken g s t y = t (sym (g.keeps s t) ∙ y)

pub grows-more : {ws ws' ws'' : List ℕ} → Grows ws ws' → Grows ws' ws'' → Grows ws ws''
grows-more g k = record { size = k.size ∙ g.size; keeps = λ s t. k.keeps s (grows-taken g s t) ∙ g.keeps s t }

pub grows-filled : {ws ws' : List ℕ} → Grows ws ws' → (a b : ℕ) → Filled ws a b → Filled ws' a b
grows-filled g a b f j p q = grows-taken g j (f j p q)

pub grows-reach : {ws ws' : List ℕ} {h s : ℕ} → Grows ws ws' → Reach ws h s → Reach ws' h s
grows-reach {ws} {ws'} {h} {s} g (ahead p f) = ahead p (grows-filled g h s f)
grows-reach {ws} {ws'} {h} {s} g (around f k) = around (rw g.size (grows-filled g h (length ws) f)) (grows-filled g 0 s k)

-- ---- a store

pub set-grows : (ws : List ℕ) (e w : ℕ) → get_or ws e 0 ≡ 0 → Grows ws (set ws e w)
set-grows ws e w z =
    record { size = length-set ws e w; keeps = λ s t. get_or-set_other ws e s w 0 (λ k. t (ap (λ (i : ℕ). get_or ws i 0) k ∙ z)) }

-- a slot gets the word that it has
pub set-again : (ws : List ℕ) (e w : ℕ) → e < length ws → get_or ws e 0 ≡ w → set ws e w ≡ ws
set-again ws e w l q =
    ext_get_or 0 (set ws e w) ws (length-set ws e w)
    (λ i k. ⊎_elim (λ p. ap (λ (j : ℕ). get_or (set ws e w) j 0) p ∙ get_or-set_same ws e w 0 l ∙ sym q ∙ ap (λ (j : ℕ). get_or ws j 0) (sym p))
    (λ n. get_or-set_other ws e i w 0 n) (same_or i e))

-- a slot in use after a store was so before, or is the one stored to
pub taken-set : (ws : List ℕ) (e w s : ℕ) → Taken (set ws e w) s → (s ≡ e) ⊎ Taken ws s
taken-set ws e w s t = ⊎_elim (λ k. inl k) (λ k. inr (λ y. t (get_or-set_other ws e s w 0 k ∙ y))) (same_or s e)
