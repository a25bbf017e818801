use Rattle.std.proofs.Common.{◌≡◌, ◌∙◌, ◌-◌, ◌++◌, ℕ, List, map, map-id, drop, replicate, sym, ap, ap₂}
use Rattle.std.proofs.lemmas.List.{drop-replicate}
use lib.Seq.{length-take-le}
use Rattle.blockfile.specs.Layout.{numbers}
use Rattle.blockfile.proofs.parts.rows_of.Goals as goal

padded : (n m : ℕ) (part found : List ℕ) → m ≡ n → map (λ (x : ℕ). x) found ≡ numbers 8 m part
    → found ++ drop n (replicate 64 0) ≡ numbers 8 n part ++ replicate (64 - n) 0
padded n m part found e h = ap₂ ◌++◌ (sym (map-id found) ∙ h ∙ ap (λ (k : ℕ). numbers 8 k part) e) (drop-replicate n 64 0)

pub returns : goal.returns
returns c = padded c.args.n _ c.args.part.now c.fill.new.found (length-take-le c.args.n (replicate 64 0) c.requires.1) c.fill.ensures
