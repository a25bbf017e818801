use Rattle.std.proofs.Common.{◌≡◌, ℕ, ◌*◌, ◌/◌, ◌^◌, ◌<◌, ap, ◌∙◌, arith}
use Rattle.nodes.specs.Codes as codes
use Rattle.nodes.proofs.Packings.{mixed-lt, product-fits, home-lt, home-scaled, home-far}
use Rattle.nodes.proofs.words.home.Goals as goal

-- a number that is the home of a word is a place
placed : (w n r : ℕ) → 0 < n → r ≡ codes.home w n → (r ≡ codes.home w n) × (r < n)
placed w n r k e = (e, omega (arith, home-lt w n k))

pub overflow_mul-result : goal.overflow_mul-result
overflow_mul-result c =
    let l : c.mixed-h.result < 2 ^ 32 = omega (arith, mixed-lt c.args.w, c.mixed-h.ensures) in
    record { fits = product-fits c.mixed-h.result c.args.n l (omega arith) }

pub returns-then-n-lt4294967296 : goal.returns-then-n-lt4294967296
returns-then-n-lt4294967296 c =
    placed c.args.w c.args.n _ c.requires.1
    (ap (λ (h : ℕ). h * c.args.n / 2 ^ 32) c.mixed-h.ensures ∙ home-scaled c.args.w c.args.n c.if-n-lt4294967296.true)

pub returns : goal.returns
returns c = placed c.args.w c.args.n _ c.requires.1 (c.mixed-h.ensures ∙ home-far c.args.w c.args.n c.if-n-lt4294967296.false)
