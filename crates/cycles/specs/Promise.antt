-- What `ask` promises for every input. Assumes nothing.
use Rattle.std.specs.Prelude.{Result, Ok, Err, ◌≡◌, ◌↔◌, List, [], ◌∷◌, ℕ, ◌^◌, T, leb, length}
use Rattle.std.proofs.Math.Option.{Option, none, some}
use Rattle.masks.specs.Sets.{bit}
use Rattle.graphs.specs.Graph.{edge, Loop}
use Rattle.graphs.specs.Refusals.{number_of, place_of, Line, first, too_many, outside}
use Rattle.graphs.specs.declared.refusal.Refusal.{Refusal}
use Rattle.graphs.specs.declared.refusal.Refusal.TheVariants.{KeptOutside}
use Rattle.nodes.specs.Rooms.{capacity, emptied, zeroed}
use Rattle.cycles.specs.Needs.{Answered, TooLarge}
use Rattle.cycles.specs.declared.Asked.{Asked}

-- 9: "kept mask has a bit at n or above"
abbrev pub kept_outside : ℕ → ℕ → Line
kept_outside n kept = record { given = leb (2 ^ n) kept; refusal = KeptOutside }

-- "ask 1, 3, 9, 4", the last by the answer below
abbrev pub ask_lines : List ℕ → ℕ → List Line
ask_lines rows kept = too_many (length rows) ∷ outside rows ∷ kept_outside (length rows) kept ∷ []

-- each case of an answer about a block that is not refused with 1, 3 or 9: whether "the kept ones hold a loop .. in the graph as lent", with the largest
-- need; or refusal 4 with its place
abbrev pub AskAnswer : List ℕ → ℕ → ℕ → Result Asked Refusal → Type 0
AskAnswer rows kept capacity (Ok a) = Answered (edge rows) (length rows) capacity a.need × (T a.holds ↔ Loop (edge rows) (bit kept))
AskAnswer rows kept capacity (Err r) = (number_of r ≡ 4) × TooLarge (edge rows) (length rows) capacity (place_of r)

-- "Refusals other than 4 write nothing. After 4, and after each answer .. [both rooms] are all zero"
abbrev pub AskCases : Option Refusal → List ℕ → ℕ → List ℕ → List ℕ → Result Asked Refusal → List ℕ → List ℕ → Type 0
AskCases (some r) rows kept nodes memo answer nodes' memo' = (answer ≡ Err r) × (nodes' ≡ nodes) × (memo' ≡ memo)
AskCases none rows kept nodes memo answer nodes' memo' = AskAnswer rows kept (capacity nodes) answer × (nodes' ≡ emptied nodes) × (memo' ≡ zeroed memo)

abbrev pub AskPromise : List ℕ → ℕ → List ℕ → List ℕ → Result Asked Refusal → List ℕ → List ℕ → Type 0
AskPromise rows kept = AskCases (first (ask_lines rows kept)) rows kept
