-- The refusal table of document 01, as far as all operations share it. Assumes nothing.
use Rattle.std.specs.Prelude.{Bool, not, List, [], ◌∷◌, ℕ, ◌^◌, leb, ltb, eqb, length, get_or, Result, Ok, Err}
use Rattle.std.proofs.Math.Option.{Option, none, some}
use Rattle.masks.specs.Sets.{pick, lowest}
use Rattle.graphs.specs.declared.refusal.Refusal.{Refusal}
use Rattle.graphs.specs.declared.refusal.Refusal.TheVariants.{TooManyRows, UnequalCosts, RowOutside, RoomTooSmall, Foreign, OtherVersion, OtherLength, OutputTooShort, KeptOutside}

-- the number of a refusal in the table, and its place
abbrev pub number_of : Refusal → ℕ
number_of TooManyRows = 1
number_of UnequalCosts = 2
number_of (RowOutside v) = 3
number_of (RoomTooSmall v) = 4
number_of Foreign = 5
number_of OtherVersion = 6
number_of OtherLength = 7
number_of OutputTooShort = 8
number_of KeptOutside = 9

abbrev pub place_of : Refusal → ℕ
place_of TooManyRows = 0
place_of UnequalCosts = 0
place_of (RowOutside v) = v
place_of (RoomTooSmall v) = v
place_of Foreign = 0
place_of OtherVersion = 0
place_of OtherLength = 0
place_of OutputTooShort = 0
place_of KeptOutside = 0

-- a line of the table at some input: whether it is given there, and the refusal that it is
pub record Line : Type 0 where
  pub given : Bool
  pub refusal : Refusal

-- of an operation's lines, in its order, the first that is given
abbrev pub first : List Line → Option Refusal
first [] = none
first (l ∷ ls) = pick l.given (some l.refusal) (first ls)

-- 1: "more than 64 rows, or a file count above 64"
abbrev pub too_many : ℕ → Line
too_many n = record { given = ltb 64 n; refusal = TooManyRows }

-- 2: "costs and rows differ in number"
abbrev pub unequal : ℕ → ℕ → Line
unequal costs n = record { given = not (eqb costs n); refusal = UnequalCosts }

-- "a row has a bit at n or above", where there are n rows
abbrev pub wide : List ℕ → ℕ → Bool
wide rows v = leb (2 ^ length rows) (get_or rows v 0)

-- 3: that, with the "lowest such row"
abbrev pub outside : List ℕ → Line
outside rows = record { given = ltb (lowest (length rows) (wide rows)) (length rows); refusal = RowOutside (lowest (length rows) (wide rows)) }

-- the refusals 1, 2 and 3, for rows and a number of costs
abbrev pub checks : List ℕ → ℕ → List Line
checks rows costs = too_many (length rows) ∷ unequal costs (length rows) ∷ outside rows ∷ []

-- the refusal that an operation answers, if it does
abbrev pub refusal_of : {A : Type 0} → Result A Refusal → Option Refusal
refusal_of (Ok a) = none
refusal_of (Err r) = some r
