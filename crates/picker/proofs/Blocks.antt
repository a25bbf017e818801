-- The blocks of document 01 that are marked there, and a few more, in one table with one statement: each is answered as the table says. Every row is proved
-- by computing the model once. Assumes nothing.
use mathlib.Core.Path.{◌≡◌, refl, ap, ◌∙◌}
use mathlib.Core.Bool.{Bool, true, false}
use mathlib.Core.List.{List, [], ◌∷◌, map}
use mathlib.Core.Option.{Option, none}
use Prim.Native.Nat.{ℕ, min}
use lib.ListN.{length}
use Rattle.std.specs.Prelude.{Result, Ok, Err}
use Rattle.graphs.specs.Refusals.{first, checks}
use Rattle.graphs.specs.declared.refusal.Refusal.{Refusal}
use Rattle.graphs.proofs.Tables.{refusal_at}
use Rattle.masks.proofs.Numbers.{mask_of}
use Rattle.nodes.specs.Rooms.{capacity, emptied, zeroed}
use Rattle.cycles.specs.Promise.{ask_lines, AskPromise}
use Rattle.cycles.specs.declared.Asked.{Asked}
use Rattle.cycles.proofs.Asks.{ask_model, ask-meets}
use Rattle.cycles.proofs.Blocks.{block_a, block_aa}
use Rattle.picker.specs.Promise.{PickPromise}
use Rattle.picker.specs.declared.Picked.{Picked}
use Rattle.picker.proofs.Model.{pick_model, pick_meets}
use Rattle.picker.proofs.Computing.{computing}

-- ---- the table

-- a block with a room and the answer: of a pick the costs stand beside the rows, of a question the kept set
pub data Entry : Type 0 where
  picking : (rows costs : List ℕ) (room : ℕ) → Result Picked Refusal → Entry
  asking : (rows : List ℕ) (kept room : ℕ) → Result Asked Refusal → Entry

-- an answer of a pick: a set with its cost and the largest need; one of a question, with its largest need; and a refusal by number and place
abbrev pub set : ℕ → ℕ → ℕ → Result Picked Refusal
set S cost need = Ok (record { set = mask_of S; cost = cost; need = need })

abbrev pub asked : Bool → ℕ → Result Asked Refusal
asked holds need = Ok (record { holds = holds; need = need })

abbrev pub refused : {A : Type 0} → ℕ → ℕ → Result A Refusal
refused number place = Err (refusal_at number place)

-- 0>1, 1>0
abbrev pub pair : List ℕ
pair = 2 ∷ 1 ∷ []

-- "Block A: edges 0>1, 1>2, 2>0, 2>3, 3>1, costs 1, 5, 5, 1", and A and a copy at 4 to 7
abbrev pub costs_a : List ℕ
costs_a = 1 ∷ 5 ∷ 5 ∷ 1 ∷ []

abbrev pub costs_aa : List ℕ
costs_aa = 1 ∷ 5 ∷ 5 ∷ 1 ∷ 1 ∷ 5 ∷ 5 ∷ 1 ∷ []

-- where document 01 names no room
abbrev pub usual : ℕ
usual = 4096

abbrev pub table : List Entry
table =
    -- "n = 0: empty set, cost 0"
    picking [] [] usual (set 0 0 0)
    -- "n = 1, 0>0: empty set, cost 0"
    ∷ picking (1 ∷ []) (1 ∷ []) usual (set 0 0 0)
    -- "0>1, 1>0, costs 5, 5: {0}, cost 5, also with room 0; need 0"
    ∷ picking pair (5 ∷ 5 ∷ []) usual (set 1 5 0)
    ∷ picking pair (5 ∷ 5 ∷ []) 0 (set 1 5 0)
    -- "Same, costs 5, 4: {1}, cost 4", "Costs 0, 0: {0}, cost 0"
    ∷ picking pair (5 ∷ 4 ∷ []) usual (set 2 4 0)
    ∷ picking pair (0 ∷ 0 ∷ []) usual (set 1 0 0)
    -- "A: {0, 3}, cost 2", "A with costs all 1: {1}, cost 1"
    ∷ picking block_a costs_a usual (set 9 2 8)
    ∷ picking block_a (1 ∷ 1 ∷ 1 ∷ 1 ∷ []) usual (set 2 1 0)
    -- "A, room 8: answered, need 8", "Room 7: refused 4, place 0"
    ∷ picking block_a costs_a 8 (set 9 2 8)
    ∷ picking block_a costs_a 7 (refused 4 0)
    -- "A and a copy at 4 to 7, room 8: mask 153, cost 4"
    ∷ picking block_aa costs_aa 8 (set 153 4 8)
    -- "Ask A, kept {1, 2}: no", "Kept {0, 1, 2}: yes (room 4,096)"
    ∷ asking block_a 6 usual (asked false 15)
    ∷ asking block_a 7 usual (asked true 15)
    -- a block whose need one more pass would raise to 9
    ∷ picking (2 ∷ 5 ∷ 3 ∷ []) (1 ∷ 1 ∷ 0 ∷ []) usual (set 2 1 8)
    -- a block that loses the loop 0 3 where a pass uses its own values of members of B
    ∷ picking (14 ∷ 12 ∷ 2 ∷ 7 ∷ []) (1 ∷ 4 ∷ 1 ∷ 3 ∷ []) usual (set 12 4 19)
    -- a component whose lowest flip-flop the reduction removes: the place is the lowest that is left, and of a question the lowest of all
    ∷ picking (10 ∷ 4 ∷ 1 ∷ 4 ∷ []) (6 ∷ 1 ∷ 5 ∷ 1 ∷ []) 7 (refused 4 1)
    ∷ asking (10 ∷ 4 ∷ 1 ∷ 4 ∷ []) 15 7 (refused 4 0)
    ∷ []

-- ---- the statement

-- in every node room of that length, whatever it holds, and with every memo room, the promise allows the answer, with both rooms emptied
abbrev pub Holds : Entry → Type 0
Holds (picking rows costs room answer) =
    (nodes memo : List ℕ) → length nodes ≡ room → PickPromise rows costs nodes memo answer (emptied nodes) (zeroed memo)
Holds (asking rows kept room answer) =
    (nodes memo : List ℕ) → length nodes ≡ room → AskPromise rows kept nodes memo answer (emptied nodes) (zeroed memo)

-- each of a list
abbrev pub All : (Entry → Type 0) → List Entry → Type 0
All P [] = Unit {0}
All P (e ∷ es) = P e × All P es

-- the entry as the model fills it in, beside what else than the room is refused
abbrev filled : Entry → Option Refusal × Entry
filled (picking rows costs room answer) = (first (checks rows (length costs)), picking rows costs room (pick_model rows costs (min room 65536)))
filled (asking rows kept room answer) = (first (ask_lines rows kept), asking rows kept room (ask_model rows kept (min room 65536)))

abbrev Computed : Entry → Type 0
Computed e = filled e ≡ (none, e)

computed-holds : (e : Entry) → Computed e → Holds e
computed-holds (picking rows costs room answer) h = λ nodes memo l.
    let valid : first (checks rows (length costs)) ≡ none = ap (λ p. p.0) h in
    let same : picking rows costs room (pick_model rows costs (min room 65536)) ≡ picking rows costs room answer = ap (λ p. p.1) h in
    let e : pick_model rows costs (capacity nodes) ≡ answer = ap (λ k. pick_model rows costs (min k 65536)) l ∙ cc in
    rw valid ((rw e at (rw valid at (pick_meets rows costs nodes memo))).0, refl, refl)
computed-holds (asking rows kept room answer) h = λ nodes memo l.
    let valid : first (ask_lines rows kept) ≡ none = ap (λ p. p.0) h in
    let same : asking rows kept room (ask_model rows kept (min room 65536)) ≡ asking rows kept room answer = ap (λ p. p.1) h in
    let e : ask_model rows kept (capacity nodes) ≡ answer = ap (λ k. ask_model rows kept (min k 65536)) l ∙ cc in
    rw valid ((rw e at (rw valid at (ask-meets rows kept nodes memo))).0, refl, refl)

all_hold : (es : List Entry) → map filled es ≡ map (λ e. (none, e)) es → All Holds es
all_hold [] h = tt
all_hold (e ∷ es) h = (computed-holds e (cc), all_hold es (cc))

-- the model fills in the table as it stands
computed : map filled table ≡ map (λ e. (none, e)) table
unfolding computing
computed = refl

pub starred : All Holds table
starred = all_hold table computed
