-- Demand 3: "Whatever list of calls is made from a fresh table, refused ones and late, repeated, overtaken messages included: each call
-- fills and answers as defined, every filled cell is the CTL truth, and one more finish answers the truth at state 0 within (empty
-- cells + 1) rounds. So two cuttings of one job always agree." The words of it that `demands/proofs/Demands.antt` uses. What happens in a
-- call is said by its function's contract (`CallContracts.antt`), what is defined by `cells/specs/Calls.antt`, truth by `ctl/specs/Truth.antt`.
-- Assumes nothing.
use Rattle.std.specs.Prelude.{ℕ, ◌+◌, ◌-◌, ◌<◌, ◌≤◌, ◌≡◌, get_or}
use mathlib.Core.List.{List, [], ◌∷◌, ◌++◌, map, Memᴰ}
use Rattle.text.specs.Field.{Text}
use Rattle.job.specs.Job.{decode, size, subformula_count}
use Rattle.job.specs.Answer.{Answer, accepted, refused}
use Rattle.cells.specs.Table.{Table, cell, empty_cells}
use Rattle.cells.specs.Calls.{Call, fresh, step, offer, accept, look, close, finish, page, answer, after}
use Rattle.promises.specs.CallContracts.{Loan, Happens}
use Rattle.promises.specs.Demand2.{IsTruth}

-- A call that was made: what it was lent and passed, what it answered, and the table that it left. Any text, any numbers.
pub record Event : Type 0 where
  pub lent : Loan
  pub text : Text
  pub call : Call
  pub told : Answer
  pub left : Table

-- The calls were made one after the other: "every call of the list is lent that one table", and each came to what its contract promises.
unfoldable pub Happened : Table → List Event → Type 0
Happened t [] = Unit {0}
Happened t (e ∷ es) = Happens e.lent e.text e.call t e.told e.left × Happened e.left es

-- The table after them all.
unfoldable pub last_table : Table → List Event → Table
last_table t [] = t
last_table t (e ∷ es) = last_table e.left es

-- "a message (state, subformula, value)"
pub record Message : Type 0 where
  pub state : ℕ
  pub subformula : ℕ
  pub value : ℕ

-- What a call hands out by its answer: an accepted offer its three numbers. "A refused offer hands out no message."
unfoldable pub handed_out : Answer → Call → List Message
handed_out (refused number line others) c = []
handed_out (accepted told) (offer s k) =
    record { state = get_or told 0 0; subformula = get_or told 1 0; value = get_or told 2 0 } ∷ []
handed_out (accepted told) fresh = []
handed_out (accepted told) (step n) = []
handed_out (accepted told) (accept n s k v) = []
handed_out (accepted told) (look n s k) = []
handed_out (accepted told) close = []
handed_out (accepted told) finish = []
handed_out (accepted told) (page n room) = []

-- What a call of the list may be, where the messages `out` were handed out earlier in it: "a refused call may have been passed
-- any text and numbers"; any other was passed the job's text and, if it is an accept, a message of those.
pub data Allowed (x : Text) (out : List Message) (e : Event) : Type 0 where
  is_refused : (number line others : ℕ) → e.told ≡ refused number line others → Allowed x out e
  is_meant :
      e.text ≡ x
      → ((n s k v : ℕ) → e.call ≡ accept n s k v → Memᴰ (record { state = s; subformula = k; value = v }) out)
      → Allowed x out e

-- The lists that demand 3 is about: each call is such a call. Messages may come late, again, or overtake each other.
unfoldable pub Meant : Text → List Message → List Event → Type 0
Meant x out [] = Unit {0}
Meant x out (e ∷ es) = Allowed x out e × Meant x (handed_out e.told e.call ++ out) es

-- "A table fresh for J is what an accepted fresh leaves for J's text."
pub record FreshFor (x : Text) (t : Table) : Type 0 where
  pub lent : Loan
  -- a table of any content
  pub before : Table
  pub made : Happens lent x fresh before (accepted []) t

-- A "list of calls made from a fresh table", and the table that it left.
pub record ListOfCalls (x : Text) : Type 0 where
  -- the fresh table
  pub start : Table
  pub fresh_start : FreshFor x start
  pub events : List Event
  pub happened : Happened start events
  pub meant : Meant x [] events

abbrev pub left_by : {x : Text} → ListOfCalls x → Table
left_by calls = last_table calls.start calls.events

-- Its calls, each with its answer.
abbrev pub calls_of : {x : Text} → ListOfCalls x → List (Call × Answer)
calls_of calls = map (λ e. (e.call, e.told)) calls.events

-- "each call fills and answers as defined"
unfoldable pub AsDefined : Table → List Event → Type 0
AsDefined t [] = Unit {0}
AsDefined t (e ∷ es) =
    (e.told ≡ answer e.call e.text t) × (e.left ≡ after e.call e.text t) × AsDefined e.left es

-- "every filled cell is the CTL truth"
abbrev pub CellsTrue : Text → Table → Type 0
CellsTrue x t =
    (n s k : ℕ)
    → n < (decode x).nodes
    → s < size (decode x)
    → k < subformula_count (decode x)
    → (cell (decode x) t n s k ≡ 2 → ⊥)
    → IsTruth x k s (cell (decode x) t n s k)

-- A finish on table t that answers a "answers the truth at state 0", of the whole formula, K − 1, "within (empty cells + 1) rounds".
pub record Finishes (x : Text) (t : Table) (a : Answer) : Type 0 where
  pub verdict : ℕ
  pub rounds : ℕ
  pub cells : ℕ
  pub told : a ≡ accepted (verdict ∷ rounds ∷ cells ∷ [])
  pub truth : IsTruth x (subformula_count (decode x) - 1) 0 verdict
  pub few : rounds ≤ empty_cells (decode x) t + 1

-- "one more finish": whatever it comes to by its contract
abbrev pub OneMoreFinish : Text → Table → Type 0
OneMoreFinish x t = (l : Loan) (a : Answer) (u : Table) → Happens l x finish t a u → Finishes x t a

-- Two texts of one machine and rule.
pub record OneMachine (x y : Text) : Type 0 where
  -- they may differ in nodes and owners only
  pub structure : (decode x).structure ≡ (decode y).structure
  pub formula : (decode x).formula ≡ (decode y).formula
