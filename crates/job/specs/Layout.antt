-- Document 01, "Job text": the lines of a text, where each stands, and the numbers on it. Every function here is of any
-- bytes at all; what it gives means what its name says where the questions of `Questions` are answered yes.
-- Assumes nothing.
use Rattle.std.specs.Prelude.{ℕ, ◌+◌, ◌-◌, ◌*◌, cond, leb}
use Rattle.text.specs.Field.{Text, number_at}

-- "Line 1: S states, E edges, K subformulas, N nodes."
unfoldable pub states : Text → ℕ
states t = number_at t 0

unfoldable pub edges : Text → ℕ
edges t = number_at t 5

unfoldable pub subformulas : Text → ℕ
subformulas t = number_at t 10

unfoldable pub nodes : Text → ℕ
nodes t = number_at t 15

-- "A text is 21 + 11 × S + 11 × E + 16 × K bytes."
unfoldable pub length_of : Text → ℕ
length_of t = 21 + 11 * states t + 11 * edges t + 16 * subformulas t

-- Where the line of state s, of edge e and of subformula k begins.
unfoldable pub state_at : ℕ → ℕ
state_at s = 21 + 11 * s

unfoldable pub edge_at : Text → ℕ → ℕ
edge_at t e = state_at (states t + e)

unfoldable pub subformula_at : Text → ℕ → ℕ
subformula_at t k = state_at (states t + edges t) + 16 * k

-- "S lines, one for each state from 0: owner, label."
unfoldable pub owner_field : Text → ℕ → ℕ
owner_field t s = number_at t (state_at s)

unfoldable pub label_field : Text → ℕ → ℕ
label_field t s = number_at t (state_at s + 5)

-- "E lines: from, to."
unfoldable pub source_field : Text → ℕ → ℕ
source_field t e = number_at t (edge_at t e)

unfoldable pub target_field : Text → ℕ → ℕ
target_field t e = number_at t (edge_at t e + 5)

-- "K lines, one for each subformula from 0: kind, a, b."
unfoldable pub kind_field : Text → ℕ → ℕ
kind_field t k = number_at t (subformula_at t k)

unfoldable pub left_field : Text → ℕ → ℕ
left_field t k = number_at t (subformula_at t k + 5)

unfoldable pub right_field : Text → ℕ → ℕ
right_field t k = number_at t (subformula_at t k + 10)

-- Lines counted from 1: how many there are, and for line l its number of fields and its offset. An edge line is as long as
-- a state line, so both are counted as one run.
unfoldable pub lines : Text → ℕ
lines t = 1 + states t + edges t + subformulas t

unfoldable pub fields_of : Text → ℕ → ℕ
fields_of t l = cond (leb l 1) 4 (cond (leb l (1 + states t + edges t)) 2 3)

unfoldable pub line_at : Text → ℕ → ℕ
line_at t l = cond (leb l 1) 0 (cond (leb l (1 + states t + edges t)) (state_at (l - 2)) (subformula_at t (l - (2 + states t + edges t))))
