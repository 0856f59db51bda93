-- Document 01, "The questions put to a call", 1 to 8. "A no ends the call with the number beside it. A question about lines is
-- put to all of them before the next question, and the first failing line is reported, lines counted from 1."
-- Assumes nothing.
use Rattle.std.specs.Prelude.{ℕ, ◌+◌, ◌-◌, ◌≡◌, Bool, not, ◌&&◌, ◌||◌, List, [], ◌∷◌, ◌++◌, length, leb, ltb, eqb}
use Rattle.std.proofs.Math.Option as opt
use Rattle.law.specs.Bounded.{first, all, any}
use Rattle.text.specs.Field.{Text, formed}
use Rattle.job.specs.Layout.{states, edges, subformulas, nodes, length_of, owner_field, label_field, source_field, target_field, kind_field, left_field, right_field, fields_of, line_at}
use Rattle.job.specs.Formula.{parsed, is_formula}
use Rattle.job.specs.Question.{Question, refusal}

-- About line 1.
unfoldable pub of_line_one : ℕ → Bool → Question
of_line_one number test = record { number = number; line = 1; test = test }

-- About n lines from line l on, put to all of them: the first that fails is reported.
unfoldable pub of_lines : ℕ → (ℕ → Bool) → ℕ → ℕ → Question
of_lines number ok n l = record { number = number; line = l + first (λ i. not (ok i)) n; test = all ok n }

unfoldable pub within : ℕ → ℕ → ℕ → Bool
within low high n = leb low n && leb n high

-- "S is 1 to 256, E 1 to 2,048, K 1 to 32, N 1 to 8."
unfoldable pub in_ranges : ℕ → ℕ → ℕ → ℕ → Bool
in_ranges s e k n = within 1 256 s && within 1 2048 e && within 1 32 k && within 1 8 n

-- Line i of those behind line 1, from 0, is made of well-formed fields and byte 10.
unfoldable pub formed_line : Text → ℕ → Bool
formed_line t i = formed t (line_at t (2 + i)) (fields_of t (2 + i))

-- "owner (a node, below N), label (0 to 65,535)"
unfoldable pub state_ok : Text → ℕ → Bool
state_ok t s = ltb (owner_field t s) (nodes t) && leb (label_field t s) 65535

-- "compared by from, then by to": the pair a, b is less than the pair c, d
unfoldable pub less : ℕ → ℕ → ℕ → ℕ → Bool
less a b c d = ltb a c || (eqb a c && ltb b d)

-- "each pair is greater than the one before"
unfoldable pub ascends : Text → ℕ → Bool
ascends t e = less (source_field t (e - 1)) (target_field t (e - 1)) (source_field t e) (target_field t e)

-- Both ends are below S, and the pair is greater than the one before, if any.
unfoldable pub edge_ok : Text → ℕ → Bool
edge_ok t e = ltb (source_field t e) (states t) && ltb (target_field t e) (states t) && (eqb e 0 || ascends t e)

-- "each state has an edge out"
unfoldable pub has_edge_out : Text → ℕ → Bool
has_edge_out t s = any (λ e. eqb (source_field t e) s) (edges t)

unfoldable pub formula_ok : Text → ℕ → Bool
formula_ok t k = is_formula (parsed k (kind_field t k) (left_field t k) (right_field t k))

-- "Has the text 21 bytes or more, and is line 1 four well-formed fields and byte 10? No: 1, line 1."
unfoldable pub first_line : Text → Question
first_line t = of_line_one 1 (leb 21 (length t) && formed t 0 4)

-- "Are S, E, K, N in their ranges? No: 2, line 1."
unfoldable pub ranges : Text → Question
ranges t = of_line_one 2 (in_ranges (states t) (edges t) (subformulas t) (nodes t))

-- "Is the length right? No: 3, line 1."
unfoldable pub text_length : Text → Question
text_length t = of_line_one 3 (eqb (length t) (length_of t))

-- "Is each further line made of well-formed fields and byte 10? No: 4."
unfoldable pub line_fields : Text → Question
line_fields t = of_lines 4 (formed_line t) (states t + edges t + subformulas t) 2

-- "Are owner and label in range on each state line? No: 5."
unfoldable pub state_lines : Text → Question
state_lines t = of_lines 5 (state_ok t) (states t) 2

-- "Are both ends below S, and is the pair greater than the pair before? No: 6."
unfoldable pub edge_lines : Text → Question
edge_lines t = of_lines 6 (edge_ok t) (edges t) (2 + states t)

-- "Has each state an edge out? No: 7, with the line of the lowest such state."
unfoldable pub edges_out : Text → Question
edges_out t = of_lines 7 (has_edge_out t) (states t) 2

-- "Is each kind 1 to 7, with a and b as above? No: 8." Document 02 (iii): "Question 8 admits 1 to 9".
unfoldable pub formula_lines : Text → Question
formula_lines t = of_lines 8 (formula_ok t) (subformulas t) (2 + states t + edges t)

-- 1 to 3 are about line 1 and the length, 4 to 8 about the lines behind it.
unfoldable pub head_questions : Text → List Question
head_questions t = first_line t ∷ ranges t ∷ text_length t ∷ []

unfoldable pub line_questions : Text → List Question
line_questions t = line_fields t ∷ state_lines t ∷ edge_lines t ∷ edges_out t ∷ formula_lines t ∷ []

-- "Read puts 1 to 8", and every call that takes a job puts them first.
unfoldable pub text_questions : Text → List Question
text_questions t = head_questions t ++ line_questions t

-- The reader accepts a text when no question is answered no.
unfoldable pub Accepted : Text → Type 0
Accepted t = refusal (text_questions t) ≡ opt.none
