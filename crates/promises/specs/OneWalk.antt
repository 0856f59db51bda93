-- Request (iv), one walk over the edge lines. The words of it that `demands/proofs/Demands.antt` uses; the pass itself is
-- `edge_pass/specs/EdgePass.antt`. Assumes nothing.
use Rattle.std.specs.Prelude.{ℕ, ◌+◌, ◌*◌, ◌≡◌, cond, List, [], ◌∷◌, ◌++◌, length, take, map}
use Prim.Native.String.{String}
use Rattle.std.proofs.Math.Option as opt
use Rattle.text.specs.Field.{Text}
use Rattle.job.specs.Question.{Question, refusal}
use Rattle.job.specs.Questions.{first_line, ranges, text_length, line_fields, state_lines, formula_lines}
use Rattle.cells.specs.Cases.{bytes, job_v, job6}
use Rattle.edge_pass.specs.EdgePass.{kept_of, question6, question7}
use Rattle.edge_pass.specs.declared.Kept.{Kept}

-- A text that questions 1 to 5 let through.
unfoldable pub first_five : Text → List Question
first_five x = first_line x ∷ ranges x ∷ text_length x ∷ line_fields x ∷ state_lines x ∷ []

pub record LetThrough (x : Text) : Type 0 where
  -- none of them is answered no
  pub none_fails : refusal (first_five x) ≡ opt.none

-- Questions 1 to 8, where 6 and 7 are answered from what the pass keeps after the last edge line.
unfoldable pub walked_questions : Text → List Question
walked_questions x = first_five x ++ (question6 (kept_of x) ∷ question7 (kept_of x) ∷ formula_lines x ∷ [])

-- How many bytes what is kept takes: five numbers of eight bytes each, and the marks, of one byte each (`edge_pass/src/lib.rt`).
unfoldable pub bytes_kept : Kept → ℕ
bytes_kept k = 5 * 8 + length k.starts

-- A walk worked out by hand: states, lines, right lines, source and target after the last line; the marks of the first states; for each question the line
-- that a no reports, and 1 where it is answered yes.
pub record Walked : Type 0 where
  pub job : String
  pub order : List ℕ
  pub marks : List ℕ
  pub six : List ℕ
  pub seven : List ℕ

unfoldable pub told : Question → List ℕ
told q = q.line ∷ cond q.test 1 0 ∷ []

unfoldable pub walked : Walked → Walked
walked w =
    let k = kept_of (bytes w.job) in
    let o = k.order in
    record {
      job = w.job;
      order = o.states ∷ o.lines ∷ o.right ∷ o.source ∷ o.target ∷ [];
      marks = map (λ b. cond b 1 0) (take (length w.marks) k.starts);
      six = told (question6 k);
      seven = told (question7 k);
    }

-- The last edge line is lower than the one before, and state 1 has no edge out.
unfoldable pub lower_job : String
lower_job = "    3    3    1    1\n    0    0\n    0    0\n    0    0\n    0    1\n    2    2\n    2    1\n    1    0    0\n"

-- The first edge line starts from no state, and from none that could be marked; the two behind it are equal.
unfoldable pub far_job : String
far_job = "    2    3    1    1\n    0    0\n    0    0\n  300    0\n    0    1\n    0    1\n    1    0    0\n"

-- C1, which passes both questions, C6, which passes 6 alone, and two jobs that fail both.
unfoldable pub walks : List Walked
walks =
    record { job = job_v; order = 2 ∷ 2 ∷ 2 ∷ 1 ∷ 0 ∷ []; marks = 1 ∷ 1 ∷ 0 ∷ []; six = 6 ∷ 1 ∷ []; seven = 4 ∷ 1 ∷ [] }
    ∷ record { job = job6; order = 2 ∷ 1 ∷ 1 ∷ 0 ∷ 1 ∷ []; marks = 1 ∷ 0 ∷ 0 ∷ []; six = 5 ∷ 1 ∷ []; seven = 3 ∷ 0 ∷ [] }
    ∷ record { job = lower_job; order = 3 ∷ 3 ∷ 2 ∷ 2 ∷ 1 ∷ []; marks = 1 ∷ 0 ∷ 1 ∷ []; six = 7 ∷ 0 ∷ []; seven = 3 ∷ 0 ∷ [] }
    ∷ record { job = far_job; order = 2 ∷ 3 ∷ 0 ∷ 0 ∷ 1 ∷ []; marks = 1 ∷ 0 ∷ 0 ∷ []; six = 4 ∷ 0 ∷ []; seven = 3 ∷ 0 ∷ [] }
    ∷ []
