-- A text carries a job: it has the length of the job's text, and each of its lines is read as that line's numbers. A text that
-- carries a job is the one that the job is written as, and that one carries it. Assumes nothing.
use Prim.Native.Nat.{ℕ, ◌+◌, ◌*◌, ◌<◌, ◌≤◌}
use mathlib.Core.Path.{◌≡◌, refl, sym, ◌∙◌, ap₂}
use mathlib.Core.List.{List, [], ◌∷◌, ◌++◌, append_assoc, append-nil}
use native.Mathlib.Omega.{arith}
use lib.ListN.{length, take, drop, length-append, length-drop, take-append-drop}
use lib.Seq.{take_all, drop-drop}
use Rattle.text.specs.Field.{Text}
use Rattle.job.specs.Formula.{fields}
use Rattle.job.specs.Job.{Job, size, subformula_count, owner, subformula}
use Rattle.text.specs.Decimal.{line, Short}
use Rattle.job.specs.Written.{label, edge_of, edge_count, written, IsJob}
use Rattle.job.proofs.Formula.{fields_length, fields_short}
use Rattle.text.proofs.Line.{HasNumbers, run, reads_line, line_reads, line_length_lem, reads_run, run_reads, run_length}

-- the numbers of each line of a job
abbrev pub head_line : Job → List ℕ
head_line J = size J ∷ edge_count J ∷ subformula_count J ∷ J.nodes ∷ []

abbrev pub state_line : Job → ℕ → List ℕ
state_line J s = owner J s ∷ label J s ∷ []

abbrev pub edge_line : Job → ℕ → List ℕ
edge_line J e = (edge_of J e).from ∷ (edge_of J e).to ∷ []

abbrev pub formula_line : Job → ℕ → List ℕ
formula_line J k = fields (subformula J.formula k)

-- where its edge lines and its subformula lines begin
abbrev pub edges_from : Job → ℕ
edges_from J = 21 + 11 * size J

abbrev pub formulas_from : Job → ℕ
formulas_from J = 21 + 11 * size J + 11 * edge_count J

pub record Carries (t : Text) (J : Job) : Type 0 where
  pub sized : length t ≡ formulas_from J + 16 * subformula_count J
  pub head : HasNumbers t 0 (head_line J)
  pub states : (s : ℕ) → s < size J → HasNumbers t (21 + 11 * s) (state_line J s)
  pub edges : (e : ℕ) → e < edge_count J → HasNumbers t (edges_from J + 11 * e) (edge_line J e)
  pub formulas : (k : ℕ) → k < subformula_count J → HasNumbers t (formulas_from J + 16 * k) (formula_line J k)

-- what stands from a on, put together of what stands there and behind it
part : (t x y : Text) (a n : ℕ) → take n (drop a t) ≡ x → drop (a + n) t ≡ y → drop a t ≡ x ++ y
part t x y a n e f = sym (take-append-drop n (drop a t)) ∙ ap₂ ◌++◌ e (drop-drop n a t ∙ f)

module _ (J : Job) where
  three : (k : ℕ) → length (formula_line J k) ≡ 3
  three k = fields_length (subformula J.formula k)

  pub carries_written : (t : Text) → Carries t J → t ≡ written J
  unfolding written
  carries_written t c =
      let last : length (drop (formulas_from J) t) ≤ 16 * subformula_count J = simp length-drop (omega arith) in
      part t _ _ 0 21 (reads_line t (head_line J) 0 (omega arith) c.head)
      (part t _ _ 21 (11 * size J) (reads_run 2 (state_line J) (λ s. refl) t (size J) 21 (omega arith) c.states)
      (part t _ _ (edges_from J) (11 * edge_count J) (reads_run 2 (edge_line J) (λ e. refl) t (edge_count J) (edges_from J) (omega arith) c.edges)
      (sym (take_all (16 * subformula_count J) (drop (formulas_from J) t) last)
      ∙ reads_run 3 (formula_line J) three t (subformula_count J) (formulas_from J) (omega arith) c.formulas)))

  pub written_carries : IsJob J → Carries (written J) J
  unfolding written Short
  written_carries j =
      record {
        sized = simp length-append (omega (arith, head_length, states_length, edges_length, run_length 3 (formula_line J) three (subformula_count J)));
        head = line_reads (written J) (head_line J) 0 (S ++ (E ++ K)) refl (omega arith);
        states =
            λ s l.
            run_reads 2 (state_line J) (λ s. refl) H (E ++ K) (size J) 21 s head_length l
            (omega (arith, j.owners s l, j.labels s l));
        edges =
            λ e l.
            rw (← (append_assoc H S (E ++ K)))
            (run_reads 2 (edge_line J) (λ e. refl) (H ++ S) K (edge_count J) (edges_from J) e
            (simp length-append (omega (arith, head_length, states_length))) l
            (omega (arith, j.ends e l)));
        formulas =
            λ k l.
            rw (← (append-nil K), ← (append_assoc S E (K ++ [])), ← (append_assoc H (S ++ E) (K ++ [])))
            (run_reads 3 (formula_line J) three (H ++ (S ++ E)) [] (subformula_count J) (formulas_from J) k
            (simp length-append (omega (arith, head_length, states_length, edges_length))) l
            (fields_short k (subformula J.formula k) (omega arith) (j.operands k l)));
      }
    where
      H : Text
      H = line (head_line J)

      S : Text
      S = run (state_line J) (size J)

      E : Text
      E = run (edge_line J) (edge_count J)

      K : Text
      K = run (formula_line J) (subformula_count J)

      head_length : length H ≡ 21
      head_length = line_length_lem (head_line J)

      states_length : length S ≡ 11 * size J
      states_length = run_length 2 (state_line J) (λ s. refl) (size J)

      edges_length : length E ≡ 11 * edge_count J
      edges_length = run_length 2 (edge_line J) (λ e. refl) (edge_count J)
