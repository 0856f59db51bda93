-- What truth by walks needs of a structure: its edges stay among its states, and each state has an edge out. A job's structure
-- is so. Assumes nothing.
use Prim.Native.Nat.{ℕ, ◌<◌}
use mathlib.Core.Path.{subst}
use lib.ListN.{length}
use Rattle.job.specs.Job.{Structure, Job, size}
use Rattle.job.specs.Written.{edge_of, edge_count, IsJob}
use Rattle.job.proofs.Successors.{edge_listed, edge_number}
use Rattle.ctl.specs.Truth.{HasEdge}

-- s is a state of M
abbrev pub State : Structure → ℕ → Type 0
State M s = s < length M.labels

-- Two demands, apart: the first says what a state is, the second is used only where a walk is continued.
pub record Total (M : Structure) : Type 0 where
  pub inside : (s t : ℕ) → HasEdge M s t → State M s × State M t
  -- "each state has an edge out"
  pub onward : (s : ℕ) → State M s → (t : ℕ) × HasEdge M s t

-- A job has both, by its edge lines.
pub total_job : (J : Job) → IsJob J → Total J.structure
unfolding HasEdge edge_of edge_count size
total_job J is =
    record {
      inside = λ s t e.
          let (i, l, p, q) = edge_number J.structure s t e in
          let (a, b) = is.ends i l in
          (subst (λ u. u < size J) p a, subst (λ u. u < size J) q b);
      onward = λ s l.
          let (i, h, p) = is.edge_out s l in
          ((edge_of J i).to, edge_listed J.structure s i h p);
    }
