-- What the loops over the lines of a text promise: what their questions are answered from, with the first line that is malformed if there is one, and
-- that the lent vector holds what the lines before it say. Assumes nothing.
use Rattle.std.specs.Prelude.{ℕ, ◌+◌, ◌%◌, ◌<◌, ◌≡◌, Bool, not, List, Result, Ok, Err}
use Rattle.law.specs.Bounded.{first}
use Rattle.law.specs.Lists.{tab}
use Rattle.text.specs.Field.{Text, formed as formed_at}
use Rattle.job.specs.Layout as layout
use Rattle.job.specs.Formula as formula
use Rattle.job.specs.Questions.{state_ok, formula_ok}
use Rattle.job.specs.declared.reading.Header.{Header}
use Rattle.job.specs.declared.refusal.Refusal.TheVariants.{MalformedLine}
use Rattle.job.specs.declared.subformula.Subformula.{Subformula}
use Rattle.edge_pass.specs.EdgePass.{kept_after}
use Rattle.edge_pass.specs.declared.Kept.{Kept}
use Rattle.image.specs.declared.job_lines.State.{State}
use Rattle.image.specs.declared.job_lines.Edge.{Edge}
use Rattle.line_reader.specs.declared.stopped.Stopped.{Stopped}

-- The lines of one kind, each of which says an L; a K is kept of those that are read.
pub record Lines (L K : Type 0) : Type 0 where
  -- how many there are, and which line of the text is the first
  pub count : ℕ
  pub number : ℕ
  -- whether a line is well-formed, and what it says
  pub is_formed : ℕ → Bool
  pub says : ℕ → L
  -- what is kept after the first lines
  pub kept_after : ℕ → K

module _ {L K : Type 0} (lines : Lines L K) where
  -- How many are well-formed before the first that is not.
  abbrev pub formed_lines : ℕ
  formed_lines = first (λ i. not (lines.is_formed i)) lines.count

  -- Every one is well-formed, and this is kept after the last; or the first that is not is reported, with what is kept after those before it.
  abbrev pub Told : Result K (Stopped K) → Type 0
  Told (Ok kept) = (formed_lines ≡ lines.count) × (kept ≡ lines.kept_after lines.count)
  Told (Err stopped) =
      (formed_lines < lines.count)
      × (stopped.why ≡ MalformedLine (lines.number + formed_lines))
      × (stopped.kept ≡ lines.kept_after formed_lines)

  -- What the lines say is laid, as far as every one is well-formed.
  pub record LinesRead (m : List L) (r : Result K (Stopped K)) : Type 0 where
    pub told : Told r
    pub laid : m ≡ tab lines.says formed_lines

-- How many of the first n lines are right before the first that is not.
abbrev pub right_lines : (ℕ → Bool) → ℕ → ℕ
right_lines is_right n = first (λ i. not (is_right i)) n

-- A number is laid modulo what its field holds.
abbrev pub lines_of_states : Text → Header → Lines State ℕ
lines_of_states t h =
    record {
      count = h.states;
      number = 2;
      is_formed = λ s. formed_at t (layout.state_at s) 2;
      says = λ s. record { owner = layout.owner_field t s % 256; label = layout.label_field t s % 65536 };
      kept_after = right_lines (state_ok t);
    }

abbrev pub lines_of_edges : Text → Header → Lines Edge Kept
lines_of_edges t h =
    record {
      count = h.edges;
      number = 2 + h.states;
      is_formed = λ e. formed_at t (layout.edge_at t e) 2;
      says = λ e. record { source = layout.source_field t e % 256; target = layout.target_field t e % 256 };
      kept_after = kept_after t;
    }

abbrev pub lines_of_subformulas : Text → Header → Lines Subformula ℕ
lines_of_subformulas t h =
    record {
      count = h.subformulas;
      number = 2 + (h.states + h.edges);
      is_formed = λ k. formed_at t (layout.subformula_at t k) 3;
      says = λ k. formula.formula (formula.parsed k (layout.kind_field t k) (layout.left_field t k) (layout.right_field t k));
      kept_after = right_lines (formula_ok t);
    }
