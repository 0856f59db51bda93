-- Document 01, "Job text", from the writer's side: what a job is, and the one text that it is written as. `proofs/Exact.antt` shows
-- that the reader accepts exactly these texts. Assumes nothing.
use Rattle.std.specs.Prelude.{ℕ, suc, ◌<◌, ◌≤◌, ◌≡◌, [], ◌∷◌, ◌++◌, ◌⊎◌, length, get_or}
use Rattle.law.specs.Lists.{tab, flatten}
use Rattle.text.specs.Field.{Text}
use Rattle.text.specs.Decimal.{line}
use Rattle.job.specs.Formula.{fields}
use Rattle.job.specs.Rule.{rule_of, InRange}
use Rattle.job.specs.Job.{Edge, Job, size, subformula_count, owner, subformula}
use Rattle.job.specs.declared.subformula.Subformula.{Subformula}

unfoldable pub label : Job → ℕ → ℕ
label J s = get_or J.structure.labels s 0

abbrev pub no_edge : Edge
no_edge = record { from = 0; to = 0 }

unfoldable pub edge_of : Job → ℕ → Edge
edge_of J e = get_or J.structure.edges e no_edge

unfoldable pub edge_count : Job → ℕ
edge_count J = length J.structure.edges

unfoldable pub written : Job → Text
written J =
    line (size J ∷ edge_count J ∷ subformula_count J ∷ J.nodes ∷ [])
    ++ (flatten (tab (λ s. line (owner J s ∷ label J s ∷ [])) (size J))
    ++ (flatten (tab (λ e. line ((edge_of J e).from ∷ (edge_of J e).to ∷ [])) (edge_count J))
    ++ flatten (tab (λ k. line (fields (subformula J.formula k))) (subformula_count J))))

pub record Between (low high n : ℕ) : Type 0 where
  pub above : low ≤ n
  pub below : n ≤ high

-- "each pair is greater than the one before, compared by from, then by to"
unfoldable pub Less : Edge → Edge → Type 0
Less d e = (d.from < e.from) ⊎ ((d.from ≡ e.from) × (d.to < e.to))

-- the operands of the k-th subformula: what its rule names is in range
abbrev pub Operands : ℕ → Subformula → Type 0
Operands k f = InRange k (rule_of f)

pub record IsJob (J : Job) : Type 0 where
  pub states : Between 1 256 (size J)
  pub edges : Between 1 2048 (edge_count J)
  pub subformulas : Between 1 32 (subformula_count J)
  pub nodes : Between 1 8 J.nodes
  pub owned : length J.owners ≡ size J
  pub owners : (s : ℕ) → s < size J → owner J s < J.nodes
  pub labels : (s : ℕ) → s < size J → label J s ≤ 65535
  pub ends : (e : ℕ) → e < edge_count J → ((edge_of J e).from < size J) × ((edge_of J e).to < size J)
  pub ascending : (e : ℕ) → suc e < edge_count J → Less (edge_of J e) (edge_of J (suc e))
  pub edge_out : (s : ℕ) → s < size J → (e : ℕ) × (e < edge_count J) × ((edge_of J e).from ≡ s)
  pub operands : (k : ℕ) → k < subformula_count J → Operands k (subformula J.formula k)
