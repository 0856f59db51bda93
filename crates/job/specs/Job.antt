-- A job: "a state structure, a CTL formula and a cutting over nodes", and the job that an accepted text describes.
-- The structure is apart from the cutting, so that truth can be stated on it alone. Assumes nothing.
use Rattle.std.specs.Prelude.{ℕ, ◌^◌, ◌/◌, ◌%◌, Bool, not, ◌&&◌, ◌||◌, List, length, get_or, eqb}
use Rattle.law.specs.Lists.{tab, every, some}
use Rattle.text.specs.Field.{Text}
use Rattle.job.specs.Layout as layout
use Rattle.job.specs.Formula as formula
use Rattle.job.specs.declared.subformula.Subformula.{Subformula}
use Rattle.job.specs.declared.subformula.Subformula.TheVariants.{Atom}

pub record Edge : Type 0 where
  pub from : ℕ
  pub to : ℕ

-- A Kripke structure: the label of each state, and the edges. A job's is "the uncut structure: all its states with their
-- labels and all its edges, whoever owns them".
pub record Structure : Type 0 where
  pub labels : List ℕ
  pub edges : List Edge

pub record Job : Type 0 where
  pub structure : Structure
  -- the subformulas from 0; the last is the whole formula
  pub formula : List Subformula
  -- the cutting: how many nodes, and each state's owner
  pub nodes : ℕ
  pub owners : List ℕ

-- "atom j, 0 to 15, holds when bit j, of weight 2 to the power j, is set"
unfoldable pub atom : Structure → ℕ → ℕ → Bool
atom M j s = eqb (get_or M.labels s 0 / 2 ^ j % 2) 1

unfoldable pub edge : Structure → ℕ → ℕ → Bool
edge M s t = some (λ e. eqb e.from s && eqb e.to t) M.edges

-- All successors of a state, or some.
pub data Quantifier : Type 0 where
  for_all exists : Quantifier

unfoldable pub dual : Quantifier → Quantifier
dual for_all = exists
dual exists = for_all

-- That many successors of s are in X.
unfoldable pub over : Structure → Quantifier → ℕ → (ℕ → Bool) → Bool
over M for_all s X = every (λ e. not (eqb e.from s) || X e.to) M.edges
over M exists s X = some (λ e. eqb e.from s && X e.to) M.edges

-- S, K, the owner of a state, a subformula by its number
unfoldable pub size : Job → ℕ
size J = length J.structure.labels

unfoldable pub subformula_count : Job → ℕ
subformula_count J = length J.formula

unfoldable pub owner : Job → ℕ → ℕ
owner J s = get_or J.owners s 0

unfoldable pub subformula : List Subformula → ℕ → Subformula
subformula f k = get_or f k (Atom 0)

unfoldable pub decode : Text → Job
decode t =
    record {
      structure =
          record {
            labels = tab (layout.label_field t) (layout.states t);
            edges = tab (λ e. record { from = layout.source_field t e; to = layout.target_field t e }) (layout.edges t);
          };
      formula =
          tab (λ k. formula.formula (formula.parsed k (layout.kind_field t k) (layout.left_field t k) (layout.right_field t k))) (layout.subformulas t);
      nodes = layout.nodes t;
      owners = tab (layout.owner_field t) (layout.states t);
    }
