-- Request (iii), rules that hold all along: kinds 8, EG a, and 9, AG a. The words of it that `demands/proofs/Demands.antt` uses. Assumes nothing.
use Rattle.std.specs.Prelude.{ℕ, ◌+◌, ◌<◌, ◌≡◌, Bool, true, false, cond, ◌&&◌, List, [], ◌∷◌, length, get_or, leb, ltb, eqb}
use Rattle.law.specs.Lists.{some}
use Rattle.text.specs.Field.{Text}
use Rattle.job.specs.Layout.{states, edges, subformulas, kind_field, left_field, right_field}
use Rattle.job.specs.Job.{Job, Quantifier, dual, over, size, subformula_count, subformula, decode}
use Rattle.job.specs.Formula.{fields}
use Rattle.job.specs.Question.{Question}
use Rattle.job.specs.Questions.{of_lines}
use Rattle.job.specs.Written.{IsJob}
use Rattle.job.specs.declared.subformula.Subformula.{Subformula}
use Rattle.cells.specs.Fragment.{in_fragment, inner}
use Rattle.cells.specs.Table.{Table, cell, is_empty, filled}
use Rattle.cells.specs.Close.{smallest_open}

-- The text is a job's, in which f is subformula k.
abbrev pub HasLine : Text → ℕ → Subformula → Type 0
HasLine x k f = IsJob (decode x) × (k < subformula_count (decode x)) × (subformula (decode x).formula k ≡ f)

-- The cells of EG a at node n, by state, where q is all, and of AG a, where it is some: `own` before a step, `after` it; and those of a, `a`,
-- which the step takes first. A border state counts by its own value alone.
module _ (J : Job) (n : ℕ) (own a : ℕ → ℕ) (q : Quantifier) where
  -- "already false, or with a false, or with all successors in the set"
  pub data FalseIn (X : ℕ → Bool) (s : ℕ) : Type 0 where
    already : own s ≡ 0 → FalseIn X s
    fails : own s ≡ 2 → inner J n s ≡ true → a s ≡ 0 → FalseIn X s
    follows : own s ≡ 2 → inner J n s ≡ true → over J.structure q s X ≡ true → FalseIn X s

  -- "already true, or with a true and some successor in the set"; "the largest no cell of the smallest", which is F
  pub data TrueIn (F X : ℕ → Bool) (s : ℕ) : Type 0 where
    already : own s ≡ 1 → TrueIn F X s
    follows :
        own s ≡ 2
        → F s ≡ false
        → inner J n s ≡ true
        → a s ≡ 1
        → over J.structure (dual q) s X ≡ true
        → TrueIn F X s

  -- "Its false cells are the smallest set", of what is false in it; "EG's true cells are the largest set", of what is true in it.
  pub record FilledAllAlong (after : ℕ → ℕ) : Type 0 where
    pub falses : ℕ → Bool
    pub false_states : (s : ℕ) → falses s ≡ true → s < size J
    pub joined : (s : ℕ) → s < size J → FalseIn falses s → falses s ≡ true
    pub smallest : (Y : ℕ → Bool) → ((s : ℕ) → s < size J → FalseIn Y s → Y s ≡ true) → (s : ℕ) → falses s ≡ true → Y s ≡ true
    pub trues : ℕ → Bool
    pub true_states : (s : ℕ) → trues s ≡ true → s < size J
    pub reason : (s : ℕ) → trues s ≡ true → TrueIn falses trues s
    pub largest :
        (Y : ℕ → Bool)
        → ((s : ℕ) → Y s ≡ true → s < size J)
        → ((s : ℕ) → Y s ≡ true → TrueIn falses Y s)
        → (s : ℕ)
        → Y s ≡ true
        → trues s ≡ true
    pub cells : (s : ℕ) → s < size J → after s ≡ cond (falses s) 0 (cond (trues s) 1 2)

-- "Close now fills by kind: 0 for kinds 6 and 7, 1 for kinds 8 and 9."
pub data ClosesTo : ℕ → ℕ → Type 0 where
  six : ClosesTo 6 0
  seven : ClosesTo 7 0
  eight : ClosesTo 8 1
  nine : ClosesTo 9 1

-- the kind, the first number of the line
abbrev pub kind_of : Subformula → ℕ
kind_of f = get_or (fields f) 0 0

-- Table u is t with the empty cells of the smallest open subformula filled by its kind, in every fragment, and the answer names it and how
-- many they are.
pub record ClosedByKind (J : Job) (t : Table) (own : List ℕ) (u : Table) : Type 0 where
  pub told : own ≡ smallest_open J t ∷ filled t u ∷ []
  pub long : length u ≡ length t
  pub value : ℕ
  pub by_kind : ClosesTo (kind_of (subformula J.formula (smallest_open J t))) value
  pub cells :
      (n s j : ℕ)
      → s < size J
      → j < subformula_count J
      → cell J u n s j ≡ cond (eqb j (smallest_open J t) && is_empty (cell J t n s j) && in_fragment J n s) value (cell J t n s j)

-- "Question 8 admits 1 to 9": whether it admits these numbers on the line of subformula k. "For kind 1, a is 0 to 15. For the others a is a
-- smaller subformula number. For kinds 3, 6 and 7 so is b; elsewhere b is 0."
unfoldable pub admitted : ℕ → ℕ → ℕ → ℕ → Bool
admitted k kind a b =
    cond (eqb kind 1) (leb a 15 && eqb b 0)
    (cond (some (eqb kind) (2 ∷ 4 ∷ 5 ∷ 8 ∷ 9 ∷ [])) (ltb a k && eqb b 0)
    (cond (some (eqb kind) (3 ∷ 6 ∷ 7 ∷ [])) (ltb a k && ltb b k) false))

-- the question, of all subformula lines of a text
abbrev pub kinds_admitted : Text → Question
kinds_admitted x = of_lines 8 (λ k. admitted k (kind_field x k) (left_field x k) (right_field x k)) (subformulas x) (2 + states x + edges x)
