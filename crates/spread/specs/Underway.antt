-- What holds while a set spreads: what the private functions of the crate are held to. Assumes nothing.
use Rattle.std.specs.Prelude.{ℕ, ◌+◌, ◌<◌, ◌≡◌, Bool, true, false, ◌&&◌, ◌||◌, List, ◌⊎◌, length, get_or, eqb, ltb}
use Rattle.law.specs.Bounded.{count}
use Rattle.law.specs.Fixpoint.{member, least}
use Rattle.job.specs.Job.{Job, Structure, size, owner}
use Rattle.job.specs.Rule.{quantifier}
use Rattle.job.specs.Written.{edge_count}
use Rattle.cells.specs.Fragment.{in_fragment}
use Rattle.image.specs.Image.{edge_from, edge_to}
use Rattle.spread.specs.Spread.{spread_rule}
use Rattle.spread.specs.declared.spread.Worklist.{Worklist}

-- Whether that many told edges, of those out of a state, are all of them, or some.
unfoldable pub enough : Bool → ℕ → ℕ → Bool
enough true out told = eqb told out
enough false out told = ltb 0 told

-- How many edges leave a state, and how many of those that were seen.
unfoldable pub outs : Structure → ℕ → ℕ
outs M s = count (λ e. eqb (edge_from M e) s) (length M.edges)

unfoldable pub seen_outs : Structure → (ℕ → Bool) → ℕ → ℕ
seen_outs M seen s = count (λ e. eqb (edge_from M e) s && seen e) (length M.edges)

-- No state is told; those told, and t.
abbrev pub none_told : ℕ → Bool
none_told s = false

abbrev pub told_too : (ℕ → Bool) → ℕ → ℕ → Bool
told_too told t s = told s || eqb t s

-- Of the numbers below n that pass p some are told; the others wait in the list, each once.
pub record Waits (p told : ℕ → Bool) (n : ℕ) (waiting : List ℕ) : Type 0 where
  pub all_here : length waiting + count told n ≡ count p n
  pub told_pass : (s : ℕ) → s < n → told s ≡ true → p s ≡ true
  pub waits :
      (i : ℕ) → i < length waiting → (get_or waiting i 0 < n) × (p (get_or waiting i 0) ≡ true) × (told (get_or waiting i 0) ≡ false)
  pub listed : (s : ℕ) → s < n → p s ≡ true → told s ≡ false → (i : ℕ) × (i < length waiting) × (get_or waiting i 0 ≡ s)
  pub apart : (i j : ℕ) → i < j → j < length waiting → get_or waiting i 0 ≡ get_or waiting j 0 → ⊥

-- The state is of node n's fragment, and in the set so far.
unfoldable pub in_set : Job → ℕ → List ℕ → ℕ → Bool
in_set J n marks s = in_fragment J n s && eqb (get_or marks s 0) 2

-- The edge is node n's, and leads into a told state.
unfoldable pub told_edge : Job → ℕ → (ℕ → Bool) → ℕ → Bool
told_edge J n told e = eqb (owner J (edge_from J.structure e)) n && told (edge_to J.structure e)

-- Of the edges that were seen each leads into the set, and they are counted at their sources.
pub record Underway (J : Job) (n : ℕ) (all : Bool) (before : List ℕ) (seen told : ℕ → Bool) (marks counts waiting : List ℕ) : Type 0 where
  pub marks_long : length marks ≡ 256
  pub counts_long : length counts ≡ 256
  pub lists : Waits (in_set J n marks) told (size J) waiting
  -- a mark is as it was, or the state joined, and is in the least set
  pub each :
      (s : ℕ)
      → (get_or marks s 0 ≡ get_or before s 0)
      ⊎ ((get_or marks s 0 ≡ 2) × (member (least (spread_rule J.structure (quantifier all) before) (size J)) s ≡ true))
  pub waits : (s : ℕ) → s < size J → get_or marks s 0 ≡ 1 → enough all (outs J.structure s) (get_or counts s 0) ≡ false
  pub seen_in : (e : ℕ) → e < edge_count J → seen e ≡ true → get_or marks (edge_to J.structure e) 0 ≡ 2
  pub counted : (s : ℕ) → s < size J → get_or counts s 0 ≡ seen_outs J.structure seen s

-- Between two states that are told: the node's edges into told states are seen.
abbrev pub Spreading : Job → ℕ → Bool → List ℕ → (ℕ → Bool) → List ℕ → Worklist → Type 0
Spreading J n all before told marks w = Underway J n all before (told_edge J n told) told marks w.counts.now w.waiting

-- The state t is taken from the list to be told.
pub record Taken (J : Job) (n : ℕ) (all : Bool) (before : List ℕ) (told : ℕ → Bool) (t : ℕ) (marks : List ℕ) (w : Worklist) : Type 0 where
  pub underway : Underway J n all before (told_edge J n told) (told_too told t) marks w.counts.now w.waiting
  pub state_in : t < size J
  pub marked : get_or marks t 0 ≡ 2
  pub new : told t ≡ false
