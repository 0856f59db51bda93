-- Document 01, "CTL truth", after Clarke, Emerson and Sistla (1986), and document 02 (iii) for EG and AG: what a subformula means at a
-- state of a structure, over walks. Nothing here computes; that a labelling computes it is a theorem. Assumes nothing.
use Rattle.std.specs.Prelude.{ℕ, zero, suc, ◌<◌, ◌≡◌, true, List}
use Rattle.job.specs.Job.{Structure, Quantifier, for_all, exists, atom, edge, subformula}
use Rattle.job.specs.declared.subformula.Subformula.{Subformula}
use Rattle.job.specs.declared.subformula.Subformula.TheVariants.{Atom, Not, And, Ax, Ex, Au, Eu, Eg, Ag}

-- What may hold at a state.
abbrev pub Predicate : Type 1
Predicate = ℕ → Type 0

-- t is a successor of s.
unfoldable pub HasEdge : Structure → ℕ → ℕ → Type 0
HasEdge M s t = edge M s t ≡ true

-- "A walk is an endless sequence of states, each with an edge to the next."
pub record Walk (M : Structure) (s : ℕ) : Type 0 where
  pub at : ℕ → ℕ
  pub starts : at zero ≡ s
  pub steps : (i : ℕ) → HasEdge M (at i) (at (suc i))

-- "There is a place where b holds and a holds at every earlier place; the place may be s."
pub record Until (M : Structure) (A : Predicate) (B : Predicate) (s : ℕ) (w : Walk M s) : Type 0 where
  pub place : ℕ
  pub reached : B (w.at place)
  pub before : (i : ℕ) → i < place → A (w.at i)

-- "a holds everywhere": at every place.
unfoldable pub Throughout : (M : Structure) → Predicate → (s : ℕ) → Walk M s → Type 0
Throughout M A s w = (i : ℕ) → A (w.at i)

-- "on every walk" from s, "on some walk"
unfoldable pub OnWalks : (M : Structure) → Quantifier → (s : ℕ) → (Walk M s → Type 0) → Type 0
OnWalks M for_all s P = (w : Walk M s) → P w
OnWalks M exists s P = (w : Walk M s) × P w

-- What a subformula says of a state, given what its operands say.
unfoldable pub meaning : Structure → (ℕ → Predicate) → Subformula → Predicate
meaning M holds (Atom j) s = atom M j s ≡ true
meaning M holds (Not a) s = holds a s → ⊥
meaning M holds (And a b) s = holds a s × holds b s
meaning M holds (Ax a) s = (t : ℕ) → HasEdge M s t → holds a t
meaning M holds (Ex a) s = (t : ℕ) × HasEdge M s t × holds a t
meaning M holds (Au a b) s = OnWalks M for_all s (Until M (holds a) (holds b) s)
meaning M holds (Eu a b) s = OnWalks M exists s (Until M (holds a) (holds b) s)
meaning M holds (Eg a) s = OnWalks M exists s (Throughout M (holds a) s)
meaning M holds (Ag a) s = OnWalks M for_all s (Throughout M (holds a) s)

-- Operands are smaller numbers, so n levels of operands below a subformula are enough for the n-th.
unfoldable pub truth_up_to : Structure → List Subformula → ℕ → ℕ → Predicate
truth_up_to M f zero k s = ⊥
truth_up_to M f (suc n) k s = meaning M (truth_up_to M f n) (subformula f k) s

-- Subformula k of f is true at state s of M.
unfoldable pub Holds : Structure → List Subformula → ℕ → Predicate
Holds M f k s = truth_up_to M f (suc k) k s
