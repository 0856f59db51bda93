-- What the end of a chain says of a state's place. Assumes nothing.
use Prim.Native.Nat.{ℕ, zero, suc, ◌<◌}
use mathlib.Core.Path.{◌≡◌, refl, sym, ◌∙◌, ap}
use mathlib.Core.Bool.{Bool, false, cond, not, ◌&&◌, ◌||◌}
use mathlib.Core.List.{List}
use borrow.Author.Tests.{lt-ltb, eq-eqb, ne_eqb, not-true, not-false}
use lib.ListN.{length, get_or}
use lib.Dec.{eqb, eqb-suc-zero}
use Rattle.law.specs.Bounded.{any, first}
use Rattle.law.specs.Lists.{some}
use Rattle.law.proofs.Bool.{split, or_true, or_false, same_test}
use Rattle.law.proofs.Bounded.{any_intro, any_found, any_suc}
use Rattle.law.proofs.Lists.{some_intro, some_elim}
use Rattle.job.specs.Job.{Job, Edge, size, owner}
use Rattle.job.specs.Written.{IsJob, no_edge, edge_count}
use Rattle.cells.specs.Fragment.{owns, in_fragment}
use Rattle.cells.proofs.FragmentLaws.{owns_intro, owns_owner, inner_owned}
use Rattle.image.specs.Image.{edge_from, edge_to, leads, last_into, place_of}
use Rattle.image.specs.declared.place.Place.TheVariants.{Outside, Border, Inner}
use Rattle.image.proofs.Runs.{from_in}

-- A chain has an end where an edge of the node leads to the state.
any_zero : (p : ℕ → Bool) → any p 0 ≡ false
unfolding any first
any_zero p = refl

pub last_none : (J : Job) (n u e : ℕ) → eqb (last_into J n u e) 0 ≡ not (any (leads J n u) e)
unfolding last_into
last_none J n u zero = simp (any_zero (leads J n u))
last_none J n u (suc e) =
    split (leads J n u e)
    (λ t. simp (t, any_suc (leads J n u) e, or_true, eqb-suc-zero e))
    (λ f. simp (f, any_suc (leads J n u) e, or_false) (last_none J n u e))

some_any : {A : Type 0} (p : A → Bool) (l : List A) (d : A) → some p l ≡ any (λ i. p (get_or l i d)) (length l)
some_any p l d =
    same_test (some p l) (any (λ i. p (get_or l i d)) (length l))
    (λ t. let (i, g, h) = some_elim p l d t in any_intro (λ i. p (get_or l i d)) (length l) i g h)
    (λ t. let (g, h) = any_found (λ i. p (get_or l i d)) (length l) t in some_intro p l d (first (λ i. p (get_or l i d)) (length l)) g h)

any_same : (p q : ℕ → Bool) (n : ℕ) → ((i : ℕ) → i < n → p i ≡ q i) → any p n ≡ any q n
any_same p q n same =
    same_test (any p n) (any q n)
    (λ t. let (g, h) = any_found p n t in any_intro q n (first p n) g (sym (same (first p n) g) ∙ h))
    (λ t. let (g, h) = any_found q n t in any_intro p n (first q n) g (same (first q n) g ∙ h))

module _ (J : Job) (job : IsJob J) (n s : ℕ) where
  leads_owned : (e : ℕ) → e < edge_count J → (owns J n (edge_from J.structure e) && eqb (edge_to J.structure e) s) ≡ leads J n s e
  unfolding owns leads
  leads_owned e l = simp (lt-ltb (edge_from J.structure e) (size J) (from_in J job e l))

  -- a state is in the fragment where the node owns it or has an edge to it
  pub fragment_leads : in_fragment J n s ≡ (owns J n s || any (leads J n s) (edge_count J))
  unfolding in_fragment edge_count edge_from edge_to
  fragment_leads =
      ap (λ b. owns J n s || b)
      (some_any (λ (e : Edge). owns J n e.from && eqb e.to s) J.structure.edges no_edge
      ∙ any_same (λ e. owns J n (edge_from J.structure e) && eqb (edge_to J.structure e) s) (leads J n s) (edge_count J) leads_owned)

  pub place_own : s < size J → owner J s ≡ n → place_of J n s ≡ Inner
  unfolding place_of
  place_own l e = simp (inner_owned J job n s, owns_intro J n s l e)

  not_owned : (owner J s ≡ n → ⊥) → owns J n s ≡ false
  not_owned other = split (owns J n s) (λ t. absurd (other (owns_owner J n s t))) (λ f. f)

  -- a state that the node does not own is there where one of the node's edges leads to it
  place_led : (owner J s ≡ n → ⊥) → place_of J n s ≡ cond (any (leads J n s) (edge_count J)) Border Outside
  unfolding place_of
  place_led other = simp (inner_owned J job n s, fragment_leads, not_owned other)

  pub place_none : (owner J s ≡ n → ⊥) → last_into J n s (edge_count J) ≡ 0 → place_of J n s ≡ Outside
  place_none other e =
      place_led other
      ∙ ap (λ b. cond b Border Outside)
      (not-true (any (leads J n s) (edge_count J)) (sym (last_none J n s (edge_count J)) ∙ eq-eqb _ 0 e))

  pub place_reached : (owner J s ≡ n → ⊥) → (last_into J n s (edge_count J) ≡ 0 → ⊥) → place_of J n s ≡ Border
  place_reached other e =
      place_led other
      ∙ ap (λ b. cond b Border Outside)
      (not-false (any (leads J n s) (edge_count J)) (sym (last_none J n s (edge_count J)) ∙ ne_eqb _ 0 e))
