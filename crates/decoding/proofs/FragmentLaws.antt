-- The states of a fragment as they are listed, one after the other. Assumes nothing.
use Prim.Native.Nat.{ℕ, ◌+◌, ◌<◌, ◌≤◌}
use mathlib.Core.Path.{◌≡◌, refl, sym, ◌∙◌, ap, subst}
use mathlib.Core.Bool.{Bool, true, false, not}
use mathlib.Core.List.{List, [], ◌∷◌, ◌++◌}
use native.Mathlib.Numerals.{add-one}
use native.Mathlib.Omega.{arith}
use borrow.Author.Count.{below_none, below_more}
use lib.ListN.{length, get_or, set, length-set}
use lib.Seq.{get_or-set_same, get_or-set_other}
use Rattle.law.specs.Bounded.{count}
use Rattle.law.specs.Lists.{tab, from}
use Rattle.law.proofs.Bool.{not_not}
use Rattle.law.proofs.Count.{count_le}
use Rattle.law.proofs.Lists.{tab_length, tab_more}
use Rattle.job.specs.Job.{Job, size}
use Rattle.job.specs.Written.{IsJob}
use Rattle.cells.specs.Fragment.{in_fragment}
use Rattle.image.specs.Image.{IsFragment, place_of, fragment_size, rank, fragment_state, fragment}
use Rattle.image.specs.declared.place.Place.{Place}
use Rattle.image.specs.declared.place.Place.TheVariants.{Outside}
use Rattle.image.specs.declared.space.Fragment.{Fragment}
use Rattle.image.proofs.Places.{same_place, place_outside}
use Rattle.image.proofs.Ranks.{count_step, state_rank}

pub rank_none : (J : Job) (n : ℕ) → 0 ≡ rank J n 0
unfolding rank count
rank_none J n = refl

pub rank_all : (J : Job) (n s : ℕ) → s ≡ size J → rank J n s ≡ fragment_size J n
unfolding rank fragment_size
rank_all J n s e = ap (count (in_fragment J n)) e

pub rank_few : (J : Job) (n s : ℕ) → rank J n s ≤ s
unfolding rank
rank_few J n s = count_le (in_fragment J n) s

-- The first s states have their place, and those of them that are in the fragment are listed.
pub record ListedSoFar (J : Job) (n s : ℕ) (places : List Place) (states : List ℕ) : Type 0 where
  pub long : length places ≡ 256
  pub place_at : (u : ℕ) → u < s → get_or places u Outside ≡ place_of J n u
  pub listed : states ≡ tab (fragment_state J n) (rank J n s)

pub listed_none : (J : Job) (n : ℕ) (places : List Place) → length places ≡ 256 → ListedSoFar J n 0 places []
unfolding rank count tab from
listed_none J n places l = record { long = l; place_at = below_none _; listed = refl }

pub listed_few : {J : Job} {n s : ℕ} {places : List Place} {states : List ℕ} → ListedSoFar J n s places states → length states ≤ s
listed_few {J} {n} {s} so =
    omega (arith, ap {A = List ℕ} length so.listed, tab_length (fragment_state J n) (rank J n s), rank_few J n s)

pub listed_all : (J : Job) (n s : ℕ) (f : Fragment) → s ≡ size J → ListedSoFar J n s f.places f.states.items → IsFragment J n f
unfolding rank fragment_size fragment
listed_all J n s f e so =
    record {
      place_at = subst (λ t. (u : ℕ) → u < t → get_or f.places u Outside ≡ place_of J n u) e so.place_at;
      listed = so.listed ∙ ap (λ t. tab (fragment_state J n) (count (in_fragment J n) t)) e;
    }

-- One state more, with its entry where it is in the fragment: `inside` is the test that it is not outside.
module _
    (J : Job) (job : IsJob J) (n s : ℕ) (p : Place) (below : s < size J) (is : p ≡ place_of J n s)
    (inside : Bool) (told : inside ≡ not (same_place p Outside)) (places : List Place) (states : List ℕ) (so : ListedSoFar J n s places states)
  where
    is_inside : inside ≡ in_fragment J n s
    is_inside = told ∙ ap not (place_outside J n s p is) ∙ not_not (in_fragment J n s)

    few : s < length places
    few = omega (arith, so.long, job.states.below)

    place_more : (u : ℕ) → u < s + 1 → get_or (set places s p) u Outside ≡ place_of J n u
    place_more =
        below_more _ s
        (λ u g. get_or-set_other places s u p Outside (λ q. omega arith) ∙ so.place_at u g)
        (get_or-set_same places s p Outside few ∙ is)

    pub listed_out : inside ≡ false → ListedSoFar J n (s + 1) (set places s p) states
    unfolding rank count
    listed_out out =
        let same : rank J n s ≡ rank J n (s + 1) = rw (add-one s) (simp (sym is_inside ∙ out) (omega arith)) in
        record { long = length-set places s p ∙ so.long; place_at = place_more; listed = so.listed ∙ ap (tab (fragment_state J n)) same }

    pub listed_in : inside ≡ true → ListedSoFar J n (s + 1) (set places s p) (states ++ s ∷ [])
    unfolding rank
    listed_in here =
        let t : in_fragment J n s ≡ true = sym is_inside ∙ here in
        record {
          long = length-set places s p ∙ so.long;
          place_at = place_more;
          listed =
              rw (add-one s, count_step (in_fragment J n) s t, tab_more (fragment_state J n) (rank J n s), state_rank J job n s t)
              (ap (λ l. l ++ s ∷ []) so.listed);
        }
