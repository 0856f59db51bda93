-- The sets of a rule, taken again after their cells are filled, fill nothing more, on any cells. The smallest set is closed, so no
-- empty cell joins it now; a set that supports itself after the filling did so before, together with the largest set, so it was
-- in that set already. Assumes nothing.
use Prim.Native.Nat.{ℕ, ◌-◌, ◌<◌, ◌≤◌}
use mathlib.Core.Path.{◌≡◌, sym, ◌∙◌}
use mathlib.Core.Bool.{Bool, true, false, cond, ◌&&◌, ◌||◌}
use mathlib.Core.List.{List}
use mathlib.Core.Logic.{⊎_elim}
use native.Mathlib.Omega.{arith}
use lib.ListN.{get_or}
use Rattle.law.specs.Fixpoint.{member}
use Rattle.law.proofs.Bool.{split, clash, cond_true, cond_false, and_left, and_no_left, and_no_right, or_left, or_right, or_cases}
use Rattle.law.proofs.Bounded.{by_equal}
use Rattle.law.proofs.Lists.{tab_at}
use Rattle.job.specs.Job.{Job, dual, size}
use Rattle.job.proofs.Successors.{over_mono}
use Rattle.cells.specs.Fragment.{in_fragment, edge_out, inner}
use Rattle.cells.specs.Table.{is_empty}
use Rattle.cells.specs.SetRule.{SetRule, smallest, largest, by_sets}
use Rattle.cells.proofs.Fill.{is_empty_lem, not_empty}
use Rattle.cells.specs.Sets.{Joins, already, starts, grows, Stays, other, blocked, follows}
use Rattle.cells.proofs.SetForms.{stays_monotone, stays_intro}
use Rattle.cells.proofs.SetReasons.{stays_reason}
use Rattle.cells.proofs.Sets.{smallest_is, largest_is}
use Rattle.cells.proofs.SetsApart.{smallest_no_other}

pub inner_inside : (J : Job) (n s : ℕ) → inner J n s ≡ true → in_fragment J n s ≡ true
unfolding inner
inner_inside J n s = and_left (in_fragment J n s) (edge_out J n s)

-- The value that the sets give a state.
module _ (J : Job) (n : ℕ) (own : ℕ → ℕ) (R : SetRule) where
  abbrev pub in_smallest : ℕ → Bool
  in_smallest = member (smallest J n own R)

  abbrev pub in_largest : ℕ → Bool
  in_largest = member (largest J n own R (smallest J n own R))

  pub by_sets_at : (s : ℕ) → s < size J → get_or (by_sets J n own R) s 2 ≡ cond (in_smallest s) R.value (cond (in_largest s) (1 - R.value) 2)
  unfolding by_sets
  by_sets_at s l = tab_at (λ u. cond (in_smallest u) R.value (cond (in_largest u) (1 - R.value) 2)) (size J) s 2 l

  -- a filled cell its own value, and an empty one of a border state none
  module _ (small : R.value ≤ 1) (s : ℕ) (l : s < size J) where
    pub by_sets_filled : own s ≤ 1 → get_or (by_sets J n own R) s 2 ≡ own s
    by_sets_filled filled =
        let v = R.value in
        by_sets_at s l
        ∙ by_equal (own s) v
        (λ e. cond_true (in_smallest s) v (cond (in_largest s) (1 - v) 2) ((smallest_is J n own R).joined s l (already e)) ∙ sym e)
        (λ apart.
        let e : own s ≡ 1 - v = omega arith in
        cond_false (in_smallest s) v (cond (in_largest s) (1 - v) 2) (smallest_no_other J n own R small s e)
        ∙ cond_true (in_largest s) (1 - v) 2 ((largest_is J n own R (smallest J n own R)).stayed s l (other e)) ∙ sym e)

    pub by_sets_border : inner J n s ≡ false → own s ≡ 2 → get_or (by_sets J n own R) s 2 ≡ 2
    by_sets_border border empty =
        let in_small = (smallest_is J n own R).border_value s border in
        let in-large = (largest_is J n own R (smallest J n own R)).border_value s border in
        let out_small : in_smallest s ≡ false = split (in_smallest s) (λ t. let e = in_small t in absurd (omega arith)) (λ f. f) in
        let out_large : in_largest s ≡ false = split (in_largest s) (λ t. let e = in-large t in absurd (omega arith)) (λ f. f) in
        by_sets_at s l ∙ simp (out_small, out_large)

-- By state, the cells of a subformula at node n: own, and own' after values have been filled in.
abbrev pub FilledIn : Job → ℕ → List ℕ → (ℕ → ℕ) → (ℕ → ℕ) → Type 0
FilledIn J n values own own' =
    (s : ℕ) → s < size J → own' s ≡ cond (is_empty (own s) && in_fragment J n s) (get_or values s 2) (own s)

module _
    (J : Job) (n : ℕ) (own own' : ℕ → ℕ) (R : SetRule) (small : R.value ≤ 1) (after : FilledIn J n (by_sets J n own R) own own')
  where
    -- the two sets before and after
    abbrev L : ℕ → Bool
    L = in_smallest J n own R

    abbrev L' : ℕ → Bool
    L' = in_smallest J n own' R

    abbrev G : ℕ → Bool
    G = in_largest J n own R

    abbrev G' : ℕ → Bool
    G' = in_largest J n own' R

    -- what has become of one cell
    data Became (s : ℕ) : Type 0 where
      kept : own' s ≡ own s → (own s ≡ 2 → in_fragment J n s ≡ false) → Became s
      joined : own s ≡ 2 → own' s ≡ R.value → L s ≡ true → Became s
      stayed : own s ≡ 2 → own' s ≡ 1 - R.value → G s ≡ true → Became s
      neither : own s ≡ 2 → own' s ≡ 2 → L s ≡ false → G s ≡ false → Became s

    became : (s : ℕ) → s < size J → Became s
    became s l =
        let a = is_empty (own s) in
        let b = in_fragment J n s in
        let new = get_or (by_sets J n own R) s 2 in
        by_equal (own s) 2
        (λ e.
        split b
        (λ i.
        let value : own' s ≡ new = after s l ∙ simp (is_empty_lem (own s) e, i) in
        split (L s)
        (λ t. joined e (value ∙ by_sets_at J n own R s l ∙ simp t) t)
        (λ f.
        split (G s)
        (λ t. stayed e (value ∙ by_sets_at J n own R s l ∙ simp (f, t)) t)
        (λ g. neither e (value ∙ by_sets_at J n own R s l ∙ simp (f, g)) f g)))
        (λ o. kept (after s l ∙ cond_false (a && b) new (own s) (and_no_right a b o)) (λ e'. o)))
        (λ f. kept (after s l ∙ cond_false (a && b) new (own s) (and_no_left a b (not_empty (own s) f))) (λ e. absurd (f e)))

    was_empty : (s : ℕ) → Became s → own' s ≡ 2 → own s ≡ 2
    was_empty s (kept e o) h = sym e ∙ h
    was_empty s (joined e v t) h = e
    was_empty s (stayed e v t) h = e
    was_empty s (neither e v f g) h = e

    had_value : (s : ℕ) → s < size J → Became s → own' s ≡ R.value → L s ≡ true
    had_value s l (kept e o) h = (smallest_is J n own R).joined s l (already (sym e ∙ h))
    had_value s l (joined e v t) h = t
    had_value s l (stayed e v t) h = absurd (omega arith)
    had_value s l (neither e v f g) h = absurd (omega arith)

    had_other : (s : ℕ) → s < size J → Became s → own' s ≡ 1 - R.value → G s ≡ true
    had_other s l (kept e o) h = (largest_is J n own R (smallest J n own R)).stayed s l (other (sym e ∙ h))
    had_other s l (joined e v t) h = absurd (omega arith)
    had_other s l (stayed e v t) h = t
    had_other s l (neither e v f g) h = absurd (omega arith)

    -- an inner state whose cell is still empty was in neither set
    in-neither :
        (s : ℕ) → Became s → own' s ≡ 2 → inner J n s ≡ true → (L s ≡ false) × (G s ≡ false)
    in-neither s (kept e o) h i = clash (in_fragment J n s) (inner_inside J n s i) (o (sym e ∙ h))
    in-neither s (joined e v t) h i = absurd (omega arith)
    in-neither s (stayed e v t) h i = absurd (omega arith)
    in-neither s (neither e v f g) h i = (f, g)

    -- The smallest set is as it was.
    closed : (s : ℕ) → s < size J → Joins J n own' R L s → L s ≡ true
    closed s l (already v) = had_value s l (became s l) v
    closed s l (starts e i b) = (smallest_is J n own R).joined s l (starts (was_empty s (became s l) e) i b)
    closed s l (grows e i a o) = (smallest_is J n own R).joined s l (grows (was_empty s (became s l) e) i a o)

    smallest_again : (s : ℕ) → L' s ≡ true → L s ≡ true
    smallest_again = (smallest_is J n own' R).within_each L closed

    -- The two largest sets together support themselves on the cells before.
    abbrev Both : ℕ → Bool
    Both s = G s || G' s

    abbrev StaysIn : (ℕ → Bool) → ℕ → Type 0
    StaysIn = Stays J n own R (smallest J n own R)

    before : (s : ℕ) → G s ≡ true → StaysIn Both s
    before s g =
        let M = smallest J n own R in
        stays_reason J n own R M Both s
        (stays_monotone J n own R M G Both (λ u. or_left (G u) (G' u)) s
        (stays_intro J n own R M G s ((largest_is J n own R M).reason s g)))

    later : (s : ℕ) → s < size J → Stays J n own' R (smallest J n own' R) G' s → StaysIn Both s
    later s l (other v) = before s (had_other s l (became s l) v)
    later s l (blocked e f i b a) =
        blocked (was_empty s (became s l) e) (in-neither s (became s l) e i).0 i b a
    later s l (follows e f i b o) =
        follows (was_empty s (became s l) e) (in-neither s (became s l) e i).0 i b
        (over_mono J.structure (dual R.quantifier) s G' Both
        (λ u. or_right (G u) (G' u)) o)

    largest_again : (s : ℕ) → G' s ≡ true → G s ≡ true
    largest_again s g =
        let M = smallest J n own R in
        let M' = smallest J n own' R in
        (largest_is J n own R M).holds_each Both
        (λ u e.
        ⊎_elim ((largest_is J n own R M).states u) ((largest_is J n own' R M').states u)
        (or_cases (G u) (G' u) e))
        (λ u e.
        ⊎_elim (before u)
        (λ h. later u ((largest_is J n own' R M').states u h) ((largest_is J n own' R M').reason u h))
        (or_cases (G u) (G' u) e))
        s (or_right (G s) (G' s) g)

    -- So a cell that is still empty is in neither set again.
    joins_inner : (X : ℕ → Bool) (s : ℕ) → own' s ≡ 2 → Joins J n own' R X s → inner J n s ≡ true
    joins_inner X s h (already v) = absurd (omega arith)
    joins_inner X s h (starts e i b) = i
    joins_inner X s h (grows e i a o) = i

    stays_inner : (M : List Bool) (X : ℕ → Bool) (s : ℕ) → own' s ≡ 2 → Stays J n own' R M X s → inner J n s ≡ true
    stays_inner M X s h (other v) = absurd (omega arith)
    stays_inner M X s h (blocked e f i b a) = i
    stays_inner M X s h (follows e f i b o) = i

    pub by_sets_again : (s : ℕ) → s < size J → own' s ≡ 2 → get_or (by_sets J n own' R) s 2 ≡ 2
    by_sets_again s l h =
        let M = smallest J n own' R in
        let out = in-neither s (became s l) h in
        let f : L' s ≡ false =
        split (L' s)
        (λ t. clash (L s) (smallest_again s t)
        (out (joins_inner L' s h ((smallest_is J n own' R).reason s t))).0)
        (λ f. f) in
        let g : G' s ≡ false =
        split (G' s)
        (λ t. clash (G s) (largest_again s t)
        (out (stays_inner M G' s h ((largest_is J n own' R M).reason s t))).1)
        (λ g. g) in
        by_sets_at J n own' R s l ∙ simp (f, g)
