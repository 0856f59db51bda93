-- More cells known, more values: where each filled cell that a column reads keeps its value, each value of the column is
-- kept. For the two sets this needs that the cells are right before and after. Assumes nothing.
use Prim.Native.Nat.{ℕ, suc, ◌-◌, ◌<◌, ◌≤◌}
use mathlib.Core.Path.{◌≡◌, refl, sym, ◌∙◌}
use mathlib.Core.Bool.{Bool, true, false, cond, ◌&&◌, ◌||◌}
use mathlib.Core.Logic.{⊎_elim}
use native.Mathlib.Nat.{le_refl}
use native.Mathlib.Omega.{arith}
use lib.ListN.{get_or}
use lib.Dec.{eqb}
use borrow.Author.Tests.{eqb-true, eq-eqb}
use Rattle.law.specs.Fixpoint.{member}
use Rattle.law.proofs.Bool.{split, clash, contrapose, and_left, and_right, and_no_right, or_right, or_cases, cond_true, cond_false}
use Rattle.law.proofs.Bounded.{by_equal}
use Rattle.law.proofs.Lists.{tab_at}
use Rattle.job.specs.Job.{Job, Quantifier, dual, over, size}
use Rattle.job.specs.Rule.{AsksSmaller, InRange, quantifier}
use Rattle.job.specs.Written.{IsJob}
use Rattle.job.specs.declared.rule.Condition.{Condition}
use Rattle.job.specs.declared.rule.Condition.TheVariants.{Always, Holds, Fails}
use Rattle.job.specs.declared.rule.Rule.{Rule}
use Rattle.job.specs.declared.rule.Rule.TheVariants.{Atom, Not, And, Next, Sets}
use Rattle.ctl.specs.Labelling.{meets}
use Rattle.cells.specs.Fragment.{inner}
use Rattle.cells.specs.Table.{is_empty}
use Rattle.cells.specs.SetRule.{SetRule, set_rule, smallest, largest, by_sets}
use Rattle.cells.specs.Step.{opposite, both, next, known, column}
use Rattle.cells.specs.Sets.{Joins, already, starts, grows, Stays, other, blocked, follows}
use Rattle.cells.proofs.Sets.{smallest_is, largest_is}
use Rattle.cells.proofs.SetsApart.{largest_apart}
use Rattle.cells.proofs.Repeat.{by_sets_at}
use Rattle.job.proofs.Successors.{over_within, over_share}
use Rattle.cells.proofs.FragmentLaws.{edge_bound}
use Rattle.cells.proofs.Tells.{Tells, by_cell}
use Rattle.cells.proofs.RightColumn.{ReadsTruth, reads_sets}
use Rattle.cells.proofs.RightSets.{reached_by, Telling, joins_target, smallest_target, largest_target}

-- The cell c, if filled, has the value d too.
abbrev pub Keeps : ℕ → ℕ → Type 0
Keeps c d = (v : ℕ) → v ≤ 1 → c ≡ v → d ≡ v

pub same_keeps : (c d : ℕ) → d ≡ c → Keeps c d
same_keeps c d e v low h = e ∙ h

pub empty_keeps : (d : ℕ) → Keeps 2 d
empty_keeps d v low h = absurd (omega arith)

pub cond_keeps : (t : Bool) (x y d : ℕ) → (t ≡ true → Keeps x d) → (t ≡ false → Keeps y d) → Keeps (cond t x y) d
cond_keeps true x y d then else = then refl
cond_keeps false x y d then else = else refl

-- two cells that are right about one truth, the second filled where the first is
pub tells_keeps : (c d : ℕ) (b : Bool) → Tells 1 c b → Tells 1 d b → d ≤ 2 → (d ≡ 2 → c ≡ 2) → Keeps c d
tells_keeps c d b left right low more v small h =
    by_cell d low
    (λ e. by_equal v 0 (λ z. e ∙ sym z) (λ n. clash b (left.inside (omega arith)) (right.outside e)))
    (λ e. by_equal v 1 (λ z. e ∙ sym z) (λ n. clash b (right.inside e) (left.outside (omega arith))))
    (λ e. absurd (let two = more e in omega arith))

pub opposite_keeps : (c d : ℕ) → c ≤ 2 → Keeps c d → Keeps (opposite c) (opposite d)
unfolding opposite is_empty
opposite_keeps c d low keeps =
    by_cell c low
    (λ e. rw (e, keeps 0 (omega arith) e) (λ v small h. h))
    (λ e. rw (e, keeps 1 (omega arith) e) (λ v small h. h))
    (λ e. rw e (empty_keeps (opposite d)))

known_keeps :
    (at at' : ℕ → ℕ → ℕ) (k s : ℕ) → ((j : ℕ) → at j s ≤ 2) → ((j : ℕ) → j < k → Keeps (at j s) (at' j s))
    → (c : Condition)
    → AsksSmaller k c
    → Keeps (known at c s) (known at' c s)
unfolding known
known_keeps at at' k s low kept Always o = λ v small h. h
known_keeps at at' k s low kept (Holds a) o = kept a o
known_keeps at at' k s low kept (Fails a) o = opposite_keeps (at a s) (at' a s) (low a) (kept a o)

pub both_keeps : (c d x y : ℕ) → Keeps c x → Keeps d y → Keeps (both c d) (both x y)
unfolding both
both_keeps c d x y left right =
    cond_keeps (eqb c 1 && eqb d 1) 1 _ (both x y)
    (λ h.
    let p = left 1 (le_refl 1) (eqb-true c 1 (and_left (eqb c 1) (eqb d 1) h)) in
    let q = right 1 (le_refl 1) (eqb-true d 1 (and_right (eqb c 1) (eqb d 1) h)) in
    same_keeps 1 (both x y) (simp (p, q)))
    (λ h.
    cond_keeps (eqb c 0 || eqb d 0) 0 2 (both x y)
    (λ z.
    same_keeps 0 (both x y)
    (⊎_elim
    (λ e. let p = left 0 (omega arith) (eqb-true c 0 e) in simp p)
    (λ e.
    let q = right 0 (omega arith) (eqb-true d 0 e) in
    simp q
    (rw (and_no_right (eqb x 1) false refl, or_right (eqb x 0) true refl)))
    (or_cases (eqb c 0) (eqb d 0) z)))
    (λ z. empty_keeps (both x y)))

module _ (J : Job) (job : IsJob J) (n : ℕ) where
  pub next_keeps :
      (q : Quantifier) (c d : ℕ → ℕ)
      → ((s : ℕ) → s < size J → Keeps (c s) (d s))
      → (s : ℕ)
      → Keeps (next J n q c s) (next J n q d s)
  unfolding next
  next_keeps q c d keeps s =
      let M = J.structure in
      let is : (ℕ → ℕ) → ℕ → ℕ → Bool = λ x v u. eqb (x u) v in
      let kept : (p : Quantifier) (v : ℕ) → v ≤ 1 → over M p s (is c v) ≡ true → over M p s (is d v) ≡ true =
      λ p v low.
      over_within M p s (is c v) (is d v)
      (λ u e h. eq-eqb (d u) v (keeps u (edge_bound J job s u e) v low (eqb-true (c u) v h))) in
      cond_keeps (inner J n s) _ 2 (next J n q d s)
      (λ i.
      cond_keeps (over M q s (is c 1)) 1 _ (next J n q d s)
      (λ h. same_keeps 1 (next J n q d s) (simp (i, kept q 1 (le_refl 1) h)))
      (λ h.
      cond_keeps (over M (dual q) s (is c 0)) 0 2 (next J n q d s)
      (λ z.
      let zero = kept (dual q) 0 (omega arith) z in
      let none : over M q s (is d 1) ≡ false =
      split (over M q s (is d 1))
      (λ t.
      let (u, e, one, nil) = over_share M q s (is d 1) (is d 0) t zero in
      absurd (omega (arith, eqb-true (d u) 1 one, eqb-true (d u) 0 nil)))
      (λ f. f) in
      same_keeps 0 (next J n q d s) (simp (i, none, zero)))
      (λ z. empty_keeps (next J n q d s))))
      (λ i. empty_keeps (next J n q d s))

-- A rule read from fewer cells and from more, each right: both sets hold no fewer states.
module _
    (J : Job) (n : ℕ) (q : Quantifier) (v : ℕ) (small : v ≤ 1) (b a : ℕ → Bool)
    (own start grow own' start' grow' : ℕ → ℕ)
    (right : Telling J own (set_rule q start grow v) b a) (right' : Telling J own' (set_rule q start' grow' v) b a)
    (low : (s : ℕ) → s < size J → own' s ≤ 2)
    (own_kept : (s : ℕ) → s < size J → Keeps (own s) (own' s))
    (start_kept : (s : ℕ) → s < size J → Keeps (start s) (start' s))
    (grow_kept : (s : ℕ) → s < size J → Keeps (grow s) (grow' s))
  where
    abbrev R : SetRule
    R = set_rule q start grow v

    abbrev R' : SetRule
    R' = set_rule q start' grow' v

    abbrev U : ℕ → Bool
    U = reached_by J R b a

    -- a later cell is empty, or of the value in the target, or of the other value outside it
    joins_kept : (X : ℕ → Bool) (s : ℕ) → s < size J → own' s ≡ 2 → Joins J n own R X s → Joins J n own' R' X s
    joins_kept X s l e (already h) = already (own_kept s l v small h)
    joins_kept X s l e (starts m i h) = starts e i (start_kept s l 1 (le_refl 1) h)
    joins_kept X s l e (grows m i h o) = grows e i (grow_kept s l 1 (le_refl 1) h) o

    pub smallest_mono : (s : ℕ) → member (smallest J n own R) s ≡ true → member (smallest J n own' R') s ≡ true
    smallest_mono =
        let L = member (smallest J n own' R') in
        let is = smallest_is J n own' R' in
        (smallest_is J n own R).within_each L
        (λ s l why.
        let in_u = joins_target J n own R b a right L (smallest_target J n own' R' b a right') s l why in
        by_equal (own' s) 2 (λ e. is.joined s l (joins_kept L s l e why))
        (λ filled.
        by_equal (own' s) v (λ e. is.joined s l (already e))
        (λ no. clash (U s) in_u ((right'.owns s l).outside (let h = low s l in omega arith)))))

    stays_kept :
        (X : ℕ → Bool) (s : ℕ)
        → s < size J
        → own' s ≡ 2
        → member (smallest J n own' R') s ≡ false
        → Stays J n own R (smallest J n own R) X s
        → Stays J n own' R' (smallest J n own' R') X s
    stays_kept X s l e out (other h) = other (own_kept s l (1 - v) (omega arith) h)
    stays_kept X s l e out (blocked m o i h g) =
        blocked e out i (start_kept s l 0 (omega arith) h) (grow_kept s l 0 (omega arith) g)
    stays_kept X s l e out (follows m o i h g) = follows e out i (start_kept s l 0 (omega arith) h) g

    pub largest_mono :
        (s : ℕ)
        → member (largest J n own R (smallest J n own R)) s ≡ true
        → member (largest J n own' R' (smallest J n own' R')) s ≡ true
    largest_mono =
        let L = smallest J n own R in
        let L' = smallest J n own' R' in
        let G = member (largest J n own R L) in
        let is = largest_is J n own R L in
        (largest_is J n own' R' L').holds_each G is.states
        (λ s g.
        let l = is.states s g in
        let out = largest_target J n own R b a right L s g in
        by_equal (own' s) 2
        (λ e.
        stays_kept G s l e
        (contrapose (member L' s) (U s) (smallest_target J n own' R' b a right' s) out)
        (is.reason s g))
        (λ filled.
        by_equal (own' s) v (λ e. clash (U s) ((right'.owns s l).inside e) out)
        (λ no. other (let h = low s l in omega arith))))

    pub by_sets_keeps : (s : ℕ) → s < size J → Keeps (get_or (by_sets J n own R) s 2) (get_or (by_sets J n own' R') s 2)
    by_sets_keeps s l =
        let L = smallest J n own R in
        let L' = smallest J n own' R' in
        let G = largest J n own R L in
        let G' = largest J n own' R' L' in
        rw (by_sets_at J n own R s l, by_sets_at J n own' R' s l)
        (cond_keeps (member L s) v _ _
        (λ h. same_keeps v _ (cond_true (member L' s) v _ (smallest_mono s h)))
        (λ h.
        cond_keeps (member G s) (1 - v) 2 _
        (λ g.
        let g' = largest_mono s g in
        same_keeps (1 - v) _
        (cond_false (member L' s) v _ (largest_apart J n own' R' small s g') ∙ cond_true (member G' s) (1 - v) 2 g'))
        (λ g. empty_keeps _)))

-- The column of a subformula.
module _
    (J : Job) (job : IsJob J) (n : ℕ) (T : ℕ → ℕ → Bool) (k : ℕ) (at at' : ℕ → ℕ → ℕ)
    (kept : (j s : ℕ) → j < suc k → s < size J → Keeps (at j s) (at' j s))
  where
    operand : (j : ℕ) → j < k → (s : ℕ) → s < size J → Keeps (at j s) (at' j s)
    operand j h s = kept j s (omega arith)

    pub column_keeps :
        (r : Rule)
        → InRange k r
        → ReadsTruth J T k r at
        → ReadsTruth J T k r at'
        → (s : ℕ)
        → s < size J
        → Keeps (get_or (column J n at k r) s 2) (get_or (column J n at' k r) s 2)
    unfolding column InRange
    column_keeps (Atom j) o reads reads' s l = λ v small h. h
    column_keeps (Not a) o reads reads' s l =
        rw (tab_at (λ u. opposite (at a u)) (size J) s 2 l, tab_at (λ u. opposite (at' a u)) (size J) s 2 l)
        (opposite_keeps (at a s) (at' a s) (reads.low a s) (operand a o s l))
    column_keeps (And a b) o reads reads' s l =
        rw (tab_at (λ u. both (at a u) (at b u)) (size J) s 2 l, tab_at (λ u. both (at' a u) (at' b u)) (size J) s 2 l)
        (both_keeps (at a s) (at b s) (at' a s) (at' b s) (operand a o.0 s l) (operand b o.1 s l))
    column_keeps (Next all a) o reads reads' s l =
        let q = quantifier all in
        rw (tab_at (next J n q (at a)) (size J) s 2 l, tab_at (next J n q (at' a)) (size J) s 2 l)
        (next_keeps J job n q (at a) (at' a) (operand a o) s)
    column_keeps (Sets g) o reads reads' s l =
        let condition : (c : Condition) → AsksSmaller k c → (u : ℕ) → u < size J → Keeps (known at c u) (known at' c u) =
        λ c i u m. known_keeps at at' k u (λ j. reads.low j u) (λ j h. operand j h u m) c i in
        by_sets_keeps J n (quantifier g.all) g.value o.2 (meets T g.start) (meets T g.grow) (at k) (known at g.start) (known at g.grow) (at' k) (known at' g.start)
        (known at' g.grow)
        (reads_sets J T k at g o reads) (reads_sets J T k at' g o reads') (λ u m. reads'.low k u)
        (λ u. kept k u (le_refl (suc k))) (condition g.start o.0) (condition g.grow o.1) s l
