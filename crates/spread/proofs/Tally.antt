-- Counting the edges out of a state: when all are seen, and when some are. Assumes nothing.
use Prim.Native.Nat.{ℕ, suc, ◌+◌, ◌-◌, ◌<◌, ◌≤◌}
use mathlib.Core.Path.{◌≡◌, refl, sym, ◌∙◌, ap}
use mathlib.Core.Bool.{Bool, true, false, cond, not, ◌&&◌, ◌||◌}
use native.Mathlib.Numerals.{add-one}
use native.Mathlib.Omega.{arith}
use borrow.Author.Tests.{eqb-true, eq-eqb, ne_eqb, lt-ltb, le-ltb, ltb-true}
use lib.ListN.{length}
use lib.Dec.{eqb, ltb}
use Rattle.law.specs.Bounded.{count}
use Rattle.law.proofs.Bool.{split, clash, and_intro, and_left, and_right, and_no_left, and_no_right, or_left, or_right, not_is_true}
use Rattle.law.proofs.Bounded.{by_order, by_equal}
use Rattle.law.proofs.Count.{count_le, count_back, count_same, count_sum, count_none, count_zero, count_found, count_one}
use Rattle.law.proofs.Lists.{every_intro, every_elim, some_intro, some_elim}
use Rattle.job.specs.Job.{Job, Structure, size, over}
use Rattle.job.specs.Rule.{quantifier}
use Rattle.job.specs.Written.{IsJob, no_edge, edge_of, edge_count}
use Rattle.image.specs.Image.{edge_from, edge_to, first_edge}
use Rattle.spread.specs.Underway.{enough, outs, seen_outs}

all_of : (a b : Bool) → (not a || b) ≡ true → (a && b) ≡ a
all_of true b e = e
all_of false b e = refl

-- the run of a state is as long as its edges out are many
run_digit : (x s : ℕ) → cond (ltb x s) 1 0 + cond (eqb x s) 1 0 ≡ cond (ltb x (suc s)) 1 0
run_digit x s =
    by_order x s
    (λ l. simp (lt-ltb x s l, ne_eqb x s (λ e. omega arith), lt-ltb x (suc s) (omega arith)))
    (λ h.
    by_equal x s
    (λ e. simp (le-ltb x s h, eq-eqb x s e, lt-ltb x (suc s) (omega arith)))
    (λ e. simp (le-ltb x s h, ne_eqb x s e, le-ltb x (suc s) (let stop : suc s ≤ x = omega arith in stop))))

run_sum : (M : Structure) (s : ℕ) → first_edge M s + outs M s ≡ first_edge M (s + 1)
unfolding first_edge outs
run_sum M s =
    rw (add-one s)
    (count_sum (λ e. ltb (edge_from M e) s) (λ e. eqb (edge_from M e) s) (λ e. ltb (edge_from M e) (suc s)) (length M.edges)
    (λ e l. run_digit (edge_from M e) s))

pub run_is :
    (M : Structure) (s first next : ℕ)
    → first ≡ first_edge M s
    → next ≡ first_edge M (s + 1)
    → (first ≤ next) × (next - first ≡ outs M s)
run_is M s first next f g = let sum = run_sum M s in (omega arith, omega arith)

-- whether a state of mark 1 joins
pub joins_all :
    (all : Bool) (M : Structure) (s mark told first next : ℕ)
    → mark ≡ 1
    → all ≡ true
    → first ≡ first_edge M s
    → next ≡ first_edge M (s + 1)
    → eqb told (next - first) ≡ (eqb mark 1 && enough all (outs M s) told)
unfolding enough
joins_all all M s mark told first next one each f g = rw (one, each, (run_is M s first next f g).1)

pub joins_some :
    (all : Bool) (out mark told : ℕ) → mark ≡ 1 → all ≡ false → ltb 0 told ≡ (eqb mark 1 && enough all out told)
unfolding enough
joins_some all out mark told one some = rw (one, some)

-- no edge is enough, where there is one
pub enough_none : (all : Bool) (out : ℕ) → 0 < out → enough all out 0 ≡ false
unfolding enough
enough_none true out l = ne_eqb 0 out (λ e. omega arith)
enough_none false out l = le-ltb 0 0 (omega arith)

module _ (J : Job) where
  abbrev M : Structure
  M = J.structure

  pub source_in : IsJob J → (e : ℕ) → e < edge_count J → edge_from M e < size J
  unfolding edge_from edge_of
  source_in job e l = (job.ends e l).0

  pub target_in : IsJob J → (e : ℕ) → e < edge_count J → edge_to M e < size J
  unfolding edge_to edge_of
  target_in job e l = (job.ends e l).1

  pub outs_some : IsJob J → (s : ℕ) → s < size J → 0 < outs M s
  unfolding outs edge_from edge_of edge_count
  outs_some job s l =
      let (e, g, is) = job.edge_out s l in
      let here : ℕ → Bool = λ e. eqb (edge_from M e) s in
      by_order 0 (count here (edge_count J)) (λ some. some)
      (λ none. clash (here e) (eq-eqb (edge_from M e) s is) (count_none here (edge_count J) (omega arith) e g))

  pub seen_few : (seen : ℕ → Bool) (s : ℕ) → seen_outs M seen s ≤ edge_count J
  unfolding seen_outs edge_count
  seen_few seen s = count_le (λ e. eqb (edge_from M e) s && seen e) (edge_count J)

  -- the same edges out of a state by another test
  pub seen_same :
      (seen seen' : ℕ → Bool) (s : ℕ)
      → ((e : ℕ) → e < edge_count J → edge_from M e ≡ s → seen e ≡ seen' e)
      → seen_outs M seen s ≡ seen_outs M seen' s
  unfolding seen_outs edge_count
  seen_same seen seen' s same =
      let here : ℕ → Bool = λ e. eqb (edge_from M e) s in
      count_same (λ e. here e && seen e) (λ e. here e && seen' e) (edge_count J)
      (λ e l.
      split (here e)
      (λ t. ap (λ b. here e && b) (same e l (eqb-true (edge_from M e) s t)))
      (λ f. and_no_left (here e) (seen e) f ∙ sym (and_no_left (here e) (seen' e) f)))

  pub seen_none : (seen : ℕ → Bool) (s : ℕ) → ((e : ℕ) → seen e ≡ false) → seen_outs M seen s ≡ 0
  unfolding seen_outs
  seen_none seen s none =
      count_zero (λ e. eqb (edge_from M e) s && seen e) (length M.edges) (λ e l. and_no_right (eqb (edge_from M e) s) (seen e) (none e))

  -- where told edges are enough, that many successors are in each set that the seen edges lead into
  pub enough_over :
      (all : Bool) (seen X : ℕ → Bool) (s : ℕ)
      → ((e : ℕ) → e < edge_count J → seen e ≡ true → X (edge_to M e) ≡ true)
      → enough all (outs M s) (seen_outs M seen s) ≡ true
      → over M (quantifier all) s X ≡ true
  unfolding enough outs seen_outs over edge_from edge_to edge_count
  enough_over true seen X s into h =
      let here : ℕ → Bool = λ e. eqb (edge_from M e) s in
      let both : ℕ → Bool = λ e. here e && seen e in
      let back =
      count_back both here (edge_count J) (λ e l. and_left (here e) (seen e))
      (let same = eqb-true (count both (edge_count J)) (count here (edge_count J)) h in omega arith)
      in
      every_intro (λ e. not (eqb e.from s) || X e.to) M.edges no_edge
      (λ e l.
      split (here e)
      (λ t. or_right (not (here e)) (X (edge_to M e)) (into e l (and_right (here e) (seen e) (back e l t))))
      (λ f. or_left (not (here e)) (X (edge_to M e)) (not_is_true (here e) f)))
  enough_over false seen X s into h =
      let both : ℕ → Bool = λ e. eqb (edge_from M e) s && seen e in
      let (e, l, t) = count_found both (edge_count J) (ltb-true 0 (count both (edge_count J)) h) in
      some_intro (λ g. eqb g.from s && X g.to) M.edges no_edge e l
      (and_intro (eqb (edge_from M e) s) (X (edge_to M e)) (and_left (eqb (edge_from M e) s) (seen e) t)
      (into e l (and_right (eqb (edge_from M e) s) (seen e) t)))

  -- and the other way, where those that are seen are those into the set
  pub over_enough :
      (all : Bool) (X : ℕ → Bool) (s : ℕ)
      → over M (quantifier all) s X ≡ true
      → enough all (outs M s) (seen_outs M (λ e. X (edge_to M e)) s) ≡ true
  unfolding enough outs seen_outs over edge_from edge_to
  over_enough true X s h =
      let m = length M.edges in
      let here : ℕ → Bool = λ e. eqb (edge_from M e) s in
      eq-eqb (count (λ e. here e && X (edge_to M e)) m) (count here m)
      (count_same (λ e. here e && X (edge_to M e)) here m
      (λ e l.
      all_of (here e) (X (edge_to M e)) (every_elim (λ g. not (eqb g.from s) || X g.to) M.edges no_edge h e l)))
  over_enough false X s h =
      let m = length M.edges in
      let both : ℕ → Bool = λ e. eqb (edge_from M e) s && X (edge_to M e) in
      let (e, l, t) = some_elim (λ g. eqb g.from s && X g.to) M.edges no_edge h in
      by_order 0 (count both m) (lt-ltb 0 (count both m))
      (λ none. clash (both e) t (count_none both m (omega arith) e l))

  -- one edge more is seen: it counts at its source, and nowhere else
  module _ (seen seen' : ℕ → Bool) (e : ℕ) (l : e < edge_count J) (new : seen e ≡ false) (now_seen : seen' e ≡ true)
      (others : (j : ℕ) → j < edge_count J → (j ≡ e → ⊥) → seen' j ≡ seen j) where
    pub seen_here : seen_outs M seen' (edge_from M e) ≡ seen_outs M seen (edge_from M e) + 1
    unfolding seen_outs edge_count
    seen_here =
        let here : ℕ → Bool = λ j. eqb (edge_from M j) (edge_from M e) in
        count_one (λ j. here j && seen j) (λ j. here j && seen' j) (edge_count J) e l
        (and_no_right (here e) (seen e) new)
        (and_intro (here e) (seen' e) (eq-eqb (edge_from M e) (edge_from M e) refl) now_seen)
        (λ j g q. ap (λ b. here j && b) (others j g q))

    pub seen_other : (s : ℕ) → (s ≡ edge_from M e → ⊥) → seen_outs M seen' s ≡ seen_outs M seen s
    seen_other s q =
        seen_same seen' seen s (λ j g is. others j g (λ same. q (sym is ∙ ap (edge_from M) same)))
