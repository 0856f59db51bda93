-- Where a state's run of edges begins and ends: edges ascend by source, so those below a state are the first ones. All or some successors
-- of a state are those at the ends of its run. Assumes nothing.
use Prim.Native.Nat.{ℕ, zero, suc, ◌+◌, ◌-◌, ◌<◌, ◌≤◌}
use mathlib.Core.Path.{◌≡◌, sym, ◌∙◌, ap}
use mathlib.Core.Bool.{Bool, true, false, cond, not, ◌&&◌, ◌||◌}
use mathlib.Core.Logic.{⊎_elim}
use native.Mathlib.Nat.{le_refl, not-suc-le-zero}
use native.Mathlib.Numerals.{add-one}
use native.Mathlib.Omega.{arith}
use borrow.Author.Tests.{eq-eqb, eqb-true, lt-ltb, ltb-true, ltb-false, not-true}
use lib.ListN.{length}
use lib.Dec.{eqb, ltb}
use Rattle.law.specs.Bounded.{count, all, any, first}
use Rattle.law.proofs.Bool.{split, clash, same_test, and_intro, and_left, and_right, or_left, or_right, or_cases, not_is_true}
use Rattle.law.proofs.Bounded.{by_order, below_suc, all_intro, all_elim, any_intro, any_found}
use Rattle.law.proofs.Count.{count_le}
use Rattle.law.proofs.Lists.{every_intro, every_elim, some_intro, some_elim}
use Rattle.job.specs.Job.{Job, Structure, for_all, exists, over, size}
use Rattle.job.specs.Written.{IsJob, Less, edge_of, edge_count, no_edge}
use Rattle.image.specs.Image.{edge_from, edge_to, first_edge}

-- a test that the first r numbers pass, and no other below n
pub count_run :
    (p : ℕ → Bool) (n r : ℕ) → r ≤ n → ((d : ℕ) → d < r → p d ≡ true) → ((d : ℕ) → r ≤ d → d < n → p d ≡ false)
    → count p n ≡ r
unfolding count
count_run p zero r l pass fail = omega arith
count_run p (suc n) r l pass fail =
    by_order n r
    (λ g.
    let all = count_run p n n (omega arith) (λ d m. pass d (omega arith)) (λ d m k. absurd (omega arith)) in
    simp (pass n g) (omega arith))
    (λ g.
    let rest = count_run p n r g pass (λ d m k. fail d m (omega arith)) in
    simp (fail n g (omega arith)) (omega arith))

-- a test that passes for no number after one that fails passes exactly the first ones
module _ (p : ℕ → Bool) where
  abbrev Falls : ℕ → Type 0
  Falls n = (d e : ℕ) → d ≤ e → e < n → p e ≡ true → p d ≡ true

  falls_count : (n : ℕ) → Falls n → p n ≡ true → ((d : ℕ) → d ≤ n → p d ≡ true) → count p n ≡ n
  falls_count n falls t pass = count_run p n n (le_refl n) (λ d l. pass d (omega arith)) (λ d l g. absurd (omega arith))

  first_pass : (n : ℕ) → Falls n → (d : ℕ) → d < count p n → p d ≡ true
  unfolding count
  first_pass zero falls d l = absurd (not-suc-le-zero l)
  first_pass (suc n) falls d l =
      split (p n)
      (λ t. let m = count_le p n in falls d n (omega (arith, ap (λ (b : Bool). cond {A = ℕ} b 1 0) t)) (le_refl (suc n)) t)
      (λ f.
      first_pass n (λ a b x y. falls a b x (omega arith)) d (omega (arith, ap (λ (b : Bool). cond {A = ℕ} b 1 0) f)))

  then_fail : (n : ℕ) → Falls n → (d : ℕ) → d < n → count p n ≤ d → p d ≡ false
  unfolding count
  then_fail zero falls d l g = absurd (not-suc-le-zero l)
  then_fail (suc n) falls d l g =
      split (p n)
      (λ t.
      let full = falls_count n (λ a b x y. falls a b x (omega arith)) t (λ e h. falls e n h (le_refl (suc n)) t) in
      let stop : ⊥ = omega (arith, ap (λ (b : Bool). cond {A = ℕ} b 1 0) t) in absurd stop)
      (λ f.
      below_suc d n l
      (λ h. then_fail n (λ a b x y. falls a b x (omega arith)) d h (omega (arith, ap (λ (b : Bool). cond {A = ℕ} b 1 0) f)))
      (λ e. ap p e ∙ f))

module _ (J : Job) (job : IsJob J) where
  abbrev M : Structure
  M = J.structure

  -- the ends of an edge are states
  pub from_in : (e : ℕ) → e < edge_count J → edge_from M e < size J
  unfolding edge_of edge_from
  from_in e l = (job.ends e l).0

  pub to_in : (e : ℕ) → e < edge_count J → edge_to M e < size J
  unfolding edge_of edge_to
  to_in e l = (job.ends e l).1

  step_up : (e : ℕ) → suc e < edge_count J → edge_from M e ≤ edge_from M (suc e)
  unfolding Less edge_of edge_count edge_from
  step_up e l = ⊎_elim (λ g. omega arith) (λ g. omega arith) (job.ascending e l)

  pub sources_up : (d e : ℕ) → d ≤ e → e < edge_count J → edge_from M d ≤ edge_from M e
  sources_up d zero l g = let z : d ≡ 0 = omega arith in rw z (le_refl (edge_from M 0))
  sources_up d (suc e) l g =
      below_suc d (suc e) (omega arith)
      (λ m. omega (arith, sources_up d e (omega arith) (omega arith), step_up e g))
      (λ q. rw q (le_refl (edge_from M (suc e))))

  falls : (s : ℕ) → Falls (λ e. ltb (edge_from M e) s) (edge_count J)
  falls s d e l g t = lt-ltb (edge_from M d) s (omega (arith, sources_up d e l g, ltb-true (edge_from M e) s t))

  pub below_first : (s e : ℕ) → e < first_edge M s → edge_from M e < s
  unfolding first_edge edge_count
  below_first s e l = ltb-true (edge_from M e) s (first_pass (λ d. ltb (edge_from M d) s) (edge_count J) (falls s) e l)

  pub from_first : (s e : ℕ) → e < edge_count J → first_edge M s ≤ e → s ≤ edge_from M e
  unfolding first_edge edge_count
  from_first s e l g = ltb-false (edge_from M e) s (then_fail (λ d. ltb (edge_from M d) s) (edge_count J) (falls s) e l g)

  pub first_few : (s : ℕ) → first_edge M s ≤ edge_count J
  unfolding first_edge edge_count
  first_few s = count_le (λ e. ltb (edge_from M e) s) (length M.edges)

  -- an edge not behind the first of the run of s that starts at s or above is the first
  pub run_here : (s e : ℕ) → e ≤ first_edge M s → s ≤ edge_from M e → e ≡ first_edge M s
  run_here s e l g =
      by_order e (first_edge M s) (λ h. let stop : ⊥ = omega (arith, below_first s e h) in absurd stop) (λ h. omega arith)

  -- an edge that starts below s is before it
  pub run_later : (s e : ℕ) → e < edge_count J → edge_from M e < s → e + 1 ≤ first_edge M s
  run_later s e l g =
      by_order e (first_edge M s) (λ h. omega arith) (λ h. let stop : ⊥ = omega (arith, from_first s e l h) in absurd stop)

  pub first_up : (s : ℕ) → first_edge M s ≤ first_edge M (suc s)
  first_up s =
      by_order (first_edge M (suc s)) (first_edge M s)
      (λ g.
      let few = first_few s in
      let e = first_edge M (suc s) in
      let stop : ⊥ = omega (arith, below_first s e g, from_first (suc s) e (omega arith) (le_refl e)) in absurd stop)
      (λ g. g)

  pub run_on : (s e : ℕ) → e ≡ first_edge M s → e ≤ first_edge M (s + 1)
  run_on s e is = rw (add-one s) (omega (arith, first_up s))

  -- the edges of a run start at its state, and all that do are in it
  pub run_source : (s e : ℕ) → first_edge M s ≤ e → e < first_edge M (suc s) → (e < edge_count J) × (edge_from M e ≡ s)
  run_source s e l g =
      let few = first_few (suc s) in
      let inside : e < edge_count J = omega arith in
      (inside, omega (arith, below_first (suc s) e g, from_first s e inside l))

  pub source_run : (s e : ℕ) → e < edge_count J → edge_from M e ≡ s → (first_edge M s ≤ e) × (e < first_edge M (suc s))
  source_run s e l is = (
    by_order e (first_edge M s) (λ g. let stop : ⊥ = omega (arith, below_first s e g) in absurd stop) (λ g. g),
    by_order e (first_edge M (suc s)) (λ g. g) (λ g. let stop : ⊥ = omega (arith, from_first (suc s) e l g) in absurd stop),
  )

  pub all_run :
      (s : ℕ) (X : ℕ → Bool)
      → over M for_all s X ≡ all (λ d. X (edge_to M (first_edge M s + d))) (first_edge M (suc s) - first_edge M s)
  unfolding over edge_from edge_to edge_count
  all_run s X =
      let a = first_edge M s in
      let b = first_edge M (suc s) in
      same_test (over M for_all s X) (all (λ d. X (edge_to M (a + d))) (b - a))
      (λ h.
      all_intro (λ d. X (edge_to M (a + d))) (b - a)
      (λ d l.
      let (inside, is) = run_source s (a + d) (omega arith) (omega arith) in
      ⊎_elim
      (λ n. clash (eqb (edge_from M (a + d)) s) (eq-eqb (edge_from M (a + d)) s is) (not-true (eqb (edge_from M (a + d)) s) n))
      (λ x. x)
      (or_cases (not (eqb (edge_from M (a + d)) s)) (X (edge_to M (a + d)))
      (every_elim (λ e. not (eqb e.from s) || X e.to) M.edges no_edge h (a + d) inside))))
      (λ h.
      every_intro (λ e. not (eqb e.from s) || X e.to) M.edges no_edge
      (λ e l.
      split (eqb (edge_from M e) s)
      (λ t.
      let (up, down) = source_run s e l (eqb-true (edge_from M e) s t) in
      let here : a + (e - a) ≡ e = omega arith in
      or_right (not (eqb (edge_from M e) s)) (X (edge_to M e))
      (sym (ap (λ i. X (edge_to M i)) here) ∙ all_elim (λ d. X (edge_to M (a + d))) (b - a) h (e - a) (omega arith)))
      (λ f. or_left (not (eqb (edge_from M e) s)) (X (edge_to M e)) (not_is_true (eqb (edge_from M e) s) f))))

  pub some_run :
      (s : ℕ) (X : ℕ → Bool)
      → over M exists s X ≡ any (λ d. X (edge_to M (first_edge M s + d))) (first_edge M (suc s) - first_edge M s)
  unfolding over edge_from edge_to edge_count
  some_run s X =
      let a = first_edge M s in
      let b = first_edge M (suc s) in
      same_test (over M exists s X) (any (λ d. X (edge_to M (a + d))) (b - a))
      (λ h.
      let (e, l, t) = some_elim (λ g. eqb g.from s && X g.to) M.edges no_edge h in
      let (up, down) = source_run s e l (eqb-true (edge_from M e) s (and_left (eqb (edge_from M e) s) (X (edge_to M e)) t)) in
      let here : a + (e - a) ≡ e = omega arith in
      any_intro (λ d. X (edge_to M (a + d))) (b - a) (e - a) (omega arith)
      (ap (λ i. X (edge_to M i)) here ∙ and_right (eqb (edge_from M e) s) (X (edge_to M e)) t))
      (λ h.
      let (l, t) = any_found (λ d. X (edge_to M (a + d))) (b - a) h in
      let d = first (λ i. X (edge_to M (a + i))) (b - a) in
      let (inside, is) = run_source s (a + d) (omega arith) (omega arith) in
      some_intro (λ g. eqb g.from s && X g.to) M.edges no_edge (a + d) inside
      (and_intro (eqb (edge_from M (a + d)) s) (X (edge_to M (a + d))) (eq-eqb (edge_from M (a + d)) s is) t))
