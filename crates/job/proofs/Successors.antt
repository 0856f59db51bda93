-- Laws of `edge`, whether s has an edge to t, and of `over`, whether that many successors of a state are in a set. Assumes nothing.
use Prim.Native.Nat.{ℕ, ◌<◌}
use mathlib.Core.Path.{◌≡◌, refl, sym, ◌∙◌, ap, fun_ext}
use mathlib.Core.Bool.{Bool, true, false, not, ◌&&◌, ◌||◌}
use mathlib.Core.Logic.{◌↔◌}
use lib.Dec.{eqb}
use lib.ListN.{length, get_or}
use borrow.Author.Tests.{eqb-true, eq-eqb, not-true, not-false}
use Rattle.law.proofs.Bool.{split, clash, not_is_true, not_not, and_intro, and_left, and_right, and_mono, or_left, or_right, or_mono, same_test}
use Rattle.law.proofs.Lists.{every_intro, every_elim, every_mono, some_intro, some_elim, some_mono}
use Rattle.job.specs.Job.{Edge, Structure, Quantifier, for_all, exists, dual, edge, over}
use Rattle.job.specs.Written.{no_edge}

-- an edge by its number in the list
abbrev pub numbered : Structure → ℕ → Edge
numbered M i = get_or M.edges i no_edge

-- the tests of one edge that `over` puts to all of them, and to some
abbrev clears : ℕ → (ℕ → Bool) → Edge → Bool
clears s X e = not (eqb e.from s) || X e.to

abbrev leads : ℕ → (ℕ → Bool) → Edge → Bool
leads s X e = eqb e.from s && X e.to

-- a larger set holds no fewer successors
pub over_mono :
    (M : Structure) (q : Quantifier) (s : ℕ) (X Y : ℕ → Bool)
    → ((u : ℕ) → X u ≡ true → Y u ≡ true)
    → over M q s X ≡ true
    → over M q s Y ≡ true
unfolding over
over_mono M for_all s X Y inside =
    every_mono (clears s X) (clears s Y)
    (λ e. or_mono (not (eqb e.from s)) (X e.to) (Y e.to) (inside e.to))
    M.edges
over_mono M exists s X Y inside =
    some_mono (leads s X) (leads s Y)
    (λ e. and_mono (eqb e.from s) (X e.to) (Y e.to) (inside e.to))
    M.edges

-- The edges are those of the list.
module _ (M : Structure) where
  pub edge_listed : (s i : ℕ) → i < length M.edges → (numbered M i).from ≡ s → edge M s (numbered M i).to ≡ true
  unfolding edge
  edge_listed s i l p =
      let e = numbered M i in
      some_intro (leads s (λ t. eqb t e.to)) M.edges no_edge i l
      (and_intro (eqb e.from s) (eqb e.to e.to) (eq-eqb e.from s p) (eq-eqb e.to e.to refl))

  pub edge_number :
      (s t : ℕ) → edge M s t ≡ true → (i : ℕ) × (i < length M.edges) × ((numbered M i).from ≡ s) × ((numbered M i).to ≡ t)
  unfolding edge
  edge_number s t h =
      let (i, l, g) = some_elim (leads s (λ u. eqb u t)) M.edges no_edge h in
      let e = numbered M i in (
        i,
        l,
        eqb-true e.from s (and_left (eqb e.from s) (eqb e.to t) g),
        eqb-true e.to t (and_right (eqb e.from s) (eqb e.to t) g),
      )

-- So all successors are in a set if each edge out leads there, and some are if one does.
module _ (M : Structure) (s : ℕ) (X : ℕ → Bool) where
  pub over_all : (over M for_all s X ≡ true) ↔ ((t : ℕ) → edge M s t ≡ true → X t ≡ true)
  unfolding over
  over_all = (
    (λ h t g.
        let (i, l, p, q) = edge_number M s t g in
        simp (eq-eqb (numbered M i).from s p, q) at (every_elim (clears s X) M.edges no_edge h i l)),
    (λ h.
        every_intro (clears s X) M.edges no_edge
        (λ i l.
        let e = numbered M i in
        let here = eqb e.from s in
        split here
        (λ t. or_right (not here) (X e.to) (h e.to (edge_listed M s i l (eqb-true e.from s t))))
        (λ f. or_left (not here) (X e.to) (not_is_true here f)))),
  )

  pub over_some : (over M exists s X ≡ true) ↔ ((t : ℕ) × (edge M s t ≡ true) × (X t ≡ true))
  unfolding over
  over_some = (
    (λ h.
        let (i, l, g) = some_elim (leads s X) M.edges no_edge h in
        let e = numbered M i in
        let here = eqb e.from s in
        (e.to, edge_listed M s i l (eqb-true e.from s (and_left here (X e.to) g)), and_right here (X e.to) g)),
    (λ (t, g, x).
        let (i, l, p, q) = edge_number M s t g in
        let e = numbered M i in
        some_intro (leads s X) M.edges no_edge i l (and_intro (eqb e.from s) (X e.to) (eq-eqb e.from s p) (rw q x))),
  )

-- All are in a set if not some are outside it, and some if not all are.
module _ (M : Structure) (s : ℕ) where
  all_dual : (X : ℕ → Bool) → over M for_all s X ≡ not (over M exists s (λ u. not (X u)))
  all_dual X =
      let out = over M exists s (λ u. not (X u)) in
      let (at, of) = over_some M s (λ u. not (X u)) in
      same_test (over M for_all s X) (not out)
      (λ h. split out (λ t. let (u, e, x) = at t in clash (X u) ((over_all M s X).0 h u e) (not-true (X u) x)) (not_is_true out))
      (λ h.
      (over_all M s X).1
      (λ u e. split (X u) (λ t. t) (λ f. clash out (of (u, e, not_is_true (X u) f)) (not-true out h))))

  pub over_dual : (q : Quantifier) (X : ℕ → Bool) → over M q s X ≡ not (over M (dual q) s (λ u. not (X u)))
  unfolding dual
  over_dual for_all X = all_dual X
  over_dual exists X =
      sym (not_not (over M exists s X))
      ∙ ap (λ Y. not (not (over M exists s Y))) (fun_ext (λ u. sym (not_not (X u))))
      ∙ ap not (sym (all_dual (λ u. not (X u))))

  -- where not all successors are in X, one that is not
  pub over_misses : (X : ℕ → Bool) → over M for_all s X ≡ false → (t : ℕ) × (edge M s t ≡ true) × (X t ≡ false)
  over_misses X f =
      let out = not-false (over M exists s (λ u. not (X u))) (sym (all_dual X) ∙ f) in
      let (t, e, x) = (over_some M s (λ u. not (X u))).0 out in
      (t, e, not-true (X t) x)

-- What a quantifier says of two sets: they need to be compared at successors only, and a quantifier and its dual meet.
module _ (M : Structure) where
  -- a set that holds no fewer of the successors of s
  pub over_within :
      (q : Quantifier) (s : ℕ) (X Y : ℕ → Bool)
      → ((u : ℕ) → edge M s u ≡ true → X u ≡ true → Y u ≡ true)
      → over M q s X ≡ true
      → over M q s Y ≡ true
  over_within for_all s X Y inside h = (over_all M s Y).1 (λ u e. inside u e ((over_all M s X).0 h u e))
  over_within exists s X Y inside h = let (u, e, x) = (over_some M s X).0 h in (over_some M s Y).1 (u, e, inside u e x)

  -- a quantifier and its dual share a successor, and one of the two always holds: of a set, or of the states outside it
  pub over_share :
      (q : Quantifier) (s : ℕ) (X Y : ℕ → Bool)
      → over M q s X ≡ true
      → over M (dual q) s Y ≡ true
      → (u : ℕ) × (edge M s u ≡ true) × (X u ≡ true) × (Y u ≡ true)
  unfolding dual
  over_share for_all s X Y each found = let (u, e, y) = (over_some M s Y).0 found in (u, e, (over_all M s X).0 each u e, y)
  over_share exists s X Y found each = let (u, e, x) = (over_some M s X).0 found in (u, e, x, (over_all M s Y).0 each u e)

  pub over_else :
      (q : Quantifier) (s : ℕ) (X : ℕ → Bool) → over M q s X ≡ false → over M (dual q) s (λ u. not (X u)) ≡ true
  over_else q s X none = not-false (over M (dual q) s (λ u. not (X u))) (sym (over_dual M s q X) ∙ none)
