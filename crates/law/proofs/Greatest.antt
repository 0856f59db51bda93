-- `greatest r n` is the largest set of numbers below n whose members all satisfy the rule r in it. Everything follows from the
-- laws of the least set: the numbers outside the greatest set are the least set of the dual rule. Assumes nothing.
use Prim.Native.Nat.{ℕ, zero, suc, ◌<◌}
use mathlib.Core.Path.{◌≡◌, sym, ◌∙◌, ap, fun_ext}
use mathlib.Core.Bool.{Bool, true, false, not, ◌&&◌}
use borrow.Author.Tests.{ltb-true, lt-ltb, not-true, not-false}
use lib.Dec.{ltb}
use lib.ListN.{replicate, length-replicate}
use Rattle.law.specs.Bounded.{Inside}
use Rattle.law.specs.Fixpoint.{Rule, Monotone, member, passes, least, greatest}
use Rattle.law.proofs.Bool.{contrapose, not_is_true, not_is_false, not_not, and_intro, and_left, and_right, and_no_right, same_test}
use Rattle.law.proofs.Least.{passes_step, passes_bound, passes_same, member_none, member_full, least_closed, least_rule, least_inside}

-- the numbers below n outside a set, and the rule that adds what r drops
unfoldable pub others : ℕ → (ℕ → Bool) → ℕ → Bool
others n X s = ltb s n && not (X s)

unfoldable pub dual_rule : Rule → ℕ → Rule
dual_rule r n X s = not (r (others n X) s)

module _ (n : ℕ) (X : ℕ → Bool) where
  others_intro : (s : ℕ) → s < n → X s ≡ false → others n X s ≡ true
  unfolding others
  others_intro s l f = and_intro (ltb s n) (not (X s)) (lt-ltb s n l) (not_is_true (X s) f)

  others_bound : (s : ℕ) → others n X s ≡ true → s < n
  unfolding others
  others_bound s e = ltb-true s n (and_left (ltb s n) (not (X s)) e)

  others_out : (s : ℕ) → others n X s ≡ true → X s ≡ false
  unfolding others
  others_out s e = not-true (X s) (and_right (ltb s n) (not (X s)) e)

  others_without : (s : ℕ) → X s ≡ true → others n X s ≡ false
  unfolding others
  others_without s e = and_no_right (ltb s n) (not (X s)) (not_is_false (X s) e)

  others_is :
      (Y : ℕ → Bool)
      → ((s : ℕ) → Y s ≡ true → s < n)
      → ((s : ℕ) → s < n → Y s ≡ not (X s))
      → (s : ℕ)
      → Y s ≡ others n X s
  others_is Y bound opposite s =
      same_test (Y s) (others n X s)
      (λ e. others_intro s (bound s e) (not-true (X s) (sym (opposite s (bound s e)) ∙ e)))
      (λ e. opposite s (others_bound s e) ∙ not_is_true (X s) (others_out s e))

module _ (r : Rule) (n : ℕ) where
  -- the sets after k passes: of r from the full set, and of its dual from the empty set
  abbrev kept : ℕ → ℕ → Bool
  kept k = member (passes r n k (replicate n true))

  abbrev dropped : ℕ → ℕ → Bool
  dropped k = member (passes (dual_rule r n) n k (replicate n false))

  kept_bound : (k s : ℕ) → kept k s ≡ true → s < n
  kept_bound = passes_bound r n (replicate n true) (length-replicate n true)

  kept_others : (k s : ℕ) → kept k s ≡ others n (dropped k) s
  unfolding passes dual_rule
  kept_others zero =
      others_is n (dropped 0) (kept 0) (kept_bound 0)
      (λ s l. member_full n s l ∙ sym (not_is_true (dropped 0 s) (member_none n s)))
  kept_others (suc k) =
      others_is n (dropped (suc k)) (kept (suc k)) (kept_bound (suc k))
      (λ s l.
      passes_step r n (replicate n true) k s l
      ∙ ap (λ (X : ℕ → Bool). r X s) (fun_ext (kept_others k))
      ∙ sym (ap not (passes_step (dual_rule r n) n (replicate n false) k s l) ∙ not_not (r (others n (dropped k)) s)))

  -- the greatest set of r is what the least set of the dual leaves
  pub greatest_dual : member (greatest r n) ≡ others n (member (least (dual_rule r n) n))
  unfolding greatest least
  greatest_dual = fun_ext (kept_others n)

  pub greatest_bound : (s : ℕ) → member (greatest r n) s ≡ true → s < n
  unfolding greatest
  greatest_bound = kept_bound n

pub greatest_same :
    (r q : Rule) (n : ℕ) → ((X : ℕ → Bool) (s : ℕ) → s < n → r X s ≡ q X s) → greatest r n ≡ greatest q n
unfolding greatest
greatest_same r q n same = passes_same r q n same (replicate n true) n

module _ (r : Rule) (n : ℕ) (mono : Monotone r) where
  dual_monotone : Monotone (dual_rule r n)
  unfolding dual_rule
  dual_monotone X Y inside s e =
      not_is_true (r (others n Y) s)
      (contrapose (r (others n Y) s) (r (others n X) s)
      (mono (others n Y) (others n X)
      (λ u o. others_intro n X u (others_bound n Y u o) (contrapose (X u) (Y u) (inside u) (others_out n Y u o))) s)
      (not-true (r (others n X) s) e))

  abbrev outside : ℕ → Bool
  outside = member (least (dual_rule r n) n)

  -- the greatest set is a fixed point of the rule, and holds every set whose members satisfy the rule in it
  pub greatest_supported : (s : ℕ) → member (greatest r n) s ≡ true → r (member (greatest r n)) s ≡ true
  unfolding dual_rule
  greatest_supported =
      rw (greatest_dual r n)
      (λ s e. not-false (r (others n outside) s)
      (contrapose (not (r (others n outside) s)) (outside s)
      (least_closed (dual_rule r n) n dual_monotone s (others_bound n outside s e))
      (others_out n outside s e)))

  pub greatest_rule : Inside n (r (member (greatest r n))) (member (greatest r n))
  unfolding dual_rule
  greatest_rule =
      rw (greatest_dual r n)
      (λ s l e. others_intro n outside s l
      (contrapose (outside s) (not (r (others n outside) s)) (least_rule (dual_rule r n) n dual_monotone s)
      (not_is_false (r (others n outside) s) e)))

  pub greatest_holds :
      (Y : ℕ → Bool)
      → ((s : ℕ) → Y s ≡ true → s < n)
      → Inside n Y (r Y)
      → (s : ℕ)
      → Y s ≡ true
      → member (greatest r n) s ≡ true
  unfolding dual_rule
  greatest_holds Y bound supported =
      let Z = others n Y in
      let back : (u : ℕ) → Y u ≡ true → others n Z u ≡ true =
      λ u y. others_intro n Z u (bound u y) (others_without n Y u y) in
      let closed : Inside n (dual_rule r n Z) Z =
      λ u l o.
      others_intro n Y u l
      (contrapose (Y u) (r (others n Z) u) (λ y. mono Y (others n Z) back u (supported u l y)) (not-true (r (others n Z) u) o)) in
      rw (greatest_dual r n)
      (λ s e.
      others_intro n outside s (bound s e)
      (contrapose (outside s) (Z s) (least_inside (dual_rule r n) n dual_monotone Z closed s) (others_without n Y s e)))
