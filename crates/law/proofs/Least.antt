-- `least r n` is the smallest set of numbers below n that is closed under the rule r: laws of passes over any rule, then the
-- fixed point of a monotone one. That n passes reach it is by counting: after k passes the set has k members or has stopped
-- growing. Assumes nothing.
use Prim.Native.Nat.{ℕ, zero, suc, ◌<◌, ◌≤◌}
use mathlib.Core.Path.{◌≡◌, refl}
use mathlib.Core.Bool.{Bool, true, false}
use mathlib.Core.List.{List}
use mathlib.Core.Logic.{◌⊎◌, inl, inr, ⊎_elim}
use native.Mathlib.Omega.{arith}
use lib.ListN.{length, get_or, replicate, length-replicate, get_or-replicate, get_or-eq_default}
use Rattle.law.specs.Bounded.{count, Inside}
use Rattle.law.specs.Fixpoint.{Rule, Monotone, member, pass, passes, least}
use Rattle.law.proofs.Bool.{clash, same_test}
use Rattle.law.proofs.Bounded.{by_order}
use Rattle.law.proofs.Count.{count_back, count_full}
use Rattle.law.proofs.Lists.{tab_length, tab_at, tab_same}

-- a member is one of the list's indices; the sets that passes start from have none, or all
pub member_bound : (X : List Bool) (s : ℕ) → member X s ≡ true → s < length X
unfolding member
member_bound X s e = by_order s (length X) (λ l. l) (λ h. clash (get_or X s false) e (get_or-eq_default X false h))

pub member_none : (n s : ℕ) → member (replicate n false) s ≡ false
unfolding member
member_none n s =
    by_order s n (get_or-replicate n s false false)
    (λ h. get_or-eq_default (replicate n false) false (omega (arith, length-replicate n false)))

pub member_full : (n s : ℕ) → s < n → member (replicate n true) s ≡ true
unfolding member
member_full n s l = get_or-replicate n s true false l

module _ (r : Rule) (n : ℕ) where
  -- one pass more applies the rule once more; every pass gives a set of numbers below n
  pub passes_step : (X : List Bool) (k s : ℕ) → s < n → member (passes r n (suc k) X) s ≡ r (member (passes r n k X)) s
  unfolding passes pass member
  passes_step X k s l = tab_at (r (member (passes r n k X))) n s false l

  pub passes_length : (X : List Bool) → length X ≡ n → (k : ℕ) → length (passes r n k X) ≡ n
  unfolding passes pass
  passes_length X e zero = e
  passes_length X e (suc k) = tab_length (r (member (passes r n k X))) n

  pub passes_bound : (X : List Bool) → length X ≡ n → (k s : ℕ) → member (passes r n k X) s ≡ true → s < n
  passes_bound X e k s h = omega (arith, passes_length X e k, member_bound (passes r n k X) s h)

  -- the set after k passes from the empty one
  abbrev after : ℕ → ℕ → Bool
  after k = member (passes r n k (replicate n false))

  after_none : (s : ℕ) → after 0 s ≡ false
  unfolding passes
  after_none = member_none n

  after_bound : (k s : ℕ) → after k s ≡ true → s < n
  after_bound = passes_bound (replicate n false) (length-replicate n false)

  after_rule : (k s : ℕ) → after (suc k) s ≡ true → r (after k) s ≡ true
  after_rule k s e = rw (passes_step (replicate n false) k s (after_bound (suc k) s e)) at e

  pub least_bound : (s : ℕ) → member (least r n) s ≡ true → s < n
  unfolding least
  least_bound = after_bound n

  -- induction by the number of passes, into any type
  pub least_ind {ℓ} :
      (P : ℕ → Type ℓ)
      → ((Y : ℕ → Bool) → ((u : ℕ) → Y u ≡ true → P u) → (s : ℕ) → s < n → r Y s ≡ true → P s)
      → (s : ℕ)
      → member (least r n) s ≡ true
      → P s
  unfolding least
  least_ind P turn = from n
    where
      from : (k s : ℕ) → after k s ≡ true → P s
      from zero s e = clash (after 0 s) e (after_none s)
      from (suc k) s e = turn (after k) (from k) s (after_bound (suc k) s e) (after_rule k s e)

module _ (r : Rule) (n : ℕ) (mono : Monotone r) where
  after_step : (k s : ℕ) → s < n → r (after r n k) s ≡ true → after r n (suc k) s ≡ true
  after_step k s l e = rw (passes_step r n (replicate n false) k s l) e

  -- the sets grow, and once one does not, none after it does
  after_grows : (k s : ℕ) → after r n k s ≡ true → after r n (suc k) s ≡ true
  after_grows zero s e = clash (after r n 0 s) e (after_none r n s)
  after_grows (suc k) s e =
      after_step (suc k) s (after_bound r n (suc k) s e)
      (mono (after r n k) (after r n (suc k)) (after_grows k) s (after_rule r n k s e))

  abbrev Stopped : ℕ → Type 0
  Stopped k = (s : ℕ) → after r n (suc k) s ≡ true → after r n k s ≡ true

  stopped_on : (k : ℕ) → Stopped k → Stopped (suc k)
  stopped_on k stop s e =
      after_step k s (after_bound r n (suc (suc k)) s e)
      (mono (after r n (suc k)) (after r n k) stop s (after_rule r n (suc k) s e))

  many_or_stopped : (k : ℕ) → (k ≤ count (after r n k) n) ⊎ Stopped k
  many_or_stopped zero = inl (omega arith)
  many_or_stopped (suc k) =
      ⊎_elim
      (λ many.
      by_order (count (after r n k) n) (count (after r n (suc k)) n) (λ more. inl (omega arith))
      (λ few.
      inr (stopped_on k
      (λ s e. count_back (after r n k) (after r n (suc k)) n (λ i l. after_grows k i) few s (after_bound r n (suc k) s e) e))))
      (λ stop. inr (stopped_on k stop))
      (many_or_stopped k)

  stopped : Stopped n
  stopped =
      ⊎_elim (λ many s e. count_full (after r n n) n many s (after_bound r n (suc n) s e)) (λ stop. stop) (many_or_stopped n)

  -- the least set is a fixed point of the rule, inside every set that is closed under it
  pub least_closed : Inside n (r (member (least r n))) (member (least r n))
  unfolding least
  least_closed s l e = stopped s (after_step n s l e)

  pub least_rule : (s : ℕ) → member (least r n) s ≡ true → r (member (least r n)) s ≡ true
  unfolding least
  least_rule s e = after_rule r n n s (after_grows n s e)

  pub least_inside : (Y : ℕ → Bool) → Inside n (r Y) Y → (s : ℕ) → member (least r n) s ≡ true → Y s ≡ true
  least_inside Y closed = least_ind r n (λ u. Y u ≡ true) (λ Z inside s l e. closed s l (mono Z Y inside s e))

  -- a closed set inside it is it: what marking in place ends with
  pub least_unique :
      (Y : ℕ → Bool) → Inside n Y (member (least r n)) → Inside n (r Y) Y → (s : ℕ) → s < n → Y s ≡ member (least r n) s
  least_unique Y inside closed s l =
      same_test (Y s) (member (least r n) s) (inside s l) (least_inside Y closed s)

-- two rules that agree below n have the same passes
pub passes_same :
    (r q : Rule) (n : ℕ)
    → ((X : ℕ → Bool) (s : ℕ) → s < n → r X s ≡ q X s)
    → (X : List Bool) (k : ℕ)
    → passes r n k X ≡ passes q n k X
unfolding passes pass
passes_same r q n same X zero = refl
passes_same r q n same X (suc k) =
    rw (passes_same r q n same X k)
    (let Y = member (passes q n k X) in tab_same (r Y) (q Y) n false (same Y))

pub least_same : (r q : Rule) (n : ℕ) → ((X : ℕ → Bool) (s : ℕ) → s < n → r X s ≡ q X s) → least r n ≡ least q n
unfolding least
least_same r q n same = passes_same r q n same (replicate n false) n
