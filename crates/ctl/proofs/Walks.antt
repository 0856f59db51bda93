-- Walks made by hand, and until on them: a walk that starts a place later, one that starts a place earlier, and one that follows a
-- rule for ever; and what holds on all walks or on some. Assumes nothing.
use Prim.Native.Nat.{ℕ, zero, suc, ◌<◌}
use mathlib.Core.Path.{◌≡◌, refl, subst}
use mathlib.Core.Logic.{◌↔◌}
use native.Mathlib.Nat.{not-suc-le-zero, le_of_suc-le-suc}
use Rattle.job.specs.Job.{Structure, Quantifier, for_all, exists, dual}
use Rattle.ctl.specs.Truth.{Predicate, HasEdge, Walk, Until, Throughout, OnWalks}
use Rattle.ctl.proofs.Total.{State, Total}

-- A walk without its first state, and one with a state before it.
abbrev pub walk_tail : (M : Structure) (s : ℕ) (w : Walk M s) → Walk M (w.at 1)
walk_tail M s w = record { at = λ i. w.at (suc i); starts = refl; steps = λ i. w.steps (suc i) }

abbrev pub before : ℕ → (ℕ → ℕ) → ℕ → ℕ
before s at zero = s
before s at (suc i) = at i

abbrev pub walk_before : (M : Structure) (s t : ℕ) → HasEdge M s t → Walk M t → Walk M s
walk_before M s t e w = record { at = before s w.at; starts = refl; steps = steps }
  where
    steps : (i : ℕ) → HasEdge M (before s w.at i) (w.at i)
    steps zero = rw w.starts e
    steps (suc i) = w.steps i

-- What holds on that many walks may be replaced walk by walk; and what holds on all walks and what holds on some share a walk.
module _ (M : Structure) (s : ℕ) (P Q : Walk M s → Type 0) where
  pub on_walks_map : (q : Quantifier) → ((w : Walk M s) → P w → Q w) → OnWalks M q s P → OnWalks M q s Q
  unfolding OnWalks
  on_walks_map for_all f h = λ w. f w (h w)
  on_walks_map exists f (w, h) = (w, f w h)

  pub walks_share : (q : Quantifier) → OnWalks M q s P → OnWalks M (dual q) s Q → (w : Walk M s) × P w × Q w
  unfolding OnWalks dual
  walks_share for_all h (w, g) = (w, h w, g)
  walks_share exists (w, h) g = (w, h, g w)

-- An until holds at once where B does, and one place later where A does and the walk goes on as one on which it holds.
module _ (M : Structure) (A B : Predicate) where
  pub until_here : (s : ℕ) (w : Walk M s) → B s → Until M A B s w
  until_here s w b = record { place = zero; reached = rw w.starts b; before = λ i h. absurd (not-suc-le-zero h) }

  pub until_later :
      (s t : ℕ) (w : Walk M s) (v : Walk M t)
      → ((i : ℕ) → v.at i ≡ w.at (suc i))
      → A s
      → Until M A B t v
      → Until M A B s w
  until_later s t w v same a u =
      record { place = suc u.place; reached = subst B (same u.place) u.reached; before = earlier }
    where
      earlier : (i : ℕ) → i < suc u.place → A (w.at i)
      earlier zero h = rw w.starts a
      earlier (suc i) h = subst A (same i) (u.before i (le_of_suc-le-suc h))

-- On that many walks the same holds where the same holds at their places.
module _ (M : Structure) (q : Quantifier) (s : ℕ) where
  abbrev SameAt : Predicate → Predicate → Type 0
  SameAt A B = (w : Walk M s) (i : ℕ) → A (w.at i) ↔ B (w.at i)

  until_map :
      (A B C D : Predicate) (w : Walk M s)
      → ((i : ℕ) → A (w.at i) → C (w.at i))
      → ((i : ℕ) → B (w.at i) → D (w.at i))
      → Until M A B s w
      → Until M C D s w
  until_map A B C D w a b u =
      record { place = u.place; reached = b u.place u.reached; before = λ i h. a i (u.before i h) }

  pub until_same :
      (A B C D : Predicate) → SameAt A C → SameAt B D → OnWalks M q s (Until M A B s) ↔ OnWalks M q s (Until M C D s)
  until_same A B C D a b = (
    on_walks_map M s _ _ q (λ w. until_map A B C D w (λ i. (a w i).0) (λ i. (b w i).0)),
    on_walks_map M s _ _ q (λ w. until_map C D A B w (λ i. (a w i).1) (λ i. (b w i).1)),
  )

  pub throughout_same : (A B : Predicate) → SameAt A B → OnWalks M q s (Throughout M A s) ↔ OnWalks M q s (Throughout M B s)
  unfolding Throughout
  throughout_same A B a = (on_walks_map M s _ _ q (λ w h i. (a w i).0 (h i)), on_walks_map M s _ _ q (λ w h i. (a w i).1 (h i)))

-- The places of a walk are states, and a rule that has a next state for each state gives a walk that follows it for ever.
module _ (M : Structure) (total : Total M) where
  pub walk_state : (s : ℕ) (w : Walk M s) (i : ℕ) → State M (w.at i)
  walk_state s w i = (total.inside (w.at i) (w.at (suc i)) (w.steps i)).0

  pub walk_by :
      (R : ℕ → ℕ → Type 0)
      → ((s : ℕ) → State M s → (t : ℕ) × HasEdge M s t × R s t)
      → (s : ℕ) → State M s
      → (w : Walk M s) × ((i : ℕ) → R (w.at i) (w.at (suc i)))
  walk_by R next s l = (
    record { at = λ i. (on i).0; starts = refl; steps = λ i. (next (on i).0 (on i).1).1 },
    λ i. (next (on i).0 (on i).1).2,
  )
    where
      on : ℕ → (t : ℕ) × State M t
      on zero = (s, l)
      on (suc i) = let (t, e, r) = next (on i).0 (on i).1 in (t, (total.inside (on i).0 t e).1)

  -- with no rule but the edges
  pub walk_on : (s : ℕ) → State M s → Walk M s
  walk_on s l = (walk_by (λ s t. Unit {0}) (λ s l. let (t, e) = total.onward s l in (t, e, tt)) s l).0
