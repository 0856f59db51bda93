-- A walk along the chain of the node's edges into a state: the edges passed are seen. Assumes nothing.
use Prim.Native.Nat.{ℕ, zero, suc, ◌+◌, ◌<◌, ◌≤◌}
use mathlib.Core.Path.{◌≡◌, refl, sym, ◌∙◌, ap, ap₂}
use mathlib.Core.Bool.{Bool, true, false, ◌&&◌, ◌||◌}
use Rattle.std.proofs.Common.{Option, Some, None}
use mathlib.Core.List.{List, [], ◌∷◌, ◌++◌}
use native.Mathlib.Nat.{le_refl}
use native.Mathlib.Omega.{arith}
use borrow.Author.Tests.{eqb-true, eq-eqb, ne_eqb, le-leb, lt-leb}
use lib.ListN.{length, get_or, set}
use lib.Dec.{eqb, leb}
use Rattle.law.proofs.Bool.{split, clash, and_intro, and_left, and_right, and_no_left, and_no_right, or_right, or_false}
use Rattle.law.proofs.Bounded.{by_order, by_equal}
use Rattle.job.specs.Job.{Job, Structure, owner}
use Rattle.job.specs.Written.{IsJob, edge_count}
use Rattle.image.specs.Image.{edge_from, edge_to, leads, last_into, edge_told}
use Rattle.spread.specs.Underway.{enough, outs, told_too, told_edge, Underway}
use Rattle.spread.proofs.Chain.{last_le, last_leads, last_skips}
use Rattle.spread.proofs.Turn.{OneMore, underway_same, count_small, turn_rest, turn_room, turn_push, mark_stays}

and_true : (b : Bool) → (b && true) ≡ b
and_true true = refl
and_true false = refl

-- a node's edges into told states, and those into t from number e on
module _ (J : Job) (n : ℕ) (told : ℕ → Bool) (t : ℕ) where
  abbrev M : Structure
  M = J.structure

  abbrev ours : ℕ → Bool
  ours j = eqb (owner J (edge_from M j)) n

  abbrev pub seen_from : ℕ → ℕ → Bool
  seen_from e j = ours j && (told (edge_to M j) || (eqb t (edge_to M j) && leb e j))

  abbrev into : ℕ → ℕ → Bool
  into e j = eqb t (edge_to M j) && leb e j

  -- an edge that is not into t is seen where its target is told; so is one before e
  seen_apart : (e j : ℕ) → into e j ≡ false → seen_from e j ≡ (ours j && told (edge_to M j))
  seen_apart e j f = ap (λ b. ours j && b) (ap (λ b. told (edge_to M j) || b) f ∙ or_false (told (edge_to M j)))

  seen_elsewhere : (e j : ℕ) → (edge_to M j ≡ t → ⊥) → seen_from e j ≡ (ours j && told (edge_to M j))
  seen_elsewhere e j q = seen_apart e j (and_no_left (eqb t (edge_to M j)) (leb e j) (ne_eqb t (edge_to M j) (λ z. q (sym z))))

  seen_before : (e j : ℕ) → j < e → seen_from e j ≡ (ours j && told (edge_to M j))
  seen_before e j l = seen_apart e j (and_no_right (eqb t (edge_to M j)) (leb e j) (lt-leb e j l))

  seen_from_lem : (e j : ℕ) → edge_to M j ≡ t → e ≤ j → seen_from e j ≡ ours j
  seen_from_lem e j q l =
      ap (λ b. ours j && b)
      (or_right (told (edge_to M j)) (into e j) (and_intro (eqb t (edge_to M j)) (leb e j) (eq-eqb t (edge_to M j) (sym q)) (le-leb e j l)))
      ∙ and_true (ours j)

  -- an edge at or behind the last one below number k, and below k
  chain_skips : (k j : ℕ) → j < k → seen_from (last_into J n t k) j ≡ (ours j && told (edge_to M j))
  unfolding leads
  chain_skips k j l =
      let e = last_into J n t k in
      split (ours j)
      (λ mine.
      by_equal (edge_to M j) t
      (λ q.
      by_order j e (seen_before e j)
      (λ h.
      clash (leads J n t j) (and_intro (ours j) (eqb (edge_to M j) t) mine (eq-eqb (edge_to M j) t q)) (last_skips J n t k j h l)))
      (seen_elsewhere e j))
      (λ f. and_no_left (ours j) (told (edge_to M j) || into e j) f ∙ sym (and_no_left (ours j) (told (edge_to M j)) f))

  -- where e is one more than an edge, that edge is of the chain
  abbrev pub OnChain : ℕ → Type 0
  OnChain e = (j : ℕ) → e ≡ suc j → (j < edge_count J) × (owner J (edge_from M j) ≡ n) × (edge_to M j ≡ t)

  chain_on : (k : ℕ) → k ≤ edge_count J → OnChain (last_into J n t k)
  unfolding leads
  chain_on k l j next =
      let below : last_into J n t k ≤ k = last_le J n t k in
      let is = last_leads J n t k j next in (
        omega arith,
        eqb-true (owner J (edge_from M j)) n (and_left (ours j) (eqb (edge_to M j) t) is),
        eqb-true (edge_to M j) t (and_right (ours j) (eqb (edge_to M j) t) is),
      )

  -- all edges into t are seen at the end
  seen_all : (j : ℕ) → seen_from 0 j ≡ (ours j && (told (edge_to M j) || eqb t (edge_to M j)))
  seen_all j =
      ap (λ b. ours j && (told (edge_to M j) || b)) (ap (λ b. eqb t (edge_to M j) && b) (le-leb 0 j (omega arith)) ∙ and_true (eqb t (edge_to M j)))

-- the number that tells the next edge of a walk
abbrev pub number : Option ℕ → ℕ
number None = 0
number (Some e) = suc e

pub number_told : {o : Option ℕ} {x : ℕ} → o ≡ edge_told x → number o ≡ x
number_told e = ap number e ∙ of_told _
  where
    of_told : (x : ℕ) → number (edge_told x) ≡ x
    of_told zero = refl
    of_told (suc e) = refl

-- e is one more than the next edge of the walk, 0 at its end
pub record Walking (J : Job) (n : ℕ) (all : Bool) (before : List ℕ) (told : ℕ → Bool) (t : ℕ) (marks counts waiting : List ℕ) (e : ℕ)
    : Type 0 where
  pub underway : Underway J n all before (seen_from J n told t e) (told_too told t) marks counts waiting
  pub t_marked : get_or marks t 0 ≡ 2
  pub on_chain : OnChain J n told t e

module _ (J : Job) (n : ℕ) (all : Bool) (before : List ℕ) (told : ℕ → Bool) (t : ℕ) (job : IsJob J) (new : told t ≡ false) where
  abbrev pub WalkingAt : List ℕ → List ℕ → List ℕ → ℕ → Type 0
  WalkingAt = Walking J n all before told t

  pub walk_start :
      {marks counts waiting : List ℕ} → Underway J n all before (told_edge J n told) (told_too told t) marks counts waiting
      → get_or marks t 0 ≡ 2
      → (e : ℕ) → e ≡ last_into J n t (edge_count J) → WalkingAt marks counts waiting e
  unfolding told_edge
  walk_start underway marked e is =
      rw is
      (record {
        underway =
            underway_same underway (seen_from J n told t (last_into J n t (edge_count J))) (chain_skips J n told t (edge_count J));
        t_marked = marked;
        on_chain = chain_on J n told t (edge_count J) (le_refl (edge_count J));
      })

  pub walk_over :
      {marks counts waiting : List ℕ} {e : ℕ} → WalkingAt marks counts waiting e → e ≡ 0
      → Underway J n all before (told_edge J n (told_too told t)) (told_too told t) marks counts waiting
  unfolding told_edge
  walk_over at z =
      underway_same at.underway (told_edge J n (told_too told t))
      (λ j g. sym (ap (λ k. seen_from J n told t k j) z ∙ seen_all J n told t j))

  -- an edge of the walk, its source, and the edge behind it
  module _ {marks counts waiting : List ℕ} {j : ℕ} (at : WalkingAt marks counts waiting (suc j)) where
    pub j_in : j < edge_count J
    j_in = (at.on_chain j refl).0

    j_ours : owner J (edge_from J.structure j) ≡ n
    j_ours = (at.on_chain j refl).1

    j_target : edge_to J.structure j ≡ t
    j_target = (at.on_chain j refl).2

    abbrev seen : ℕ → Bool
    seen = seen_from J n told t (suc j)

    abbrev seen' : ℕ → Bool
    seen' = seen_from J n told t (last_into J n t j)

    mine : eqb (owner J (edge_from J.structure j)) n ≡ true
    mine = eq-eqb (owner J (edge_from J.structure j)) n j_ours

    unseen : seen j ≡ false
    unseen =
        seen_before J n told t (suc j) j (omega arith)
        ∙ and_no_right (eqb (owner J (edge_from J.structure j)) n) (told (edge_to J.structure j)) (ap told j_target ∙ new)

    others : (i : ℕ) → i < edge_count J → (i ≡ j → ⊥) → seen' i ≡ seen i
    others i g q =
        by_order i j
        (λ less. chain_skips J n told t j i less ∙ sym (seen_before J n told t (suc j) i (omega arith)))
        (λ more.
        by_equal (edge_to J.structure i) t
        (λ p.
        let below : last_into J n t j ≤ i = omega (arith, last_le J n t j) in
        seen_from_lem J n told t (last_into J n t j) i p below ∙ sym (seen_from_lem J n told t (suc j) i p (omega arith)))
        (λ p. seen_elsewhere J n told t (last_into J n t j) i p ∙ sym (seen_elsewhere J n told t (suc j) i p)))

    one_more : OneMore J n all before seen seen' (told_too told t) marks counts waiting j
    one_more =
        record {
          job = job;
          underway = at.underway;
          inside = j_in;
          ours = j_ours;
          new = unseen;
          seen_now = seen_from_lem J n told t (last_into J n t j) j j_target (last_le J n t j) ∙ mine;
          others = others;
          target_marked = rw j_target at.t_marked;
        }

    pub walk_count : (s : ℕ) → s ≡ edge_from J.structure j → get_or counts s 0 ≤ 2048
    walk_count s s_is = let few = job.edges.below in rw s_is (omega (arith, count_small one_more))

    -- whether the source joins
    module _ (s : ℕ) (s_is : s ≡ edge_from J.structure j) (r : Bool)
        (r_is : r ≡ (eqb (get_or marks s 0) 1 && enough all (outs J.structure s) (get_or counts s 0 + 1))) where
      pub walk_room : r ≡ true → length waiting < 256
      walk_room joins = turn_room one_more (rw s_is at (sym r_is ∙ joins))

      module _ (next : ℕ) (next_is : next ≡ last_into J (owner J (edge_from J.structure j)) (edge_to J.structure j) j) where
        next_on : next ≡ last_into J n t j
        next_on = next_is ∙ ap₂ (λ m u. last_into J m u j) j_ours j_target

        pub walk_rest : r ≡ false → WalkingAt marks (set counts s (get_or counts s 0 + 1)) waiting next
        walk_rest stays =
            rw (next_on, s_is)
            (record {
              underway = turn_rest one_more (rw s_is at (sym r_is ∙ stays));
              t_marked = at.t_marked;
              on_chain = chain_on J n told t j (omega (arith, j_in));
            })

        pub walk_push :
            r ≡ true → WalkingAt (set marks s 2) (set counts s (get_or counts s 0 + 1)) (waiting ++ s ∷ []) next
        walk_push joins =
            let here = rw s_is at (sym r_is ∙ joins) in
            rw (next_on, s_is)
            (record {
              underway = turn_push one_more here;
              t_marked = mark_stays one_more here t at.t_marked;
              on_chain = chain_on J n told t j (omega (arith, j_in));
            })
