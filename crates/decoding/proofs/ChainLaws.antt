-- The chains of the edges passed so far. Assumes nothing.
use Prim.Native.Nat.{ℕ, ◌+◌, ◌<◌}
use mathlib.Core.Path.{◌≡◌, sym, ◌∙◌, ap}
use mathlib.Core.Bool.{◌&&◌}
use mathlib.Core.List.{List, []}
use native.Mathlib.Numerals.{add-one}
use native.Mathlib.Omega.{arith}
use borrow.Author.Count.{below_none, below_more}
use borrow.Author.Tests.{eq-eqb, eqb-true}
use lib.ListN.{length, get_or, set, replicate, length-set, length-replicate, get_or-replicate}
use lib.Seq.{get_or-set_same, get_or-set_other}
use lib.Dec.{eqb}
use Rattle.law.proofs.Bool.{split, and_left, and_right}
use Rattle.law.proofs.Bounded.{by_equal}
use Rattle.job.specs.Job.{Job, owner}
use Rattle.image.specs.Image.{Chains, edge_from, edge_to, leads, last_into}

-- Eight rows of 256.
abbrev pub Rows : List (List ℕ) → Type 0
Rows last = (length last ≡ 8) × ((n : ℕ) → n < 8 → length (get_or last n []) ≡ 256)

abbrev empty : List (List ℕ)
empty = replicate 8 (replicate 256 0)

row_empty : (n : ℕ) → n < 8 → get_or empty n [] ≡ replicate 256 0
row_empty n l = get_or-replicate {A = List ℕ} 8 n (replicate 256 0) [] l

pub rows_empty : Rows empty
rows_empty = (length-replicate {A = List ℕ} 8 (replicate 256 0), λ n l. ap length (row_empty n l) ∙ length-replicate {A = ℕ} 256 0)

-- One edge more.
module _ (J : Job) where
  last_here : (n u e : ℕ) → owner J (edge_from J.structure e) ≡ n → edge_to J.structure e ≡ u → last_into J n u (e + 1) ≡ e + 1
  unfolding last_into leads
  last_here n u e p q = simp (add-one e, eq-eqb (owner J (edge_from J.structure e)) n p, eq-eqb (edge_to J.structure e) u q)

  last_other :
      (n u e : ℕ) → ((owner J (edge_from J.structure e) ≡ n) × (edge_to J.structure e ≡ u) → ⊥) → last_into J n u (e + 1) ≡ last_into J n u e
  unfolding last_into leads
  last_other n u e stop =
      let a = eqb (owner J (edge_from J.structure e)) n in
      let b = eqb (edge_to J.structure e) u in
      split (a && b)
      (λ t. absurd (stop (eqb-true _ n (and_left a b t), eqb-true _ u (and_right a b t))))
      (λ f. simp (add-one e, f))

  pub chains_none : (next : List ℕ) → Chains J 0 empty next
  unfolding last_into
  chains_none next =
      record {
        last_at = λ n s l g. ap (λ (r : List ℕ). get_or r s 0) (row_empty n l) ∙ get_or-replicate {A = ℕ} 256 s 0 0 g;
        next_at = below_none _;
      }

  module _
      (last : List (List ℕ)) (next : List ℕ) (e n u : ℕ) (rows : Rows last) (long : length next ≡ 2048) (few : e < 2048)
      (node : (n ≡ owner J (edge_from J.structure e)) × (n < 8)) (state : (u ≡ edge_to J.structure e) × (u < 256)) (c : Chains J e last next)
    where
      abbrev row : List ℕ
      row = get_or last n []

      abbrev linked : List (List ℕ)
      linked = set last n (set row u (e + 1))

      row_here : get_or linked n [] ≡ set row u (e + 1)
      row_here = get_or-set_same last n (set row u (e + 1)) [] (omega (arith, rows.0, node.1))

      row_other : (k : ℕ) → (k ≡ n → ⊥) → get_or linked k [] ≡ get_or last k []
      row_other k other = get_or-set_other last n k (set row u (e + 1)) [] other

      pub rows_more : Rows linked
      rows_more = (
        length-set last n (set row u (e + 1)) ∙ rows.0,
        λ k l.
            by_equal k n
            (λ q. rw q (ap length row_here ∙ length-set row u (e + 1) ∙ rows.1 n node.1))
            (λ q. ap length (row_other k q) ∙ rows.1 k l),
      )

      other_chain : (k s : ℕ) → (k ≡ n → s ≡ u → ⊥) → last_into J k s e ≡ last_into J k s (e + 1)
      other_chain k s other = sym (last_other k s e (λ (x, y). other (sym x ∙ sym node.0) (sym y ∙ sym state.0)))

      pub chains_more : Chains J (e + 1) linked (set next e (get_or row u 0))
      chains_more =
          record {
            last_at =
                λ k s l g.
                by_equal k n
                (λ q.
                rw q
                (ap (λ (r : List ℕ). get_or r s 0) row_here
                ∙ by_equal s u
                (λ p. rw p (get_or-set_same row u (e + 1) 0 (omega (arith, rows.1 n node.1, state.1)) ∙ sym (last_here n u e (sym node.0) (sym state.0))))
                (λ p. get_or-set_other row u s (e + 1) 0 p ∙ c.last_at n s node.1 g ∙ other_chain n s (λ x y. p y))))
                (λ q. ap (λ (r : List ℕ). get_or r s 0) (row_other k q) ∙ c.last_at k s l g ∙ other_chain k s (λ x y. q x));
            next_at =
                below_more _ e
                (λ d l. get_or-set_other next e d (get_or row u 0) 0 (λ q. omega arith) ∙ c.next_at d l)
                (get_or-set_same next e (get_or row u 0) 0 (omega (arith, long)) ∙ c.last_at n u node.1 state.1 ∙ rw (node.0, state.0));
          }
