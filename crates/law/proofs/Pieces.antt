-- Pieces of one width w written over a list one behind the other, from place `at` on: what stands there so far, and what is left to write.
-- Assumes nothing.
use Prim.Native.Nat.{ℕ, suc, ◌+◌, ◌-◌, ◌*◌, ◌<◌, ◌≤◌}
use mathlib.Core.Path.{◌≡◌, refl, sym, ap, ◌∙◌}
use mathlib.Core.List.{List, [], ◌∷◌, ◌++◌}
use native.Mathlib.Nat.{add-zero, add-suc, suc-add, mul-zero, mul-suc}
use native.Mathlib.Omega.{arith}
use lib.ListN.{length, set}
use lib.Seq.{sets, length-sets}
use Rattle.law.specs.Lists.{from, tab, flatten}

-- One list written behind the other.
pub sets_append : {A : Type 0} (xs ys out : List A) (a : ℕ) → sets out a (xs ++ ys) ≡ sets (sets out a xs) (a + length xs) ys
sets_append [] ys out a = rw (add-zero a)
sets_append (x ∷ xs) ys out a = sets_append xs ys (set out a x) (suc a) ∙ rw (suc-add a (length xs), add-suc a (length xs))

pub written_behind :
    {A : Type 0} (was out later xs ys : List A) (a b : ℕ)
    → out ≡ sets was a xs
    → later ≡ sets out b ys
    → a + length xs ≡ b
    → later ≡ sets was a (xs ++ ys)
written_behind was out later xs ys a b first second next =
    second ∙ ap (λ o. sets o b ys) first ∙ ap (λ i. sets (sets was a xs) i ys) (sym next) ∙ sym (sets_append xs ys was a)

module _ {A : Type 0} (w : ℕ) (piece : ℕ → List A) (at : ℕ) where
  -- The pieces from k to n.
  abbrev rest : ℕ → ℕ → List A
  rest k n = flatten (from piece k (n - k))

  rest_first : (k n : ℕ) → k < n → rest k n ≡ piece k ++ rest (suc k) n
  unfolding from flatten
  rest_first k n l = let e : n - k ≡ suc (n - suc k) = omega arith in rw e

  -- After k of n pieces: all are written over `was` if the rest is written over `out`.
  pub record Written (was out : List A) (n k : ℕ) : Type 0 where
    pub within : k ≤ n
    pub long : length out ≡ length was
    pub left : sets was at (rest 0 n) ≡ sets out (at + w * k) (rest k n)

  module _ (was : List A) (n : ℕ) where
    pub written_start : Written was was n 0
    written_start = record { within = omega arith; long = refl; left = rw (mul-zero w, add-zero at) }

    module _ (out : List A) (k : ℕ) (so_far : Written was out n k) where
      pub written_next :
          (later : List A) (place : ℕ)
          → k < n
          → length (piece k) ≡ w
          → place ≡ at + w * k
          → later ≡ sets out place (piece k)
          → Written was later n (k + 1)
      written_next later place l wide here e =
          let next : at + w * k + w ≡ at + w * (k + 1) = omega (arith, mul-suc w k) in
          let one : suc k ≡ k + 1 = omega arith in
          let later_is : later ≡ sets out (at + w * k) (piece k) = e ∙ ap (λ i. sets out i (piece k)) here in
          record {
            within = omega arith;
            long = ap length e ∙ length-sets out place (piece k) ∙ so_far.long;
            left =
                so_far.left
                ∙ ap (sets out (at + w * k)) (rest_first k n l)
                ∙ sets_append (piece k) (rest (suc k) n) out (at + w * k)
                ∙ rw (← later_is, wide, next, one);
          }

      pub written_end : n ≤ k → out ≡ sets was at (flatten (tab piece n))
      unfolding from tab flatten
      written_end h =
          let i = so_far.within in
          let none : n - k ≡ 0 = omega arith in
          let all : n - 0 ≡ n = omega arith in
          sym (ap (λ (m : ℕ). sets was at (flatten (from piece 0 m))) (sym all) ∙ so_far.left ∙ rw none)
