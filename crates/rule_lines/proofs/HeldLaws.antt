-- Looking for a line, and the lines behind one that is kept. Assumes nothing.
use Prim.Native.Nat.{ℕ, ◌<◌, ◌≤◌}
use mathlib.Core.Path.{◌≡◌, refl, sym, ap, subst, ◌∙◌}
use mathlib.Core.Bool.{Bool, true, false, not}
use mathlib.Core.List.{List, [], ◌∷◌, ◌++◌, map}
use native.Mathlib.Numerals.{one-add}
use native.Mathlib.Omega.{arith}
use lib.Dec.{ltb}
use lib.ListN.{length, length-map}
use borrow.Author.Tests.{lt-ltb, le-ltb, ltb-true, ltb-false}
use Rattle.std.proofs.lemmas.List.Sums.{prefix_len-le-length}
use Rattle.std.specs.Prelude.{Option}
use Rattle.std.specs.List.{position, prefix_len}
use Rattle.law.proofs.Bool.{split, cond_true, cond_false, or_left, or_right, or_none}
use Rattle.job.specs.Formula.{fields}
use Rattle.job.specs.declared.subformula.Subformula.{Subformula}
use Rattle.rule_text.specs.Lines.{equal}
use Rattle.rule_text.specs.Kept.{find, keep}
use Rattle.rule_text.proofs.AddLaws.{equal_self, same_line}
use Rattle.rule_text.proofs.KeptLaws.{map_append}
use Rattle.rule_lines.specs.Held.{KeptAs, Finds}

-- A line is the one looked for exactly where its numbers are.
pub same_tested : (f g : Subformula) (r : Bool) → (r ≡ true → g ≡ f) → (r ≡ false → g ≡ f → ⊥) → r ≡ equal (fields f) (fields g)
same_tested f g r is other =
    split r
    (λ t. t ∙ sym (ap (λ (h : Subformula). equal (fields f) (fields h)) (is t) ∙ equal_self (fields f)))
    (λ n. n ∙ sym (split (equal (fields f) (fields g)) (λ t. absurd (other n (same_line f g t))) (λ e. e)))

module _ (f : Subformula) where
  abbrev pub is_it : Subformula → Bool
  is_it g = equal (fields f) (fields g)

  first_place : (gs : List Subformula) → prefix_len (λ g. not (is_it g)) gs ≡ find (fields f) (map fields gs)
  unfolding find
  first_place [] = refl
  first_place (g ∷ gs) =
      split (is_it g)
      (λ t. simp t)
      (λ n. simp (n, one-add, first_place gs))

  pub found : (gs : List Subformula) (ls : List (List ℕ)) (r : Option ℕ) → map fields gs ≡ ls → r ≡ position is_it gs → Finds (fields f) ls r
  found gs ls r held is =
      let at = prefix_len (λ g. not (is_it g)) gs in
      let there : find (fields f) ls ≡ at = ap (find (fields f)) (sym held) ∙ sym (first_place gs) in
      let long : length ls ≡ length gs = ap length (sym held) ∙ length-map gs fields in
      let few = prefix_len-le-length (λ g. not (is_it g)) gs in
      split (ltb at (length gs))
      (λ t.
      let l = ltb-true at (length gs) t in
      subst (Finds (fields f) ls) (sym (is ∙ cond_true _ _ _ t)) (sym there, omega arith))
      (λ t.
      let l = ltb-false at (length gs) t in
      let none : find (fields f) ls ≡ length ls = omega arith in
      subst (Finds (fields f) ls) (sym (is ∙ cond_false _ _ _ t)) none)

module _ (l : List ℕ) (ls : List (List ℕ)) (n : ℕ) where
  pub keeps_found : n ≡ find l ls → n < length ls → KeptAs (keep l ls) n ls
  unfolding keep
  keeps_found e h = record { lines = sym (cond_true _ _ _ (or_left _ _ (lt-ltb _ _ (rw e at h)))); number = e }

  module _ (counted : n ≡ length ls) (r : ℕ) (e : r ≡ find l ls) where
    pub keeps_full : 33 ≤ n → KeptAs (keep l ls) r ls
    unfolding keep
    keeps_full h =
        record {
          lines = sym (cond_true _ _ _ (or_right (ltb (find l ls) (length ls)) _ (lt-ltb _ _ (omega arith))));
          number = e;
        }

    pub keeps_new : n ≤ r → (after : List (List ℕ)) → n < 33 → after ≡ ls ++ (l ∷ []) → KeptAs (keep l ls) r after
    unfolding keep
    keeps_new new after h is =
        record {
          lines = is ∙ sym (cond_false _ _ _ (or_none _ _ (le-ltb (find l ls) (length ls) (omega arith)) (le-ltb 32 (length ls) (omega arith))));
          number = e;
        }

-- The lines that these subformulas are.
module _ (kept : List Subformula) (ls : List (List ℕ)) (held : map fields kept ≡ ls) where
  pub lines_counted : length kept ≡ length ls
  lines_counted = sym (length-map kept fields) ∙ ap length held

  pub one_more : (f : Subformula) (after : List Subformula) → after ≡ kept ++ (f ∷ []) → map fields after ≡ ls ++ (fields f ∷ [])
  one_more f after pushed = ap (map fields) pushed ∙ map_append kept f ∙ ap (λ ks. ks ++ (fields f ∷ [])) held
