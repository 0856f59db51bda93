-- What a library's `all`, `any` and `find` over the numbers below n give, and its `any` over a list: `all`, `any` and
-- `first` over these numbers, and over the places of the list. Assumes nothing.
use Rattle.std.proofs.Common.{ℕ, ◌≡◌, ◌<◌, sym, ap, ◌∙◌, length, Bool, true, false, Option, Some, None, List, MatchOption, subst, ◌≤◌, get_or, unwrap_or, arith}
use Rattle.std.specs.Bool.{⊤}
use Rattle.std.specs.Fn.{Called, CalledAt}
use Rattle.std.specs.Iterator.{YieldsThen}
use Rattle.std.specs.List.{FoldsTo, All, list_all, list_any, range_with_len}
use Rattle.std.specs.declared.ops.Range.{Range}
use Rattle.std.proofs.iter.Yields.{nat_range_steps}
use Rattle.std.proofs.lemmas.Iterator.{YieldsList-from_range, first_from_Range}
use Rattle.std.proofs.lemmas.Iterator.Search.{all_from_yields_List, any_from_yields_List}
use Rattle.std.proofs.lemmas.List.Elements.{All-from_get_or}
use Rattle.std.proofs.lemmas.List.Folds.{list_all_at, list_any_at, list_any_none}
use Rattle.std.proofs.lemmas.List.FromFn.{length-range_with_len, get_or-range_with_len}
use Rattle.std.proofs.lemmas.List.Sums.{list_all-from_AllPass}
use denote.Param.Members.{Mut}
use denote.Ref.{Bor}
use Rattle.law.specs.Bounded.{first, all, any}
use Rattle.law.proofs.Bool.{split, clash, same_test}
use Rattle.law.proofs.Bounded.{first_is, first_none, all_intro, all_elim, any_found, any_no, any_same}

-- over a list: over its places
module _ {X : Type 0} (p : X → Bool) (xs : List X) (d : X) where
  pub any_places : list_any p xs ≡ any (λ i. p (get_or xs i d)) (length xs)
  any_places =
      let q : ℕ → Bool = λ i. p (get_or xs i d) in
      let n = length xs in
      split (any q n)
      (λ yes. let (l, e) = any_found q n yes in list_any_at p xs (first q n) d l e ∙ sym yes)
      (λ no. list_any_none p xs (All-from_get_or (λ x. p x ≡ false) xs d (any_no q n no)) ∙ sym no)

module _ (p : ℕ → Bool) (n : ℕ) where
  abbrev numbers : List ℕ
  numbers = range_with_len 0 n

  number_at : (i : ℕ) → i < n → get_or numbers i 0 ≡ i
  number_at i l = omega (arith, get_or-range_with_len 0 n i 0 l)

  each_number : ((i : ℕ) → i < n → p i ≡ true) → All (λ x. p x ≡ true) numbers
  each_number h =
      All-from_get_or (λ x. p x ≡ true) numbers 0
      (λ i l.
      let g : i < n = omega (arith, length-range_with_len 0 n) in
      rw number_at (h i g))

  all_numbers : list_all p numbers ≡ all p n
  all_numbers =
      same_test (list_all p numbers) (all p n)
      (λ yes.
      all_intro p n
      (λ i l.
      split (p i) (λ e. e)
      (λ no.
      clash (list_all p numbers) yes
      (list_all_at p numbers i 0 (omega (arith, length-range_with_len 0 n)) (rw number_at no)))))
      (λ yes. list_all-from_AllPass p numbers (each_number (all_elim p n yes)))

  any_numbers : list_any p numbers ≡ any p n
  any_numbers =
      any_places p numbers 0
      ∙ ap (any (λ i. p (get_or numbers i 0))) (length-range_with_len 0 n)
      ∙ any_same (λ i. p (get_or numbers i 0)) p n (λ i l. ap p (number_at i l))

module _ {F : Type 0} {g : Mut F (ℕ × Unit {0}) Bool} (p : ℕ → Bool) (n : ℕ) (s u : Range ℕ) (f : F) (r : Bool)
    (from : s ≡ record { start = 0; end = n })
    (test : (x : ℕ) (b : Bool) (q : F) → Called g f (x, tt) b q → (q ≡ f) × (b ≡ p x)) where
  pub range_all :
      (xs : List ℕ) × (o : Option ℕ) × (j : F) × YieldsThen nat_range_steps s xs o u × FoldsTo (λ p x q. Called g p (x, tt) true q) f xs j × MatchOption o (r ≡ true) (λ x. (r ≡ false) × ((h : F) × Called g j (x, tt) false h))
      → r ≡ all p n
  range_all ran = all_from_yields_List p u f r ran (YieldsList-from_range 0 n n from (omega arith)) test ∙ all_numbers p n

  pub range_any :
      (xs : List ℕ) × (o : Option ℕ) × (j : F) × YieldsThen nat_range_steps s xs o u × FoldsTo (λ p x q. Called g p (x, tt) false q) f xs j × MatchOption o (r ≡ false) (λ x. (r ≡ true) × ((h : F) × Called g j (x, tt) true h))
      → r ≡ any p n
  range_any ran = any_from_yields_List p u f r ran (YieldsList-from_range 0 n n from (omega arith)) test ∙ any_numbers p n

module _ (p : ℕ → Bool) (n : ℕ) where
  found_first : (r : Option ℕ) → MatchOption r ((k : ℕ) → 0 ≤ k → k < n → p k ≡ false) (λ i. (0 ≤ i) × (i < n) × (p i ≡ true) × ((k : ℕ) → 0 ≤ k → k < i → p k ≡ false)) → unwrap_or r n ≡ first p n
  found_first None none = sym (first_none p n (λ k l. none k (omega arith) l))
  found_first (Some i) here = sym (first_is p n i here.1 (λ k l. here.3 k (omega arith) l) here.2)

  pub range_find :
      {F : Type 0} {g : Mut F (Bor ℕ × Unit {0}) Bool} (s u : Range ℕ) (f : F) (r : Option ℕ)
      → s ≡ record { start = 0; end = n }
      → ((x : ℕ) (b : Bool) (q : F) → CalledAt g f x b q → (q ≡ f) × (b ≡ p x))
      → (xs : List ℕ) × (j : F) × YieldsThen nat_range_steps s xs r u × FoldsTo (λ p x q. CalledAt g p x false q) f xs j × MatchOption r ⊤ (λ x. (h : F) × CalledAt g j x true h)
      → unwrap_or r n ≡ first p n
  range_find {F} {g} s u f r from test ran =
      let P : Range ℕ → Type 0 = λ t. MatchOption r ((k : ℕ) → t.start ≤ k → k < t.end → p k ≡ false) (λ i. (t.start ≤ i) × (i < t.end) × (p i ≡ true) × ((k : ℕ) → t.start ≤ k → k < i → p k ≡ false)) in
      found_first r
      (subst P from
      (first_from_Range s u f r (λ i. p i ≡ true) (λ i. p i ≡ false) ran
      (λ x q k. sym (test x true q k).1)
      (λ x q k. ((test x false q k).0, sym (test x false q k).1))))
