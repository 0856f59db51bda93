-- The place that a library's search of a list finds is `first` over the list's indices. Assumes nothing.
use Rattle.std.proofs.Common.{ℕ, ◌≡◌, ◌≤◌, ◌∙◌, ap, subst, Bool, List, length, get_or, take, nat_lt, arith, unwrap_or}
use Rattle.std.specs.List.{position, position_or_len}
use Rattle.std.proofs.lemmas.List.{get_or-take, length-take-le}
use Rattle.std.proofs.lemmas.Bool.{ltb-false}
use Rattle.std.proofs.lemmas.List.Sums.{position_or_len_is}
use Rattle.law.specs.Bounded.{first}
use Rattle.law.proofs.Bool.{split}
use Rattle.law.proofs.Bounded.{first_le, first_before, first_passes, first_same}

module _ {X : Type 0} (p : X → Bool) (xs : List X) (d : X) where
  pub position_or_len_first : position_or_len p xs ≡ first (λ i. p (get_or xs i d)) (length xs)
  position_or_len_first =
      let q : ℕ → Bool = λ i. p (get_or xs i d) in
      let n = length xs in
      position_or_len_is p xs (first q n) d (first_le q n) (λ k l. first_before q n k l) (λ l. first_passes q n l)

  pub position_first : unwrap_or (position p xs) (length xs) ≡ first (λ i. p (get_or xs i d)) (length xs)
  position_first =
      split (nat_lt (position_or_len p xs) (length xs))
      (λ within. rw within position_or_len_first)
      (λ past. rw past (omega (arith, position_or_len_first, ltb-false _ _ past, first_le (λ i. p (get_or xs i d)) (length xs))))

-- so in the first n items
pub position_first_of :
    {X : Type 0} (p : X → Bool) (xs : List X) (d : X) (n : ℕ)
    → n ≤ length xs
    → unwrap_or (position p (take n xs)) n ≡ first (λ i. p (get_or xs i d)) n
position_first_of p xs d n l =
    subst (λ m. unwrap_or (position p (take n xs)) m ≡ first (λ i. p (get_or (take n xs) i d)) m)
    (length-take-le n xs l) (position_first p (take n xs) d)
    ∙ first_same _ _ n (λ i below. ap p (get_or-take n xs i d below))
