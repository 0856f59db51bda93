-- Lists given by a function of the index, and quantifiers over a list. Assumes nothing.
use Rattle.std.specs.Prelude.{ℕ, zero, suc, Bool, true, false, ◌&&◌, ◌||◌, List, [], ◌∷◌, ◌++◌}

module _ {A : Type 0} where
  -- f i, f (i + 1), .. : n of them
  unfoldable pub from : (ℕ → A) → ℕ → ℕ → List A
  from f i zero = []
  from f i (suc n) = f i ∷ from f (suc i) n

  -- f 0, f 1, .. : n of them
  unfoldable pub tab : (ℕ → A) → ℕ → List A
  tab f n = from f 0 n

  -- the lists of a list, one behind the other
  unfoldable pub flatten : List (List A) → List A
  flatten [] = []
  flatten (x ∷ xs) = x ++ flatten xs

  unfoldable pub every : (A → Bool) → List A → Bool
  every p [] = true
  every p (x ∷ xs) = p x && every p xs

  unfoldable pub some : (A → Bool) → List A → Bool
  some p [] = false
  some p (x ∷ xs) = p x || some p xs
