-- The five numbers that are printed are number and line with the three behind them. Assumes nothing.
use Rattle.std.proofs.Common.{ℕ, ◌≡◌, refl, List, [], ◌∷◌, ◌++◌, length, get_or, arith}

pub five : (front own : List ℕ) → length front ≡ 2 → length own ≡ 3
    → get_or front 0 0 ∷ get_or front 1 0 ∷ get_or own 0 0 ∷ get_or own 1 0 ∷ get_or own 2 0 ∷ [] ≡ front ++ own
five (a ∷ b ∷ []) (x ∷ y ∷ z ∷ []) two three = refl
five (a ∷ b ∷ []) [] two three = absurd (omega arith)
five (a ∷ b ∷ []) (x ∷ []) two three = absurd (omega arith)
five (a ∷ b ∷ []) (x ∷ y ∷ []) two three = absurd (omega arith)
five (a ∷ b ∷ []) (x ∷ y ∷ z ∷ w ∷ more) two three = absurd (omega arith)
five [] own two three = absurd (omega arith)
five (a ∷ []) own two three = absurd (omega arith)
five (a ∷ b ∷ c ∷ more) own two three = absurd (omega arith)
