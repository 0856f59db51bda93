-- Document 01, "Job text": "Every number is decimal, right-justified in five columns with spaces before it, without leading
-- zeros (zero is one `0`)." A field is the five bytes at an offset of the text; a line is its fields and byte 10. Assumes nothing.
use Rattle.std.specs.Prelude.{ℕ, zero, suc, ◌+◌, ◌-◌, ◌*◌, Bool, true, false, cond, not, ◌&&◌, List, [], ◌∷◌, take, drop, get_or, leb, eqb, Option, Some, None}

-- The bytes passed as a text.
abbrev pub Text : Type 0
Text = List ℕ

abbrev pub is_digit : ℕ → Bool
is_digit c = leb 48 c && leb c 57

-- The columns behind the first digit, v the number so far: each is a digit, and a 0 that stands first has none behind it.
unfoldable pub digits : ℕ → List ℕ → Option ℕ
digits v [] = Some v
digits v (c ∷ cs) = cond (is_digit c && not (eqb v 0)) (digits (v * 10 + (c - 48)) cs) None

-- Spaces, then the first digit.
unfoldable pub columns : List ℕ → Option ℕ
columns [] = None
columns (c ∷ cs) = cond (eqb c 32) (columns cs) (cond (is_digit c) (digits (c - 48) cs) None)

unfoldable pub field : Text → ℕ → Option ℕ
field t at = columns (take 5 (drop at t))

unfoldable pub well_formed : Option ℕ → Bool
well_formed (Some v) = true
well_formed None = false

-- The number of a well-formed field.
unfoldable pub value : Option ℕ → ℕ
value (Some v) = v
value None = 0

unfoldable pub number_at : Text → ℕ → ℕ
number_at t at = value (field t at)

-- "A line is its fields and byte 10": n well-formed fields stand at this offset, and byte 10 behind them.
unfoldable pub formed : Text → ℕ → ℕ → Bool
formed t at zero = eqb (get_or t at 0) 10
formed t at (suc n) = well_formed (field t at) && formed t (at + 5) n
