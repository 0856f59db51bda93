-- Numbers stored into a lent array, whatever its length. Assumes nothing.
use Rattle.std.specs.Prelude.{ℕ, zero, suc, List, [], ◌∷◌}

-- The numbers from the front on: those that find no room are left out, and what lies behind them stays.
unfoldable pub stored : List ℕ → List ℕ → List ℕ
stored out [] = out
stored [] (n ∷ ns) = []
stored (o ∷ out) (n ∷ ns) = n ∷ stored out ns

-- The same from a place on.
unfoldable pub stored_from : ℕ → List ℕ → List ℕ → List ℕ
stored_from zero out ns = stored out ns
stored_from (suc at) [] ns = []
stored_from (suc at) (o ∷ out) ns = o ∷ stored_from at out ns
