-- What a caller reads from `stored`: an array with room for all numbers begins with them and keeps the rest, one that is too short holds as
-- many of them as fit, and the length never changes. Assumes nothing.
use Prim.Native.Nat.{ℕ, zero, suc, ◌+◌, ◌≤◌, ◌<◌}
use mathlib.Core.Path.{◌≡◌, refl, ap, ◌∙◌}
use mathlib.Core.List.{List, [], ◌∷◌, ◌++◌}
use native.Mathlib.Nat.{not-suc-le-zero, le_of_suc-le-suc}
use native.Mathlib.Numerals.{add-one}
use lib.ListN.{length, take, drop, get_or, set}
use lib.Seq.{take_all}
use Rattle.numbers.specs.Stored.{stored, stored_from}
use Rattle.std.proofs.Common.{zero-add, suc-add}

pub stored_length : (out ns : List ℕ) → length (stored out ns) ≡ length out
unfolding stored
stored_length out [] = refl
stored_length [] (n ∷ ns) = refl
stored_length (o ∷ out) (n ∷ ns) = ap suc (stored_length out ns)

pub stored_front : (out ns : List ℕ) → length ns ≤ length out → take (length ns) (stored out ns) ≡ ns
unfolding stored
stored_front out [] h = refl
stored_front [] (n ∷ ns) h = absurd (not-suc-le-zero h)
stored_front (o ∷ out) (n ∷ ns) h = ap (λ r. n ∷ r) (stored_front out ns (le_of_suc-le-suc h))

pub stored_rest : (out ns : List ℕ) → drop (length ns) (stored out ns) ≡ drop (length ns) out
unfolding stored
stored_rest out [] = refl
stored_rest [] (n ∷ ns) = refl
stored_rest (o ∷ out) (n ∷ ns) = stored_rest out ns

pub stored_short : (out ns : List ℕ) → length out ≤ length ns → stored out ns ≡ take (length out) ns
unfolding stored
stored_short [] [] h = refl
stored_short (o ∷ out) [] h = absurd (not-suc-le-zero h)
stored_short [] (n ∷ ns) h = refl
stored_short (o ∷ out) (n ∷ ns) h = ap (λ r. n ∷ r) (stored_short out ns (le_of_suc-le-suc h))

-- From a place on: none stored, one more, all; and first what stands before that place.
stored_one : (out ns : List ℕ) (i : ℕ) → i < length ns → set (stored out (take i ns)) i (get_or ns i 0) ≡ stored out (take (suc i) ns)
unfolding stored
stored_one out [] i h = absurd (not-suc-le-zero h)
stored_one [] (n ∷ ns) zero h = refl
stored_one (o ∷ out) (n ∷ ns) zero h = refl
stored_one [] (n ∷ ns) (suc i) h = refl
stored_one (o ∷ out) (n ∷ ns) (suc i) h = ap (λ r. n ∷ r) (stored_one out ns i (le_of_suc-le-suc h))

pub from_none : (at : ℕ) (out ns : List ℕ) → stored_from at out (take 0 ns) ≡ out
unfolding stored_from stored
from_none zero out ns = refl
from_none (suc at) [] ns = refl
from_none (suc at) (o ∷ out) ns = ap (λ r. o ∷ r) (from_none at out ns)

from_one : (at : ℕ) (out ns : List ℕ) (i : ℕ) → i < length ns
    → set (stored_from at out (take i ns)) (at + i) (get_or ns i 0) ≡ stored_from at out (take (suc i) ns)
unfolding stored_from
from_one zero out ns i h = rw zero-add (stored_one out ns i h)
from_one (suc at) [] ns i h = refl
from_one (suc at) (o ∷ out) ns i h = rw suc-add (ap (λ r. o ∷ r) (from_one at out ns i h))

pub from_more :
    (at : ℕ) (out ns now next : List ℕ) (i : ℕ)
    → i < length ns
    → now ≡ stored_from at out (take i ns)
    → next ≡ set now (at + i) (get_or ns i 0)
    → next ≡ stored_from at out (take (i + 1) ns)
from_more at out ns now next i h e f = rw add-one (f ∙ ap (λ l. set l (at + i) (get_or ns i 0)) e ∙ from_one at out ns i h)

pub from_all : (at : ℕ) (out ns : List ℕ) (i : ℕ) → length ns ≤ i → stored_from at out (take i ns) ≡ stored_from at out ns
from_all at out ns i h = rw (take_all i ns h)

pub from_length : (at : ℕ) (out ns : List ℕ) → length (stored_from at out ns) ≡ length out
unfolding stored_from
from_length zero out ns = stored_length out ns
from_length (suc at) [] ns = refl
from_length (suc at) (o ∷ out) ns = ap suc (from_length at out ns)

pub from_past : (at : ℕ) (out ns : List ℕ) → length out ≤ at → stored_from at out ns ≡ out
unfolding stored_from stored
from_past zero [] [] h = refl
from_past zero [] (n ∷ ns) h = refl
from_past zero (o ∷ out) ns h = absurd (not-suc-le-zero h)
from_past (suc at) [] ns h = refl
from_past (suc at) (o ∷ out) ns h = ap (λ r. o ∷ r) (from_past at out ns (le_of_suc-le-suc h))

pub behind_front : (front out ns : List ℕ) → stored_from (length front) (stored_from 0 out front) ns ≡ stored out (front ++ ns)
unfolding stored_from stored
behind_front [] out ns = refl
behind_front (f ∷ fs) [] ns = refl
behind_front (f ∷ fs) (o ∷ out) ns = ap (λ r. f ∷ r) (behind_front fs out ns)
