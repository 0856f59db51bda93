-- A line written a number at a time, and byte 10 behind the last. Assumes nothing.
use Prim.Native.Nat.{ℕ, zero, suc, ◌+◌, ◌*◌, ◌<◌, ◌≤◌}
use mathlib.Core.Path.{◌≡◌, refl, sym, ◌∙◌, ap}
use mathlib.Core.List.{List, [], ◌∷◌, ◌++◌, map, append-nil}
use native.Mathlib.Omega.{arith}
use lib.ListN.{length, get_or, set, drop, length-map, get_or-map}
use Rattle.std.proofs.lemmas.List.{drop_more, drop_all}
use lib.Seq.{sets, sets-eq, drop-length}
use Rattle.law.specs.Lists.{tab, flatten}
use Rattle.law.proofs.Lists.{tab_list}
use Rattle.law.proofs.Chunks.{chunks_length}
use Rattle.law.proofs.Pieces.{written_behind}
use Rattle.text.specs.Field.{Text}
use Rattle.text.specs.Decimal.{digit_column, decimal, line, Short}
use Rattle.text.proofs.Line.{line_length_lem}

pub short_at : (ns : List ℕ) (i : ℕ) → Short ns → i < length ns → get_or ns i 0 < 100000
unfolding Short
short_at [] i s l = absurd (omega arith)
short_at (n ∷ ns) zero s l = s.0
short_at (n ∷ ns) (suc i) s l = short_at ns i s.1 (omega arith)

pub decimal_length : (n : ℕ) → length (decimal n) ≡ 5
unfolding decimal
decimal_length n = refl

-- The weights of the columns; with the i-th column written, one fewer is left.
abbrev pub weights : List ℕ
weights = 10000 ∷ 1000 ∷ 100 ∷ 10 ∷ 1 ∷ []

columns_left :
    (n i : ℕ) → i < 5 → drop i (decimal n) ≡ digit_column n (get_or weights i 0) ∷ drop (i + 1) (decimal n)
unfolding decimal
columns_left n i l =
    drop_more (map (digit_column n) weights) i (digit_column n 0) l
    ∙ ap (λ (c : ℕ). c ∷ drop (i + 1) (decimal n)) (get_or-map (digit_column n) weights i 0)

pub column_written :
    (out : Text) (at n i : ℕ) → i < 5
    → sets (set out (at + i) (digit_column n (get_or weights i 0))) (at + (i + 1)) (drop (i + 1) (decimal n)) ≡ sets out (at + i) (drop i (decimal n))
column_written out at n i l =
    let next : at + (i + 1) ≡ suc (at + i) = omega arith in
    rw (next, columns_left n i l)

pub columns_written : (out : Text) (at n i : ℕ) → 5 ≤ i → sets out (at + i) (drop i (decimal n)) ≡ out
unfolding decimal
columns_written out at n i l = ap (sets out (at + i)) (drop_all i (decimal n) l)

-- The field of the i-th number.
abbrev pub field_of : List ℕ → ℕ → Text
field_of ns i = decimal (get_or ns i 0)

pub fields_length : (ns : List ℕ) (i : ℕ) → length (field_of ns i) ≡ 5
fields_length ns i = decimal_length (get_or ns i 0)

-- Byte 10 behind the fields makes the line.
pub line_written :
    (was out : Text) (at : ℕ) (ns : List ℕ)
    → out ≡ sets was at (flatten (tab (field_of ns) (length ns)))
    → set out (at + 5 * length ns) 10 ≡ sets was at (line ns)
unfolding line
line_written was out at ns e =
    let fields = flatten (tab (field_of ns) (length ns)) in
    let same : fields ≡ flatten (map decimal ns) =
    ap flatten (tab_list (field_of ns) (length ns) (map decimal ns) (decimal 0) (sym (length-map ns decimal)) (λ i l. sym (get_or-map decimal ns i 0))) in
    let long : length fields ≡ 5 * length ns = chunks_length 5 (field_of ns) (fields_length ns) (length ns) in
    written_behind was out (set out (at + 5 * length ns) 10) fields (10 ∷ []) at (at + 5 * length ns) e refl (ap (λ (k : ℕ). at + k) long)
    ∙ ap (λ (f : Text). sets was at (f ++ (10 ∷ []))) same

-- A line that fills what it is written over.
pub line_alone : (out : Text) (ns : List ℕ) → length out ≡ 5 * length ns + 1 → sets out 0 (line ns) ≡ line ns
line_alone out ns e =
    let all : 0 + length (line ns) ≡ length out = omega (arith, line_length_lem ns) in
    sets-eq (line ns) out 0 (omega arith) ∙ rw (all, drop-length out) (append-nil (line ns))
