-- The lines that document 01 prints or tells for its cases follow from the definitions: both sides are computed. Assumes nothing.
use mathlib.Core.Path.{◌≡◌, refl}
use mathlib.Core.List.{List, [], ◌∷◌, map}
use Prim.Native.String.{String}
use Rattle.text.specs.Decimal.{line, decimal, digit_column}
use Rattle.cells.specs.Cases.{bytes, job_v, job2, job3, job4, job6, job10}
use Rattle.cells.proofs.Printed.{printed}
use Rattle.verdict_line.specs.VerdictLine.{verdict_line}

-- C1 to C6 and C10
abbrev pub jobs : List String
jobs = job_v ∷ job2 ∷ job3 ∷ job4 ∷ "" ∷ job6 ∷ job10 ∷ []

abbrev pub said : List String
said =
    "    0    0    0    3   12\n"
    ∷ "    0    0    1    3   12\n"
    ∷ "    0    0    0    2    6\n"
    ∷ "    0    0    0    2    1\n"
    ∷ "    1    1    0    0    0\n"
    ∷ "    7    3    0    0    0\n"
    ∷ "    0    0    1    2   12\n"
    ∷ []

pub printed_lines : map (λ j. verdict_line (bytes j)) jobs ≡ map bytes said
unfolding printed verdict_line line decimal digit_column
printed_lines = refl
