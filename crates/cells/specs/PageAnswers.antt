-- Document 02 (v), the answers of page on V, whose two states take 240 bytes: more bytes do no harm, one too few is 24, and 11 is asked before that, of
-- 255 too. The table stays. Computed from the definitions alone, as the printed cases are; `page_answers_lem` of `proofs/Printed.antt` shows it. Assumes
-- nothing.
use Rattle.std.specs.Prelude.{[], ◌∷◌, replicate}
use Rattle.cells.specs.Calls.{fresh, page}
use Rattle.cells.specs.Cases.{Case, job_v}

unfoldable pub page_answers : Case
page_answers =
    record {
      job = job_v;
      calls = fresh ∷ page 0 240 ∷ page 1 500 ∷ page 0 239 ∷ page 2 239 ∷ page 255 240 ∷ [];
      told = (0 ∷ 0 ∷ []) ∷ (0 ∷ 0 ∷ []) ∷ (0 ∷ 0 ∷ []) ∷ (24 ∷ 0 ∷ []) ∷ (11 ∷ 0 ∷ []) ∷ (11 ∷ 0 ∷ []) ∷ [];
      cells = replicate 12 2;
    }
