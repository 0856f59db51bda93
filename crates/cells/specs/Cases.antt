-- Document 01, "Printed cases": C1 to C10, each from the bytes of its job and a table of zeros of the right length. Every number
-- of every answer, and the cells afterwards, are computed from the definitions alone; that they are as printed is `printed` of `proofs/Printed.antt`.
-- Assumes nothing.
use Rattle.std.specs.Prelude.{ℕ, List, [], ◌∷◌, replicate}
use Prim.Native.Char.{code}
use Prim.Native.String.{String, [] as end, ◌∷◌ as ◌then◌}
use Rattle.text.specs.Field.{Text}
use Rattle.job.specs.Job.{decode}
use Rattle.job.specs.Answer.{numbers}
use Rattle.cells.specs.Table.{Table, table_length}
use Rattle.cells.specs.Calls.{Call, fresh, step, accept, close, finish, answer, after}

-- The bytes of a quoted text of ASCII characters.
unfoldable pub bytes : String → Text
bytes end = []
bytes (c then cs) = code c ∷ bytes cs

-- Calls with one text on one table, in this order: every number of each answer, and the table afterwards.
unfoldable pub answers : Text → Table → List Call → List (List ℕ)
answers x t [] = []
answers x t (c ∷ cs) = numbers (answer c x t) ∷ answers x (after c x t) cs

unfoldable pub table_after : Text → Table → List Call → Table
table_after x t [] = t
table_after x t (c ∷ cs) = table_after x (after c x t) cs

pub record Case : Type 0 where
  pub job : String
  pub calls : List Call
  pub told : List (List ℕ)
  pub cells : Table

-- What the program verdict does.
unfoldable pub verdict_calls : List Call
verdict_calls = fresh ∷ finish ∷ []

unfoldable pub job_v : String
job_v = "    2    2    3    2\n    0    1\n    1    1\n    0    1\n    1    0\n    1    0    0\n    1    1    0\n    6    0    1\n"

unfoldable pub job2 : String
job2 = "    2    2    3    2\n    0    1\n    1    2\n    0    1\n    1    0\n    1    0    0\n    1    1    0\n    6    0    1\n"

unfoldable pub job3 : String
job3 = "    2    2    3    1\n    0    1\n    0    1\n    0    1\n    1    0\n    1    0    0\n    1    1    0\n    6    0    1\n"

unfoldable pub job4 : String
job4 = "    1    1    1    1\n    0    0\n    0    0\n    1    0    0\n"

unfoldable pub job6 : String
job6 = "    2    1    3    2\n    0    1\n    1    1\n    0    1\n    1    0    0\n    1    1    0\n    6    0    1\n"

unfoldable pub job10 : String
job10 = "    2    2    3    2\n    0    1\n    1    2\n    0    1\n    1    0\n    1    0    0\n    1    1    0\n    5    1    0\n"

unfoldable pub cases : List Case
cases =
    record {
      job = job_v;
      calls = verdict_calls;
      told = (0 ∷ 0 ∷ []) ∷ (0 ∷ 0 ∷ 0 ∷ 3 ∷ 12 ∷ []) ∷ [];
      cells = 1 ∷ 0 ∷ 0 ∷ 1 ∷ 0 ∷ 0 ∷ 1 ∷ 0 ∷ 0 ∷ 1 ∷ 0 ∷ 0 ∷ [];
    }
    ∷ record {
      job = job2;
      calls = verdict_calls;
      told = (0 ∷ 0 ∷ []) ∷ (0 ∷ 0 ∷ 1 ∷ 3 ∷ 12 ∷ []) ∷ [];
      cells = 1 ∷ 0 ∷ 1 ∷ 0 ∷ 1 ∷ 1 ∷ 1 ∷ 0 ∷ 1 ∷ 0 ∷ 1 ∷ 1 ∷ [];
    }
    ∷ record {
      job = job3;
      calls = verdict_calls;
      told = (0 ∷ 0 ∷ []) ∷ (0 ∷ 0 ∷ 0 ∷ 2 ∷ 6 ∷ []) ∷ [];
      cells = 1 ∷ 0 ∷ 0 ∷ 1 ∷ 0 ∷ 0 ∷ [];
    }
    ∷ record {
      job = job4;
      calls = verdict_calls;
      told = (0 ∷ 0 ∷ []) ∷ (0 ∷ 0 ∷ 0 ∷ 2 ∷ 1 ∷ []) ∷ [];
      cells = 0 ∷ [];
    }
    ∷ record {
      job = "";
      calls = verdict_calls;
      told = (1 ∷ 1 ∷ []) ∷ (1 ∷ 1 ∷ 0 ∷ 0 ∷ 0 ∷ []) ∷ [];
      cells = [];
    }
    ∷ record {
      job = job6;
      calls = verdict_calls;
      told = (7 ∷ 3 ∷ []) ∷ (7 ∷ 3 ∷ 0 ∷ 0 ∷ 0 ∷ []) ∷ [];
      cells = 0 ∷ 0 ∷ 0 ∷ 0 ∷ 0 ∷ 0 ∷ 0 ∷ 0 ∷ 0 ∷ 0 ∷ 0 ∷ 0 ∷ [];
    }
    ∷ record {
      job = job_v;
      calls = fresh ∷ step 0 ∷ [];
      told = (0 ∷ 0 ∷ []) ∷ (0 ∷ 0 ∷ 4 ∷ []) ∷ [];
      cells = 1 ∷ 0 ∷ 2 ∷ 1 ∷ 0 ∷ 2 ∷ 2 ∷ 2 ∷ 2 ∷ 2 ∷ 2 ∷ 2 ∷ [];
    }
    ∷ record {
      job = job_v;
      calls = fresh ∷ close ∷ [];
      told = (0 ∷ 0 ∷ []) ∷ (19 ∷ 0 ∷ 0 ∷ 0 ∷ []) ∷ [];
      cells = 2 ∷ 2 ∷ 2 ∷ 2 ∷ 2 ∷ 2 ∷ 2 ∷ 2 ∷ 2 ∷ 2 ∷ 2 ∷ 2 ∷ [];
    }
    ∷ record {
      job = job_v;
      calls = fresh ∷ accept 0 1 2 1 ∷ accept 1 1 2 1 ∷ [];
      told = (0 ∷ 0 ∷ []) ∷ (0 ∷ 0 ∷ 1 ∷ []) ∷ (16 ∷ 0 ∷ 0 ∷ []) ∷ [];
      cells = 2 ∷ 2 ∷ 2 ∷ 2 ∷ 2 ∷ 1 ∷ 2 ∷ 2 ∷ 2 ∷ 2 ∷ 2 ∷ 2 ∷ [];
    }
    ∷ record {
      job = job10;
      calls = verdict_calls;
      told = (0 ∷ 0 ∷ []) ∷ (0 ∷ 0 ∷ 1 ∷ 2 ∷ 12 ∷ []) ∷ [];
      cells = 1 ∷ 0 ∷ 1 ∷ 0 ∷ 1 ∷ 0 ∷ 1 ∷ 0 ∷ 1 ∷ 0 ∷ 1 ∷ 0 ∷ [];
    }
    ∷ []

-- A table of the job's length, of any content.
unfoldable pub zeros : Text → Table
zeros x = replicate (table_length (decode x)) 0

-- The case, with what the definitions compute for it from a table.
unfoldable pub computed_from : Table → Case → Case
computed_from t c =
    record {
      job = c.job;
      calls = c.calls;
      told = answers (bytes c.job) t c.calls;
      cells = table_after (bytes c.job) t c.calls;
    }

unfoldable pub computed : Case → Case
computed c = computed_from (zeros (bytes c.job)) c
