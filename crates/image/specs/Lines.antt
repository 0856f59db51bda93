-- The job that the lines of a text say. Assumes nothing.
use Rattle.std.specs.Prelude.{ℕ, List, [], map, get_or}
use Rattle.job.specs.Job.{Job}
use Rattle.job.specs.Job as job
use Rattle.image.specs.declared.job_lines.State.{State}
use Rattle.image.specs.declared.job_lines.Edge.{Edge}
use Rattle.image.specs.declared.job_lines.JobLines.{JobLines}

abbrev pub state_line : List State → ℕ → State
state_line states s = get_or states s (record { owner = 0; label = 0 })

abbrev pub edge_line : List Edge → ℕ → Edge
edge_line edges e = get_or edges e (record { source = 0; target = 0 })

abbrev pub ends : Edge → job.Edge
ends e = record { from = e.source; to = e.target }

unfoldable pub lines_job : JobLines → Job
lines_job m =
    record {
      structure = record { labels = map (λ (s : State). s.label) m.states.items; edges = map ends m.edges.items };
      formula = m.formula.items;
      nodes = m.nodes;
      owners = map (λ (s : State). s.owner) m.states.items;
    }

-- What lines say of which none is laid.
abbrev pub no_job : Job
no_job = record { structure = record { labels = []; edges = [] }; formula = []; nodes = 0; owners = [] }
