-- The search for a state's run of edges: those that it passes start below the state, and the one that it finds does not. Assumes nothing.
use Rattle.std.proofs.Common.{ℕ, ◌≡◌, sym, ◌∙◌, ap, ◌<◌, ◌≤◌, List, length, Option, Some, None, MatchOption, unwrap_or, arith}
use native.Mathlib.Nat.{le_refl}
use Rattle.law.proofs.Bounded.{by_order}
use Rattle.job.specs.Written.{IsJob, edge_count}
use Rattle.image.specs.Lines.{lines_job, edge_line}
use Rattle.image.specs.Image.{edge_from, first_edge}
use Rattle.image.specs.declared.job_lines.Edge.{Edge}
use Rattle.image.specs.declared.job_lines.JobLines.{JobLines}
use Rattle.image.proofs.LinesLaws.{edges_line, from_line}
use Rattle.image.proofs.Runs.{from_first, first_few, run_here}

module _
    (m : JobLines) (job : IsJob (lines_job m)) (read : List Edge) (is : read ≡ m.edges.items) (from s : ℕ)
    (start : from ≤ first_edge (lines_job m).structure s)
  where
    pub all : length read ≡ edge_count (lines_job m)
    all = ap {A = List Edge} length is ∙ sym (edges_line m)

    source : (e : ℕ) → edge_from (lines_job m).structure e ≡ (edge_line read e).source
    source e = from_line m e ∙ ap (λ (x : List Edge). (edge_line x e).source) (sym is)

    abbrev pub Passed : ℕ → Type 0
    Passed e = (k : ℕ) → from ≤ k → k < e → (edge_line read k).source < s

    -- no edge that was passed stands behind the run's first
    none_behind : (e : ℕ) → e ≤ length read → Passed e → e ≤ first_edge (lines_job m).structure s
    none_behind e l passed =
        let f = first_edge (lines_job m).structure s in
        by_order f e
        (λ h.
        let inside : f < edge_count (lines_job m) = omega (arith, all) in
        let stop : ⊥ = omega (arith, passed f start h, from_first (lines_job m) job s f inside (le_refl f), source f) in absurd stop)
        (λ h. h)

    pub run_found :
        (r : Option ℕ) → MatchOption r (Passed (length read)) (λ e. (from ≤ e) × (e < length read) × (s ≤ (edge_line read e).source) × Passed e)
        → unwrap_or r (length read) ≡ first_edge (lines_job m).structure s
    run_found None passed = omega (arith, all, first_few (lines_job m) job s, none_behind (length read) (le_refl (length read)) passed)
    run_found (Some e) found =
        let inside : e < edge_count (lines_job m) = omega (arith, all, found.1) in
        run_here (lines_job m) job s e (none_behind e (omega (arith, found.1)) found.3) (omega (arith, found.2, source e))
