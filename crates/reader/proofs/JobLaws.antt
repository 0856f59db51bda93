-- The lines of an accepted text, laid, say the job that the text describes. Assumes nothing.
use Prim.Native.Nat.{ℕ, ◌%◌, ◌<◌}
use mathlib.Core.Path.{◌≡◌, sym, ◌∙◌, ap}
use mathlib.Core.List.{List, map}
use native.Mathlib.Nat.{mod-eq_of_lt}
use native.Mathlib.Omega.{arith}
use Rattle.law.specs.Lists.{tab}
use Rattle.law.proofs.Lists.{tab_same, map_tab}
use Rattle.text.specs.Field.{Text}
use Rattle.job.specs.Layout as layout
use Rattle.job.specs.Job.{decode}
use Rattle.job.specs.Written.{no_edge}
use Rattle.job.specs.Read.{read_told, read_answer}
use Rattle.job.specs.Leaves.{Fits}
use Rattle.job.specs.declared.reading.Header.{Header}
use Rattle.job.specs.declared.refusal.Refusal.{Refusal}
use Rattle.job.specs.declared.subformula.Subformula.{Subformula}
use Rattle.arrayvec.specs.ArrayVec.{ArrayVec}
use Rattle.std.proofs.Common.{Result, Ok, Err}
use Rattle.job.proofs.QuestionLaws.{refused_not_accepted}
use Rattle.job.proofs.Asked.{Passed}
use Rattle.job.proofs.ReadLaws.{read_passed}
use Rattle.image.specs.Lines.{lines_job, ends}
use Rattle.image.specs.declared.job_lines.State.{State}
use Rattle.image.specs.declared.job_lines.Edge as line
use Rattle.image.specs.declared.job_lines.JobLines.{JobLines}
use Rattle.line_reader.specs.LinesRead.{lines_of_states, lines_of_edges, lines_of_subformulas}
use Rattle.reader.specs.JobRead.{JobRead}

-- what the lines say, as a list of what each says
says_are :
    {L A : Type 0} (g : L → A) (says : ℕ → L) (list : List L) (f : ℕ → A) (n k : ℕ) (d : A)
    → list ≡ tab says n → n ≡ k → ((i : ℕ) → i < n → g (says i) ≡ f i) → map g list ≡ tab f k
says_are g says list f n k d laid e same =
    ap (map g) laid ∙ map_tab g says n ∙ tab_same (λ i. g (says i)) f n d same ∙ ap (tab f) e

module _
    (t : Text) (h : Header) (fits : Fits t h) (states : ArrayVec State) (edges : ArrayVec line.Edge) (formula : ArrayVec Subformula)
    (state : states.items ≡ tab (lines_of_states t h).says h.states)
    (edge : edges.items ≡ tab (lines_of_edges t h).says h.edges)
    (subformulas : formula.items ≡ tab (lines_of_subformulas t h).says h.subformulas)
  where
    abbrev m : JobLines
    m = record { nodes = h.nodes; states = states; edges = edges; formula = formula }

    -- The numbers of an accepted text fit their fields, so they stand there exactly.
    says : (g : Header) → read_told (Ok g) ≡ read_answer t → lines_job m ≡ decode t
    unfolding lines_job decode
    says g told =
        λ i.
        record { structure = record { labels = labels i; edges = edges_are i }; formula = formulas i; nodes = sym fits.nodes_are i; owners = owners i }
      where
        passed : Passed t
        passed = read_passed t g told

        labels : (lines_job m).structure.labels ≡ (decode t).structure.labels
        labels =
            says_are _ _ _ _ h.states (layout.states t) 0 state (sym fits.states_are)
            (λ s l. mod-eq_of_lt (omega (arith, passed.labels s (omega (arith, fits.states_are)))))

        owners : (lines_job m).owners ≡ (decode t).owners
        owners =
            says_are _ _ _ _ h.states (layout.states t) 0 state (sym fits.states_are)
            (λ s l. mod-eq_of_lt (omega (arith, passed.owners s (omega (arith, fits.states_are)), fits.nodes_are, fits.nodes_to)))

        edges_are : (lines_job m).structure.edges ≡ (decode t).structure.edges
        edges_are =
            says_are ends _ _ _ h.edges (layout.edges t) no_edge edge (sym fits.edges_are)
            (λ e l.
            let (from, to) = passed.ends e (omega (arith, fits.edges_are)) in
            let source : layout.source_field t e % 256 ≡ layout.source_field t e = mod-eq_of_lt (omega (arith, fits.states_are, fits.states_to)) in
            let target : layout.target_field t e % 256 ≡ layout.target_field t e = mod-eq_of_lt (omega (arith, fits.states_are, fits.states_to)) in
            λ i. record { from = source i; to = target i })

        formulas : (lines_job m).formula ≡ (decode t).formula
        formulas = subformulas ∙ ap (tab _) (sym fits.subformulas_are)

    pub job_read : (r : Result Header Refusal) → read_told r ≡ read_answer t → JobRead t m r
    job_read r told = record { told = told; laid = λ g e. says g (ap read_told (sym e) ∙ told) }

-- A refusal leaves nothing to be said of the lines.
pub refused_read : (t : Text) (m : JobLines) (why : Refusal) → read_told (Err why) ≡ read_answer t → JobRead t m (Err why)
unfolding read_told
refused_read t m why is =
    record { told = is; laid = λ h e. absurd (refused_not_accepted _ _ _ _ (sym (ap read_told e))) }
