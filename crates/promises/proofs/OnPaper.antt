-- What the contract of page promises is what request (v) promises. Assumes nothing.
use Prim.Native.Nat.{ℕ, ◌+◌, ◌-◌, ◌*◌, ◌<◌, ◌≤◌}
use mathlib.Core.Path.{◌≡◌, refl, sym, ap, subst, ◌∙◌}
use mathlib.Core.List.{List, [], ◌∷◌, ◌++◌}
use mathlib.Core.Logic.{◌↔◌}
use mathlib.Core.Option as opt
use native.Mathlib.Omega.{arith}
use lib.ListN.{length, get_or, take, drop, replicate, length-append, length-drop, get_or-append}
use lib.Seq.{take_at, drop-append-le, take-append-le}
use borrow.Author.Tests.{ltb-true, leb-true, lt-ltb, le-ltb, le-leb}
use mathlib.Core.Option.{Option-elim}
use Rattle.law.proofs.Bounded.{by_order}
use Rattle.law.proofs.Lists.{tab_length, tab_at}
use Rattle.text.specs.Field.{Text}
use Rattle.job.specs.Job.{Job, size, subformula_count, owner, decode}
use Rattle.job.specs.Written.{IsJob}
use Rattle.job.specs.Answer.{Answer, accepted, refused}
use Rattle.job.specs.Question.{Question, of_call, refusal, answered}
use Rattle.job.specs.Questions.{text_questions, Accepted}
use Rattle.job.specs.Read.{header, read_answer}
use Rattle.job.proofs.Exact.{decode_is_job}
use Rattle.job.proofs.QuestionLaws.{by_refusal, answered_some, answered_yes, answered_no, answered_behind, all_answered_yes}
use Rattle.cells.specs.Table.{Table, cell, owner_cell}
use Rattle.cells.specs.Questions.{table_size, table_cells, node_below, page_fits}
use Rattle.cells.specs.Calls.{Call, page as page_call, finish, own_questions, questions, width, told, left, answer}
use Rattle.cells.specs.Finish as finishing
use Rattle.cells.proofs.Formed.{Formed, is_formed_lem, cell_outside}
use Rattle.cells.proofs.Sound.{Sound}
use Rattle.cells.proofs.CallLaws.{text_refused}
use Rattle.cells.proofs.Finish.{finish_complete}
use Rattle.cells.proofs.Verdict.{finish_sound}
use Rattle.page_text.specs.Page.{two_columns, cell_mark, row_front, columns_of, page_line, page_lines, page}
use Rattle.page_text.specs.PageCall.{overwritten}
use Rattle.page_text.proofs.PageLaws.{mark_empty, mark_filled, filled_ends, filled_columns, columns_few, page_length, page_filled, page_spaces, page_front, page_number, page_cell, page_mark, pages_cells, cells_pages, body_visible}
use Rattle.page_text.proofs.BufferLaws.{buffer_stays, buffer_accepted}
use Rattle.page_output.specs.PageOutput.{node_named, finished_table, room, printed, page_output}
use Rattle.promises.specs.CallContracts.{Loan, Pages, PrintsPage}
use Rattle.promises.specs.Demand1.{AnswersBy}
use Rattle.promises.specs.Demand2.{IsTruth}
use Rattle.promises.specs.OnPaper.{IsLine, LinesOf, page_bytes, mark_at, PageWritten, SameCells, PagePrinted, as_refused, no_such_node, as_page}
use Rattle.promises.proofs.Contracts.{pages_defined, prints_page_defined}
use Rattle.promises.proofs.Calls.{Taken, answers_by, accepted_taken, taken_accepted, taken_asked, page_formed, finish_taken, taken_left}
use Rattle.promises.proofs.Ends.{sound_cells}
use Rattle.promises.proofs.Judged.{start, start_sound}

-- The lines of a page.
module _ (J : Job) (is : IsJob J) (t : Table) (n : ℕ) where
  line_is : (i : ℕ) → IsLine (page_line J t n i)
  unfolding page_line
  line_is i =
      record {
        columns = columns_of J t n i ++ replicate (79 - length (columns_of J t n i)) 32;
        ends = filled_ends (columns_of J t n i) (columns_few J t n is i);
        columns_79 = filled_columns (columns_of J t n i) (columns_few J t n is i);
        visible = body_visible J t n i;
      }

  page_lines_lem : LinesOf J (page J t n)
  unfolding page page_lines
  page_lines_lem =
      let count = tab_length (page_line J t n) (size J + 1) in
      record {
        lines = page_lines J t n;
        made_of = refl;
        count = count;
        each = λ i l. subst IsLine (sym (tab_at (page_line J t n) (size J + 1) i [] (omega (arith, count)))) (line_is i);
      }

module _ (l : Loan) (x : Text) (t : Table) (n : ℕ) (b : List ℕ) where
  abbrev J : Job
  J = decode x

  pub pages_first : (a : Answer) (w : List ℕ) → Pages l x t n b a w → AnswersBy (questions (page_call n (length b)) x t) 0 [] a
  unfolding answer width told
  pages_first a w happens =
      rw (pages_defined l x t n b a w happens).0 (answers_by (questions (page_call n (length b)) x t) 0 [])

  pub pages_stay : (number at others : ℕ) (w : List ℕ) → Pages l x t n b (refused number at others) w → w ≡ b
  pages_stay number at others w happens =
      let (told_is, left_is) = pages_defined l x t n b (refused number at others) w happens in
      left_is ∙ buffer_stays x t n b number at others told_is

  module _ (own w : List ℕ) (happens : Pages l x t n b (accepted own) w) where
    abbrev told_is : accepted own ≡ answer (page_call n (length b)) x t
    told_is = (pages_defined l x t n b (accepted own) w happens).0

    taken : Taken (page_call n (length b)) x t
    taken = accepted_taken (page_call n (length b)) x t own (sym told_is)

    job : IsJob J
    job = decode_is_job x (taken_accepted (page_call n (length b)) x t taken)

    fits : page_bytes J ≤ length b
    unfolding own_questions page_fits of_call
    fits = leb-true (page_bytes J) (length b) (taken_asked (page_call n (length b)) x t taken 3 (omega arith))

    rest : List ℕ
    rest = drop (page_bytes J) b

    whole_is : w ≡ page J t n ++ rest
    unfolding overwritten rest
    whole_is =
        (pages_defined l x t n b (accepted own) w happens).1
        ∙ buffer_accepted x t n b own told_is
        ∙ ap (λ (k : ℕ). page J t n ++ drop k b) (page_length J t n job)

    formed : Formed J t
    formed = page_formed x t n (length b) taken

    node : n < J.nodes
    unfolding own_questions node_below of_call
    node = ltb-true n J.nodes (taken_asked (page_call n (length b)) x t taken 2 (omega arith))

    -- a byte of the page, and some bytes, are the buffer's
    byte_is : (i v : ℕ) → i < page_bytes J → get_or (page J t n) i 0 ≡ v → get_or w i 0 ≡ v
    unfolding rest
    byte_is i v l e =
        let size_is = page_length J t n job in
        ap (λ (o : List ℕ). get_or o i 0) whole_is ∙ get_or-append (page J t n) rest 0 i (omega arith) ∙ e

    bytes_are : (a : ℕ) (part : List ℕ) → a + 15 ≤ page_bytes J → take 15 (drop a (page J t n)) ≡ part → take 15 (drop a w) ≡ part
    unfolding rest
    bytes_are a part l e =
        let size_is = page_length J t n job in
        ap (λ (o : List ℕ). take 15 (drop a o)) whole_is
        ∙ ap (take 15) (drop-append-le a (page J t n) rest (omega arith))
        ∙ take-append-le 15 (drop a (page J t n)) rest (omega (arith, length-drop a (page J t n)))
        ∙ e

    pub pages_written : PageWritten J t n b w
    unfolding rest row_front two_columns
    pages_written =
        let few = job.subformulas.below in
        record {
          whole = whole_is;
          long = ap length whole_is ∙ length-append (page J t n) rest ∙ omega (arith, page_length J t n job, length-drop (page_bytes J) b, fits);
          in_lines = page_lines_lem J job t n;
          blank = bytes_are 0 (replicate 15 32) (omega arith) (page_spaces J t n job);
          tens = λ k m. byte_is (15 + 2 * k) _ (omega arith) (ap (λ (i : ℕ). get_or (page J t n) i 0) (even k) ∙ page_number J t n job k m 0 (omega arith));
          units = λ k m. byte_is (16 + 2 * k) _ (omega arith) (ap (λ (i : ℕ). get_or (page J t n) i 0) (odd k) ∙ page_number J t n job k m 1 (omega arith));
          fronts = λ s l. bytes_are (80 * (s + 1)) (row_front J s) (omega arith) (page_front J t n job s l);
          spaces =
              λ s k l m.
              byte_is (80 * (s + 1) + (15 + 2 * k)) _ (omega arith)
              (ap (λ (i : ℕ). get_or (page J t n) (80 * (s + 1) + i) 0) (even k) ∙ page_cell J t n job k m s 0 l (omega arith));
          marks = λ s k l m. byte_is (mark_at s k) _ (omega arith) (page_mark J t n job k m s l);
          outside =
              λ s k l m away.
              byte_is (mark_at s k) 46 (omega arith)
              (page_mark J t n job k m s l ∙ ap cell_mark (cell_outside J t formed n s k node l m away) ∙ mark_empty);
          filled = λ i j l past inside. byte_is (80 * i + j) 32 (omega arith) (page_filled J t n job i j l past inside);
        }
      where
        even : (k : ℕ) → 15 + 2 * k ≡ 15 + (2 * k + 0)
        even k = omega arith

        odd : (k : ℕ) → 16 + 2 * k ≡ 15 + (2 * k + 1)
        odd k = omega arith

    pub pages_front : take (page_bytes J) w ≡ page J t n
    pages_front = ap (take (page_bytes J)) whole_is ∙ take_at (page J t n) rest (page_bytes J) (page_length J t n job)

-- Equal pages, equal cells.
pub pages_agree :
    (x : Text) (n : ℕ) (t u : Table) (l m : Loan) (b c v w own told : List ℕ)
    → Pages l x t n b (accepted own) v
    → Pages m x u n c (accepted told) w
    → (take (page_bytes (decode x)) v ≡ take (page_bytes (decode x)) w) ↔ SameCells (decode x) n t u
pages_agree x n t u l m b c v w own told first second =
    let is = job l x t n b own v first in
    let here = pages_front l x t n b own v first in
    let there = pages_front m x u n c told w second in (
      (λ same. pages_cells (decode x) is n t u (sym here ∙ same ∙ there)),
      (λ same. here ∙ cells_pages (decode x) is n t u same ∙ sym there),
    )

-- What the program prints: the table after finish from fresh is sound, and every owner's cell of it is filled.
module _ (x : Text) (accepts : Accepted x) where
  abbrev Jx : Job
  Jx = decode x

  is_job : IsJob Jx
  is_job = decode_is_job x accepts

  finished_is : finished_table x ≡ (finishing.finish Jx (start x)).table
  unfolding finished_table left
  finished_is = taken_left finish x (start x) (finish_taken x (start x) accepts (start_sound x).formed)

  finished_sound : Sound Jx (finished_table x)
  finished_sound = rw finished_is (finish_sound Jx is_job (start x) (start_sound x))

  module _ (n : ℕ) (node : n < Jx.nodes) (s k : ℕ) (s_in : s < size Jx) (k_in : k < subformula_count Jx) where
    abbrev T : Table
    T = finished_table x

    abbrev here : ℕ
    here = get_or (page Jx T n) (mark_at s k) 0

    here_is : here ≡ cell_mark (cell Jx T n s k)
    here_is = page_mark Jx T n is_job k k_in s s_in

    mark_true : (here ≡ 46 → ⊥) → (c : ℕ) × (here ≡ 48 + c) × IsTruth x k s c
    mark_true some =
        let c = cell Jx T n s k in
        let filled : c ≡ 2 → ⊥ = λ e. some (here_is ∙ ap cell_mark e ∙ mark_empty) in
        (c, here_is ∙ mark_filled c filled, sound_cells x accepts T finished_sound n s k node s_in k_in filled)

    mark_owned : owner Jx s ≡ n → here ≡ 46 → ⊥
    unfolding owner_cell
    mark_owned own empty =
        let low = finish_complete Jx (start x) is_job (start_sound x).formed s k s_in k_in in
        let filled : cell Jx T n s k ≤ 1 = rw (finished_is, ← own) low in
        let wrong : 48 + cell Jx T n s k ≡ 46 = sym (mark_filled (cell Jx T n s k) (λ e. omega arith)) ∙ sym here_is ∙ empty in
        omega arith

  -- the questions behind those of the text: 9, 10 and 24 are answered yes
  module _ (n : ℕ) where
    abbrev call : Call
    call = page_call n room

    abbrev own : List Question
    own = own_questions call Jx (finished_table x)

    own_asked : answer call x (finished_table x) ≡ answered own 0 []
    unfolding answer questions width told Accepted
    own_asked = answered_behind (text_questions x) own 0 [] (all_answered_yes (text_questions x) accepts)

    node_asked : answered own 0 [] ≡ answered (node_below Jx n ∷ (page_fits Jx room ∷ [])) 0 []
    unfolding own_questions table_size table_cells of_call
    node_asked =
        let (long, right) = is_formed_lem Jx (finished_table x) finished_sound.formed in
        answered_yes (table_size Jx (finished_table x)) _ 0 [] long ∙ answered_yes (table_cells Jx (finished_table x)) _ 0 [] right

    node_taken : n < Jx.nodes → answer call x (finished_table x) ≡ accepted []
    unfolding node_below page_fits of_call answered refusal Option-elim
    node_taken l =
        let most = is_job.states.below in
        own_asked ∙ node_asked
        ∙ answered_yes (node_below Jx n) (page_fits Jx room ∷ []) 0 [] (lt-ltb n Jx.nodes l)
        ∙ answered_yes (page_fits Jx room) [] 0 [] (le-leb (80 * (size Jx + 1)) room (omega arith))

    node_refused : Jx.nodes ≤ n → answer call x (finished_table x) ≡ refused 11 0 0
    unfolding node_below of_call
    node_refused l = own_asked ∙ node_asked ∙ answered_no (node_below Jx n) _ 0 [] (le-ltb n Jx.nodes l)

pub prints_page : (l : Loan) (argument x : Text) (said : List ℕ) → PrintsPage l x argument said → PagePrinted argument x said
unfolding page_output printed read_answer Accepted
prints_page l argument x said prints = by_refusal (text_questions x) as_accepted as_refused_lem
  where
    n : ℕ
    n = node_named argument

    said_by : (a : Answer) → answer (page_call n room) x (finished_table x) ≡ a → said ≡ printed a (page (decode x) (finished_table x) n)
    said_by a e = prints_page_defined l x argument said prints ∙ ap (λ (b : Answer). printed b (page (decode x) (finished_table x) n)) e

    as_refused_lem : (q : Question) → refusal (text_questions x) ≡ opt.some q → PagePrinted argument x said
    as_refused_lem q e =
        let read = answered_some (text_questions x) 4 (header x) q e in
        let (told_is, left_is) = text_refused (page_call n room) x (finished_table x) q.number q.line 4 (sym read) in
        as_refused q.number q.line read (said_by (refused q.number q.line (width (page_call n room))) (sym told_is))

    as_accepted : refusal (text_questions x) ≡ opt.none → PagePrinted argument x said
    as_accepted accepts =
        by_order n (decode x).nodes
        (λ node.
        let said_is = said_by (accepted []) (node_taken x accepts n node) in
        as_page accepts node said_is
        (λ s k l m. rw said_is (mark_true x accepts n node s k l m))
        (λ s k l m. rw said_is (mark_owned x accepts n node s k l m)))
        (λ none. no_such_node accepts none (said_by (refused 11 0 0) (node_refused x accepts n none)))
