-- Copying by subformula, those without news left out. Assumes nothing.
use Prim.Native.Nat.{ℕ, ◌+◌, ◌<◌, ◌≤◌}
use mathlib.Core.Path.{◌≡◌, refl, sym, ◌∙◌, ap}
use mathlib.Core.Bool.{Bool, true, false, not, cond, ◌&&◌, ◌||◌}
use mathlib.Core.List.{List}
use native.Mathlib.Nat.{le_refl, not-suc-le-zero}
use native.Mathlib.Omega.{arith}
use borrow.Author.Tests.{eqb-true, lt-ltb, le-ltb}
use lib.ListN.{length, get_or}
use lib.Dec.{eqb, ltb}
use Rattle.law.proofs.Bool.{split, not_not, cond_true, cond_false, and_left, and_right, and_no_left, and_no_right}
use Rattle.law.proofs.Bounded.{by_equal}
use Rattle.job.specs.Job.{Job, size, subformula_count, owner, subformula}
use Rattle.job.specs.Written.{IsJob}
use Rattle.job.specs.Rule.{rule_of, temporal}
use Rattle.job.specs.declared.rule.Rule.{Rule}
use Rattle.job.specs.declared.subformula.Subformula.{Subformula}
use Rattle.cells.specs.Fragment.{border}
use Rattle.cells.specs.Table.{Table, table_length, cell, owner_cell}
use Rattle.cells.specs.Close.{is_temporal, copy_table}
use Rattle.cells.specs.Rest.{column_flag, Copied, Exchanged, Tracked, FlagIs, Mark}
use Rattle.cells.proofs.Fill.{fill_cell_left}
use Rattle.cells.proofs.FragmentLaws.{owner_no_border}
use Rattle.cells.proofs.Tracked.{copied_same, mark_none, mark_set, marks_none, marks_after, mark_marks, copy_tracked}
use Rattle.image.specs.Image.{place_of}
use Rattle.image.specs.Denoted.{job_of}
use Rattle.image.specs.declared.image.Image.{Image}
use Rattle.image.specs.declared.place.Place.{Place}
use Rattle.image.specs.declared.place.Place.TheVariants.{Border}
use Rattle.image.proofs.Places.{same_place, place_border}
use Rattle.pending.specs.declared.Pending.{Pending}
use Rattle.table.specs.Lent.{Lent, IsCell}
use Rattle.table.specs.Filling.{Leaves, Cells, part, of_column, of_subformula, up_to_node}
use Rattle.table.proofs.Parts.{both_two, part_same, part_all, leaves_idle, leaves_none, leaves_is, leaves_more, leaves_long, leaves_others, leaves_nothing, told_small}
use Rattle.table.proofs.FillingLaws.{ltb_zero, ltb_more, column_apart, nodes_more, nodes_over}
use Rattle.messages.specs.News.{copied, PartCopied, NewsTaken, NewsCopied}

-- What a cell takes, by the test of the place that is read.
module _ (J : Job) (t : Table) (n s k : ℕ) (p : Place) (is : p ≡ place_of J n s) (other : Bool) (told : other ≡ not (same_place p Border)) where
  border_is : border J n s ≡ not other
  border_is = sym (ap not (told ∙ ap not (place_border J n s p is)) ∙ not_not (border J n s))

  pub message_none : other ≡ true → 2 ≡ copied J t n s k
  unfolding copied
  message_none e = simp (border_is, e)

  pub message_owner : other ≡ false → is_temporal J k ≡ true → owner_cell J t s k ≡ copied J t n s k
  unfolding copied
  message_owner e temporal = simp (border_is, e, temporal)

pub temporal_is :
    (J : Job) (k : ℕ) (f : Subformula) (r : Rule) (b : Bool)
    → f ≡ subformula J.formula k
    → r ≡ rule_of f
    → b ≡ temporal r
    → b ≡ is_temporal J k
unfolding is_temporal
temporal_is J k f r b line rule is = is ∙ ap temporal (rule ∙ ap rule_of line)

-- Copying never changes what it reads: no border state of a node is its own.
module _ (J : Job) (job : IsJob J) (t : Table) (keep : Cells) (u : Table) (c : ℕ) (so : Leaves t (part J keep (copied J t) t) u c) where
  owner_kept : (s k : ℕ) → s < size J → k < subformula_count J → owner_cell J u s k ≡ owner_cell J t s k
  unfolding part copied owner_cell
  owner_kept s k b c =
      ap (λ x. owner_cell J x s k) so.table_is
      ∙ fill_cell_left J _ t (owner J s) s k b c (simp (owner_no_border J job s b) (both_two (keep (owner J s) s k)))

  pub copied_kept : (n s k : ℕ) → s < size J → k < subformula_count J → copied J u n s k ≡ copied J t n s k
  unfolding copied
  copied_kept n s k b c = rw (owner_kept s k b c)

-- One part after another.
module _ (J : Job) (job : IsJob J) (t : Table) (long : length t ≡ table_length J) (stale : List Bool) where
  nothing_copied : (keep : Cells) → ((m s k : ℕ) → keep m s k ≡ false) → PartCopied J keep t stale t stale 0
  nothing_copied keep none =
      record {
        leaves = leaves_none J t long keep (copied J t) none;
        stale_marked = λ n. marks_none J n (column_flag n) t stale;
      }

  part_more :
      (first second both : Cells)
      → ((m s k : ℕ) → both m s k ≡ (first m s k || second m s k))
      → (u v : Table) (stale' stale'' : List Bool) (c d : ℕ)
      → PartCopied J first t stale u stale' c
      → PartCopied J second u stale' v stale'' d
      → PartCopied J both t stale v stale'' (c + d)
  part_more first second both joined u v stale' stale'' c d a b =
      record {
        leaves =
            leaves_more J t long (copied J t) first second both (λ m s k h o. joined m s k) u v c d a.leaves
            (leaves_is u (part J second (copied J u) u) (part J second (copied J t) u) v d
            (part_same J u (leaves_long J t first (copied J t) u c a.leaves ∙ long) second second (copied J u) (copied J t)
            (λ m s k h o.
            ap (λ x. cond (second m s k) x 2) (copied_kept J job t first u c a.leaves m s k h.state_in h.subformula_in)))
            b.leaves);
        stale_marked = λ n. marks_after J n (column_flag n) t u v stale stale' stale'' (a.stale_marked n) (b.stale_marked n);
      }

-- One column.
module _ (J : Job) (n k : ℕ) (t : Table) (stale : List Bool) (u : Table) (told : ℕ)
    (l : Leaves t (part J (of_column n k) (copied J t) t) u told) where
  column_copied : (stale' : List Bool) → Mark t u (column_flag n k) stale stale' → PartCopied J (of_column n k) t stale u stale' told
  column_copied stale' mark =
      record {
        leaves = l;
        stale_marked =
            λ m.
            mark_marks J m (column_flag m) t u (column_flag n k) stale stale' mark
            (λ j h apart s b.
            leaves_others J t (of_column n k) (copied J t) u told l m s j b h
            (column_apart n k m s j (λ p q. apart (rw (p, q) refl))));
      }

  pub copied_idle : told ≡ 0 → PartCopied J (of_column n k) t stale u stale 0
  copied_idle none =
      rw none at (column_copied stale (mark_none t (column_flag n k) stale u (leaves_nothing J t (of_column n k) (copied J t) u told l none)))

  pub copied_marked : {stale' : List Bool} → FlagIs (column_flag n k) true stale stale' → PartCopied J (of_column n k) t stale u stale' told
  copied_marked {stale'} marked = column_copied stale' (mark_set t (column_flag n k) stale u stale' marked)

-- How many cells are copied at most.
module _ (m : Image) (t : Table) (lent : Lent m t) (keep : Cells) (stale : List Bool) (u : Table) (stale' : List Bool) (c : ℕ)
    (so : PartCopied (job_of m) keep t stale u stale' c) where
  pub copied_few : c ≤ 65536
  copied_few = told_small m t lent (part (job_of m) keep (copied (job_of m) t) t) u c so.leaves

-- A subformula, node by node.
module _ (J : Job) (job : IsJob J) (t : Table) (long : length t ≡ table_length J) (k : ℕ) (stale : List Bool) where
  pub nodes_none : PartCopied J (up_to_node k 0) t stale t stale 0
  unfolding up_to_node
  nodes_none = nothing_copied J job t long stale (up_to_node k 0) (λ m s j. and_no_left (ltb m 0) (eqb j k) (ltb_zero m))

  pub nodes_next :
      (n : ℕ) (u v : Table) (stale' stale'' : List Bool) (c d : ℕ)
      → PartCopied J (up_to_node k n) t stale u stale' c
      → PartCopied J (of_column n k) u stale' v stale'' d
      → PartCopied J (up_to_node k (n + 1)) t stale v stale'' (c + d)
  nodes_next n = part_more J job t long stale (up_to_node k n) (of_column n k) (up_to_node k (n + 1)) (nodes_more k n)

  pub nodes_done :
      (n : ℕ) (u : Table) (stale' : List Bool) (c : ℕ)
      → n ≡ J.nodes
      → PartCopied J (up_to_node k n) t stale u stale' c
      → PartCopied J (of_subformula k) t stale u stale' c
  nodes_done n u stale' c e done =
      record {
        leaves =
            leaves_is t (part J (up_to_node k n) (copied J t) t) (part J (of_subformula k) (copied J t) t) u c
            (nodes_over J t long (copied J t) k n (omega arith)) done.leaves;
        stale_marked = done.stale_marked;
      }

-- A subformula without news is left out, and one that is not temporal.
module _ (J : Job) (t : Table) (long : length t ≡ table_length J) (k : ℕ) (stale : List Bool) where
  subformula_idle :
      ((m s : ℕ) → IsCell J m s k → cell J t m s k ≡ 2 → copied J t m s k ≡ 2) → PartCopied J (of_subformula k) t stale t stale 0
  unfolding of_subformula
  subformula_idle none =
      record {
        leaves =
            leaves_idle J t long (of_subformula k) (copied J t)
            (λ m s j h o e.
            split (eqb j k)
            (λ here. let same = eqb-true j k here in simp here (rw same (none m s (rw same at h) (rw same at e))))
            (λ away. simp away));
        stale_marked = λ n. marks_none J n (column_flag n) t stale;
      }

  module _ (p : Pending) (same : p.stale ≡ stale) {p' : Pending} where
    pub news_some :
        (u : Table) (c : ℕ) → PartCopied J (of_subformula k) t stale u p'.stale c → FlagIs k false p.news p'.news → NewsTaken J k t p u p' c
    news_some u c done taken =
        record { part_copied = rw same done; news_clear = taken.written; news_rest = taken.rest }

    pub news_none : Copied J t k → p'.stale ≡ stale → FlagIs k false p.news p'.news → NewsTaken J k t p t p' 0
    unfolding copied
    news_none done kept taken =
        news_some t 0
        (rw kept
        (subformula_idle
        (λ m s h e.
        split (border J m s && is_temporal J k)
        (λ y.
        simp y
        (done m s h.node_in h.state_in (and_left (border J m s) (is_temporal J k) y) (and_right (border J m s) (is_temporal J k) y)
        e))
        (λ f. simp f))))
        taken

    pub news_plain : is_temporal J k ≡ false → p'.stale ≡ stale → FlagIs k false p.news p'.news → NewsTaken J k t p t p' 0
    unfolding copied
    news_plain plain kept taken =
        news_some t 0
        (rw kept
        (subformula_idle
        (λ m s h e. cond_false (border J m s && is_temporal J k) (owner_cell J t s k) 2 (and_no_right (border J m s) (is_temporal J k) plain))))
        taken

-- The subformulas below i.
unfoldable pub up_to_subformula : ℕ → Cells
up_to_subformula i m s j = ltb j i

subformula_more : (i m s j : ℕ) → up_to_subformula (i + 1) m s j ≡ (up_to_subformula i m s j || of_subformula i m s j)
unfolding up_to_subformula of_subformula
subformula_more i m s j = ltb_more j i

pub record NewsUpTo (J : Job) (k : ℕ) (t : Table) (p : Pending) (after : Table) (p' : Pending) (told : ℕ) : Type 0 where
  pub part_copied : PartCopied J (up_to_subformula k) t p.stale after p'.stale told
  pub news_clear : (j : ℕ) → j < k → get_or p'.news j false ≡ false
  pub news_rest : (j : ℕ) → k ≤ j → get_or p'.news j false ≡ get_or p.news j false

module _ (J : Job) (job : IsJob J) (t : Table) (long : length t ≡ table_length J) (p : Pending) where
  pub all_none : NewsUpTo J 0 t p t p 0
  unfolding up_to_subformula
  all_none =
      record {
        part_copied = nothing_copied J job t long p.stale (up_to_subformula 0) (λ m s j. ltb_zero j);
        news_clear = λ j l. absurd (not-suc-le-zero l);
        news_rest = λ j l. refl;
      }

  module _ (k : ℕ) (u : Table) (p' : Pending) (c : ℕ) (done : NewsUpTo J k t p u p' c) where
    -- the next subformula is as it was
    pub next_copied : k < subformula_count J → Exchanged J p.news t → get_or p'.news k false ≡ false → Copied J u k
    unfolding up_to_subformula
    next_copied l exchanged none =
        copied_same J t u k
        (λ n s b.
        leaves_others J t (up_to_subformula k) (copied J t) u c done.part_copied.leaves n s k b l (le-ltb k k (le_refl k)))
        (exchanged k l (sym (done.news_rest k (le_refl k)) ∙ none))

    pub all_more :
        (v : Table) (p'' : Pending) (d : ℕ)
        → NewsTaken J k u p' v p'' d
        → NewsUpTo J (k + 1) t p v p'' (c + d)
    all_more v p'' d taken =
        record {
          part_copied =
              part_more J job t long p.stale (up_to_subformula k) (of_subformula k) (up_to_subformula (k + 1)) (subformula_more k) u v p'.stale
              p''.stale c d done.part_copied taken.part_copied;
          news_clear =
              λ j l.
              by_equal j k (λ e. rw e taken.news_clear)
              (λ f. taken.news_rest j f ∙ done.news_clear j (omega arith));
          news_rest = λ j l. taken.news_rest j (λ e. omega arith) ∙ done.news_rest j (omega arith);
        }

    pub all_over : k ≡ subformula_count J → NewsCopied J t p u p' c
    unfolding up_to_subformula copy_table copied
    all_over e =
        record {
          leaves =
              leaves_is t (part J (up_to_subformula k) (copied J t) t) (copy_table J t) u c
              (part_all J t long (up_to_subformula k) (copied J t)
              (λ m s j h o. cond_true (ltb j k) (copied J t m s j) 2 (lt-ltb j k (omega (arith, h.subformula_in)))))
              done.part_copied.leaves;
          stale_marked = done.part_copied.stale_marked;
          news_clear = λ j h. done.news_clear j (omega arith);
        }

-- Right marks stay right.
pub copied_tracked :
    (J : Job) (job : IsJob J) (t : Table) (p : Pending)
    → Tracked J p.stale p.news t
    → (u : Table) (p' : Pending) (c : ℕ)
    → NewsCopied J t p u p' c
    → Tracked J p'.stale p'.news u
copied_tracked J job t p tracked u p' c done =
    let is = done.leaves.table_is in
    rw is
    (copy_tracked J job t p.stale p.news tracked p'.stale p'.news (λ n. rw is at (done.stale_marked n)))
