-- A rule written behind other lines: these stay, the line with its number says the rule, and the new lines say the rule or smaller ones.
-- Assumes nothing.
use Prim.Native.Nat.{ℕ, suc, ◌+◌, ◌<◌, ◌≤◌}
use mathlib.Core.Path.{◌≡◌, refl, sym, ◌∙◌, ap, ap₂}
use mathlib.Core.List.{List, [], ◌∷◌, ◌++◌}
use mathlib.Core.Logic.{⊎_elim}
use native.Mathlib.Nat.{le_refl, le_trans}
use native.Mathlib.Omega.{arith}
use lib.ListN.{length, length-append, get_or-append}
use lib.Seq.{get_or-append_seam}
use lib.Dec.{ltb}
use borrow.Author.Tests.{ltb-true, ltb-false}
use Rattle.law.proofs.Bool.{split}
use Rattle.job.specs.Job.{subformula}
use Rattle.job.specs.declared.subformula.Subformula.{Subformula}
use Rattle.job.specs.declared.subformula.Subformula.TheVariants.{Atom, And}
use Rattle.rule_text.specs.Lines.{Basic, atom, prefix, both, until, prefix_line, until_line, place, add, placed}
use Rattle.rule_text.proofs.AddLaws.{place_found, place_missing, add_cases}
use Rattle.rule_text.proofs.Says.{line_says, prefix_says, until_says, says, Ranged, prefix_ranged, until_ranged, says_same, says_line}

-- How many operators a rule has.
pub weight : Basic → ℕ
weight (atom j) = 0
weight (prefix p f) = suc (weight f)
weight (both f g) = suc (weight f + weight g)
weight (until q f g) = suc (weight f + weight g)

-- All lines say rules of fewer than n operators; no line is equal to an earlier one.
abbrev pub Sized : ℕ → List Subformula → Type 0
Sized n ls = (k : ℕ) → k < length ls → weight (says ls k) < n

abbrev pub Distinct : List Subformula → Type 0
Distinct ls = (i j : ℕ) → i < j → j < length ls → subformula ls i ≡ subformula ls j → ⊥

-- One line more.
module _ (ls : List Subformula) (f : Subformula) where
  more_length : length (ls ++ (f ∷ [])) ≡ suc (length ls)
  more_length = length-append ls (f ∷ []) ∙ omega arith

  more_before : (k : ℕ) → k < length ls → subformula (ls ++ (f ∷ [])) k ≡ subformula ls k
  unfolding subformula
  more_before k l = get_or-append ls (f ∷ []) (Atom 0) k l

  more_last : subformula (ls ++ (f ∷ [])) (length ls) ≡ f
  unfolding subformula
  more_last = get_or-append_seam ls f [] (Atom 0)

  more_cases : {A : Type 0} (k : ℕ) → k < length (ls ++ (f ∷ [])) → (k < length ls → A) → (k ≡ length ls → A) → A
  more_cases k l before last =
      split (ltb k (length ls))
      (λ t. before (ltb-true k (length ls) t))
      (λ n. last (omega (arith, more_length, ltb-false k (length ls) n)))

module _ (P : ℕ → Type 0) where
  abbrev pub Ordered : List Subformula → Type 0
  Ordered ls = (k : ℕ) → k < length ls → Ranged P k (subformula ls k)

  -- ws are ls and more lines, of fewer than n operators.
  pub record Continues (n : ℕ) (ls ws : List Subformula) : Type 0 where
    pub ordered : Ordered ws
    pub longer : length ls ≤ length ws
    pub stays : (k : ℕ) → k < length ls → says ws k ≡ says ls k
    pub sized : (m : ℕ) → n ≤ m → Sized m ls → Sized m ws
    pub distinct : Distinct ls → Distinct ws

  continues_self : (n : ℕ) (ls : List Subformula) → Ordered ls → Continues n ls ls
  continues_self n ls o =
      record { ordered = o; longer = le_refl (length ls); stays = λ k l. refl; sized = λ m b h. h; distinct = λ h. h }

  continues_on : (n m b : ℕ) (ls ws vs : List Subformula) → n ≤ b → m ≤ b → Continues n ls ws → Continues m ws vs → Continues b ls vs
  continues_on n m b ls ws vs l r c d =
      record {
        ordered = d.ordered;
        longer = le_trans c.longer d.longer;
        stays = λ k h. d.stays k (le_trans h c.longer) ∙ c.stays k h;
        sized = λ j h g. d.sized j (le_trans r h) (c.sized j (le_trans l h) g);
        distinct = λ h. d.distinct (c.distinct h);
      }

  -- and line k says c
  pub record Yields (c : Basic) (ls ws : List Subformula) (k : ℕ) : Type 0 where
    pub continues : Continues (suc (weight c)) ls ws
    pub within : k < length ws
    pub shown : says ws k ≡ c

  -- A line added.
  module _ (c : Basic) (f : Subformula) (ls : List Subformula) (o : Ordered ls) (r : Ranged P (length ls) f) (e : line_says (says ls) f ≡ c) where
    yields_found : place f ls < length ls → Yields c ls ls (place f ls)
    yields_found h =
        record {
          continues = continues_self (suc (weight c)) ls o;
          within = h;
          shown =
              says_line P ls ls (place f ls) (λ k l. o k (le_trans l (omega arith))) (λ k l. refl) (o (place f ls) h)
              ∙ ap (line_says (says ls)) (place_found f ls h) ∙ e;
        }

    more_ordered : Ordered (ls ++ (f ∷ []))
    more_ordered k l =
        more_cases ls f k l
        (λ h. rw (more_before ls f k h) (o k h))
        (λ h. rw (h, more_last ls f) r)

    more_stays : (k : ℕ) → k < length ls → says (ls ++ (f ∷ [])) k ≡ says ls k
    more_stays k l = sym (says_same P ls (ls ++ (f ∷ [])) (length ls) o (more_before ls f) k l)

    more_says : says (ls ++ (f ∷ [])) (length ls) ≡ c
    more_says =
        says_line P (ls ++ (f ∷ [])) ls (length ls) (λ k l. more_ordered k (omega (arith, more_length ls f))) (λ k l. sym (more_before ls f k l))
        (more_ordered (length ls) (omega (arith, more_length ls f)))
        ∙ ap (line_says (says ls)) (more_last ls f) ∙ e

    more_sized : (m : ℕ) → suc (weight c) ≤ m → Sized m ls → Sized m (ls ++ (f ∷ []))
    more_sized m b h k l =
        more_cases ls f k l
        (λ g. rw (more_stays k g) (h k g))
        (λ g. rw (g, more_says) b)

    more_distinct : place f ls ≡ length ls → Distinct ls → Distinct (ls ++ (f ∷ []))
    more_distinct h d i j l b same =
        more_cases ls f j b
        (λ g. d i j l g (sym (more_before ls f i (omega arith)) ∙ same ∙ more_before ls f j g))
        (λ g.
        let here = ap (subformula (ls ++ (f ∷ []))) g ∙ more_last ls f in
        place_missing f ls i (omega arith) (sym (more_before ls f i (omega arith)) ∙ same ∙ here))

    yields_new : place f ls ≡ length ls → Yields c ls (ls ++ (f ∷ [])) (length ls)
    yields_new h =
        record {
          continues =
              record {
                ordered = more_ordered;
                longer = omega (arith, more_length ls f);
                stays = more_stays;
                sized = more_sized;
                distinct = more_distinct h;
              };
          within = omega (arith, more_length ls f);
          shown = more_says;
        }

    add_yields : Yields c ls (add f ls).lines (add f ls).number
    unfolding add
    add_yields =
        ⊎_elim
        (λ (h, e). rw e (yields_found h))
        (λ (h, e). rw (e, h) (yields_new h))
        (add_cases f ls)

  -- every atom of a rule has P
  unfoldable pub Atoms : Basic → Type 0
  Atoms (atom j) = P j
  Atoms (prefix p f) = Atoms f
  Atoms (both f g) = Atoms f × Atoms g
  Atoms (until q f g) = Atoms f × Atoms g

  -- A rule's own line is added last, behind lines of smaller rules.
  pub record EndsWith (c : Basic) (ls : List Subformula) : Type 0 where
    pub last : Subformula
    pub earlier : List Subformula
    pub is : placed c ls ≡ add last earlier
    pub continues : Continues (weight c) ls earlier
    pub ranged : Ranged P (length earlier) last
    pub said : line_says (says earlier) last ≡ c

  pub ends_with_yields : (c : Basic) (ls : List Subformula) → EndsWith c ls → Yields c ls (placed c ls).lines (placed c ls).number
  ends_with_yields c ls e =
      let s = add_yields c e.last e.earlier e.continues.ordered e.ranged e.said in
      rw e.is
      (record {
        continues =
            continues_on (weight c) (suc (weight c)) (suc (weight c)) ls e.earlier _ (omega arith) (omega arith) e.continues s.continues;
        within = s.within;
        shown = s.shown;
      })

  -- It is a new line where all lines before say smaller rules.
  pub ends_with_root : (c : Basic) (ls : List Subformula) → EndsWith c ls → Sized (weight c) ls → length (placed c ls).lines ≡ suc (placed c ls).number
  unfolding add
  ends_with_root c ls e h =
      let small = e.continues.sized (weight c) (le_refl (weight c)) h in
      rw e.is
      (⊎_elim
      (λ (g, same).
      let s = yields_found c e.last e.earlier e.continues.ordered e.ranged e.said g in
      absurd (omega (arith, small (place e.last e.earlier) g, ap weight s.shown)))
      (λ (g, same). rw same (more_length e.earlier e.last ∙ ap suc (sym g)))
      (add_cases e.last e.earlier))

  -- The lines of two operands, one behind the other.
  record Two (f g : Basic) (ls : List Subformula) (a : ℕ) (ws : List Subformula) (b : ℕ) : Type 0 where
    continues : Continues (suc (weight f + weight g)) ls ws
    left : a < length ws
    right : b < length ws
    left_says : says ws a ≡ f
    right_says : says ws b ≡ g

  ends_two :
      (f g : Basic) (ls : List Subformula)
      → EndsWith f ls
      → (Ordered (placed f ls).lines → EndsWith g (placed f ls).lines)
      → Two f g ls (placed f ls).number (placed g (placed f ls).lines).lines (placed g (placed f ls).lines).number
  ends_two f g ls d e =
      let vs = (placed f ls).lines in
      let s = ends_with_yields f ls d in
      let t = ends_with_yields g vs (e s.continues.ordered) in
      record {
        continues =
            continues_on (suc (weight f)) (suc (weight g)) (suc (weight f + weight g)) ls vs _ (omega arith) (omega arith) s.continues t.continues;
        left = le_trans s.within t.continues.longer;
        right = t.within;
        left_says = t.continues.stays (placed f ls).number s.within ∙ s.shown;
        right_says = t.shown;
      }

  pub placed_ends_with : (c : Basic) (ls : List Subformula) → Atoms c → Ordered ls → EndsWith c ls
  unfolding placed weight Atoms Ranged line_says
  placed_ends_with (atom j) ls p o =
      record { last = Atom j; earlier = ls; is = refl; continues = continues_self 0 ls o; ranged = p; said = refl }
  placed_ends_with (prefix p f) ls q o =
      let v = placed f ls in
      let s = ends_with_yields f ls (placed_ends_with f ls q o) in
      record {
        last = prefix_line p v.number;
        earlier = v.lines;
        is = refl;
        continues = s.continues;
        ranged = prefix_ranged P p (length v.lines) v.number s.within;
        said = prefix_says (says v.lines) p v.number ∙ ap (prefix p) s.shown;
      }
  placed_ends_with (both f g) ls (p, q) o =
      let v = placed f ls in
      let w = placed g v.lines in
      let b = ends_two f g ls (placed_ends_with f ls p o) (placed_ends_with g v.lines q) in
      record {
        last = And v.number w.number;
        earlier = w.lines;
        is = refl;
        continues = b.continues;
        ranged = (b.left, b.right);
        said = ap₂ both b.left_says b.right_says;
      }
  placed_ends_with (until u f g) ls (p, q) o =
      let v = placed f ls in
      let w = placed g v.lines in
      let b = ends_two f g ls (placed_ends_with f ls p o) (placed_ends_with g v.lines q) in
      record {
        last = until_line u v.number w.number;
        earlier = w.lines;
        is = refl;
        continues = b.continues;
        ranged = until_ranged P u (length w.lines) v.number w.number b.left b.right;
        said = until_says (says w.lines) u v.number w.number ∙ ap₂ (until u) b.left_says b.right_says;
      }
