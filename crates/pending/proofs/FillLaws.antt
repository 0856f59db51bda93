-- A part of the flags, filled. Assumes nothing.
use Prim.Native.Nat.{ℕ, ◌+◌, ◌-◌, ◌<◌, ◌≤◌}
use mathlib.Core.Path.{◌≡◌, sym, ◌∙◌, ap}
use mathlib.Core.Bool.{Bool, false}
use mathlib.Core.List.{List, ◌++◌}
use native.Mathlib.Omega.{arith}
use lib.ListN.{length, get_or, replicate, take, drop, length-replicate, get_or-append}
use lib.Seq.{length-take-le, get_or-take, get_or-drop}
use borrow.Rule.Slice.PartMut.{put_mid}
use Rattle.std.proofs.lemmas.List.{get_or-replicate, get_or-append_right}
use Rattle.std.proofs.lemmas.List.Edits.{paste_all}
use Rattle.std.proofs.lemmas.Slice.{put_mid-paste}
use Rattle.law.proofs.Bounded.{by_order}
use Rattle.cells.specs.Rest.{FlagsAre}

-- k flags from place a on are v.
module _ (a k : ℕ) (v : Bool) (was : List Bool) (fits : a + k ≤ length was) where
  abbrev filled : List Bool
  filled = take a was ++ (replicate k v ++ drop (a + k) was)

  before : length (take a was) ≡ a
  before = length-take-le a was (omega (arith, fits))

  within : (j : ℕ) → j < k → get_or filled (a + j) false ≡ v
  within j l =
      get_or-append_right (take a was) (replicate k v ++ drop (a + k) was) a (a + j) false before (omega arith)
      ∙ ap (λ (i : ℕ). get_or (replicate k v ++ drop (a + k) was) i false) (omega arith)
      ∙ get_or-append (replicate k v) (drop (a + k) was) false j (omega (arith, length-replicate {A = Bool} k v))
      ∙ get_or-replicate k j v false l

  left : (b : ℕ) → b < a → get_or filled b false ≡ get_or was b false
  left b l =
      get_or-append (take a was) (replicate k v ++ drop (a + k) was) false b (omega (arith, before)) ∙ get_or-take a was b false l

  right : (b : ℕ) → a + k ≤ b → get_or filled b false ≡ get_or was b false
  right b l =
      get_or-append_right (take a was) (replicate k v ++ drop (a + k) was) a b false before (omega arith)
      ∙ get_or-append_right (replicate k v) (drop (a + k) was) k (b - a) false (length-replicate {A = Bool} k v) (omega arith)
      ∙ get_or-drop (a + k) was (b - a - k) false
      ∙ ap (λ (i : ℕ). get_or was i false) (omega arith)

  pub flags_filled : (n : ℕ) (new : List Bool) → n ≡ k → new ≡ replicate k v → FlagsAre (λ j. a + j) v k was (put_mid a n was new)
  flags_filled n new same is =
      let parts : put_mid a n was new ≡ filled =
      put_mid-paste a n was new (replicate k v) k is (sym same) (sym (length-replicate {A = Bool} k v))
      ∙ paste_all was a (replicate k v) k (sym (length-replicate {A = Bool} k v)) in
      rw parts
      (record {
        written = within;
        rest =
            λ b apart.
            by_order b a (left b)
            (λ above. by_order b (a + k) (λ under. absurd (apart (b - a) (omega arith) (omega arith))) (right b));
      })
