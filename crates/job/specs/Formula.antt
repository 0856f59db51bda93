-- The kinds, named one by one here, in `src/subformula.rt` and `src/rule.rt`, and where `meaning` of ctl says what they mean.
-- Document 01, "Kinds: 1 atom a; 2 not a; 3 a and b; 4 AX a; 5 EX a; 6 A(a U b); 7 E(a U b)", and document 02 (iii), "kind 8, EG a, and
-- kind 9, AG a": the line of subformula k as an enum case with its operands, or malformed. "For kind 1, a is 0 to 15. For the others a
-- is a smaller subformula number. For kinds 3, 6 and 7 so is b; elsewhere b is 0." Assumes nothing.
use Rattle.std.specs.Prelude.{ℕ, Bool, true, false, cond, ◌&&◌, List, [], ◌∷◌, leb, ltb, eqb, Option, Some, None}
use Rattle.job.specs.declared.subformula.Subformula.{Subformula}
use Rattle.job.specs.declared.subformula.Subformula.TheVariants.{Atom, Not, And, Ax, Ex, Au, Eu, Eg, Ag}
use Rattle.job.specs.declared.rule.Condition.TheVariants.{Always, Holds, Fails}
use Rattle.job.specs.declared.rule.Rule.{Rule}
use Rattle.job.specs.declared.rule.Rule.TheVariants as rule

-- an atom
unfoldable pub atomic : ℕ → ℕ → Option Subformula
atomic a b = cond (leb a 15 && eqb b 0) (Some (Atom a)) None

-- f, if a is a smaller number than k and b is 0
unfoldable pub unary : ℕ → ℕ → ℕ → Subformula → Option Subformula
unary k a b f = cond (ltb a k && eqb b 0) (Some f) None

-- f, if a and b are smaller numbers than k
unfoldable pub binary : ℕ → ℕ → ℕ → Subformula → Option Subformula
binary k a b f = cond (ltb a k && ltb b k) (Some f) None

unfoldable pub parsed : ℕ → ℕ → ℕ → ℕ → Option Subformula
parsed k kind a b =
    cond (eqb kind 1) (atomic a b)
    (cond (eqb kind 2) (unary k a b (Not a))
    (cond (eqb kind 3) (binary k a b (And a b))
    (cond (eqb kind 4) (unary k a b (Ax a))
    (cond (eqb kind 5) (unary k a b (Ex a))
    (cond (eqb kind 6) (binary k a b (Au a b))
    (cond (eqb kind 7) (binary k a b (Eu a b))
    (cond (eqb kind 8) (unary k a b (Eg a))
    (cond (eqb kind 9) (unary k a b (Ag a)) None))))))))

-- The numbers of its line, "kind, a, b".
unfoldable pub fields : Subformula → List ℕ
fields (Atom a) = 1 ∷ a ∷ 0 ∷ []
fields (Not a) = 2 ∷ a ∷ 0 ∷ []
fields (And a b) = 3 ∷ a ∷ b ∷ []
fields (Ax a) = 4 ∷ a ∷ 0 ∷ []
fields (Ex a) = 5 ∷ a ∷ 0 ∷ []
fields (Au a b) = 6 ∷ a ∷ b ∷ []
fields (Eu a b) = 7 ∷ a ∷ b ∷ []
fields (Eg a) = 8 ∷ a ∷ 0 ∷ []
fields (Ag a) = 9 ∷ a ∷ 0 ∷ []

unfoldable pub is_formula : Option Subformula → Bool
is_formula (Some f) = true
is_formula None = false

-- The subformula of a line that is not malformed.
unfoldable pub formula : Option Subformula → Subformula
formula (Some f) = f
formula None = Atom 0

-- The untils start where b is true, grow where a is, and give 1; EG and AG start where a is false, grow anywhere, and give 0.
abbrev pub until : Bool → ℕ → ℕ → Rule
until all a b = rule.Sets (record { all = all; start = Holds b; grow = Holds a; value = 1 })

abbrev pub global : Bool → ℕ → Rule
global all a = rule.Sets (record { all = all; start = Fails a; grow = Always; value = 0 })

-- What a step does for it.
abbrev pub rule_of : Subformula → Rule
rule_of (Atom j) = rule.Atom j
rule_of (Not a) = rule.Not a
rule_of (And a b) = rule.And a b
rule_of (Ax a) = rule.Next true a
rule_of (Ex a) = rule.Next false a
rule_of (Au a b) = until true a b
rule_of (Eu a b) = until false a b
rule_of (Eg a) = global true a
rule_of (Ag a) = global false a

-- The same with its operands renamed; an atom keeps its number.
unfoldable pub renamed : (ℕ → ℕ) → Subformula → Subformula
renamed ρ (Atom j) = Atom j
renamed ρ (Not a) = Not (ρ a)
renamed ρ (And a b) = And (ρ a) (ρ b)
renamed ρ (Ax a) = Ax (ρ a)
renamed ρ (Ex a) = Ex (ρ a)
renamed ρ (Au a b) = Au (ρ a) (ρ b)
renamed ρ (Eu a b) = Eu (ρ a) (ρ b)
renamed ρ (Eg a) = Eg (ρ a)
renamed ρ (Ag a) = Ag (ρ a)
