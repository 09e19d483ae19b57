-- What is told in numbers leaves one answer.
use Rattle.basics.specs.Outcomes.{Outcome}
use mathlib.Core.Path.{◌≡◌, sym, ◌∙◌}
use mathlib.Core.List.{List}
use Prim.Native.Nat.{ℕ}
use Rattle.answers.specs.Endings.{Answered, AnsweredLeaving}
use Rattle.answers.specs.Rules.{RulesNumbered}

-- One outcome has one number and one code,
pub one_answer : (o : Outcome) (a b c d : ℕ) → Answered o a c → Answered o b d → (a ≡ b) × (c ≡ d)
one_answer o a b c d p q = (p.0 ∙ sym q.0, p.1 ∙ sym q.1)

-- One outcome and one content that is to be left: so are the answers, the codes and the bytes,
pub one_ending : (o : Outcome) (left : List ℕ) (a b c d : ℕ) (x y : List ℕ) → AnsweredLeaving o left a x c → AnsweredLeaving o left b y d → (a ≡ b) × (c ≡ d) × (x ≡ y)
one_ending o left a b c d x y p q =
    let e = one_answer o a b c d p.0 q.0 in
    (e.0, e.1, p.1 ∙ sym q.1)

-- `desk_rules` has one answer.
pub one_rules : (a b : ℕ) → RulesNumbered a → RulesNumbered b → a ≡ b
one_rules a b p q = p ∙ sym q
