-- `header_judging::filed_header_code` meets its contract: the count is judged where the header breaks no rule of its own.
use mathlib.Core.Path.{◌≡◌}
use mathlib.Core.Bool.{cond}
use mathlib.Core.List.{[], ◌∷◌}
use lib.Dec.{eqb}
use borrow.Author.Tests.{eq-eqb, ne_eqb}
use Rattle.basics.specs.Rules.{first_broken}
use Rattle.basics.proofs.RuleLaws.{to_next, from_first}
use Rattle.header.specs.Places.{header_fields}
use Rattle.header.specs.Rules.{header_rules}
use Rattle.header.specs.Values.{header_of}
use Rattle.header.specs.Codes.{header_value, header_code, filed_header_code}
use borrow.Author.Rules.{rules}
use Rattle.header_judging.proofs.filed_header_code.Goals as goal
use Rattle.header_judging.proofs.filed_header_code.Goals.{Else-own-ne0}

-- where none of its own rules is broken, code 15 is judged
past : (c : Else-own-ne0) → filed_header_code c.args.rec.now c.args.n ≡ cond (eqb (header_value c.args.rec.now).count c.args.n) 0 15
unfolding filed_header_code header_code header_rules first_broken
past c =
    to_next 0 (header_rules (header_fields c.args.rec.now)) (eqb (header_value c.args.rec.now).count c.args.n ∷ []) c.header_code-own.ensures c.if-own-ne0.false

pub returns-then-own-ne0 : goal.returns-then-own-ne0
unfolding filed_header_code header_code
returns-then-own-ne0 c =
    from_first 0 (header_rules (header_fields c.args.rec.now)) (eqb (header_value c.args.rec.now).count c.args.n ∷ []) c.header_code-own.ensures c.if-own-ne0.true

pub returns-then-amount_in-n : goal.returns-then-amount_in-n
unfolding header_value header_of header_fields
returns-then-amount_in-n c = rw ((past (goal.at.returns-then-amount_in-n c).Else-own-ne0), ← c.amount_in.ensures, ne_eqb _ _ c.if-amount_in-n.true)

pub returns : goal.returns
unfolding header_value header_of header_fields
returns c = rw ((past (goal.at.returns c).Else-own-ne0), ← c.amount_in.ensures, eq-eqb _ _ c.if-amount_in-n.false)
