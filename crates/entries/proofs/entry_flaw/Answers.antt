-- `entries::entry_flaw` meets its contract, by what the entry says of blank.
use mathlib.Core.Path.{◌≡◌, refl, sym, ◌∙◌}
use mathlib.Core.Bool.{true, false}
use borrow.Author.Tests.{eq-eqb, ne_eqb, lt-ltb, le-ltb}
use Rattle.columns.specs.Texts.{blank}
use Rattle.entries.proofs.KindLaws.{allowed_told}
use Rattle.entries.proofs.entry_flaw.Goals as goal
use Rattle.entries.proofs.entry_flaw.Goals.{Else-not-is_blank}

-- the field is blank
blank_told : (c : Else-not-is_blank) → blank c.args.s.now ≡ true
blank_told c = sym c.is_blank.ensures ∙ c.if-not-is_blank.false

pub returns-then-not-is_blank : goal.returns-then-not-is_blank
returns-then-not-is_blank c =
    c.kind_flaw-said.ensures
    ∙ allowed_told c.args.kind c.args.w c.args.low c.args.high c.args.allowed c.args.s.now false _ _ (sym c.is_blank.ensures ∙ c.if-not-is_blank.true) refl refl

pub returns-then-allowed-eq1 : goal.returns-then-allowed-eq1
returns-then-allowed-eq1 c =
    c.kind_flaw-said.ensures ∙ allowed_told c.args.kind c.args.w c.args.low c.args.high c.args.allowed c.args.s.now true true true (blank_told (goal.at.returns-then-allowed-eq1 c).Else-not-is_blank) (lt-ltb _ 7 c.if-kind-lt7.true) (eq-eqb _ 1 c.if-allowed-eq1.true)

pub returns-then-kind-lt7 : goal.returns-then-kind-lt7
returns-then-kind-lt7 c =
    allowed_told c.args.kind c.args.w c.args.low c.args.high c.args.allowed c.args.s.now true true false (blank_told (goal.at.returns-then-kind-lt7 c).Else-not-is_blank) (lt-ltb _ 7 c.if-kind-lt7.true) (ne_eqb _ 1 c.if-allowed-eq1.false)

pub returns-then-allowed-eq1-2 : goal.returns-then-allowed-eq1-2
returns-then-allowed-eq1-2 c =
    allowed_told c.args.kind c.args.w c.args.low c.args.high c.args.allowed c.args.s.now true false true (blank_told (goal.at.returns-then-allowed-eq1-2 c).Else-not-is_blank) (le-ltb _ 7 c.if-kind-lt7.false) (eq-eqb _ 1 c.if-allowed-eq1-2.true)

pub returns : goal.returns
returns c =
    c.kind_flaw-said.ensures ∙ allowed_told c.args.kind c.args.w c.args.low c.args.high c.args.allowed c.args.s.now true false false (blank_told (goal.at.returns c).Else-not-is_blank) (le-ltb _ 7 c.if-kind-lt7.false) (ne_eqb _ 1 c.if-allowed-eq1-2.false)
