-- `table_judging::first_flaw` meets its contract: the fields that were passed have no flaw.
use Prim.Native.Nat.{◌+◌, ◌-◌, ◌≤◌, ◌<◌}
use mathlib.Core.Path.{◌≡◌, refl, sym, ap, ◌∙◌}
use native.Mathlib.Omega.{arith}
use lib.ListN.{length, get_or}
use Rattle.basics.proofs.RuleLaws.{rule_on, rule_off, rule_end}
use Rattle.flaws.specs.Flaws.{flawless}
use Rattle.flaws.specs.declared.Flaw.TheVariants as flaw
use Rattle.flaw_parts.specs.Parts.{flawless_all}
use Rattle.walking.specs.Walks.{flaws_by}
use Rattle.walking.proofs.WalkLaws.{flaws_many, flaw_at, rules_at, rules_many, with_at}
use Rattle.table_judging.proofs.first_flaw.Goals as goal

pub loop-i-init : goal.loop-i-init
loop-i-init c = refl

pub flaw_behind-flaw-requires : goal.flaw_behind-flaw-requires
flaw_behind-flaw-requires c = c.loop-i-test.true

pub returns-then-not-is_flawless : goal.returns-then-not-is_flawless
returns-then-not-is_flawless c =
    let es = c.args.entries.now in
    let r = c.args.rec.now in
    let ws = c.args.rows.now in
    let i = c.loop-i.i in
    let xs = flaws_by es r ws in
    let more : i < length (flawless_all xs) = rw (flaws_many es r ws) c.loop-i-test.true in
    let is : c.flaw_behind-flaw.result ≡ get_or xs i flaw.None = c.flaw_behind-flaw.ensures ∙ sym (flaw_at es r ws i c.loop-i-test.true) in (
      sym (c.loop-i.invariant ∙ rule_off 1 (flawless_all xs) i more (rules_at xs i more ∙ sym (ap flawless is) ∙ sym c.is_flawless.ensures ∙ c.if-not-is_flawless.true)),
      is ∙ with_at xs i (1 + i) (omega arith) (omega (arith, more, rules_many xs)),
    )

pub loop-i-preserved : goal.loop-i-preserved
loop-i-preserved c =
    let es = c.args.entries.now in
    let r = c.args.rec.now in
    let ws = c.args.rows.now in
    let i = c.loop-i.i in
    let xs = flaws_by es r ws in
    let more : i < length (flawless_all xs) = rw (flaws_many es r ws) c.loop-i-test.true in
    let is : c.flaw_behind-flaw.result ≡ get_or xs i flaw.None = c.flaw_behind-flaw.ensures ∙ sym (flaw_at es r ws i c.loop-i-test.true) in
    c.loop-i.invariant ∙ rule_on 1 (flawless_all xs) i more (rules_at xs i more ∙ sym (ap flawless is) ∙ sym c.is_flawless.ensures ∙ c.if-not-is_flawless.false)

pub returns : goal.returns
returns c =
    let es = c.args.entries.now in
    let r = c.args.rec.now in
    let ws = c.args.rows.now in
    let i = c.loop-i.i in
    let xs = flaws_by es r ws in
    let none : length (flawless_all xs) ≤ i = rw (flaws_many es r ws) c.loop-i-test.false in
    (sym (c.loop-i.invariant ∙ rule_end 1 (flawless_all xs) i none), refl)
