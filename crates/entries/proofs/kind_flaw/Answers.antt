-- `entries::kind_flaw` meets its contract, kind by kind.
use Prim.Native.Nat.{ℕ}
use native.Mathlib.Omega.{arith}
use Rattle.flaw_parts.proofs.CodeLaws.{past, coded}
use Rattle.entries.specs.Entries.{kind_flaw}
use Rattle.entries.proofs.kind_flaw.Goals as goal

pub middle_kinds-requires : goal.middle_kinds-requires
middle_kinds-requires c = past 6 _ (past 5 _ (past 4 _ (past 3 _ (past 2 _ (past 1 _ (past 0 _ (omega arith) c.in_default.in_default-own.rest.0.0.0.0.0.0.1) c.in_default.in_default-own.rest.0.0.0.0.0.1) c.in_default.in_default-own.rest.0.0.0.0.1) c.in_default.in_default-own.rest.0.0.0.1) c.in_default.in_default-own.rest.0.0.1) c.in_default.in_default-own.rest.0.1) c.in_default.in_default-own.rest.1

pub returns-in-0 : goal.returns-in-0
unfolding kind_flaw
returns-in-0 c = coded (λ (k : ℕ). kind_flaw k c.args.w c.args.low c.args.high c.args.s.now) _ 0 _ c.in-0.is c.remarks_flaw.ensures

pub returns-in-1 : goal.returns-in-1
unfolding kind_flaw
returns-in-1 c = coded (λ (k : ℕ). kind_flaw k c.args.w c.args.low c.args.high c.args.s.now) _ 1 _ c.in-1.is c.decimal_entry.ensures

pub returns-in-2 : goal.returns-in-2
unfolding kind_flaw
returns-in-2 c = coded (λ (k : ℕ). kind_flaw k c.args.w c.args.low c.args.high c.args.s.now) _ 2 _ c.in-2.is c.plain_decimal.ensures

pub returns-in-3 : goal.returns-in-3
unfolding kind_flaw
returns-in-3 c = coded (λ (k : ℕ). kind_flaw k c.args.w c.args.low c.args.high c.args.s.now) _ 3 _ c.in-3.is c.signed_decimal.ensures

pub returns-in-4 : goal.returns-in-4
unfolding kind_flaw
returns-in-4 c = coded (λ (k : ℕ). kind_flaw k c.args.w c.args.low c.args.high c.args.s.now) _ 4 _ c.in-4.is c.height_entry.ensures

pub returns-in-5 : goal.returns-in-5
unfolding kind_flaw
returns-in-5 c = coded (λ (k : ℕ). kind_flaw k c.args.w c.args.low c.args.high c.args.s.now) _ 5 _ c.in-5.is c.day_flaw.ensures

pub returns-in-6 : goal.returns-in-6
unfolding kind_flaw
returns-in-6 c = coded (λ (k : ℕ). kind_flaw k c.args.w c.args.low c.args.high c.args.s.now) _ 6 _ c.in-6.is c.unit_entry.ensures
