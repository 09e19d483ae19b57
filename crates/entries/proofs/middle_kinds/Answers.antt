-- `entries::middle_kinds` meets its contract, kind by kind.
use Prim.Native.Nat.{ℕ}
use Rattle.flaw_parts.proofs.CodeLaws.{past, coded}
use Rattle.entries.specs.Entries.{kind_flaw}
use Rattle.entries.proofs.middle_kinds.Goals as goal

pub last_kinds-requires : goal.last_kinds-requires
last_kinds-requires c = past 12 _ (past 11 _ (past 10 _ (past 9 _ (past 8 _ (past 7 _ c.requires c.in_default.in_default-own.rest.0.0.0.0.0.1) c.in_default.in_default-own.rest.0.0.0.0.1) c.in_default.in_default-own.rest.0.0.0.1) c.in_default.in_default-own.rest.0.0.1) c.in_default.in_default-own.rest.0.1) c.in_default.in_default-own.rest.1

pub returns-in-7 : goal.returns-in-7
unfolding kind_flaw
returns-in-7 c = coded (λ (k : ℕ). kind_flaw k c.args.w c.args.low c.args.high c.args.s.now) _ 7 _ c.in-7.is c.whole_entry.ensures

pub returns-in-8 : goal.returns-in-8
unfolding kind_flaw
returns-in-8 c = coded (λ (k : ℕ). kind_flaw k c.args.w c.args.low c.args.high c.args.s.now) _ 8 _ c.in-8.is c.between_entry.ensures

pub returns-in-9 : goal.returns-in-9
unfolding kind_flaw
returns-in-9 c = coded (λ (k : ℕ). kind_flaw k c.args.w c.args.low c.args.high c.args.s.now) _ 9 _ c.in-9.is c.either_entry.ensures

pub returns-in-10 : goal.returns-in-10
unfolding kind_flaw
returns-in-10 c = coded (λ (k : ℕ). kind_flaw k c.args.w c.args.low c.args.high c.args.s.now) _ 10 _ c.in-10.is c.class_flaw.ensures

pub returns-in-11 : goal.returns-in-11
unfolding kind_flaw
returns-in-11 c = coded (λ (k : ℕ). kind_flaw k c.args.w c.args.low c.args.high c.args.s.now) _ 11 _ c.in-11.is c.service_flaw.ensures

pub returns-in-12 : goal.returns-in-12
unfolding kind_flaw
returns-in-12 c = coded (λ (k : ℕ). kind_flaw k c.args.w c.args.low c.args.high c.args.s.now) _ 12 _ c.in-12.is c.users_flaw.ensures
