-- `entries::last_kinds` meets its contract, kind by kind.
use Prim.Native.Nat.{ℕ}
use Rattle.flaw_parts.proofs.CodeLaws.{past, coded}
use Rattle.entries.specs.Entries.{kind_flaw}
use Rattle.entries.proofs.KindLaws.{no_kind}
use Rattle.entries.proofs.last_kinds.Goals as goal

pub returns-in-13 : goal.returns-in-13
unfolding kind_flaw
returns-in-13 c = coded (λ (k : ℕ). kind_flaw k c.args.w c.args.low c.args.high c.args.s.now) _ 13 _ c.in-13.is c.name_flaw.ensures

pub returns-in-14 : goal.returns-in-14
unfolding kind_flaw
returns-in-14 c = coded (λ (k : ℕ). kind_flaw k c.args.w c.args.low c.args.high c.args.s.now) _ 14 _ c.in-14.is c.country_flaw.ensures

pub returns-in-15 : goal.returns-in-15
unfolding kind_flaw
returns-in-15 c = coded (λ (k : ℕ). kind_flaw k c.args.w c.args.low c.args.high c.args.s.now) _ 15 _ c.in-15.is c.position_flaw.ensures

pub returns-in-16 : goal.returns-in-16
unfolding kind_flaw
returns-in-16 c = coded (λ (k : ℕ). kind_flaw k c.args.w c.args.low c.args.high c.args.s.now) _ 16 _ c.in-16.is c.emission_flaw.ensures

pub returns-in-17 : goal.returns-in-17
unfolding kind_flaw
returns-in-17 c = coded (λ (k : ℕ). kind_flaw k c.args.w c.args.low c.args.high c.args.s.now) _ 17 _ c.in-17.is c.polarisation_flaw.ensures

pub returns-in-18 : goal.returns-in-18
unfolding kind_flaw
returns-in-18 c = coded (λ (k : ℕ). kind_flaw k c.args.w c.args.low c.args.high c.args.s.now) _ 18 _ c.in-18.is c.antenna_flaw.ensures

pub returns-in-19 : goal.returns-in-19
unfolding kind_flaw
returns-in-19 c = coded (λ (k : ℕ). kind_flaw k c.args.w c.args.low c.args.high c.args.s.now) _ 19 _ c.in-19.is c.reference_flaw.ensures

pub returns-in_default : goal.returns-in_default
returns-in_default c = no_kind c.args.kind c.args.w c.args.low c.args.high c.args.s.now (past 19 _ (past 18 _ (past 17 _ (past 16 _ (past 15 _ (past 14 _ (past 13 _ c.requires c.in_default.in_default-own.rest.0.0.0.0.0.0.1) c.in_default.in_default-own.rest.0.0.0.0.0.1) c.in_default.in_default-own.rest.0.0.0.0.1) c.in_default.in_default-own.rest.0.0.0.1) c.in_default.in_default-own.rest.0.0.1) c.in_default.in_default-own.rest.0.1) c.in_default.in_default-own.rest.1)
