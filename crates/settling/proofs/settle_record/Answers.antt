-- `settling::settle_record` meets its contract: what was settled may be written without being judged again.
use Rattle.std.specs.Prelude.{Err}
use mathlib.Core.Path.{refl, sym, ap, ◌∙◌}
use Rattle.basics.specs.Outcomes.{refusal}
use Rattle.basics.specs.declared.Refusal.TheVariants as why
use Rattle.basics.proofs.RefusalLaws.{passed_on, error_told, none_told, done, if_done_lem, if_refused}
use Rattle.basics.proofs.CallLaws.{accepted}
use Rattle.station.specs.Codes.{typed_code}
use Rattle.station.specs.Calls.{write_outcome, written_station}
use Rattle.settling.proofs.ThenLaws.{first_ends, second_ends}
use Rattle.settling.proofs.settle_record.Goals as goal

pub returns-in_err-read : goal.returns-in_err-read
returns-in_err-read c =
    let no = error_told (sym c.in_err-read.was) in
    (passed_on c.from_residual.ensures.1 (sym c.in_err-read.was) ∙ sym (first_ends _ _ no), sym (if_refused _ _ _ no))

pub returns-in_err-settled : goal.returns-in_err-settled
returns-in_err-settled c =
    let yes = none_told (sym c.in_ok-read.was) in
    let no = error_told (sym c.in_err-settled.was) in
    (passed_on c.from_residual-in_err-settled.ensures.1 (sym c.in_err-settled.was) ∙ sym (second_ends _ _ yes ∙ first_ends _ _ no), sym (if_done_lem _ _ _ yes ∙ if_refused _ _ _ no))

pub put_station-requires : goal.put_station-requires
unfolding write_outcome refusal
put_station-requires c =
    let first = none_told (sym c.in_ok-read.was) in
    let second = none_told (sym c.in_ok-settled.was) in
    (accepted c.args.rec.now (typed_code c.args.settled.station) (Err why.BufferLength) refl (ap done (c.requires first second))).0

pub returns : goal.returns
unfolding written_station refusal
returns c =
    let first = none_told (sym c.in_ok-read.was) in
    let second = none_told (sym c.in_ok-settled.was) in
    let put = c.requires first second in (
      sym (second_ends _ _ first ∙ second_ends _ _ second ∙ put),
      c.put_station.ensures
          ∙ sym (if_done_lem _ _ _ first ∙ if_done_lem _ _ _ second ∙ if_done_lem (write_outcome c.args.settled.station c.args.rec.now) _ _ (ap done put)),
    )
