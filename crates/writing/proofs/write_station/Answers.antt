-- `writing::write_station` meets its contract, by the three ways a call ends.
use Rattle.std.specs.Prelude.{Err}
use mathlib.Core.Path.{refl}
use Rattle.basics.specs.Outcomes.{refusal}
use Rattle.basics.specs.declared.Refusal.TheVariants as why
use Rattle.station.specs.Spelling.{spell_station}
use Rattle.station.specs.Codes.{typed_code}
use Rattle.station.specs.Calls.{write_outcome, written_station}
use Rattle.basics.proofs.CallLaws.{wrong_length, rule_broken, call-done}
use Rattle.writing.proofs.write_station.Goals as goal

pub returns-then-buffer-ne219 : goal.returns-then-buffer-ne219
unfolding write_outcome written_station refusal
returns-then-buffer-ne219 c =
    wrong_length c.args.buffer.now (typed_code c.args.s) (Err why.BufferLength) (spell_station c.args.s) c.args.buffer.now c.if-buffer-ne219.true refl refl

pub returns-then-code-ne0 : goal.returns-then-code-ne0
unfolding write_outcome written_station
returns-then-code-ne0 c =
    rule_broken c.args.buffer.now (typed_code c.args.s) (Err why.BufferLength) (spell_station c.args.s) c.args.buffer.now c.if-buffer-ne219.false c.typed_code-code.ensures c.if-code-ne0.true refl

pub returns : goal.returns
unfolding write_outcome written_station
returns c =
    call-done c.args.buffer.now (typed_code c.args.s) (Err why.BufferLength) (spell_station c.args.s) c.args.buffer.now c.if-buffer-ne219.false c.typed_code-code.ensures c.if-code-ne0.false c.put_station.ensures
