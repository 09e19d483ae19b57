-- `header_writing::write_header` meets its contract, by the three ways a call ends.
use Rattle.std.specs.Prelude.{Err}
use mathlib.Core.Path.{refl}
use Rattle.basics.specs.Outcomes.{refusal}
use Rattle.basics.specs.declared.Refusal.TheVariants as why
use Rattle.header.specs.Spelling.{spell_header}
use Rattle.header.specs.Codes.{typed_header_code}
use Rattle.header.specs.Calls.{write_header_outcome, written_header}
use Rattle.basics.proofs.CallLaws.{wrong_length, rule_broken, call-done}
use Rattle.header_writing.proofs.write_header.Goals as goal

pub returns-then-buffer-ne219 : goal.returns-then-buffer-ne219
unfolding write_header_outcome written_header refusal
returns-then-buffer-ne219 c =
    wrong_length c.args.buffer.now (typed_header_code c.args.h) (Err why.BufferLength) (spell_header c.args.h) c.args.buffer.now c.if-buffer-ne219.true refl refl

pub returns-then-code-ne0 : goal.returns-then-code-ne0
unfolding write_header_outcome written_header
returns-then-code-ne0 c =
    rule_broken c.args.buffer.now (typed_header_code c.args.h) (Err why.BufferLength) (spell_header c.args.h) c.args.buffer.now c.if-buffer-ne219.false c.typed_header_code-code.ensures c.if-code-ne0.true refl

pub returns : goal.returns
unfolding write_header_outcome written_header
returns c =
    call-done c.args.buffer.now (typed_header_code c.args.h) (Err why.BufferLength) (spell_header c.args.h) c.args.buffer.now c.if-buffer-ne219.false c.typed_header_code-code.ensures c.if-code-ne0.false c.put_header.ensures
