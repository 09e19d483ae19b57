-- `closing_judging::closing_code` meets its contract: each test of the code is a rule of the group.
use mathlib.Core.Path.{◌∙◌}
use Rattle.header.specs.Places.{header_fields}
use Rattle.header.specs.Rules.{header_rules}
use Rattle.closing_judging.proofs.closing_code.Goals as goal

pub returns : goal.returns
unfolding header_rules header_fields
returns c =
    c.first_broken.ensures
    ∙ rw (
      c.is_left_text.ensures,
      c.is_whole_filled.ensures,
      c.is_dated.ensures,
      c.equal.ensures,
      c.is_serial.ensures,
      c.equal-2.ensures,
      c.equal-3.ensures,
    )
