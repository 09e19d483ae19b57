-- `sender_judging::sender_code` meets its contract: each test of the code is a rule of the group.
use mathlib.Core.Path.{◌∙◌}
use Rattle.sender_judging.proofs.LetterLaws.{one_letter}
use Rattle.header.specs.Places.{header_fields}
use Rattle.header.specs.Rules.{header_rules}
use Rattle.sender_judging.proofs.sender_code.Goals as goal

pub returns : goal.returns
unfolding header_rules header_fields
returns c =
    c.first_broken.ensures
    ∙ rw (
      c.is_whole_filled.ensures,
      c.is_left_text.ensures,
      c.equal.ensures,
      one_letter,
      c.equal-2.ensures,
      c.is_left_text-2.ensures,
      c.is_left_text-3.ensures,
      c.is_left_text-4.ensures,
    )
