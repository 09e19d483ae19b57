-- `header::typed::typed_sender_code` meets its contract: each test of the code is a rule of the group.
use mathlib.Core.Path.{◌∙◌}
use Rattle.header.specs.Rules.{typed_header_rules}
use Rattle.header.proofs.typed.typed_sender_code.Goals as goal

pub returns : goal.returns
unfolding typed_header_rules
returns c =
    c.first_broken.ensures
    ∙ rw (
      c.fits_whole.ensures,
      c.is_left_text.ensures,
      c.equal.ensures,
      c.is_left_text-2.ensures,
      c.is_left_text-3.ensures,
    )
