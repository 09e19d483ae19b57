-- `header::typed::typed_closing_code` meets its contract: each test of the code is a rule of the group.
use mathlib.Core.Path.{◌≡◌, ◌∙◌}
use lib.ListN.{length}
use Rattle.header.specs.Rules.{typed_header_rules}
use borrow.Author.Rules.{rules}
use Rattle.header.proofs.typed.typed_closing_code.Goals as goal
use Rattle.header.proofs.typed.typed_closing_code.Goals.{Start}

reserve_wide : (c : Start) → length c.args.h.reserve ≡ 7
reserve_wide c = search rules

pub returns : goal.returns
unfolding typed_header_rules
returns c =
    c.first_broken.ensures
    ∙ rw (
      c.is_left_text.ensures,
      c.fits_whole.ensures,
      c.fits_date.ensures,
      c.equal.ensures,
      c.fits_serial.ensures,
      c.equal-2.ensures,
      c.equal-3.ensures,
    )
