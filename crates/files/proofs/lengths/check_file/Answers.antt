-- `files::lengths::check_file` meets its contract, length by length.
use borrow.Author.Tests.{eq-eqb, ne_eqb, lt-ltb, le-ltb}
use Rattle.files.specs.Files.{too_long, not_records}
use Rattle.basics.specs.Outcomes.{first_refusal}
use Rattle.files.proofs.lengths.check_file.Goals as goal

pub returns-then-file-gt-MOST_BYTES : goal.returns-then-file-gt-MOST_BYTES
unfolding first_refusal too_long
returns-then-file-gt-MOST_BYTES c = rw (lt-ltb _ _ c.if-file-gt-MOST_BYTES.true)

pub returns-then-file-eq0 : goal.returns-then-file-eq0
unfolding first_refusal too_long not_records
returns-then-file-eq0 c = rw (le-ltb _ _ c.if-file-gt-MOST_BYTES.false, eq-eqb _ _ c.if-file-eq0.true)

pub returns-then-file-ne0 : goal.returns-then-file-ne0
unfolding first_refusal too_long not_records
returns-then-file-ne0 c = rw (le-ltb _ _ c.if-file-gt-MOST_BYTES.false, ne_eqb _ _ c.if-file-eq0.false, ne_eqb _ _ c.if-file-ne0.true)

pub returns : goal.returns
unfolding first_refusal too_long not_records
returns c = rw (le-ltb _ _ c.if-file-gt-MOST_BYTES.false, ne_eqb _ _ c.if-file-eq0.false, eq-eqb _ _ c.if-file-ne0.false)
