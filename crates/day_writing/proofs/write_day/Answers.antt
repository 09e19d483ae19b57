-- `day_writing::write_day` meets its contract: the tests on the way are those of the promise.
use mathlib.Core.Path.{sym, ◌∙◌}
use mathlib.Core.Bool.{and-false}
use borrow.Author.Tests.{eq-eqb, ne_eqb, not-true}
use Rattle.columns.specs.Texts.{sized}
use Rattle.columns.proofs.TextLaws.{kept, wrote, and_both}
use Rattle.day_writing.proofs.write_day.Goals as goal

pub returns-then-s-ne8 : goal.returns-then-s-ne8
returns-then-s-ne8 c = let all = kept _ (rw (ne_eqb _ _ c.if-s-ne8.true)) in record {
  value = all.0;
  s_after = all.1;
}

pub returns-then-not-fits_day : goal.returns-then-not-fits_day
returns-then-not-fits_day c = let all = kept _ (rw (← c.fits_day.ensures, not-true c.fits_day.result c.if-not-fits_day.true-raw) (and-false (sized 8 c.args.s.now))) in record {
  value = all.0;
  s_after = all.1;
}

pub returns : goal.returns
returns c = let all = wrote _ (and_both _ _ (eq-eqb _ _ c.if-s-ne8.false) (sym c.fits_day.ensures ∙ c.if-not-fits_day.false)) c.put_day.ensures in record {
  value = all.0;
  s_after = all.1;
}
