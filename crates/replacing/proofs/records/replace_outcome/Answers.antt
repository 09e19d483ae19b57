-- `replacing::records::replace_outcome` meets its contract: what judging asks, then trailer, number and record.
use Rattle.std.specs.Prelude.{Err}
use mathlib.Core.Path.{◌≡◌, sym, ap, ◌∙◌}
use mathlib.Core.Bool.{true, false, not}
use lib.Dec.{ltb}
use borrow.Author.Tests.{eq-eqb, ne_eqb, lt-ltb, le-ltb}
use Rattle.basics.specs.Outcomes.{first_refusal}
use Rattle.basics.specs.declared.Refusal.TheVariants as why
use Rattle.basics.proofs.RefusalLaws.{done, passes, stops, none_left, ended-there, passed_on, error_told, none_told}
use Rattle.files.specs.Files.{stations}
use Rattle.sheet.specs.Calls.{judge_tests, judge_outcome}
use Rattle.replacing.specs.Calls.{replace_outcome}
use Rattle.sheet.proofs.JudgeLaws.{judge_sized_up}
use Rattle.replacing.proofs.CallLaws.{further, goes_further}
use native.Mathlib.Omega.{arith}
use Rattle.forms.specs.OwnForm.{sheet_length, trailer_fits}
use Rattle.replacing.proofs.records.replace_outcome.Goals as goal
use Rattle.replacing.proofs.records.replace_outcome.Goals.{After-stations_in-n, Else-k-n, Else-not-fits_trailer}

pub returns-in_err-judge_outcome : goal.returns-in_err-judge_outcome
unfolding replace_outcome judge_outcome
returns-in_err-judge_outcome c =
    let no : done (judge_outcome c.args.file.now c.args.sheet.now) ≡ false = error_told c.in_err-judge_outcome.ensures in
    passed_on c.from_residual.ensures.1 c.in_err-judge_outcome.ensures ∙ ended-there (judge_tests c.args.file.now c.args.sheet.now) (further c.args.file.now c.args.sheet.now c.args.k c.args.rec.now) no

pub fits_trailer-requires : goal.fits_trailer-requires
fits_trailer-requires c =
    let file = c.args.file.now in
    let sheet = c.args.sheet.now in
    let yes : done (judge_outcome file sheet) ≡ true = none_told c.in_ok-judge_outcome.ensures in
    let h = judge_sized_up file sheet yes in
    (omega (arith, h.most, c.stations_in-n.ensures), h.sheet_size ∙ ap sheet_length (sym c.stations_in-n.ensures))

-- what judging asks is passed
passed : (c : After-stations_in-n) → replace_outcome c.args.file.now c.args.sheet.now c.args.k c.args.rec.now ≡ first_refusal (further c.args.file.now c.args.sheet.now c.args.k c.args.rec.now)
passed c =
    goes_further c.args.file.now c.args.sheet.now c.args.k c.args.rec.now (none_told c.in_ok-judge_outcome.ensures)

pub returns-then-not-fits_trailer : goal.returns-then-not-fits_trailer
returns-then-not-fits_trailer c = sym ((passed (goal.at.returns-then-not-fits_trailer c).After-stations_in-n) ∙ stops (Err why.SheetTrailer) _ (rw (← c.stations_in-n.ensures, ← c.fits_trailer.ensures) c.if-not-fits_trailer.true-raw))

-- the trailer is one of so many rows,
fits : (c : Else-not-fits_trailer) → not (trailer_fits c.args.sheet.now (stations c.args.file.now)) ≡ false
fits c = rw (← c.stations_in-n.ensures, ← c.fits_trailer.ensures) c.if-not-fits_trailer.false-raw

pub returns-then-k-n : goal.returns-then-k-n
returns-then-k-n c = sym ((passed (goal.at.returns-then-k-n c).After-stations_in-n) ∙ passes (Err why.SheetTrailer) _ (fits (goal.at.returns-then-k-n c).Else-not-fits_trailer) ∙ stops (Err why.NoSuchRecord) _ (rw (← c.stations_in-n.ensures) (lt-ltb _ _ c.if-k-n.true)))

-- and the number is not above n
inside : (c : Else-k-n) → ltb (stations c.args.file.now) c.args.k ≡ false
inside c = rw (← c.stations_in-n.ensures) (le-ltb _ _ c.if-k-n.false)

pub returns-then-rec-ne-RECORD_LENGTH : goal.returns-then-rec-ne-RECORD_LENGTH
returns-then-rec-ne-RECORD_LENGTH c =
    sym ((passed (goal.at.returns-then-rec-ne-RECORD_LENGTH c).After-stations_in-n)
    ∙ passes (Err why.SheetTrailer) _ (fits (goal.at.returns-then-rec-ne-RECORD_LENGTH c).Else-not-fits_trailer)
    ∙ passes (Err why.NoSuchRecord) _ (inside (goal.at.returns-then-rec-ne-RECORD_LENGTH c).Else-k-n)
    ∙ stops (Err why.RecordLength) _ (rw (ne_eqb _ _ c.if-rec-ne-RECORD_LENGTH.true)))

pub returns : goal.returns
returns c =
    sym ((passed (goal.at.returns c).After-stations_in-n)
    ∙ passes (Err why.SheetTrailer) _ (fits (goal.at.returns c).Else-not-fits_trailer)
    ∙ passes (Err why.NoSuchRecord) _ (inside (goal.at.returns c).Else-k-n)
    ∙ passes (Err why.RecordLength) _ (rw (eq-eqb _ _ c.if-rec-ne-RECORD_LENGTH.false))
    ∙ none_left)
