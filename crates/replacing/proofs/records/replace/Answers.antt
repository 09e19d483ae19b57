-- `replacing::records::replace` meets its contract: refused, a header, or a station.
use mathlib.Core.Path.{refl, ◌≡◌, sym, ap, ◌∙◌}
use mathlib.Core.Bool.{true}
use Prim.Native.Nat.{ℕ}
use Rattle.files.specs.Files.{with_record, stations}
use Rattle.basics.proofs.RefusalLaws.{ended_on, no_value, error_told, none_told, done}
use Rattle.files.proofs.LengthLaws.{positive}
use Rattle.mending.specs.Replacing.{mended_sheet, rows_written}
use Rattle.mending.proofs.RowsMended.{header_none}
use Rattle.replacing.specs.Calls.{replace_outcome}
use Rattle.sheet.proofs.JudgeLaws.{sized_at}
use Rattle.replacing.proofs.CallLaws.{allowed, replace_refused, replace_done}
use native.Mathlib.Omega.{arith}
use Rattle.replacing.proofs.records.replace.Goals as goal

pub returns-in_err-replace_outcome : goal.returns-in_err-replace_outcome
returns-in_err-replace_outcome c =
    let e = c.in_err-replace_outcome.ensures in
    let all = replace_refused c.args.file.now c.args.sheet.now c.args.k c.args.rec.now c.from_residual.result (ended_on c.from_residual.result c.from_residual.ensures.1 e) (no_value 0 c.from_residual.result c.from_residual.ensures.0) (error_told e) in record {
      record_replaced = all.0;
      still_judged = all.1;
    }

pub replace_header-requires : goal.replace_header-requires
replace_header-requires c =
    let yes : done (replace_outcome c.args.file.now c.args.sheet.now c.args.k c.args.rec.now) ≡ true = none_told c.in_ok-replace_outcome.ensures in
    let h = allowed c.args.file.now c.args.sheet.now c.args.k c.args.rec.now yes in
    record {
      sized = sized_at c.stations_in-n.ensures h.sizes;
      rec_len = h.size;
    }

pub returns-then-k-eq0 : goal.returns-then-k-eq0
returns-then-k-eq0 c =
    let yes : done (replace_outcome c.args.file.now c.args.sheet.now c.args.k c.args.rec.now) ≡ true = none_told c.in_ok-replace_outcome.ensures in
    let file = c.args.file.now in
    let sheet = c.args.sheet.now in
    let r = c.args.rec.now in
    let z : c.args.k ≡ 0 = c.if-k-eq0.true in
    let all = replace_done file sheet c.args.k r yes (sym (ap (λ (k : ℕ). rows_written (stations file) file k r) z ∙ header_none (stations file) file r))
    (c.replace_header.ensures.file_after ∙ ap (λ (k : ℕ). with_record file k r) (sym z))
    (c.replace_header.ensures.sheet_after ∙ ap (λ (m : ℕ). mended_sheet m file sheet 0 r) c.stations_in-n.ensures ∙ ap (λ (k : ℕ). mended_sheet (stations file) file sheet k r) (sym z)) in record {
      record_replaced = all.0;
      still_judged = all.1;
    }

pub replace_station-requires : goal.replace_station-requires
replace_station-requires c =
    let yes : done (replace_outcome c.args.file.now c.args.sheet.now c.args.k c.args.rec.now) ≡ true = none_told c.in_ok-replace_outcome.ensures in
    let h = allowed c.args.file.now c.args.sheet.now c.args.k c.args.rec.now yes in
    record {
      sized = sized_at c.stations_in-n.ensures h.sizes;
      le_k = (positive c.args.k c.if-k-eq0.false, omega (arith, h.within, c.stations_in-n.ensures), h.size);
    }

pub returns : goal.returns
returns c =
    let yes : done (replace_outcome c.args.file.now c.args.sheet.now c.args.k c.args.rec.now) ≡ true = none_told c.in_ok-replace_outcome.ensures in
    let file = c.args.file.now in
    let sheet = c.args.sheet.now in
    let r = c.args.rec.now in
    let all = replace_done file sheet c.args.k r yes
    (c.replace_station.ensures.value ∙ ap (λ (m : ℕ). rows_written m file c.args.k r) c.stations_in-n.ensures)
    c.replace_station.ensures.file_after
    (c.replace_station.ensures.sheet_after ∙ ap (λ (m : ℕ). mended_sheet m file sheet c.args.k r) c.stations_in-n.ensures) in record {
      record_replaced = all.0;
      still_judged = all.1;
    }
