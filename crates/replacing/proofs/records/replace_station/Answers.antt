-- `replacing::records::replace_station` meets its contract: the old operator and site are kept, the record put in, the rows mended, the trailer written.
use mathlib.Core.Path.{◌≡◌, sym, ap, ◌∙◌}
use Prim.Native.Nat.{◌≤◌}
use lib.ListN.{length}
use Rattle.stations.specs.Stations.{site_at}
use Rattle.forms.proofs.CopyLaws.{copy_all}
use Rattle.stations.proofs.StationLaws.{site_wide}
use Rattle.mending.proofs.RowsMended.{station_rows, station_sheet}
use native.Mathlib.Omega.{arith}
use Rattle.replacing.proofs.records.replace_station.Goals as goal

pub copy_from_slice-requires : goal.copy_from_slice-requires
copy_from_slice-requires c = sym (ap length c.site.ensures ∙ site_wide c.args.file.now c.args.k (omega (arith, c)))

pub returns : goal.returns
returns c =
    let file = c.args.file.now in
    let sheet = c.args.sheet.now in
    let r = c.args.rec.now in
    let positive : 1 ≤ c.args.k = omega (arith, c) in
    let wide : length (site_at file c.args.k) ≡ 6 = site_wide file c.args.k (omega (arith, c)) in
    let old = c.copy_from_slice.ensures.after ∙ c.site.ensures in
    let closed = rw c.head_code-head.ensures at c.put_trailer.ensures in
    record {
      value = c.mend_rows-written.ensures.value ∙ station_rows file sheet c.args.k r c.args.n positive c.put_record.ensures old;
      file_after = c.put_record.ensures;
      sheet_after = closed ∙ station_sheet file sheet c.args.k r c.args.n positive c.put_record.ensures old (omega (arith, c)) c.mend_rows-written.ensures.sheet_after;
    }
