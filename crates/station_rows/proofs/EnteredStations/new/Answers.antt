-- `station_rows::EnteredStations::new` meets its contract: no station is entered.
use Rattle.sheet.specs.Entered.{by_reference, good_of}
use Rattle.station_rows.proofs.EnteredStations.new.Goals as goal

pub returns : goal.returns
returns c file parts closed = record {
  closed = closed;
  kept = c.new-2.ensures.kept file;
  references = c.new.ensures (by_reference parts file);
  sites = c.new-2.ensures.sites file (good_of file parts);
}
