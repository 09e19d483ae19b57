-- `station_rows::EnteredStations::enter_station` meets its contract: by its 13X, and by its site.
use Rattle.sheet.specs.Entered.{good_of}
use Rattle.sheet.proofs.EnteredLaws.{good_part}
use Rattle.station_rows.proofs.EnteredStations.enter_station.Goals as goal

pub enter_site-requires : goal.enter_site-requires
enter_site-requires c =
    let some = c.requires.some_entered in
    record {
      has_record = c.requires.has_record;
      le_k = c.requires.le_k;
      kept = some.entered.kept;
      some_sites = record { who = good_of c.args.file.now some.parts; sites = some.entered.sites };
    }

pub returns : goal.returns
returns c parts here so_far =
    record {
      closed = so_far.closed;
      kept = c.enter_site.ensures.kept_2;
      references = (c.enter_reference.ensures parts here so_far.references).1;
      sites = (c.enter_site.ensures.by_index (good_of c.args.file.now parts) (good_part c.args.file.now parts c.args.k here) so_far.sites).1;
    }
