-- `reading::typed::station_in` meets its contract, group by group.
use Rattle.reading.proofs.typed.station_in.Goals as goal

pub returns : goal.returns
returns c =
    λ k. record {
      channel = c.channel_in.ensures k;
      site = c.site_in.ensures k;
      emission = c.emission_in.ensures k;
      antenna = c.antenna_in.ensures k;
      coordination = c.coordination_in.ensures k;
    }
