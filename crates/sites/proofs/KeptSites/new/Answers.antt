-- `sites::KeptSites::new` meets its contract: no code is kept, and no site.
use Rattle.sites.specs.Sites.{at_site}
use Rattle.sites.proofs.KeptLaws.{none_kept}
use Rattle.sites.proofs.SiteLaws.{no_sites}
use Rattle.sites.proofs.KeptSites.new.Goals as goal

pub returns : goal.returns
returns c = record {
  kept = λ file. none_kept file;
  sites = λ file who. no_sites file who _ _ (c.new.ensures (at_site who file));
}
