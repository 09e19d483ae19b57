-- `distances::fits_radius` meets its contract: it is the rule on whole numbers in five columns.
use Rattle.distances.specs.Distances.{radius_fits}
use Rattle.distances.proofs.fits_radius.Goals as goal

pub returns : goal.returns
unfolding radius_fits
returns c = c.fits_whole.ensures
