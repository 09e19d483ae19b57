-- The columns of a station whose record is wholly there.
use mathlib.Core.Path.{◌≡◌, sym}
use mathlib.Core.List.{List}
use Prim.Native.Nat.{ℕ, ◌+◌, ◌*◌, ◌≤◌}
use native.Mathlib.Omega.{arith}
use lib.ListN.{length, drop, length-drop}
use lib.Seq.{length-take-le}
use Rattle.station.specs.Places.{fields_of}
use Rattle.files.specs.Files.{record_at}
use Rattle.files.proofs.FileLaws.{record_wide}
use Rattle.stations.specs.Stations.{field_of, reference_at, site_at}

module _ (file : List ℕ) (k : ℕ) (there : 219 * k + 219 ≤ length file) where
  -- Its last column, and each before it, can be read,
  pub column_there : {rec : List ℕ} → rec ≡ record_at file k → (c : ℕ) → c ≤ 219 → c ≤ length rec
  column_there e c h = rw (e, record_wide file k there) h

  -- its 1A has eleven bytes,
  pub amount_wide : length (field_of file k 1) ≡ 11
  unfolding fields_of
  amount_wide = length-take-le 11 (record_at file k) (rw (record_wide file k there) (omega arith))

  -- its 13X fifteen,
  pub reference_wide : length (reference_at file k) ≡ 15
  unfolding reference_at fields_of
  reference_wide = length-take-le 15 (drop 204 (record_at file k)) (rw (length-drop, record_wide file k there) (omega arith))

  -- and operator and site in it six.
  pub site_wide : length (site_at file k) ≡ 6
  unfolding site_at
  site_wide = length-take-le 6 (drop 5 (reference_at file k)) (rw (length-drop, reference_wide) (omega arith))
