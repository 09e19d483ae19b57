-- Keys as numbers.
use mathlib.Core.Path.{◌≡◌, sym, ap, ◌∙◌}
use mathlib.Core.List.{List}
use Prim.Native.Nat.{ℕ, ◌+◌, ◌*◌, ◌%◌, ◌≤◌}
use native.Mathlib.Omega.{arith}
use lib.ListN.{length, take, drop}
use lib.Dec.{eqb}
use Rattle.columns.specs.Texts.{same}
use Rattle.words.specs.Words.{word_of, word_at}
use Rattle.words.proofs.WordLaws.{Bytes, bytes_take, bytes_drop, word_eqb, word_inside, six_of_eight}
use Rattle.station.specs.Places.{fields_of}
use Rattle.files.specs.Files.{record_at}
use Rattle.stations.specs.Stations.{reference_at, site_at}
use Rattle.stations.proofs.StationLaws.{reference_wide, site_wide}

module _ (file : List ℕ) (b : Bytes file) where
  -- A 13X and its site are bytes,
  reference-bytes : (k : ℕ) → Bytes (reference_at file k)
  unfolding reference_at fields_of record_at
  reference-bytes k =
      let rec : List ℕ = take 219 (drop (219 * k) file) in
      bytes_take 15 (drop 204 rec) (bytes_drop 204 rec (bytes_take 219 (drop (219 * k) file) (bytes_drop (219 * k) file b)))

  pub site-bytes : (k : ℕ) → Bytes (site_at file k)
  unfolding site_at
  site-bytes k = bytes_take 6 (drop 5 (reference_at file k)) (bytes_drop 5 (reference_at file k) (reference-bytes k))

  -- the site's number stands in the file,
  in_file : (k : ℕ) → word_at (reference_at file k) 5 ≡ word_at file (219 * k + 209)
  unfolding reference_at fields_of record_at
  in_file k = word_inside (take 219 (drop (219 * k) file)) 204 15 5 (omega arith) ∙ word_inside file (219 * k) 219 209 (omega arith)

  pub site-there : (k : ℕ) → 219 * k + 219 ≤ length file → word_at file (219 * k + 209) % 281474976710656 ≡ word_of (site_at file k)
  unfolding site_at
  site-there k there =
      ap (λ (w : ℕ). w % 281474976710656) (sym (in_file k)) ∙ six_of_eight (reference_at file k) 5 (rw (reference_wide file k there) (omega arith)) (reference-bytes k)

  -- and tells whether two sites are the same.
  pub sites_same : (i k : ℕ) → 219 * i + 219 ≤ length file → 219 * k + 219 ≤ length file → eqb (word_of (site_at file i)) (word_of (site_at file k)) ≡ same (site_at file i) (site_at file k)
  sites_same i k ti tk = word_eqb (site_at file i) (site_at file k) (site_wide file i ti ∙ sym (site_wide file k tk)) (site-bytes i) (site-bytes k)
