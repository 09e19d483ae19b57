-- What is kept of sites while the stations of one file are judged: the first station of each, and the first beside it that stands elsewhere.
use Rattle.std.specs.Prelude.{ℕ, ◌-◌, ◌≡◌, Bool, List, eqb}
use Rattle.stations.specs.Stations.{code_at}
use Rattle.standing.specs.Standing.{stand_alike}
use Rattle.forms.specs.Counting.{first}
use Rattle.chains.specs.declared.keys.Key.TheVariants as key
use Rattle.chains.specs.Chains.{Search, Chains}
use Rattle.chains.specs.Seconds.{apart, Seconds}
use Rattle.chains.specs.Keys.{lookup}
use Rattle.sites.specs.declared.KeptSites.{KeptSites}

-- Stations are looked up by operator and site.
abbrev pub at_site : (ℕ → Bool) → List ℕ → Search
at_site who file = lookup key.Site who file

-- Station k takes part if it breaks no rule.
abbrev pub GoodTakesPart : List ℕ → (ℕ → Bool) → ℕ → Type 0
GoodTakesPart file who k = who k ≡ eqb (code_at file k) 0

-- The first station before k at its site that stands elsewhere: its clash, if it breaks no rule.
abbrev pub first_elsewhere : List ℕ → (ℕ → Bool) → ℕ → ℕ
first_elsewhere file who k = first (apart (at_site who file) (stand_alike file) k) (k - 1)

-- The sites of the stations to m that take part are kept;
pub record Sites (file : List ℕ) (who : ℕ → Bool) (kept : KeptSites) (m : ℕ) : Type 0 where
  pub chains : Chains (at_site who file) kept.chain m
  pub elsewhere : Seconds (at_site who file) (stand_alike file) kept.seconds m

-- and so they are, whoever takes part.
pub record SomeSites (file : List ℕ) (kept : KeptSites) (m : ℕ) : Type 0 where
  pub who : ℕ → Bool
  pub sites : Sites file who kept m
