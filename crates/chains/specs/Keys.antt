-- The keys that stations of a file are looked up by, who takes part, and the slot of a key.
use Rattle.std.specs.Prelude.{ℕ, ◌+◌, ◌-◌, ◌/◌, ◌%◌, Bool, ◌≡◌, List}
use Rattle.words.specs.Words.{word_of, word_at}
use Rattle.stations.specs.Stations.{reference_at, site_at}
use Rattle.chains.specs.declared.chaining.Chain.{Chain}
use Rattle.chains.specs.declared.keys.Key.{Key}
use Rattle.chains.specs.declared.keys.Key.TheVariants as key
use Rattle.chains.specs.Chains.{Search, last, chained, Linked, Chains}

-- All of 13X, or operator and site in it.
unfoldable pub key_at : Key → List ℕ → ℕ → List ℕ
key_at key.Reference file k = reference_at file k
key_at key.Site file k = site_at file k

-- A number below the slots from all bytes of a key; no law asks more of it.
unfoldable pub reference_slot : List ℕ → ℕ
reference_slot mine = (word_at mine 0 / 2 + word_at mine 7 / 2) % 251

unfoldable pub slot_of : Key → List ℕ → ℕ
slot_of key.Reference mine = reference_slot mine
slot_of key.Site mine = word_of mine % 251

-- What is looked up in a file, among those who take part.
abbrev pub lookup : Key → (ℕ → Bool) → List ℕ → Search
lookup key who file = record { takes = who; key = key_at key file; slot = slot_of key }

-- The stations to m are chained, whoever takes part.
pub record Chained (key : Key) (file : List ℕ) (chain : Chain) (m : ℕ) : Type 0 where
  pub who : ℕ → Bool
  pub chains : Chains (lookup key who file) chain m

-- Where some take part, those before k are linked, and start is the highest in the chain of station k's slot.
pub record Begun (key : Key) (file nexts : List ℕ) (start k : ℕ) (who : ℕ → Bool) : Type 0 where
  pub links : Linked (lookup key who file) nexts (k - 1)
  pub top : start ≡ last (chained (lookup key who file) (slot_of key (key_at key file k))) (k - 1)

-- So it is, whoever takes part.
pub record Startable (key : Key) (file nexts : List ℕ) (start k : ℕ) : Type 0 where
  pub who : ℕ → Bool
  pub begun : Begun key file nexts start k who
