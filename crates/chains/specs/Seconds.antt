-- Beside the first bearer of a key, the first that is unlike it.
use Rattle.std.specs.Prelude.{ℕ, ◌≤◌, ◌≡◌, Bool, true, not, ◌&&◌, List, length, get_or}
use Rattle.forms.specs.Counting.{first}
use Rattle.chains.specs.Chains.{Search, bears, leads, record_numbers}

-- Station i bears the key of station k and is unlike it.
unfoldable pub apart : Search → (ℕ → ℕ → Bool) → ℕ → ℕ → Bool
apart s alike k i = bears s k i && not (alike i k)

-- Being alike cuts the stations into classes.
pub record Classes (alike : ℕ → ℕ → Bool) : Type 0 where
  pub itself : (i : ℕ) → alike i i ≡ true
  pub like : (i j k : ℕ) → alike j k ≡ true → alike i j ≡ alike i k

-- Each station to m that leads has in seconds the first one to m that is apart from it, or 0.
pub record Seconds (s : Search) (alike : ℕ → ℕ → Bool) (seconds : List ℕ) (m : ℕ) : Type 0 where
  pub size : length seconds ≡ record_numbers
  pub right : (f : ℕ) → 1 ≤ f → f ≤ m → leads s f ≡ true → get_or seconds f 0 ≡ first (apart s alike f) m
