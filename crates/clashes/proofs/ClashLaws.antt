-- A station's clash, by its site: the first that stands elsewhere, of those that take part.
use mathlib.Core.Path.{◌≡◌, refl, sym}
use mathlib.Core.Bool.{Bool, true, false, not, ◌&&◌, and_comm, and-false}
use mathlib.Core.List.{List}
use Prim.Native.Nat.{ℕ, zero, suc, ◌-◌}
use lib.Dec.{eqb}
use borrow.Author.Tests.{eq-eqb, ne_eqb}
use Rattle.columns.specs.Texts.{same}
use Rattle.columns.proofs.SameLaws.{same_true}
use Rattle.stations.specs.Stations.{code_at, site_at}
use Rattle.standing.specs.Standing.{stand_alike}
use Rattle.forms.specs.Counting.{first}
use Rattle.forms.proofs.CountLaws.{first_cong}
use Rattle.chains.specs.Chains.{bears}
use Rattle.chains.specs.Seconds.{apart}
use Rattle.chains.specs.Keys.{key_at}
use Rattle.clashes.specs.Clashes.{clashing, clash_at}
use Rattle.sites.specs.Sites.{at_site, GoodTakesPart, first_elsewhere}

-- the last of four tests fails
last_fails : (a b c d : Bool) → d ≡ false → (a && (b && (c && d))) ≡ false
last_fails true true true d e = e
last_fails true true false d e = refl
last_fails true false c d e = refl
last_fails false b c d e = refl

module _ (file : List ℕ) (k : ℕ) where
  -- a station that breaks a rule clashes with none
  never : (code_at file k ≡ 0 → ⊥) → (i : ℕ) → clashing file k i ≡ false
  unfolding clashing
  never n i = last_fails (same (site_at file i) (site_at file k)) (not (stand_alike file i k)) (eqb (code_at file i) 0) (eqb (code_at file k) 0) (ne_eqb (code_at file k) 0 n)

  none : (code_at file k ≡ 0 → ⊥) → (m : ℕ) → first (clashing file k) m ≡ 0
  none n zero = refl
  none n (suc m) = rw (none n m, never n (suc m))

  -- A station that breaks a rule has no clash.
  pub own-broken : (code_at file k ≡ 0 → ⊥) → 0 ≡ clash_at file k
  unfolding clash_at
  own-broken n = sym (none n (k - 1))

  -- the two tests agree
  tests_agree : (who : ℕ → Bool) (i : ℕ) → (site_at file i ≡ site_at file k → GoodTakesPart file who i) → code_at file k ≡ 0 → apart (at_site who file) (stand_alike file) k i ≡ clashing file k i
  unfolding apart bears key_at clashing
  tests_agree who i here good = by_case (same (site_at file i) (site_at file k)) refl
    where
      by_case : (b : Bool) → same (site_at file i) (site_at file k) ≡ b
          → ((who i && same (site_at file i) (site_at file k)) && not (stand_alike file i k)) ≡ (same (site_at file i) (site_at file k) && (not (stand_alike file i k) && (eqb (code_at file i) 0 && eqb (code_at file k) 0)))
      by_case true e = rw (e, here (same_true (site_at file i) (site_at file k) e), eq-eqb (code_at file k) 0 good) (and_comm (eqb (code_at file i) 0 && true) (not (stand_alike file i k)))
      by_case false e = rw (e, and-false (who i))

  -- One that breaks none clashes with the first that stands elsewhere, where of its site those take part that break no rule.
  pub own_good : (who : ℕ → Bool) → ((i : ℕ) → site_at file i ≡ site_at file k → GoodTakesPart file who i) → code_at file k ≡ 0 → first_elsewhere file who k ≡ clash_at file k
  unfolding clash_at
  own_good who here good = first_cong (apart (at_site who file) (stand_alike file) k) (clashing file k) (k - 1) (λ i l. tests_agree who (suc i) (here (suc i)) good)
