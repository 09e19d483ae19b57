-- Document 02, wish 13: what an entry of the table means, by the number of its kind. Nothing is meant here that the station's table does not say.
use Rattle.std.specs.Prelude.{ℕ, ◌%◌, Bool, cond, ◌&&◌, List, [], ◌∷◌, ltb, leb, eqb, get_or}
use Rattle.std.specs.Bool.{beq}
use Rattle.columns.specs.Sets.{among}
use Rattle.columns.specs.Texts.{blank, byte_good}
use Rattle.formats.specs.declared.Format.TheVariants as format
use Rattle.flaws.specs.Flaws.{letter_of}
use Rattle.flaw_parts.specs.Parts.{plain, flaw_in, flaw_at}
use Rattle.flaws.specs.declared.Flaw.{Flaw}
use Rattle.flaws.specs.declared.Flaw.TheVariants as flaw
use Rattle.spans.specs.Numbers.{decimal_entry, height_entry, whole_entry}

-- The flaw of a field of one byte, by its length and whether its bytes are admitted.
abbrev pub one_byte : ℕ → Bool → Flaw
one_byte n admitted = cond admitted (cond (eqb n 1) flaw.None flaw.Shape) flaw.Byte

-- a byte from the lowest to the highest,
abbrev pub one_of_set : (ℕ → Bool) → List ℕ → Flaw
one_of_set set p = flaw_in (plain set (byte_good set)) [] p

unfoldable pub between_entry : ℕ → ℕ → List ℕ → Flaw
between_entry low high p = one_of_set (λ c. leb low c && leb c high) p

-- one of these two,
unfoldable pub either_entry : ℕ → ℕ → List ℕ → Flaw
either_entry low high p = one_of_set (letter_of (low % 256 ∷ high % 256 ∷ [])) p

-- and a unit's letter or a space.
unfoldable pub unit_entry : List ℕ → Flaw
unit_entry p = one_of_set (among "kMG ") p

-- A decimal has its digits before the point by its length: two in four columns, or in five with a sign, and else three.
abbrev pub plain_decimal : ℕ → ℕ → ℕ → List ℕ → Flaw
plain_decimal w low high p = decimal_entry (cond (eqb w 4) format.Gain format.Azimuth) low high p

abbrev pub signed_decimal : ℕ → ℕ → ℕ → List ℕ → Flaw
signed_decimal w low high p = decimal_entry (cond (eqb w 5) format.Elevation format.Power) low high p

-- By the number of the kind, on the entry's length, lowest and highest. The first seven may be blank of themselves.
abbrev pub kinds : List (ℕ → ℕ → ℕ → List ℕ → Flaw)
kinds =
    (λ w low high p. flaw_at 26 [] p) ∷  -- 0 13Z
    (λ w low high p. decimal_entry format.Frequency low high p) ∷  -- 1 a frequency without its unit
    plain_decimal ∷  -- 2 a decimal without a sign
    signed_decimal ∷  -- 3 a decimal with a sign
    (λ w low high p. height_entry low high p) ∷  -- 4 a whole number with a sign
    (λ w low high p. flaw_at 8 [] p) ∷  -- 5 a date
    (λ w low high p. unit_entry p) ∷  -- 6 a unit
    (λ w low high p. whole_entry low high p) ∷  -- 7 a whole number
    (λ w low high p. between_entry low high p) ∷  -- 8 a byte from lowest to highest
    (λ w low high p. either_entry low high p) ∷  -- 9 one of two bytes
    (λ w low high p. flaw_at 4 [] p) ∷  -- 10 a class of station
    (λ w low high p. flaw_at 5 [] p) ∷  -- 11 a nature of service
    (λ w low high p. flaw_at 6 [] p) ∷  -- 12 a category of users
    (λ w low high p. flaw_at 9 [] p) ∷  -- 13 a station's name
    (λ w low high p. flaw_at 10 [] p) ∷  -- 14 a country
    (λ w low high p. flaw_at 11 [] p) ∷  -- 15 4C
    (λ w low high p. flaw_at 14 [] p) ∷  -- 16 7A
    (λ w low high p. flaw_at 19 [] p) ∷  -- 17 a polarisation
    (λ w low high p. flaw_at 22 [] p) ∷  -- 18 a type of antenna
    (λ w low high p. flaw_at 30 [] p) ∷  -- 19 a reference
    []

unfoldable pub kind_flaw : ℕ → ℕ → ℕ → ℕ → List ℕ → Flaw
kind_flaw k w low high p = get_or kinds k (λ w low high p. flaw.Shape) w low high p

-- Whether a field may be blank is the entry's: what the kind says of itself, or the other.
unfoldable pub entry_flaw : ℕ → ℕ → ℕ → ℕ → ℕ → List ℕ → Flaw
entry_flaw k w low high allowed p =
    let said = kind_flaw k w low high p in
    cond (beq (ltb k 7) (eqb allowed 1)) said (cond (blank p) (cond (eqb allowed 1) flaw.None flaw.Shape) said)
