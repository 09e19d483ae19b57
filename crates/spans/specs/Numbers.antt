-- Document 02, wish 13: the kinds of entry that are numbers, over their lowest and highest.
use Rattle.std.specs.Prelude.{ℕ, Bool, true, false, List, [], ℤ, Option, Some, None}
use Rattle.numerals.specs.Numbers.{whole_of, amount, signed_of, admits_whole}
use Rattle.formats.specs.Formats.{may_sign, format_of}
use Rattle.formats.specs.declared.Format.{Format}
use Rattle.flaws.specs.Flaws.{ranged}
use Rattle.decimals.specs.Decimals.{admits_decimal}
use Rattle.flaw_parts.specs.Parts.{whole_there, bounded, numbered, flaw_in}
use Rattle.flaws.specs.declared.Flaw.{Flaw}
use Rattle.flaws.specs.declared.Flaw.TheVariants as flaw
use Rattle.spans.specs.Spans.{from_to, span}
use Rattle.distances.specs.declared.Metres.{Metres}

-- A field that has this flaw was read, in its range or not.
abbrev pub was_read : Flaw → Bool
was_read flaw.None = true
was_read flaw.Byte = false
was_read flaw.Range = true
was_read flaw.Shape = false
was_read flaw.Between = true

-- The flaw of what was read, by a range.
abbrev pub said_tenths : (ℤ → Bool) → Option ℤ → Flaw
said_tenths range None = flaw.None
said_tenths range (Some z) = ranged (range z)

abbrev pub said_height : (ℤ → Bool) → Option Metres → Flaw
said_height range None = flaw.None
said_height range (Some m) = ranged (range m.0)

-- ---- the kinds

-- A decimal,
unfoldable pub decimal_entry : Format → ℕ → ℕ → List ℕ → Flaw
decimal_entry f low high p = flaw_in (numbered (admits_decimal (may_sign f)) (span (may_sign f) low high) (format_of f)) [] p

-- a whole number with a sign,
unfoldable pub height_entry : ℕ → ℕ → List ℕ → Flaw
height_entry low high p = flaw_in (numbered (admits_whole true) (span true low high) signed_of) [] p

-- and a whole number that has to be there.
unfoldable pub whole_entry : ℕ → ℕ → List ℕ → Flaw
whole_entry low high p = flaw_in (bounded (admits_whole false) whole_there (λ q. from_to low high (amount (whole_of q)))) [] p
