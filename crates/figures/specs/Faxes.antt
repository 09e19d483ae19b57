-- Document 02, wish 10: a header whose fax is filled, judged, read, written and shown; computed from the definitions.
use Rattle.std.specs.Prelude.{ℕ, ◌≡◌, List, take, drop}
use Prim.Native.String.{String}
use Rattle.columns.specs.Texts.{bytes}
use Rattle.showing.specs.Showing.{shown_field}
use Rattle.header.specs.Places.{fax}
use Rattle.header.specs.Spelling.{spell_header}
use Rattle.header.specs.Codes.{header_value, header_code}
use Rattle.figures.specs.Samples.{header_with}

-- A stranger's number, and none.
abbrev pub stranger : String
stranger = "+43 1 5550199       "

abbrev pub none : String
none = "                    "

-- What the definitions make of these.
pub record NoFax : Type 0 where
  -- Rule 7 judges the columns as before.
  pub filled_passes : header_code (header_with fax stranger) ≡ 0
  pub blank_passes : header_code (header_with fax none) ≡ 0
  pub at_breaks : header_code (header_with fax "fax@example.at      ") ≡ 7
  pub indent_breaks : header_code (header_with fax " 43 1 5550199       ") ≡ 7
  -- What is read has no fax, and spaces are written for it.
  pub read_without : header_value (header_with fax stranger) ≡ header_value (header_with fax none)
  pub written_blank : take 20 (drop 146 (spell_header (header_value (header_with fax stranger)))) ≡ bytes none
  -- Showing keeps the bytes of the file.
  pub shown_filled : shown_field (header_with fax stranger) 0 7 ≡ bytes stranger
