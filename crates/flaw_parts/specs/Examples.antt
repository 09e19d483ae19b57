-- Fields and their flaws, computed: each kind of field, and each flaw that it can have.
use Rattle.std.specs.Prelude.{◌≡◌, refl, List, [], ◌∷◌, ℕ}
use Prim.Native.String.{String}
use Rattle.columns.specs.Sets.{among, is_hex, is_text, is_narrow, is_name}
use Rattle.columns.specs.Texts.{bytes, skip, trimmed, every, how_many, each, byte_good, same, one_of}
use Rattle.numerals.specs.Numbers.{leading, number_from, whole_digits, whole_of, admits_whole, unsigned, signed_of}
use Rattle.decimals.specs.Decimals.{fraction_of, magnitude_of, admits_decimal, decimal_of}
use Rattle.days.specs.Dates.{date_rule, date_in, date_reads}
use Rattle.frequencies.specs.Frequencies.{unit_good}
use Rattle.positions.specs.Positions.{arc_seconds, admits_position, arc_reads, position_reads}
use Rattle.emissions.specs.Emission.{bandwidth_good, detail_good, emission_good}
use Rattle.remarks.specs.Remarks.{cell_good, installation_good, remarks_good}
use Rattle.flaws.specs.Flaws.{flaw_number}
use Rattle.flaw_parts.specs.Parts.{in_some, at_some, day_reads, date_within, day_within, arc_within, position_within, flaw_at}

-- The numbers of the flaws of some texts in field number k, behind the field that stands before it: none 0, byte 1, range 2, shape 3.
abbrev flaws : ℕ → String → List String → List ℕ
flaws k before [] = []
flaws k before (p ∷ ps) = flaw_number (flaw_at k (bytes before) (bytes p)) ∷ flaws k before ps

-- numbers
nine_a : flaws 17 "" ("359.9" ∷ "     " ∷ "360.0" ∷ "999.9" ∷ "36x.0" ∷ "-36.0" ∷ "3600." ∷ "36000" ∷ "3 6.0" ∷ []) ≡ 0 ∷ 0 ∷ 2 ∷ 2 ∷ 1 ∷ 1 ∷ 3 ∷ 3 ∷ 3 ∷ []
unfolding among skip every leading number_from unsigned fraction_of magnitude_of decimal_of admits_whole admits_decimal
nine_a = refl

nine_b : flaws 18 "" ("-90.0" ∷ "-90.1" ∷ " 99.9" ∷ "9-0.0" ∷ "90,0 " ∷ []) ≡ 0 ∷ 2 ∷ 2 ∷ 3 ∷ 1 ∷ []
unfolding among skip every leading number_from unsigned fraction_of magnitude_of decimal_of admits_whole admits_decimal
nine_b = refl

eight_b : flaws 15 "" ("-999.9" ∷ "1000.0" ∷ "12.34 " ∷ "12.3dB" ∷ []) ≡ 0 ∷ 3 ∷ 3 ∷ 1 ∷ []
unfolding among skip every leading number_from unsigned fraction_of magnitude_of decimal_of admits_whole admits_decimal
eight_b = refl

one_a : flaws 1 "" ("00000.00000" ∷ "00000.00001" ∷ "          0" ∷ "100000.0000" ∷ "    1.5 MHz" ∷ []) ≡ 2 ∷ 0 ∷ 3 ∷ 3 ∷ 1 ∷ []
unfolding among skip every leading number_from unsigned fraction_of magnitude_of decimal_of admits_whole admits_decimal
one_a = refl

-- a unit at odds with its frequency
unit_odd : flaws 2 "  433.92   " ("M" ∷ " " ∷ "m" ∷ []) ≡ 0 ∷ 2 ∷ 1 ∷ []
unfolding among skip every each byte_good unit_good
unit_odd = refl

unit_blank : flaws 2 "           " (" " ∷ "k" ∷ "T" ∷ []) ≡ 0 ∷ 2 ∷ 1 ∷ []
unfolding among skip every each byte_good unit_good
unit_blank = refl

-- 4Z: -1000 has five places, so a height cannot be read and be out of range where it has its four columns
four_z : flaws 13 "" ("9999" ∷ "-999" ∷ "+999" ∷ "9-99" ∷ "12.5" ∷ "12 3" ∷ []) ≡ 0 ∷ 0 ∷ 0 ∷ 3 ∷ 1 ∷ 3 ∷ []
unfolding among skip every leading number_from whole_digits unsigned signed_of admits_whole
four_z = refl

four_d : flaws 12 "" ("99999" ∷ "    0" ∷ "     " ∷ "1 234" ∷ "-1234" ∷ []) ≡ 0 ∷ 0 ∷ 3 ∷ 3 ∷ 1 ∷ []
unfolding among skip every leading number_from whole_digits whole_of admits_whole
four_d = refl

-- dates
two_c : flaws 8 "" ("01011901" ∷ "        " ∷ "01011900" ∷ "32011999" ∷ "01131999" ∷ "00000000" ∷ "0101190x" ∷ "010119 1" ∷ " 1011999" ∷ []) ≡ 0 ∷ 0 ∷ 2 ∷ 2 ∷ 2 ∷ 2 ∷ 1 ∷ 3 ∷ 3 ∷ []
unfolding among skip every each number_from date_rule date_in admits_whole date_reads day_reads date_within day_within
two_c = refl

-- 4C
four_c : flaws 11 "" ("180E000090N0000" ∷ "180E000100N0000" ∷ "180E000190N0000" ∷ "179E596089N5959" ∷ "181E000000N0000" ∷ "180E0000  N0000" ∷ "180N000090E0000" ∷ "180E000090X0000" ∷ "180e000090N0000" ∷ []) ≡ 0 ∷ 2 ∷ 2 ∷ 2 ∷ 2 ∷ 3 ∷ 3 ∷ 1 ∷ 1 ∷ []
unfolding among skip every leading number_from whole_digits whole_of arc_seconds admits_whole admits_position arc_reads position_reads arc_within position_within
four_c = refl

-- choices, letters, texts, 7A and 13Z: a byte or a shape
six_a : flaws 4 "" ("FB" ∷ "BF" ∷ "FX" ∷ []) ≡ 0 ∷ 3 ∷ 1 ∷ []
unfolding among every same one_of in_some
six_a = refl

six_z : flaws 6 "" ("AB" ∷ "A " ∷ " A" ∷ "AJ" ∷ []) ≡ 0 ∷ 0 ∷ 3 ∷ 1 ∷ []
unfolding among every each at_some
six_z = refl

four_b : flaws 10 "" ("D  " ∷ "   " ∷ "D D" ∷ "d  " ∷ []) ≡ 0 ∷ 3 ∷ 3 ∷ 1 ∷ []
unfolding among skip trimmed every
four_b = refl

one_z : flaws 3 "" ("1" ∷ "9" ∷ []) ≡ 0 ∷ 1 ∷ []
unfolding every each byte_good
one_z = refl

seven_a : flaws 14 "" ("16K0F3E  " ∷ "16K0F3E N" ∷ "K160F3E  " ∷ "16K0F3I  " ∷ []) ≡ 0 ∷ 3 ∷ 3 ∷ 1 ∷ []
unfolding among every how_many at_some bandwidth_good detail_good emission_good
seven_a = refl

thirteen_z : flaws 26 "" ("                                                  " ∷ "2        A 0Itext                                 " ∷ "1        A 0Itext                                 " ∷ "2        A 0Itext_                                " ∷ []) ≡ 0 ∷ 0 ∷ 3 ∷ 1 ∷ []
unfolding among skip every same one_of is_hex is_text cell_good installation_good remarks_good
thirteen_z = refl

-- 4A, 9XH and 13X
four_a : flaws 9 "" ("1010_MUSTER         " ∷ "1010_               " ∷ "1010 MUSTER         " ∷ "1010_MUSTER&        " ∷ []) ≡ 0 ∷ 0 ∷ 3 ∷ 1 ∷ []
unfolding among every each at_some is_text is_name
four_a = refl

nine_x : flaws 22 "" ("000ND00" ∷ "00ND000" ∷ "000nd00" ∷ "000 D00" ∷ []) ≡ 0 ∷ 3 ∷ 1 ∷ 1 ∷ []
unfolding every each at_some
nine_x = refl

thirteen_x : flaws 30 "" ("AUT2311AB01A001" ∷ "AUT231AAB01A001" ∷ "AUT2311AB01 001" ∷ "aut2311AB01A001" ∷ []) ≡ 0 ∷ 3 ∷ 1 ∷ 1 ∷ []
unfolding every each at_some is_narrow
thirteen_x = refl
