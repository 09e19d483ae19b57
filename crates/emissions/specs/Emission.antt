-- Document 01: 7A, the designation of an emission, from ITU Radio Regulations, Appendix 1.
use Rattle.std.specs.Prelude.{ℕ, Bool, not, ◌&&◌, ◌||◌, List, get_or, take, eqb}
use Rattle.columns.specs.Sets.{is, is_digit, among}
use Rattle.columns.specs.Texts.{head, how_many, sized}

-- Four bandwidth places hold three digits and one of H, K, M, G, the first place neither 0, K, M nor G.
unfoldable pub bandwidth_good : List ℕ → Bool
bandwidth_good p =
    sized 4 p && eqb (how_many is_digit p) 3 && eqb (how_many (among "HKMG") p) 1 && not (among "0KMG" (head p))

-- The next three are one of these each: modulation, signal and information.
abbrev pub is_modulation : ℕ → Bool
is_modulation c = among "NAHRJBCFGDPKLMQVWX" c

abbrev pub is_signal : ℕ → Bool
is_signal c = among "0123789X" c

abbrev pub is_information : ℕ → Bool
is_information c = among "NABCDEFWX" c

-- The eighth place and the ninth, where they are not blank.
abbrev pub is_detail : ℕ → Bool
is_detail c = among "ABCDEFGHJKLMNWX" c

abbrev pub is_multiplex : ℕ → Bool
is_multiplex c = among "NCFTWX" c

-- Both blank, or a detail, followed by blank or a multiplex.
unfoldable pub detail_good : ℕ → ℕ → Bool
detail_good x y = (is " " x && is " " y) || (is_detail x && (is " " y || is_multiplex y))

-- The rule on the columns.
unfoldable pub emission_good : List ℕ → Bool
emission_good p =
    sized 9 p
    && (bandwidth_good (take 4 p)
    && is_modulation (get_or p 4 0)
    && is_signal (get_or p 5 0)
    && is_information (get_or p 6 0)
    && detail_good (get_or p 7 0) (get_or p 8 0))
