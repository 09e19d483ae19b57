-- Small traces: three saves, of the header, of station 7 and of station 298; the same with a space in the second's number; the same with the third cut
-- short; and none.
use Rattle.std.specs.Prelude.{◌≡◌, List, [], ◌∷◌, ◌++◌, ℕ, length, take, replicate}
use Prim.Native.String.{String}
use Rattle.columns.specs.Texts.{bytes}
use Rattle.basics.specs.Fields.{record_length}
use Rattle.traces.specs.Traces.{saved_number, begun, stops_at, ran_of, asked}

-- A record that is one letter, and a save of it.
abbrev pub letters : ℕ → List ℕ
letters c = replicate record_length c

abbrev pub save : String → ℕ → List ℕ
save number c = bytes number ++ letters c

abbrev pub whole : List ℕ
whole = save "000" 65 ++ (save "007" 66 ++ save "298" 67)

abbrev pub spaced : List ℕ
spaced = save "000" 65 ++ (save " 07" 66 ++ save "298" 67)

abbrev pub cut_short : List ℕ
cut_short = take 665 whole

pub record Examples : Type 0 where
  pub size : length (save "000" 65) ≡ 222
  pub header : saved_number (save "000" 65) ≡ 0
  pub last : saved_number (save "298" 67) ≡ 298
  pub all_begin : begun whole ≡ 3
  pub all_run : ran_of whole ≡ 3
  pub none_stops : stops_at whole ≡ 0
  pub space_stops : stops_at spaced ≡ 2
  pub before_the_space : ran_of spaced ≡ 1
  pub cut_begins : begun cut_short ≡ 3
  pub cut_stops : stops_at cut_short ≡ 3
  pub before_the_cut : asked cut_short (ran_of cut_short) ≡ (0, letters 65) ∷ (7, letters 66) ∷ []
  pub nothing : stops_at [] ≡ 0
