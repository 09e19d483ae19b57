-- What holds of every station that is handed out: it is accepted once it is written, it is an ML station, and its name gives its number back.
use Rattle.std.specs.Prelude.{Ok}
use mathlib.Core.Path.{◌≡◌, refl, sym, ap, ◌∙◌}
use mathlib.Core.Bool.{Bool, true, false, not}
use mathlib.Core.List.{List, [], ◌∷◌, ◌++◌}
use Prim.Native.Nat.{ℕ}
use lib.Dec.{eqb}
use borrow.Author.Tests.{eqb-true, not-false}
use Rattle.frequencies.specs.declared.Frequency.{Frequency}
use Rattle.columns.specs.Texts.{bytes, same}
use Rattle.columns.proofs.TextLaws.{and_split}
use Rattle.basics.specs.Outcomes.{refusal, first_refusal}
use Rattle.basics.proofs.RefusalLaws.{done, if_done_lem, NoneApplies, none_applies}
use Rattle.station.specs.Values.{empty_station}
use Rattle.station.specs.Codes.{value_of, station_code, typed_code}
use Rattle.station.specs.Spelling.{spell_station}
use Rattle.station.specs.declared.Station.{Station}
use Rattle.station.proofs.RoundTrip.{write_keeps, read_back}
use Rattle.vehicles.specs.Names.{name_of, number_in}
use Rattle.vehicles.proofs.NameLaws.{number_back}
use Rattle.carriage.specs.Building.{are_defaults, carriage_of, build_tests, build_outcome, built_station}
use Rattle.std.specs.Prelude.{Option, ℤ}

module _ (number : List ℕ) (transmit : Option Frequency) (power : Option ℤ) (reference : List ℕ) (s : Station) (e : build_outcome number transmit power reference s ≡ Ok tt) where
  abbrev handed : Station
  handed = built_station number transmit power reference s

  abbrev own : Station
  own = carriage_of number transmit power reference s

  is_own : handed ≡ own
  unfolding built_station refusal
  is_own = if_done_lem (build_outcome number transmit power reference s) own empty_station (ap done e)

  -- every test was passed
  none : NoneApplies (build_tests number transmit power reference s)
  unfolding build_outcome refusal
  none = none_applies (build_tests number transmit power reference s) refl (ap done e)

  -- It breaks no rule,
  pub handed_fits : typed_code handed ≡ 0
  handed_fits = ap typed_code is_own ∙ eqb-true (typed_code own) 0 (not-false _ none.1.1.1.0)

  -- so that our reader accepts it once it is written,
  pub handed_accepted : station_code (spell_station handed) ≡ 0
  handed_accepted = write_keeps handed handed_fits

  -- and reads it back.
  pub handed_back : value_of (spell_station handed) ≡ handed
  handed_back = read_back handed handed_fits

  -- It is an ML station,
  pub handed_mobile : same (bytes "ML") handed.channel.class ≡ true
  unfolding are_defaults carriage_of
  handed_mobile = ap (λ (x : Station). same (bytes "ML") x.channel.class) is_own ∙ (and_split (eqb (typed_code s) 0) (same (bytes "ML") s.channel.class) (not-false _ none.1.1.0)).1

  -- its name is the carriage's,
  pub handed_name : handed.site.name ≡ name_of number
  unfolding carriage_of
  handed_name = ap (λ (x : Station). x.site.name) is_own

  -- and the number is read back from it.
  pub handed_number : number_in handed.site.name ≡ number
  handed_number = ap number_in handed_name ∙ number_back number (not-false _ none.0) (not-false _ none.1.0)
