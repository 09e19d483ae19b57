-- One half of 4C over the columns of its degrees: what was read of it keeps its rule and says its value.
use mathlib.Core.Path.{◌≡◌}
use mathlib.Core.Bool.{true, false, ◌&&◌, ◌||◌}
use mathlib.Core.List.{List}
use Prim.Native.Nat.{ℕ, ◌+◌, ◌*◌, ◌^◌, ◌≤◌, ◌<◌}
use Prim.Native.Char.{Char, code}
use Prim.Native.String.{String}
use Prim.Native.String as text
use native.Mathlib.Omega.{arith}
use lib.ListN.{get_or, take, drop}
use lib.Dec.{leb, eqb}
use borrow.Author.Tests.{leb-true}
use Rattle.columns.specs.Sets.{among}
use Rattle.numerals.specs.Numbers.{whole_of, whole_filled, amount, with_sign}
use Rattle.columns.proofs.TextLaws.{and_split}
use Rattle.positions.specs.Positions.{whole_there, arc_seconds, arc_good, arc_of, arc_reads}
use Rattle.std.specs.Prelude.{Option, Result}
use Rattle.numerals.specs.declared.Unread.{Unread}

-- the columns of one half, as they were read
module _ (d : ℕ) (p : List ℕ) {g m s : Result (Option ℕ) Unread} {c : ℕ} (h : (g ≡ whole_of (take d p)) × (c ≡ get_or p d 0) × (m ≡ whole_of (take 2 (drop (d + 1) p))) × (s ≡ whole_of (take 2 (drop (d + 3) p)))) where
  -- keep its rule where it does,
  pub arc_good_lem : (plus minus : Char) (degrees : ℕ)
      → ((whole_filled g && leb (amount g) degrees) && (eqb c (code plus) || (eqb c (code minus) || false)) && (whole_filled m && leb (amount m) 59) && (whole_filled s && leb (amount s) 59) && leb (3600 * amount g + 60 * amount m + amount s) (3600 * degrees))
      ≡ arc_good d (text.◌∷◌ plus (text.◌∷◌ minus text.[])) degrees p
  unfolding arc_good arc_seconds among
  arc_good_lem plus minus degrees = rw (h.0, h.1, h.2, h.3)

  -- can be read where they can,
  pub arc_reads_lem : (plus minus : Char) → (whole_filled g && (eqb c (code plus) || (eqb c (code minus) || false)) && whole_filled m && whole_filled s) ≡ arc_reads d (text.◌∷◌ plus (text.◌∷◌ minus text.[])) p
  unfolding arc_reads among
  arc_reads_lem plus minus = rw (h.0, h.1, h.2, h.3)

  -- say its value,
  pub arc_value : (minus : Char) → with_sign (eqb c (code minus)) (3600 * amount g + 60 * amount m + amount s) ≡ arc_of d minus p
  unfolding arc_of arc_seconds
  arc_value minus = rw (h.0, h.1, h.2, h.3)

  -- and, where they keep it, say less than a million seconds
  pub arc_few : (letters : String) (degrees : ℕ) → arc_good d letters degrees p ≡ true → degrees ≤ 180 → 3600 * amount g + 60 * amount m + amount s < 10 ^ 6
  unfolding arc_good arc_seconds
  arc_few letters degrees e l =
      let t = and_split (whole_there degrees 0 d p && among letters (get_or p d 0) && whole_there 59 (d + 1) 2 p && whole_there 59 (d + 3) 2 p) (leb (arc_seconds d p) (3600 * degrees)) e in
      rw (h.0, h.2, h.3) (omega (arith, leb-true (arc_seconds d p) (3600 * degrees) t.1))
