-- A unit by its own entry and its rows of the second table is the unit that the station's table asks of the field before it.
use mathlib.Core.Path.{◌≡◌, refl, sym, ap, ◌∙◌}
use mathlib.Core.Bool.{Bool, true, false, cond, not, ◌&&◌, ◌||◌, false≢true, and-true}
use mathlib.Core.List.{List, [], ◌∷◌}
use Prim.Native.Nat.{ℕ, suc, ◌-◌}
use native.Mathlib.Omega.{arith}
use lib.Dec.{eqb}
use borrow.Author.Tests.{eqb-true, ne_eqb}
use Rattle.columns.specs.Sets.{is, among}
use Rattle.columns.specs.Texts.{ended, skip, blank, every, each, byte_good}
use Rattle.columns.proofs.TextLaws.{and_split}
use Rattle.frequencies.specs.Frequencies.{unit_good}
use Rattle.basics.specs.Fields.{at}
use Rattle.fields.specs.Kinds.{Kind, amount, unit, byte, choice, text, dropped, remarks, date, date_or_blank, tenths, kilometres, metres, metres_or_blank, position, whole, whole_or_blank}
use Rattle.fields.specs.Rows.{Row}
use Rattle.fields.specs.Table.{station_table}
use Rattle.flaws.specs.Flaws.{flawless, ranged}
use Rattle.flaw_parts.specs.Parts.{parts, flaw_in, flaws_from}
use Rattle.flaws.specs.declared.Flaw.{Flaw}
use Rattle.flaws.specs.declared.Flaw.TheVariants as flaw
use Rattle.entries.specs.Entries.{unit_entry}
use Rattle.rule_tables.specs.Told.{rows_kept, unit_kept, flaw_told, flaws_told}

agree : (k : ℕ) → (k ≡ 0 → ⊥) → (x y : Bool) → rows_kept k x y ≡ cond x y (not y)
agree k n true true = refl
agree k n true false = ne_eqb k 0 n
agree k n false true = ne_eqb k 0 n
agree k n false false = refl

-- a letter of a unit is no space, and what is one of the four and no space is a letter
space_apart : (c : ℕ) → among "kMG " c ≡ true → among "kMG" c ≡ not (is " " c)
unfolding among
space_apart c h = by (is "k" c) (is "M" c) (is "G" c) (is " " c) h (λ e. ap (among "kMG") (eqb-true c 32 e)) where
  by : (a b d s : Bool) → (a || (b || (d || (s || false)))) ≡ true → (s ≡ true → (a || (b || (d || false))) ≡ false) → (a || (b || (d || false))) ≡ not s
  by a b d true h f = f refl
  by true b d false h f = refl
  by false true d false h f = refl
  by false false true false h f = refl
  by false false false false h f = absurd (false≢true h)

-- a unit of one byte that is admitted agrees with its frequency exactly where both are filled or both are blank
in_range : (before : List ℕ) (c : ℕ) → among "kMG " c ≡ true → cond (not (blank before)) (not (blank (c ∷ []))) (not (not (blank (c ∷ [])))) ≡ unit_good before (c ∷ [])
unfolding unit_good each skip
in_range before c h = by (blank before) (is " " c) (among "kMG" c) (space_apart c h) where
  by : (b s m : Bool) → m ≡ not s → cond (not b) (not (ended (cond s [] (c ∷ [])))) (not (not (ended (cond s [] (c ∷ []))))) ≡ cond b (s && true) (m && true)
  by true true m e = refl
  by true false m e = refl
  by false true m e = sym (and-true m ∙ e)
  by false false m e = sym (and-true m ∙ e)

one_letter : (k : ℕ) → (k ≡ 0 → ⊥) → (before p : List ℕ) → byte_good (among "kMG ") p ≡ true → rows_kept k (not (blank before)) (not (blank p)) ≡ unit_good before p
unfolding byte_good each
one_letter k n before [] e = absurd (false≢true e)
one_letter k n before (c ∷ []) e = agree k n (not (blank before)) (not (blank (c ∷ []))) ∙ in_range before c (and_split (among "kMG " c) true e).0
one_letter k n before (c ∷ d ∷ p) e = absurd (false≢true (and_split (among "kMG " c) false e).1)

-- the flaw of three tests, the third asked last
abbrev three : Bool → Bool → Bool → Flaw
three a b g = cond (not a) flaw.Byte (cond (b && not g) flaw.Range (cond (not b) flaw.Shape flaw.None))

asked-last : (a b g t : Bool) → (b ≡ true → t ≡ g) → cond (flawless (three a b true)) (ranged t) (three a b true) ≡ three a b g
asked-last false b g t h = refl
asked-last true false g t h = refl
asked-last true true true t h = ap ranged (h refl)
asked-last true true false t h = ap ranged (h refl)

-- a unit, as the two tables say it, is the unit that the station's table asks for
unit_told : (k w : ℕ) (before p : List ℕ) → (k ≡ 0 → ⊥) → flaw_told (rows_kept k (not (blank before)) (not (blank p))) unit w before p ≡ flaw_in (parts unit w) before p
unfolding unit_entry
unit_told k w before p n = asked-last (every (among "kMG ") p) (byte_good (among "kMG ") p) (unit_good before p) (rows_kept k (not (blank before)) (not (blank p))) (one_letter k n before p)

told : (k : ℕ) (kind : Kind) (w : ℕ) (before p : List ℕ) → (k ≡ 0 → ⊥) → flaw_told (rows_kept k (not (blank before)) (not (blank p))) kind w before p ≡ flaw_in (parts kind w) before p
told k amount w before p n = refl
told k unit w before p n = unit_told k w before p n
told k (byte first set) w before p n = refl
told k (choice xs) w before p n = refl
told k (text rule) w before p n = refl
told k (dropped rule) w before p n = refl
told k remarks w before p n = refl
told k date w before p n = refl
told k date_or_blank w before p n = refl
told k (tenths a sign range) w before p n = refl
told k kilometres w before p n = refl
told k metres w before p n = refl
told k metres_or_blank w before p n = refl
told k position w before p n = refl
told k whole w before p n = refl
told k whole_or_blank w before p n = refl

pub all_told : (k : ℕ) (t : List Row) (f : List (List ℕ)) → flaws_told (unit_kept f) (suc k) t f ≡ flaws_from (suc k) t f
all_told k [] f = refl
all_told k (r ∷ rs) f = λ j. told (suc k) r.kind r.length (at f (suc k - 1)) (at f (suc k)) (λ e. absurd (omega arith)) j ∷ all_told (suc k) rs f j

-- The station's table has two units, so that no more has to be known of the rows than whether theirs are kept.
pub two_units : (kept other : ℕ → Bool) (f : List (List ℕ)) → kept 2 ≡ other 2 → kept 25 ≡ other 25 → flaws_told kept 1 station_table f ≡ flaws_told other 1 station_table f
two_units kept other f first second = λ j. flaws_told (λ k. cond (eqb k 2) (first j) (second j)) 1 station_table f
